use Rattle.std.proofs.Common.{ℕ, List, [], ap, refl, ◌∙◌}
use Rattle.std.specs.Prelude.{replicate}
use Rattle.simplex_shards.proofs.CutLemmas.{class_below}
use Rattle.simplex_shards.proofs.PieceLemmas.{joins_parts, split_piece}
use Rattle.simplex_shards.specs.Cut.{class_under, classes_of}
use Rattle.simplex_shards.proofs.pieces.Cutter.parts.Goals as goal

pub returns-clause-parts : goal.returns-clause-parts
returns-clause-parts g c =
    split_piece _ g.M.Roundable.round_of (class_under c.args.cut.now) (classes_of c.args.cut.now) c.args.piece.now
    c.args.self.now _ _ c.feed.new.visitor g.met.M.Message.never_empty (class_below c.args.cut.now) refl
    (c.in_ok-empty_parts.ensures ∙ ap (λ (k : ℕ). replicate {A = List ℕ} k []) c.classes.ensures.value)
    c.in_ok-feed.ensures.decoded

pub returns-clause-joined : goal.returns-clause-joined
returns-clause-joined g c =
    joins_parts _ g.M.Roundable.round_of (class_under c.args.cut.now) (classes_of c.args.cut.now)
    (g.met.M.Read.lawful c.args.self.now.bound) c.args.piece.now c.args.self.now _ _ (returns-clause-parts g c)
