use Rattle.std.proofs.Common.{ℕ, ◌<◌, inl, inr, length, refl, sym, ap, subst, ◌∙◌}
use Rattle.std.proofs.lemmas.Bool.{cases_lt}
use Rattle.simplex_shards.proofs.SplitLemmas.{scatters_one, scatters_past}
use Rattle.simplex_shards.specs.Cut.{class_under}
use Rattle.simplex_shards.proofs.split.ScatterVisitor.take.Goals as goal

pub returns-in_ok-write : goal.returns-in_ok-write
returns-in_ok-write g c =
    scatters_one g.M.Roundable.round_of (class_under c.args.cut.now) g.M.Encoding.encoding c.args.message.now
    c.args.self.now _ c.class_of-class.result c.in-Some.part.now c.write.new.buf
    (c.class_of-class.ensures.value ∙ ap (class_under c.args.cut.now) c.round.ensures) c.in-Some.ensures.value refl
    c.in_ok-write.ensures.ok

pub returns-in_default : goal.returns-in_default
returns-in_default g c =
    scatters_past g.M.Roundable.round_of (class_under c.args.cut.now) g.M.Encoding.encoding c.args.message.now
    c.args.self.now c.class_of-class.result
    (c.class_of-class.ensures.value ∙ ap (class_under c.args.cut.now) c.round.ensures)
    (elim (cases_lt c.class_of-class.result (length c.args.self.now.parts.items)) [
      | inl lt ↦
          let room = subst (λ (n : ℕ). c.class_of-class.result < n) (sym c.args.self.now.parts.ok.0) lt in
          let some = c.in_default.ensures.variant.1 room in
          absurd cc
      | inr le ↦ le
    ])
