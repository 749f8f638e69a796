use Rattle.std.proofs.Common.{◌∙◌, ℕ, List, map, sym, subst}
use Rattle.std.specs.Prelude.{Vec}
use Rattle.std.specs.Global.{Global}
use Rattle.simplex_base.specs.Format.{Format}
use Rattle.simplex_shards.specs.Cut.{class_under, classes_of}
use Rattle.simplex_shards.specs.Pieces.{SplitsMore}
use Rattle.simplex_splitting.proofs.CutLemmas.{appended, begun, begun_before, on_err, when}
use Rattle.simplex_splitting.proofs.splitting.take_piece.Given as given
use Rattle.simplex_splitting.proofs.splitting.take_piece.Goals as goal

-- the format of messages under a bound
abbrev format : (g : given.Over) → ℕ → Format g.row.M.Denot
format g bound = record {
  is_value = g.M.Read.fits bound;
  encoding = g.M.Encoding.encoding;
  reading = g.M.Read.reading bound;
}

pub returns-in_err-more-clause-begun : goal.returns-in_err-more-clause-begun
returns-in_err-more-clause-begun g c =
    on_err c.from_residual.result _ (λ bound input more start h.
    begun_before (format g bound) g.M.Roundable.round_of (class_under c.args.cut.now) bound c.args.cutter.now input start _ h
    (g.met.M.Read.lawful bound) c.args.piece.now more)

pub returns-clause-parts : goal.returns-clause-parts
returns-clause-parts g c =
    let here = class_under c.args.cut.now in
    let parts = map (λ (part : Vec ℕ Global). part.items) c.as_slice.result.now in
    let classes = classes_of c.args.cut.now in
    let cut = subst (λ (vs : List (Vec ℕ Global)). SplitsMore (format g c.args.cutter.now.bound) g.M.Roundable.round_of here
    classes c.args.piece.now c.args.cutter.now c.parts.new.self (map (λ (part : Vec ℕ Global). part.items) vs))
    (sym c.as_slice.ensures.value) c.in_ok-more.ensures.parts in
    when c.append_each.result (λ each bound input start h.
    appended (format g bound) g.M.Roundable.round_of here bound c.args.cutter.now input start _ h c.parts.new.self classes
    c.args.piece.now parts _ (sym c.is_over.ensures ∙ c.if-is_over.false)
    (subst (λ (n : ℕ). SplitsMore (format g n) g.M.Roundable.round_of here classes c.args.piece.now c.args.cutter.now
    c.parts.new.self parts) h.bound_is cut) each) c.append_each.ensures.written

pub returns-clause-begun : goal.returns-clause-begun
returns-clause-begun g c =
    let here = class_under c.args.cut.now in
    let parts = map (λ (part : Vec ℕ Global). part.items) c.as_slice.result.now in
    let classes = classes_of c.args.cut.now in
    let cut = subst (λ (vs : List (Vec ℕ Global)). SplitsMore (format g c.args.cutter.now.bound) g.M.Roundable.round_of here
    classes c.args.piece.now c.args.cutter.now c.parts.new.self (map (λ (part : Vec ℕ Global). part.items) vs))
    (sym c.as_slice.ensures.value) c.in_ok-more.ensures.parts in
    on_err c.append_each.result _ (λ bound input more start h.
    begun (format g bound) g.M.Roundable.round_of here bound c.args.cutter.now input start _ h c.parts.new.self classes
    c.args.piece.now parts _ (sym c.is_over.ensures ∙ c.if-is_over.false)
    (subst (λ (n : ℕ). SplitsMore (format g n) g.M.Roundable.round_of here classes c.args.piece.now c.args.cutter.now
    c.parts.new.self parts) h.bound_is cut) (g.met.M.Read.lawful bound) c.append_each.ensures.beginning more)
