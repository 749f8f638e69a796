use Rattle.std.proofs.Common.{None, false, subst, sym, ◌∙◌, ◌≡◌}
use Rattle.std.proofs.lemmas.Bool.{false≢true, not-false, not-true}
use Rattle.std.specs.Option.{IsSome}
use Rattle.simplex_evidence.specs.VoteMap.{item_of}
use Rattle.simplex_ballots.specs.Firsts.{first_key}
use Rattle.simplex_ballots.specs.Index.{firsts_in, placed_at}
use Rattle.simplex_ballots.proofs.IndexLemmas.{first_here, none_there, other_here, places_other}
use Rattle.simplex_ballots.proofs.index.Index.insert_other.Goals as goal
use Rattle.simplex_ballots.proofs.index.Index.insert_other.Goals.{else-is_first-via-then-is_first+else-not-placed, else-is_first-via-else-is_first}

-- the signer's earliest vote stands in the list of the kind
pub returns-then-not-placed-clause-taken : goal.returns-then-not-placed-clause-taken
returns-then-not-placed-clause-taken c ok =
    subst (λ b. IsSome (placed_at c.args.self.now c.args.placed.signer c.args.placed.kind b))
    (sym (not-true _ c.if-not-placed.true))
    (first_here c.args.self.now c.args.placed.signer c.args.placed.kind
    (sym c.has_first-is_first.ensures ∙ c.if-is_first.true))

pub returns-clause-added : goal.returns-clause-added
returns-clause-added c ok =
    let index = c.args.self.now in
    let placed = c.args.placed in
    let free : placed.is_other ≡ false → item_of first_key (firsts_in index placed.kind) placed.signer ≡ None = λ e.
    elim c.else-is_first.branch [
      | else-is_first-via-then-is_first+else-not-placed w ↦ absurd (false≢true (sym e ∙ not-false _ w.if-not-placed.false))
      | else-is_first-via-else-is_first w ↦ none_there _ (sym c.has_first-is_first.ensures ∙ w.if-is_first.false)
    ] in
    places_other index c.insert.new.self placed (c.insert.ensures.added ok) free

pub returns-clause-taken : goal.returns-clause-taken
returns-clause-taken c ok =
    other_here c.args.self.now c.args.placed.signer c.args.placed.kind c.args.placed.is_other (c.insert.ensures.taken ok)
