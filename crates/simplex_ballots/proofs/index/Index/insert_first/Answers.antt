use Rattle.std.proofs.Common.{false, subst, sym}
use Rattle.std.specs.Option.{IsSome}
use Rattle.simplex_scheme.specs.declared.kind.VoteKind.TheVariants as kinds
use Rattle.simplex_ballots.specs.Index.{PlacesOne, as_placed, placed_at}
use Rattle.simplex_ballots.proofs.IndexLemmas.{first_here, places_first, with_firsts}
use Rattle.simplex_ballots.proofs.index.Index.insert_first.Goals as goal

pub returns-in-Notarize-clause-added : goal.returns-in-Notarize-clause-added
returns-in-Notarize-clause-added c ok =
    let index = c.args.self.now in
    let more = c.insert.new.self in
    subst (λ kind. PlacesOne index (with_firsts index kinds.Notarize more) (as_placed kind c.args.first)) (sym c.in-Notarize.is)
    (places_first index kinds.Notarize more c.args.first (c.insert.ensures.added ok))

pub returns-in-Notarize-clause-taken : goal.returns-in-Notarize-clause-taken
returns-in-Notarize-clause-taken c ok =
    subst (λ kind. IsSome (placed_at c.args.self.now c.args.first.signer kind false)) (sym c.in-Notarize.is)
    (first_here c.args.self.now c.args.first.signer kinds.Notarize (c.insert.ensures.taken ok))

pub returns-in-Nullify-clause-added : goal.returns-in-Nullify-clause-added
returns-in-Nullify-clause-added c ok =
    let index = c.args.self.now in
    let more = c.insert-in-Nullify.new.self in
    subst (λ kind. PlacesOne index (with_firsts index kinds.Nullify more) (as_placed kind c.args.first)) (sym c.in-Nullify.is)
    (places_first index kinds.Nullify more c.args.first (c.insert-in-Nullify.ensures.added ok))

pub returns-in-Nullify-clause-taken : goal.returns-in-Nullify-clause-taken
returns-in-Nullify-clause-taken c ok =
    subst (λ kind. IsSome (placed_at c.args.self.now c.args.first.signer kind false)) (sym c.in-Nullify.is)
    (first_here c.args.self.now c.args.first.signer kinds.Nullify (c.insert-in-Nullify.ensures.taken ok))

pub returns-in-Finalize-clause-added : goal.returns-in-Finalize-clause-added
returns-in-Finalize-clause-added c ok =
    let index = c.args.self.now in
    let more = c.insert-in-Finalize.new.self in
    subst (λ kind. PlacesOne index (with_firsts index kinds.Finalize more) (as_placed kind c.args.first)) (sym c.in-Finalize.is)
    (places_first index kinds.Finalize more c.args.first (c.insert-in-Finalize.ensures.added ok))

pub returns-in-Finalize-clause-taken : goal.returns-in-Finalize-clause-taken
returns-in-Finalize-clause-taken c ok =
    subst (λ kind. IsSome (placed_at c.args.self.now c.args.first.signer kind false)) (sym c.in-Finalize.is)
    (first_here c.args.self.now c.args.first.signer kinds.Finalize (c.insert-in-Finalize.ensures.taken ok))
