use Rattle.simplex_rules.proofs.Prelude.{round_cmp, split_of}
use Rattle.simplex_rules.proofs.Lists.{listing_is_unique}
use Rattle.simplex_rules.proofs.Places.{round_cmp_total, exact_rounds}
use Rattle.simplex_rules.proofs.SplitLemmas.{splits_listing, have_accused}
use Rattle.simplex_laws.proofs.laws.splits_are_determined.Goals as goal

pub returns-clause-only : goal.returns-clause-only
returns-clause-only g c rules messages splits are others b =
    listing_is_unique (λ s. s.round) round_cmp (split_of rules messages) round_cmp_total exact_rounds splits others
    (splits_listing rules messages splits are) (splits_listing rules messages others b)

pub returns-clause-names : goal.returns-clause-names
returns-clause-names g c rules messages splits l are = have_accused rules messages l splits are
