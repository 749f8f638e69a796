use Rattle.simplex_rules.proofs.Prelude.{evidence_of, accused_by, accused_cmp}
use Rattle.simplex_laws.proofs.AgainLemmas.{evidence_again}
use Rattle.simplex_rules.proofs.EvidenceLemmas.{all_equivocations, as_listing, accused-from_evidence}
use Rattle.simplex_rules.proofs.Lists.{listed_is_some, listing_is_unique}
use Rattle.simplex_rules.proofs.Places.{accused_cmp_total, exact_accused}
use Rattle.simplex_laws.proofs.laws.evidence_is_determined.Goals as goal

pub returns-clause-names : goal.returns-clause-names
returns-clause-names g c vs es is n = (
  λ h. accused-from_evidence g.D.PartialEq.eq vs n
      (listed_is_some accused_by accused_cmp (evidence_of g.D.PartialEq.eq vs) es is.sound n h),
  is.complete n,
)

pub returns-clause-sound : goal.returns-clause-sound
returns-clause-sound g c vs es is = all_equivocations g.D.PartialEq.eq vs es is

pub returns-clause-only : goal.returns-clause-only
returns-clause-only g c vs es is fs are =
    listing_is_unique accused_by accused_cmp (evidence_of g.D.PartialEq.eq vs) accused_cmp_total exact_accused es fs
    (as_listing g.D.PartialEq.eq vs es is) (as_listing g.D.PartialEq.eq vs fs are)

pub returns-clause-again : goal.returns-clause-again
returns-clause-again g c rules messages es l is = evidence_again rules l.payloads messages es is
