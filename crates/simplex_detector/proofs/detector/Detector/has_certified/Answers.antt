use Rattle.simplex_rules.proofs.Prelude.{Rules, Schedule, nothing_certified, rules_under, subst, sym, ◌∙◌, scheme_of, Some, is_some, firsts_of, false, refl, ◌≡◌}
use Rattle.simplex_rules.specs.declared.judging.Judging.{Judging}
use Rattle.simplex_detector.specs.Detector.{RecallsAt}
use Rattle.simplex_scheme.specs.declared.kind.VoteKind.{VoteKind}
use Rattle.simplex_scheme.specs.declared.kind.VoteKind.TheVariants as kinds
use Rattle.simplex_detector.proofs.CountLemmas.{certified_told}
use Rattle.simplex_detector.proofs.detector.Detector.has_certified.Given as given
use Rattle.simplex_detector.proofs.detector.Detector.has_certified.Goals as goal

abbrev rules : (g : given.Over) → Judging → Schedule g.row.S.Denot →
    Rules g.row.S.Denot g.row.D.Denot g.row.S-Certificate.Denot g.row.S-PublicKey.Denot g.row.S-Signature.Denot
rules g =
    rules_under (scheme_of g.D.PartialEq.eq g.S.CertificateScheme.keys g.S.Scheme.good
    g.S.CertificateVerifier.certified g.S.Listing.listed)

-- nothing is certified of a kind
none_of_kind : (D : Type 0) (kind : VoteKind) → false ≡ is_some (firsts_of {D = D} nothing_certified kind)
none_of_kind D kinds.Notarize = refl
none_of_kind D kinds.Nullify = refl
none_of_kind D kinds.Finalize = refl

-- nothing is recorded of the round
pub returns-in-None : goal.returns-in-None
returns-in-None g c judging schedule messages holds =
    (λ i. Some (none_of_kind g.row.D.Denot c.args.kind i))
    ∙ certified_told (rules g judging schedule) messages c.args.round c.args.kind nothing_certified
    (subst (RecallsAt (rules g judging schedule) messages c.args.round) (sym c.in-None.ensures.value)
    (holds c.args.round)).subjects

pub returns-in-Some : goal.returns-in-Some
returns-in-Some g c judging schedule messages holds =
    c.has_certified.ensures
    ∙ certified_told (rules g judging schedule) messages c.args.round c.args.kind c.in-Some.round_state.now.certified
    (subst (RecallsAt (rules g judging schedule) messages c.args.round) (sym c.in-Some.ensures.value)
    (holds c.args.round)).subjects
