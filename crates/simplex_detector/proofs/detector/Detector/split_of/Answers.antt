use Rattle.simplex_rules.proofs.Prelude.{Rules, Schedule, rules_under, subst, sym, scheme_of}
use Rattle.simplex_rules.specs.declared.judging.Judging.{Judging}
use Rattle.simplex_detector.specs.Detector.{RecallsAt}
use Rattle.simplex_detector.proofs.CountLemmas.{no_split_recorded}
use Rattle.simplex_detector.proofs.detector.Detector.split_of.Given as given
use Rattle.simplex_detector.proofs.detector.Detector.split_of.Goals as goal

abbrev rules : (g : given.Over) → Judging → Schedule g.row.S.Denot →
    Rules g.row.S.Denot g.row.D.Denot g.row.S-Certificate.Denot g.row.S-PublicKey.Denot g.row.S-Signature.Denot
rules g =
    rules_under (scheme_of g.D.PartialEq.eq g.S.CertificateScheme.keys g.S.Scheme.good
    g.S.CertificateVerifier.certified g.S.Listing.listed)

-- nothing is recorded of the round
pub returns-in-None : goal.returns-in-None
returns-in-None g c judging messages l holds =
    no_split_recorded (rules g judging c.args.committees.now) messages c.args.round
    (subst (RecallsAt (rules g judging c.args.committees.now) messages c.args.round) (sym c.in-None.ensures.value)
    (holds c.args.round)).subjects

pub returns-in-Some : goal.returns-in-Some
returns-in-Some g c judging messages l holds =
    c.split.ensures judging messages l
    (subst (RecallsAt (rules g judging c.args.committees.now) messages c.args.round) (sym c.in-Some.ensures.value)
    (holds c.args.round))
