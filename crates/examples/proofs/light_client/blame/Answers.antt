use Rattle.std.proofs.Common.{List, [], ◌∷◌, refl, ◌∙◌}
use Rattle.simplex_evidence.specs.declared.types.activity.Activity.{Activity}
use Rattle.simplex_evidence.specs.declared.types.activity.Activity.TheVariants as activity
use Rattle.simplex_rules.specs.Scheme.{rules_of, scheme_of}
use Rattle.examples.proofs.ForkLemmas.{blames, evidence_of_same, first_of_two, second_of_two, nothing_first, two_messages}
use Rattle.examples.proofs.light_client.blame.Goals as goal

pub returns : goal.returns
returns g c =
    let one = c.args.one.now in
    let other = c.args.other.now in
    let messages : List
    (Activity g.row.S.Denot g.row.D.Denot g.row.S-Certificate.Denot g.row.S-PublicKey.Denot g.row.S-Signature.Denot) =
    activity.Finalization one ∷ activity.Finalization other ∷ [] in
    let rules = rules_of (scheme_of g.D.PartialEq.eq g.S.CertificateScheme.keys g.S.Scheme.good
    g.S.CertificateVerifier.certified g.S.Listing.listed) c.args.committees.now in
    let are = two_messages _ (activity.Finalization one) (activity.Finalization other) c.deref.result.now c.requires.one.value
    c.requires.other.value (λ m more is. nothing_first _ _ is)
    (c.deref.ensures.value ∙ c.in_ok-stream.ensures c.args.committees.now) in
    record {
      enough =
          blames rules messages one.proposal.round one.certificate other.certificate _
          (c.in_ok-report.ensures.names messages [] are)
          (c.in_ok-report.ensures.accountable messages [] are (activity.Finalization one) (activity.Finalization other) _ _
          one.certificate other.certificate
          (first_of_two _ _) (second_of_two _ _) refl refl c.requires.one.final c.requires.other.final c.requires.fork);
      evidence =
          let is = c.in_ok-report.ensures.report in
          evidence_of_same rules is.messages messages _
          (c.in_ok-report.ensures.single is.messages messages is.rest [] is.are_messages are).0 is.evidence_is;
    }
