use Rattle.std.proofs.Common.{arith, refl}
use Rattle.simplex_audit.proofs.AccusedLemmas.{if_ok, if_both, audited, accused_stay}
use Rattle.simplex_stream.specs.StreamLaws.{messages_once}
use Rattle.simplex_scheme.specs.Committees.{Schedule}
use Rattle.simplex_rules.specs.Rules.{Rules}
use Rattle.simplex_rules.specs.Scheme.{rules_of, scheme_of}
use Rattle.simplex_audit.proofs.audit.audit.Given as given
use Rattle.simplex_audit.proofs.audit.audit.Goals as goal

-- the rules by which messages are judged
abbrev rules : (g : given.Over) → Schedule g.row.S.Denot → Rules g.row.S.Denot g.row.D.Denot
    g.row.S-Certificate.Denot g.row.S-PublicKey.Denot g.row.S-Signature.Denot
rules g schedule = rules_of (scheme_of g.D.PartialEq.eq g.S.CertificateScheme.keys g.S.Scheme.good
    g.S.CertificateVerifier.certified g.S.Listing.listed) schedule

pub returns-clause-audit : goal.returns-clause-audit
returns-clause-audit g c =
    if_both _ _ _ (λ report is each. audited _ c.audit_stream.ensures.readable (λ m. omega arith) c.audit_stream.ensures.lawful
    (c.message_laws.ensures _ refl) c.args.stream.now report is each)
    c.audit_stream.result c.audit_stream.ensures.report c.audit_stream.ensures.encoded

pub returns-clause-names : goal.returns-clause-names
returns-clause-names g c = if_ok _ _ (λ report audit. audit.names) c.audit_stream.result (returns-clause-audit g c)

pub returns-clause-sound : goal.returns-clause-sound
returns-clause-sound g c = if_ok _ _ (λ report audit. audit.sound) c.audit_stream.result (returns-clause-audit g c)

pub returns-clause-only : goal.returns-clause-only
returns-clause-only g c = if_ok _ _ (λ report audit. audit.only) c.audit_stream.result (returns-clause-audit g c)

pub returns-clause-splits : goal.returns-clause-splits
returns-clause-splits g c = if_ok _ _ (λ report audit. audit.splits) c.audit_stream.result (returns-clause-audit g c)

pub returns-clause-again : goal.returns-clause-again
returns-clause-again g c = if_ok _ _ (λ report audit. audit.again) c.audit_stream.result (returns-clause-audit g c)

pub returns-clause-single : goal.returns-clause-single
returns-clause-single g c = λ messages others rest left are are'.
    messages_once _ c.audit_stream.ensures.readable c.args.stream.now rest left messages others are are'

pub returns-clause-any_order : goal.returns-clause-any_order
returns-clause-any_order g c = λ messages. (c.message_laws.ensures (rules g c.args.committees.now) refl).any_order messages

pub returns-clause-stays : goal.returns-clause-stays
returns-clause-stays g c = λ more n messages rest are later left are'.
    accused_stay _ _ c.audit_stream.ensures.readable (c.message_laws.ensures (rules g c.args.committees.now) refl)
    c.args.stream.now more rest left messages later are are' n

pub returns-clause-enough : goal.returns-clause-enough
returns-clause-enough g c = λ messages rest are.
    (c.message_laws.ensures (rules g c.args.committees.now) refl).enough messages c.audit_stream.ensures.lawful

pub returns-clause-accountable : goal.returns-clause-accountable
returns-clause-accountable g c = λ messages rest are.
    (c.message_laws.ensures (rules g c.args.committees.now) refl).signers messages c.audit_stream.ensures.lawful

pub returns-clause-determined : goal.returns-clause-determined
returns-clause-determined g c = record {
  names = λ messages. (c.message_laws.ensures (rules g c.args.committees.now) refl).names _;
  sound = λ messages. (c.message_laws.ensures (rules g c.args.committees.now) refl).sound _;
  only = λ messages. (c.message_laws.ensures (rules g c.args.committees.now) refl).only _;
}
