use Rattle.simplex_rules.proofs.Prelude.{Rules, ap, on_ok_weaker, Schedule, rules_under, scheme_of, split_of, sym, ◌∙◌, ◌++◌, ◌∷◌, []}
use Rattle.simplex_rules.specs.declared.judging.Judging.{Judging}
use Rattle.simplex_evidence.specs.Activity.{contents_of}
use Rattle.simplex_evidence.specs.Contents.{contents_round}
use Rattle.simplex_rules.proofs.MessageLemmas.{votes_here}
use Rattle.simplex_alarm.proofs.SplitAlertLemmas.{no_split_more, split_more_told}
use Rattle.simplex_alarm.proofs.split_alerts.SplitAlerts.note.Given as given
use Rattle.simplex_alarm.proofs.split_alerts.SplitAlerts.note.Goals as goal

abbrev rules : (g : given.Over) → Judging → Schedule g.row.S.Denot →
    Rules g.row.S.Denot g.row.D.Denot g.row.S-Certificate.Denot g.row.S-PublicKey.Denot g.row.S-Signature.Denot
rules g =
    rules_under (scheme_of g.D.PartialEq.eq g.S.CertificateScheme.keys g.S.Scheme.good
    g.S.CertificateVerifier.certified g.S.Listing.listed)

-- the round is not split
pub returns-in-None : goal.returns-in-None
returns-in-None g c judging messages told l holds =
    let by = rules g judging c.args.committees.now in
    let message = c.args.message.now in
    let here = c.round.ensures ∙ ap contents_round c.contents-contents.ensures.value in
    no_split_more by messages message
    (votes_here by.eq by.listed (contents_of message) c.contents-contents.ensures.conflict)
    (ap (split_of by (messages ++ message ∷ [])) (sym here)
    ∙ sym (c.split_of.ensures judging (messages ++ message ∷ []) l holds) ∙ c.in-None.is) told c.args.self.now

-- it is split
pub returns-in-Some : goal.returns-in-Some
returns-in-Some g c =
    on_ok_weaker c.add.result (λ adds judging messages told l holds tells.
    let by = rules g judging c.args.committees.now in
    let message = c.args.message.now in
    let here = c.round.ensures ∙ ap contents_round c.contents-contents.ensures.value in
    split_more_told by messages message
    (votes_here by.eq by.listed (contents_of message) c.contents-contents.ensures.conflict) c.in-Some.split
    (ap (split_of by (messages ++ message ∷ [])) (sym here)
    ∙ sym (c.split_of.ensures judging (messages ++ message ∷ []) l holds) ∙ c.in-Some.is) told c.args.self.now c.add.new.self
    adds tells) c.add.ensures
