use Rattle.simplex_rules.proofs.Prelude.{ap, append-nil, map, on_ok_weaker, scheme_of, subst, sym, ◌∙◌}
use Rattle.simplex_evidence.specs.Contents.{contents_round, contents_value}
use Rattle.simplex_alarm.specs.Alerts.{NotesAll}
use Rattle.simplex_alarm.proofs.AlertLemmas.{notes_recorded, notes_unrecorded, signers_of_held}
use Rattle.simplex_alarm.proofs.alerts.Alerts.note.Goals as goal

-- nothing is recorded of the round
pub returns-in_default : goal.returns-in_default
returns-in_default g c =
    let scheme = scheme_of g.D.PartialEq.eq g.S.CertificateScheme.keys g.S.Scheme.good g.S.CertificateVerifier.certified
    g.S.Listing.listed in
    notes_unrecorded scheme g.met.D.Eq.laws c.args.detector.now c.args.message.now c.contents-contents.ensures.conflict
    c.round.result (c.round.ensures ∙ ap contents_round c.contents-contents.ensures.value) c.in_default.ensures.value
    c.args.self.now

-- a vote's signer
pub returns-in-Vote : goal.returns-in-Vote
returns-in-Vote g c =
    let scheme = scheme_of g.D.PartialEq.eq g.S.CertificateScheme.keys g.S.Scheme.good g.S.CertificateVerifier.certified
    g.S.Listing.listed in
    on_ok_weaker c.note_signer.result (λ notes. notes_recorded scheme g.met.D.Eq.laws c.args.detector.now c.args.message.now
    c.contents-contents.ensures.conflict c.round.result
    (c.round.ensures ∙ ap contents_round c.contents-contents.ensures.value) _
    (ap (λ held. signers_of_held g.S.Listing.listed (contents_value held)) (sym c.in-Vote.is)
    ∙ ap (signers_of_held g.S.Listing.listed) c.contents-contents.ensures.value) c.in-Some.round_state.now
    c.in-Some.ensures.value c.args.self.now c.note_signer.new.self
    (subst (λ es. NotesAll es c.args.self.now c.note_signer.new.self) (sym (append-nil _)) notes)) c.note_signer.ensures

-- the signers that a certificate lists
pub returns-in-Certificate : goal.returns-in-Certificate
returns-in-Certificate g c =
    let scheme = scheme_of g.D.PartialEq.eq g.S.CertificateScheme.keys g.S.Scheme.good g.S.CertificateVerifier.certified
    g.S.Listing.listed in
    on_ok_weaker c.note_signers.result (notes_recorded scheme g.met.D.Eq.laws c.args.detector.now c.args.message.now
    c.contents-contents.ensures.conflict c.round.result
    (c.round.ensures ∙ ap contents_round c.contents-contents.ensures.value) _
    (ap (map (λ a. a.signer)) c.attestations.ensures
    ∙ ap (λ held. signers_of_held g.S.Listing.listed (contents_value held)) (sym c.in-Certificate.is)
    ∙ ap (signers_of_held g.S.Listing.listed) c.contents-contents.ensures.value) c.in-Some.round_state.now
    c.in-Some.ensures.value c.args.self.now c.note_signers.new.self) c.note_signers.ensures

-- the signer of both votes of evidence
pub returns-in-Evidence : goal.returns-in-Evidence
returns-in-Evidence g c =
    let scheme = scheme_of g.D.PartialEq.eq g.S.CertificateScheme.keys g.S.Scheme.good g.S.CertificateVerifier.certified
    g.S.Listing.listed in
    on_ok_weaker c.note_signer-in-Evidence.result (λ notes. notes_recorded scheme g.met.D.Eq.laws c.args.detector.now
    c.args.message.now c.contents-contents.ensures.conflict c.round.result
    (c.round.ensures ∙ ap contents_round c.contents-contents.ensures.value) _
    (ap (λ held. signers_of_held g.S.Listing.listed (contents_value held)) (sym c.in-Evidence.is)
    ∙ ap (signers_of_held g.S.Listing.listed) c.contents-contents.ensures.value) c.in-Some.round_state.now
    c.in-Some.ensures.value c.args.self.now c.note_signer-in-Evidence.new.self
    (subst (λ es. NotesAll es c.args.self.now c.note_signer-in-Evidence.new.self) (sym (append-nil _)) notes))
    c.note_signer-in-Evidence.ensures
