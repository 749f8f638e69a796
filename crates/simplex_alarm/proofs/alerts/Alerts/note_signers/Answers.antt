use Rattle.simplex_rules.proofs.Prelude.{ap, append-nil, map, map-append, subst, sym, take, take_all, take_more, [], ◌++◌, ◌∙◌, ◌∷◌}
use Rattle.simplex_ballots.specs.Rounds.{found_at, slots, found_against}
use Rattle.std.proofs.lemmas.Grind.{flat_map-append}
use Rattle.simplex_alarm.specs.Alerts.{NotesAll}
use Rattle.simplex_alarm.proofs.AlertLemmas.{notes_more, notes_none}
use Rattle.simplex_alarm.proofs.alerts.Alerts.note_signers.Goals as goal

pub listed-init : goal.listed-init
listed-init g c = notes_none c.args.self.now

-- one signer more
pub listed-preserved : goal.listed-preserved
listed-preserved g c =
    let seen = take c.listed.attestation-index c.args.attestations.now in
    let signer = c.attestation-item.result.signer in
    let found = found_at g.D.PartialEq.eq (slots c.args.votes.now signer) in
    subst (λ es. NotesAll es c.args.self.now c.note_signer.new.self)
    ((λ i. found_against g.D.PartialEq.eq c.args.votes.now (map (λ a. a.signer) seen) ++ sym (append-nil found) i)
    ∙ sym (flat_map-append (λ s. found_at g.D.PartialEq.eq (slots c.args.votes.now s)) (map (λ a. a.signer) seen)
    (signer ∷ []))
    ∙ ap (found_against g.D.PartialEq.eq c.args.votes.now) (sym (map-append (λ a. a.signer) seen
    (c.attestation-item.result ∷ [])) ∙ ap (map (λ a. a.signer)) (ap (λ a. seen ++ a ∷ []) c.attestation-item.is
    ∙ sym (take_more c.args.attestations.now c.listed.attestation-index c.attestation-item.result c.listed-test.true))))
    (notes_more (found_against g.D.PartialEq.eq c.args.votes.now (map (λ a. a.signer) seen)) found c.args.self.now
    c.listed.self c.note_signer.new.self c.listed.invariant c.in_ok-note_signer.ensures)

pub returns : goal.returns
returns g c =
    rw (take_all c.listed.attestation-index c.args.attestations.now c.listed-test.false) at c.listed.invariant
