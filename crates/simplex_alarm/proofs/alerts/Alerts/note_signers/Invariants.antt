use Rattle.simplex_rules.proofs.Prelude.{map, take}
use Rattle.simplex_alarm.specs.Alerts.{NotesAll}
use Rattle.simplex_ballots.specs.Rounds.{found_against}
use Rattle.simplex_alarm.proofs.alerts.Alerts.note_signers.Given as goal

abbrev pub invariant-listed : goal.invariant-listed
invariant-listed g l =
    NotesAll (found_against g.D.PartialEq.eq l.fn.votes (map (λ a. a.signer) (take l.attestation-index l.fn.attestations)))
    l.fn.self l.self
