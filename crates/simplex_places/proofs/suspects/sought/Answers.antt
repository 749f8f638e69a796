use Rattle.std.proofs.Common.{ℕ, false, sym, ap, ◌∙◌}
use Rattle.simplex_scheme.specs.Committees.{committee_of, size_by}
use Rattle.simplex_places.specs.Suspects.{is_sought, suspected_by}
use Rattle.simplex_places.specs.declared.places.Placed.{Placed}
use Rattle.simplex_places.specs.declared.places.AttestationPlace.{AttestationPlace}
use Rattle.simplex_places.proofs.SuspectLemmas.{one_found, one_left}
use Rattle.simplex_places.proofs.suspects.sought.Goals as goal
use Rattle.simplex_places.proofs.suspects.sought.Goals.{then-is_sought+in_ok-push, else-is_sought}

pub places-preserved : goal.places-preserved
places-preserved g c =
    let suspected = suspected_by c.args.suspects.now in
    let size : ℕ → ℕ = λ epoch. size_by g.S.CertificateScheme.keys (committee_of c.args.committees.now epoch) in
    let nowhere : AttestationPlace =
    record { epoch = 0; view = 0; verdict_place = 0; subject_place = 0; subject_length = 0; signer = 0; kind = 0 } in
    let none : Placed = record { attestation = nowhere; is_listed = false } in
    elim c.if-is_sought.branch [
      | then-is_sought+in_ok-push w ↦
          ap (λ found. found.items) w.found-is
          ∙ one_found (is_sought suspected size) c.args.places.now c.places.place-index none c.places.found.items
          w.push.new.self.items
          c.places-test.true (sym c.is_sought.ensures ∙ w.if-is_sought.true) w.in_ok-push.ensures.items c.places.invariant
      | else-is_sought w ↦
          ap (λ found. found.items) w.found-is
          ∙ one_left (is_sought suspected size) c.args.places.now c.places.place-index none c.places.found.items
          c.places-test.true
          (sym c.is_sought.ensures ∙ w.if-is_sought.false) c.places.invariant
    ]
