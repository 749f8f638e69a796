use Rattle.std.proofs.Common.{ℕ, false, sym, ap, ◌∙◌}
use Rattle.simplex_scheme.specs.Committees.{committee_of, size_by}
use Rattle.simplex_places.specs.Pieces.{is_judged}
use Rattle.simplex_places.specs.declared.places.Placed.{Placed}
use Rattle.simplex_places.specs.declared.places.AttestationPlace.{AttestationPlace}
use Rattle.simplex_places.proofs.SuspectLemmas.{one_found, one_left}
use Rattle.simplex_places.proofs.pieces.judged.Goals as goal
use Rattle.simplex_places.proofs.pieces.judged.Goals.{then-is_judged+in_ok-push, else-is_judged}

pub places-preserved : goal.places-preserved
places-preserved g c =
    let size : ℕ → ℕ = λ epoch. size_by g.S.CertificateScheme.keys (committee_of c.args.committees.now epoch) in
    let test = is_judged c.args.floor size in
    let nowhere : AttestationPlace =
    record { epoch = 0; view = 0; verdict_place = 0; subject_place = 0; subject_length = 0; signer = 0; kind = 0 } in
    let none : Placed = record { attestation = nowhere; is_listed = false } in
    elim c.if-is_judged.branch [
      | then-is_judged+in_ok-push w ↦
          ap (λ found. found.items) w.found-is
          ∙ one_found test c.args.places.now c.places.place-index none c.places.found.items w.push.new.self.items
          c.places-test.true (sym c.is_judged.ensures ∙ w.if-is_judged.true) w.in_ok-push.ensures.items c.places.invariant
      | else-is_judged w ↦
          ap (λ found. found.items) w.found-is
          ∙ one_left test c.args.places.now c.places.place-index none c.places.found.items c.places-test.true
          (sym c.is_judged.ensures ∙ w.if-is_judged.false) c.places.invariant
    ]
