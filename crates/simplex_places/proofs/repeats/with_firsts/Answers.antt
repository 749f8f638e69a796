use Rattle.std.proofs.Common.{◌≡◌, ℕ, Bool, List, Some, get_or, length, take, refl, sym, ap, ◌∙◌, arith}
use Rattle.std.specs.Prelude.{◌&&◌, ◌==◌}
use Rattle.std.specs.List.{position_from}
use Rattle.std.specs.Option.{option_or}
use Rattle.std.specs.Str.{bytes_eq}
use Rattle.std.proofs.lemmas.List.{length-map}
use Rattle.simplex_places.specs.Repeats.{same_attestation, signature_at, subject_at}
use Rattle.simplex_places.specs.declared.places.AttestationPlace.{AttestationPlace}
use Rattle.simplex_places.specs.declared.repeats.SignedBytes.{SignedBytes}
use Rattle.simplex_places.specs.declared.repeats.Unverified.{Unverified}
use Rattle.simplex_places.proofs.RepeatLemmas.{of_parts, one_listed, one_noted, same_as_itself}
use Rattle.simplex_places.proofs.repeats.with_firsts.Goals as goal

pub places-preserved : goal.places-preserved
places-preserved c =
    let stream = c.args.stream.now in
    let size = c.args.size in
    let xs = c.args.places.now in
    let i = c.places.place-index in
    let nowhere : AttestationPlace =
    record { epoch = 0; view = 0; verdict_place = 0; subject_place = 0; subject_length = 0; signer = 0; kind = 0 } in
    let listed = c.places.listed.items in
    let x : AttestationPlace = get_or xs i nowhere in
    let key = c.signed_bytes-key.result in
    let signed = c.signed_bytes-key.ensures in
    let alike : AttestationPlace → ℕ → ℕ → List ℕ → List ℕ → Bool = λ p kind signer subject signature. (p.kind == kind)
    && ((p.signer == signer) && (bytes_eq (subject_at stream p) subject && bytes_eq (signature_at stream size p) signature)) in
    let count : length listed ≡ length (take i xs) =
    sym (length-map listed (λ (u : Unverified). u.attestation)) ∙ ap length c.places.invariant.0 in
    let len : c.len.result ≡ length listed = omega (arith, c.len.ensures, c.places.listed.ok.0) in
    let known =
    c.places.invariant.2 key
    ∙ of_parts (λ kind signer subject signature. position_from (λ p. alike p kind signer subject signature) 0 (take i xs))
    signed.kind signed.signer signed.subject signed.signature in
    let found : Some c.in_ok-first.first
    ≡ option_or (position_from (λ p. same_attestation stream size p x) 0 (take i xs)) (Some (length listed)) =
    c.in_ok-first.ensures.first ∙ (ap (λ o. option_or o (Some c.len.result)) known
    ∙ ap (λ n. option_or (position_from (λ p. same_attestation stream size p x) 0 (take i xs)) (Some n)) len) in
    let one =
    one_listed (λ (u : Unverified). u.attestation) (λ (u : Unverified). u.first) (same_attestation stream size)
    (same_as_itself stream size) xs i nowhere c.places-test.true listed c.push.new.self.items
    (record { attestation = x; first = c.in_ok-first.first }) c.in_ok-push.ensures.items refl found c.places.invariant.0
    c.places.invariant.1 in (
      one.0,
      one.1,
      λ (k : SignedBytes). one_noted (λ p. alike p k.kind k.signer k.subject.now k.signature.now) xs i nowhere
          c.places-test.true _ _ c.len.result _ (len ∙ count)
          (of_parts (λ kind signer subject signature. (kind == k.kind) && ((signer == k.signer)
          && (bytes_eq subject k.subject.now && bytes_eq signature k.signature.now))) signed.kind signed.signer signed.subject
          signed.signature) (c.in_ok-first.ensures.noted k) (c.places.invariant.2 k),
    )
