use Rattle.std.proofs.Common.{◌≡◌, map, take}
use Rattle.std.specs.Prelude.{◌&&◌, ◌==◌, All, Some}
use Rattle.std.specs.BTreeMap.{get}
use Rattle.std.specs.List.{position_from}
use Rattle.std.specs.Str.{bytes_eq}
use Rattle.simplex_places.specs.Repeats.{same_attestation, signature_at, subject_at}
use Rattle.simplex_places.specs.contracts.repeats.SignedBytesOrd.TheImpl as order
use Rattle.simplex_places.specs.declared.repeats.SignedBytes.{SignedBytes}
use Rattle.simplex_places.proofs.repeats.with_firsts.Given as goal

abbrev pub invariant-places : goal.invariant-places
invariant-places l =
    (map (λ u. u.attestation) l.listed.items ≡ take l.place-index l.places)
    × All (λ u. position_from (λ p. same_attestation l.stream l.size p u.attestation) 0 (take l.place-index l.places)
    ≡ Some u.first) l.listed.items
    × ((key : SignedBytes) → get order.ghosts.cmp l.firsts key ≡ position_from (λ p. (p.kind == key.kind)
    && ((p.signer == key.signer) && (bytes_eq (subject_at l.stream p) key.subject.now
    && bytes_eq (signature_at l.stream l.size p) key.signature.now))) 0 (take l.place-index l.places))
