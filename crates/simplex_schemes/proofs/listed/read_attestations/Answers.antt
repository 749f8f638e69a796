use Rattle.std.proofs.Common.{◌≡◌, ℕ, suc, ◌+◌, ◌-◌, ◌<◌, ◌≤◌, arith, refl, sym, subst}
use Rattle.simplex_base.specs.Reading.{IsBytes}
use Rattle.simplex_base.specs.FormatLaws.{fixed_lawful}
use Rattle.simplex_schemes.proofs.ListedLemmas.{read_more, read_fails, all_read, read_is_listed}
use Rattle.simplex_schemes.proofs.listed.read_attestations.Goals as goal

one_left : (count counter : ℕ) → counter < count → count - counter ≡ suc (count - (counter + 1))
one_left count counter lt = omega arith

none_left : (count counter : ℕ) → count ≤ counter → count - counter ≡ 0
none_left count counter le = omega arith

pub returns-in-Err : goal.returns-in-Err
returns-in-Err g c =
    let so = rw (one_left c.args.count c.attestations.counter c.attestations-test.true) at c.attestations.invariant.1 in
    (refl, rw (sym c.known_bytes-rest.ensures.same) (read_fails _ _ _ _ _ _ _ _ c.in-Err.error so c.in-Err.ensures.gives.1))

pub attestations-preserved : goal.attestations-preserved
attestations-preserved g c =
    let so = rw (one_left c.args.count c.attestations.counter c.attestations-test.true) at c.attestations.invariant.1 in
    let gives = c.in-Ok-read_attestation.ensures.gives in
    let below = c.in-Ok-read_attestation.ensures.below in
    let signer = c.get-least.ensures in (
      omega arith,
      rw (signer, c.push.ensures.items, c.if-is_err.ensures.negation)
          (read_more _ _ _ _ _ _ _ _ c.in-Ok-read_attestation.attestation _ so gives),
    )

pub from_ascending-requires : goal.from_ascending-requires
from_ascending-requires g c =
    let so = rw (none_left c.args.count c.attestations.counter c.attestations-test.false) at c.attestations.invariant.1 in
    let law = fixed_lawful _ _ _ g.met.S.Signature.Fixed.back g.met.S.Signature.Fixed.forth in
    let bytes = subst IsBytes (sym c.known_bytes-rest.ensures.same) c.known_bytes-rest.ensures.range in
    read_is_listed _ law _ _ _ _ _ bytes c.requires (omega (arith, c.ranges.count.fits)) (all_read _ _ _ _ _ _ _ so)

pub returns : goal.returns
returns g c =
    let so = rw (none_left c.args.count c.attestations.counter c.attestations-test.false) at c.attestations.invariant.1 in
    rw (c.from_ascending.ensures, sym c.known_bytes-rest.ensures.same) (all_read _ _ _ _ _ _ _ so)
