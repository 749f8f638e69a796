use Rattle.std.proofs.Common.{arith, refl}
use Rattle.std.proofs.lemmas.Bool.{le-leb, lt-ltb, or_left, or_right}
use Rattle.simplex_shards.proofs.SkipLemmas.{no_attestation, no_signer, skipping_start, skipping_next, skipping_refused, skipping_end}
use Rattle.simplex_shards.proofs.skips.skip_attestations.Goals.{then-signer-least-via-then-signer-least, then-signer-least-via-else-signer-least+then-bound-signer}
use Rattle.simplex_shards.proofs.skips.skip_attestations.Goals as goal

pub attestations-init : goal.attestations-init
attestations-init g c = (c.args.count, omega arith, skipping_start _ _ _ c.args.bound c.args.count c.args.bytes.now)

pub attestations-preserved : goal.attestations-preserved
attestations-preserved g c =
    let (left, sum, so) = c.attestations.invariant in
    skipping_next _ _ _ c.args.bound c.args.count c.args.bytes.now c.attestations.counter c.attestations.least left
    c.attestations.rest.now c.in_ok-signer.behind.now c.in_ok-signer.signer sum c.attestations-test.true so
    c.in_ok-signer.ensures.rest c.if-signer-least.false c.if-bound-signer.false

pub returns-clause-rest : goal.returns-clause-rest
returns-clause-rest g c =
    let (left, sum, so) = c.attestations.invariant in
    skipping_end _ _ _ c.args.bound c.args.count c.args.bytes.now c.attestations.counter c.attestations.least left
    c.attestations.rest.now sum c.attestations-test.false so

pub returns-in_err-signer-clause-none : goal.returns-in_err-signer-clause-none
returns-in_err-signer-clause-none g c _ =
    let (left, sum, so) = c.attestations.invariant in
    skipping_refused _ _ _ c.args.bound c.args.count c.args.bytes.now c.attestations.counter c.attestations.least left
    c.attestations.rest.now sum c.attestations-test.true so (λ next. no_attestation _ _ _ c.args.bound c.args.count
    c.args.bytes.now c.attestations.least next c.attestations.rest.now (c.in_err-signer.ensures.none refl))

pub returns-then-signer-least-clause-none : goal.returns-then-signer-least-clause-none
returns-then-signer-least-clause-none g c _ =
    let (left, sum, so) = c.attestations.invariant in
    skipping_refused _ _ _ c.args.bound c.args.count c.args.bytes.now c.attestations.counter c.attestations.least left
    c.attestations.rest.now sum c.attestations-test.true so (λ next. no_signer _ _ _ c.args.bound c.args.count
    c.args.bytes.now c.attestations.least next c.attestations.rest.now c.in_ok-signer.behind.now c.in_ok-signer.signer
    c.in_ok-signer.ensures.rest (elim c.then-signer-least.branch [
      | then-signer-least-via-then-signer-least w ↦ or_left _ _ (lt-ltb _ _ w.if-signer-least.true)
      | then-signer-least-via-else-signer-least+then-bound-signer w ↦ or_right _ _ (le-leb _ _ w.if-bound-signer.true)
    ]))
