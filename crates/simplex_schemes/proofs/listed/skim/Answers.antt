use Rattle.std.proofs.Common.{sym, subst, arith}
use Rattle.simplex_base.specs.Reading.{IsBytes}
use Rattle.simplex_base.specs.FormatLaws.{fixed_lawful}
use Rattle.simplex_schemes.proofs.SkimLemmas.{skimmed_none, skimmed_more, skim_refused}
use Rattle.simplex_schemes.proofs.listed.skim.Goals as goal

pub attestations-init : goal.attestations-init
attestations-init g c =
    let law = fixed_lawful _ _ _ g.met.S.Signature.Fixed.back g.met.S.Signature.Fixed.forth in
    (omega arith, skimmed_none _ law c.known_bytes-rest.result.now)

pub attestations-preserved : goal.attestations-preserved
attestations-preserved g c =
    let law = fixed_lawful _ _ _ g.met.S.Signature.Fixed.back g.met.S.Signature.Fixed.forth in
    let bytes = subst IsBytes (sym c.known_bytes-rest.ensures.same) c.known_bytes-rest.ensures.range in
    let below = c.in-Ok.ensures.below in
    let signer = c.get-least.ensures in (
      omega arith,
      rw signer (skimmed_more _ law c.args.bound _ _ _ _ _ c.in-Ok.one bytes c.attestations.invariant.1
          c.in-Ok.ensures.gives),
    )

pub returns-in-Err-clause-refused : goal.returns-in-Err-clause-refused
returns-in-Err-clause-refused g c =
    let law = fixed_lawful _ _ _ g.met.S.Signature.Fixed.back g.met.S.Signature.Fixed.forth in
    skim_refused _ law c.args.bound c.args.count _ c.args.bytes.now c.attestations.rest.now _ c.attestations.read
    c.attestations.least c.in-Err.field-0 c.known_bytes-rest.ensures.same c.in-Err.ensures.gives.0 c.attestations-test.true
    c.attestations.invariant.1 c.in-Err.ensures.gives.1
