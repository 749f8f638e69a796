use Rattle.std.proofs.Common.{inl, inr, sym, ap, subst, ◌∙◌, arith, length, length-append}
use Rattle.simplex_base.specs.Reading.{IsBytes}
use Rattle.simplex_base.specs.FormatLaws.{fixed_lawful}
use Rattle.simplex_base.specs.Varint.{number_32}
use Rattle.simplex_base.specs.VarintLaws.{number_32_lawful}
use Rattle.simplex_schemes.proofs.SkimLemmas.{skimmed_least}
use Rattle.simplex_schemes.proofs.listed.ListedRead.least_size.Goals as goal

pub returns-then-SIZE-rest : goal.returns-then-SIZE-rest
returns-then-SIZE-rest g c =
    let law = fixed_lawful _ _ _ g.met.S.Signature.Fixed.back g.met.S.Signature.Fixed.forth in
    let same = c.known_bytes-rest.ensures.same in
    let read = number_32_lawful.takes c.known_bytes-rest.result.now c.in-Ok.count c.read_u32.new.input.now
    (subst IsBytes (sym same) c.known_bytes-rest.ensures.range) c.in-Ok.ensures.gives in
    let size = c.SIZE.ensures in
    let long = c.if-SIZE-rest.true in
    skimmed_least _ law g.S.Signature.Fixed.SIZE (λ s value. value.len) c.args.bound.now c.in-Ok.count
    c.skim-left.result.1 _ c.args.bytes.now c.read_u32.new.input.now c.skim-left.result.0.now (sym same ∙ read.parts)
    read.value c.skim-left.ensures.refused (inr (c.if-left-gt0.true, omega arith))

pub returns : goal.returns
returns g c =
    let law = fixed_lawful _ _ _ g.met.S.Signature.Fixed.back g.met.S.Signature.Fixed.forth in
    let same = c.known_bytes-rest.ensures.same in
    let read = number_32_lawful.takes c.known_bytes-rest.result.now c.in-Ok.count c.read_u32.new.input.now
    (subst IsBytes (sym same) c.known_bytes-rest.ensures.range) c.in-Ok.ensures.gives in
    let parts = sym same ∙ read.parts in
    let len = ap length parts in
    let within = c.skim-left.ensures.within in
    let missing = rw c.SIZE-2.ensures at c.saturating_mul.ensures in
    skimmed_least _ law g.S.Signature.Fixed.SIZE (λ s value. value.len) c.args.bound.now c.in-Ok.count
    c.skim-left.result.1 c.saturating_add.result c.args.bytes.now c.read_u32.new.input.now c.skim-left.result.0.now parts
    read.value c.skim-left.ensures.refused
    (inl (omega (
      arith,
      missing,
      c.saturating_add.ensures,
      length-append (number_32.encoding c.in-Ok.count) c.read_u32.new.input.now,
    )))
