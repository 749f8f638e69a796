use Rattle.std.proofs.Common.{ℕ, sym, subst}
use Rattle.std.proofs.lemmas.Option.{IfSome_then}
use Rattle.simplex_base.specs.Format.{Format, fixed}
use Rattle.simplex_shards.proofs.TagLemmas.{Behind, certification_behind, certified_behind, nullification_behind, nullify_behind, signed_behind}
use Rattle.simplex_shards.proofs.messages.skip_behind_round.Given as given
use Rattle.simplex_shards.proofs.messages.skip_behind_round.Goals as goal

-- the formats of payloads, of certificates under a bound and of signatures
abbrev payload : (g : given.Over) → Format g.row.D.Denot
payload g = fixed g.D.Fixed.SIZE g.D.Fixed.bytes_of g.D.Fixed.of_bytes

abbrev certificate : (g : given.Over) → ℕ → Format g.row.S-Certificate.Denot
certificate g bound = record {
  is_value = g.S.Certificate.Read.fits bound;
  encoding = g.S.Certificate.Encoding.encoding;
  reading = g.S.Certificate.Read.reading bound;
}

abbrev signature : (g : given.Over) → Format g.row.S-Signature.Denot
signature g = fixed g.S.Signature.Fixed.SIZE g.S.Signature.Fixed.bytes_of g.S.Signature.Fixed.of_bytes

pub returns-in-0-clause-rest : goal.returns-in-0-clause-rest
returns-in-0-clause-rest g c =
    IfSome_then c.skip_signed.result c.skip_signed.ensures.rest (λ rest s.
    signed_behind g.row.S.Denot g.row.S-PublicKey.Denot g.D.PartialEq.eq (payload g) (certificate g c.args.bound) (signature g)
    c.args.bytes.now rest.now c.args.tag c.in-0.is s)

pub returns-in_ok-rest-in-3-clause-rest : goal.returns-in_ok-rest-in-3-clause-rest
returns-in_ok-rest-in-3-clause-rest g c =
    let skipped = c.in_ok-rest-in-3.ensures.rest in
    subst (Behind g.row.S.Denot g.row.S-PublicKey.Denot g.D.PartialEq.eq (payload g) (certificate g c.args.bound) (signature g)
    c.args.bytes.now c.in_ok-rest-in-3.rest.now) (sym c.in-3.is)
    (nullify_behind g.row.S.Denot g.row.S-PublicKey.Denot g.D.PartialEq.eq (payload g) (certificate g c.args.bound)
    (signature g) c.args.bytes.now c.in_ok-rest-in-3.rest.now (skipped.0, skipped.2))

pub returns-in-4-clause-rest : goal.returns-in-4-clause-rest
returns-in-4-clause-rest g c =
    IfSome_then c.skip_certificate.result c.skip_certificate.ensures.rest (λ rest s.
    subst (Behind g.row.S.Denot g.row.S-PublicKey.Denot g.D.PartialEq.eq (payload g) (certificate g c.args.bound) (signature g)
    c.args.bytes.now rest.now) (sym c.in-4.is)
    (nullification_behind g.row.S.Denot g.row.S-PublicKey.Denot g.D.PartialEq.eq (payload g) (certificate g c.args.bound)
    (signature g) c.args.bytes.now rest.now s))

pub returns-in-1-clause-rest : goal.returns-in-1-clause-rest
returns-in-1-clause-rest g c =
    IfSome_then c.skip_certified.result c.skip_certified.ensures.rest (λ rest s.
    certified_behind g.row.S.Denot g.row.S-PublicKey.Denot g.D.PartialEq.eq (payload g) (certificate g c.args.bound)
    (signature g) c.args.bytes.now rest.now c.args.tag c.in-1.is s)

pub returns-in-2-clause-rest : goal.returns-in-2-clause-rest
returns-in-2-clause-rest g c =
    IfSome_then c.skip_certified-in-2.result c.skip_certified-in-2.ensures.rest (λ rest s.
    subst (Behind g.row.S.Denot g.row.S-PublicKey.Denot g.D.PartialEq.eq (payload g) (certificate g c.args.bound) (signature g)
    c.args.bytes.now rest.now) (sym c.in-2.is)
    (certification_behind g.row.S.Denot g.row.S-PublicKey.Denot g.D.PartialEq.eq (payload g) (certificate g c.args.bound)
    (signature g) c.args.bytes.now rest.now s))
