use Rattle.std.proofs.Common.{◌≡◌, ◌-◌, ℕ, length, ap, arith, refl, ◌∙◌}
use Rattle.simplex_base.specs.Format.{Format, IsLawful, fixed}
use Rattle.simplex_evidence.specs.Activity.{activity_format, activity_round}
use Rattle.simplex_evidence.specs.ActivityLaws.{activity_lawful}
use Rattle.simplex_evidence.specs.declared.types.activity.Activity.{Activity}
use Rattle.simplex_shards.proofs.PeekLemmas.{if_all, peeked_read, peeked_size}
use Rattle.simplex_shards.proofs.messages.ActivityPeek.peek.Given as given
use Rattle.simplex_shards.proofs.messages.ActivityPeek.peek.Goals as goal

-- the format of messages under a bound
abbrev format : (g : given.Over) → ℕ → Format (Activity g.row.S.Denot g.row.D.Denot g.row.S-Certificate.Denot
    g.row.S-PublicKey.Denot g.row.S-Signature.Denot)
format g bound =
    activity_format g.D.PartialEq.eq (fixed g.D.Fixed.SIZE g.D.Fixed.bytes_of g.D.Fixed.of_bytes) (record {
      is_value = g.S.Certificate.Read.fits bound;
      encoding = g.S.Certificate.Encoding.encoding;
      reading = g.S.Certificate.Read.reading bound;
    }) (fixed g.S.Signature.Fixed.SIZE g.S.Signature.Fixed.bytes_of g.S.Signature.Fixed.of_bytes)

lawful : (g : given.Over) (bound : ℕ) → IsLawful (format g bound)
lawful g bound =
    activity_lawful g.D.PartialEq.eq _ _ _ g.met.D.Fixed.lawful (g.met.S.Certificate.Read.lawful bound)
    g.met.S.Signature.Fixed.lawful

pub overflow_sub-result : goal.overflow_sub-result
overflow_sub-result g c =
    let s = c.in_ok-rest.ensures.rest c.in-Some.body.now (record { epoch = c.in_ok-epoch.epoch; view = c.in_ok-epoch.view })
    c.in_ok-epoch.ensures.rest in
    let size = peeked_size (format g c.args.bound) (lawful g c.args.bound) c.args.bytes.now c.in_ok-rest.rest.now
    (λ i. omega (arith, c.type_inv.bytes i)) s.0 (ap (format g c.args.bound).reading c.in-Some.ensures.cases.0 ∙ s.2) in
    omega (arith, size)

pub returns-clause-peeked : goal.returns-clause-peeked
returns-clause-peeked g c =
    let s = c.in_ok-rest.ensures.rest c.in-Some.body.now (record { epoch = c.in_ok-epoch.epoch; view = c.in_ok-epoch.view })
    c.in_ok-epoch.ensures.rest in
    let round : activity_round s.0 ≡ c.new-3.result = rw (c.new-3.ensures, c.new.ensures, c.new-2.ensures) s.1 in
    peeked_read (format g c.args.bound) (lawful g c.args.bound) c.args.bytes.now c.in_ok-rest.rest.now
    (λ i. omega (arith, c.type_inv.bytes i)) s.0 (ap (format g c.args.bound).reading c.in-Some.ensures.cases.0 ∙ s.2)
    (λ m. activity_round m) (record {
      round = c.new-3.result;
      length = length c.args.bytes.now - length c.in_ok-rest.rest.now;
    }) round refl

pub returns-in_err-rest-clause-none : goal.returns-in_err-rest-clause-none
returns-in_err-rest-clause-none g c _ =
    if_all _ ((format g c.args.bound).reading c.args.bytes.now) (λ all.
    rw c.in-Some.ensures.cases.0 (c.in_err-rest.ensures.none all refl c.in-Some.body.now
    (record { epoch = c.in_ok-epoch.epoch; view = c.in_ok-epoch.view }) c.in_ok-epoch.ensures.rest))
