use Rattle.std.proofs.Common.{ℕ, List, subst}
use Rattle.simplex_base.specs.Format.{Format, fixed}
use Rattle.simplex_evidence.specs.Activity.{activity_format}
use Rattle.simplex_evidence.specs.declared.types.activity.Activity.{Activity}
use Rattle.simplex_scheme.specs.Committees.{bound_of}
use Rattle.simplex_stream.specs.Messages.{IsStop, IsStuck}
use Rattle.simplex_monitor.proofs.HearingLemmas.{ends_at}
use Rattle.simplex_monitor.proofs.monitor.Monitor.fault.Given as given
use Rattle.simplex_monitor.proofs.monitor.Monitor.fault.Goals as goal

-- the format of messages under a bound
abbrev format : (g : given.Over) → ℕ → Format (Activity g.row.S.Denot g.row.D.Denot g.row.S-Certificate.Denot
    g.row.S-PublicKey.Denot g.row.S-Signature.Denot)
format g bound =
    activity_format g.D.PartialEq.eq (fixed g.D.Fixed.SIZE g.D.Fixed.bytes_of g.D.Fixed.of_bytes)
    (record {
      is_value = g.S.Certificate.Read.fits bound;
      encoding = g.S.Certificate.Encoding.encoding;
      reading = g.S.Certificate.Read.reading bound;
    }) (fixed g.S.Signature.Fixed.SIZE g.S.Signature.Fixed.bytes_of g.S.Signature.Fixed.of_bytes)

pub returns : goal.returns
returns g c start committees told stream listens =
    let here = format g (bound_of g.S.CertificateScheme.keys committees) in
    ends_at _ start committees told stream c.args.self.now listens c.place.result c.in_ok-stop.stop _ c.fault_at.ensures
    c.place.ensures
    (subst (λ (xs : List ℕ). IsStuck here xs → IsStop here.reading xs c.in_ok-stop.stop) c.rest.ensures
    (subst (λ (n : ℕ). IsStuck (format g n) c.rest.result.now →
    IsStop (format g n).reading c.rest.result.now c.in_ok-stop.stop) listens.bound_is c.in_ok-stop.ensures))
