use Rattle.simplex_base.specs.Format.{fixed}
use Rattle.simplex_scheme.specs.Committees.{bound_of}
use Rattle.simplex_stream.specs.StreamLaws.{fault_is}
use Rattle.simplex_audit.proofs.ReportLemmas.{are_messages}
use Rattle.simplex_audit.proofs.reporting.make_report.Goals as goal

pub returns-clause-report : goal.returns-clause-report
returns-clause-report g c = λ judging stream rest committees at read. record {
  messages = read.messages;
  rest = rest;
  are_messages = read.are_messages;
  read_is = read.read_is;
  fault_is = fault_is _ stream rest read.messages c.args.place c.args.stop _ read.are_messages at read.stop_is
      c.fault_at-fault.ensures;
  evidence_is = c.in_ok-evidence.ensures.evidence judging c.args.committees.now read.messages read.recorded;
  splits_are = c.in_ok-splits.ensures judging read.messages committees read.recorded;
}

pub returns-clause-encoded : goal.returns-clause-encoded
returns-clause-encoded g c =
    are_messages g.D.PartialEq.eq (fixed g.D.Fixed.SIZE g.D.Fixed.bytes_of g.D.Fixed.of_bytes)
    (g.S.Certificate.Read.fits (bound_of g.S.CertificateScheme.keys c.args.committees.now))
    (fixed g.S.Signature.Fixed.SIZE g.S.Signature.Fixed.bytes_of g.S.Signature.Fixed.of_bytes)
    c.in_ok-evidence.evidence.items c.in_ok-evidence.ensures.encoded
