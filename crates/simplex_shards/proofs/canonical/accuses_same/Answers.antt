use Rattle.std.proofs.Common.{[]}
use Rattle.simplex_base.specs.Format.{fixed}
use Rattle.simplex_evidence.specs.Activity.{activity_format}
use Rattle.simplex_scheme.specs.Committees.{Schedule, bound_of}
use Rattle.simplex_rules.specs.Scheme.{rules_of, scheme_of}
use Rattle.simplex_audit.specs.Basis.{Basis}
use Rattle.simplex_shards.proofs.AccusedLemmas.{accuse_same}
use Rattle.simplex_shards.proofs.canonical.accuses_same.Given as given
use Rattle.simplex_shards.proofs.canonical.accuses_same.Goals as goal

-- the basis of an audit
abbrev basis : (g : given.Over) → Schedule g.row.S.Denot →
    Basis g.row.S.Denot g.row.D.Denot g.row.S-Certificate.Denot g.row.S-PublicKey.Denot g.row.S-Signature.Denot
basis g schedule = record {
  bound = bound_of g.S.CertificateScheme.keys schedule;
  format = activity_format g.D.PartialEq.eq (fixed g.D.Fixed.SIZE g.D.Fixed.bytes_of g.D.Fixed.of_bytes) (record {
    is_value = g.S.Certificate.Read.fits (bound_of g.S.CertificateScheme.keys schedule);
    encoding = g.S.Certificate.Encoding.encoding;
    reading = g.S.Certificate.Read.reading (bound_of g.S.CertificateScheme.keys schedule);
  }) (fixed g.S.Signature.Fixed.SIZE g.S.Signature.Fixed.bytes_of g.S.Signature.Fixed.of_bytes);
  rules = rules_of (scheme_of g.D.PartialEq.eq g.S.CertificateScheme.keys g.S.Scheme.good
      g.S.CertificateVerifier.certified g.S.Listing.listed) schedule;
}

pub returns-clause-streams : goal.returns-clause-streams
returns-clause-streams g c committees stream other same =
    accuse_same (basis g committees) (c.format_laws.ensures.readable committees) c.evidence_is_determined.ensures.names
    (c.splits_are_determined.ensures.only (basis g committees).rules) stream other same

pub returns-clause-canonical : goal.returns-clause-canonical
returns-clause-canonical g c committees stream form is =
    accuse_same (basis g committees) (c.format_laws.ensures.readable committees) c.evidence_is_determined.ensures.names
    (c.splits_are_determined.ensures.only (basis g committees).rules) stream form.bytes.items (record {
      messages = is.messages;
      others = is.chosen;
      rest = is.rest;
      left = [];
      are_messages = is.are_messages;
      are_others = is.are_chosen;
      same = is.same;
    })
