use Rattle.std.proofs.Common.{string_bytes}
use Rattle.simplex_rules.specs.Scheme.{scheme_of}
use Rattle.simplex_inspect.specs.Line.{message_json}
use Rattle.simplex_inspect.specs.Shown.{shown_of}
use Rattle.simplex_inspect.proofs.DepthLemmas.{message_within}
use Rattle.simplex_inspect.proofs.LineLemmas.{from_nothing, ends_line, ends_json}
use Rattle.simplex_inspect.proofs.line.line.Goals as goal

pub returns-clause-line : goal.returns-clause-line
returns-clause-line g c =
    let shown =
    shown_of g.D.Fixed.bytes_of g.S.Signature.Fixed.bytes_of (scheme_of g.D.PartialEq.eq g.S.CertificateScheme.keys
    g.S.Scheme.good g.S.CertificateVerifier.certified g.S.Listing.listed) c.args.committees.now in
    ends_line string_bytes _ (message_json shown c.args.offset c.args.length c.args.message.now)
    (from_nothing c.new-writer.ensures.tokens c.in_ok-write_message.ensures) c.end_line.result c.end_line.ensures.line

pub returns-clause-json : goal.returns-clause-json
returns-clause-json g c =
    let shown =
    shown_of g.D.Fixed.bytes_of g.S.Signature.Fixed.bytes_of (scheme_of g.D.PartialEq.eq g.S.CertificateScheme.keys
    g.S.Scheme.good g.S.CertificateVerifier.certified g.S.Listing.listed) c.args.committees.now in
    ends_json string_bytes _ (message_json shown c.args.offset c.args.length c.args.message.now)
    (from_nothing c.new-writer.ensures.tokens c.in_ok-write_message.ensures) c.end_line.result c.end_line.ensures.reads
    (message_within shown c.args.offset c.args.length c.args.message.now) c.end_line.ensures.line
