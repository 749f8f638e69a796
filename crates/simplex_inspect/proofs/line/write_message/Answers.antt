use Rattle.std.proofs.Common.{None}
use Rattle.std.specs.Prelude.{codes}
use Rattle.simplex_evidence.specs.Activity.{activity_round, contents_of}
use Rattle.simplex_rules.specs.Scheme.{scheme_of}
use Rattle.simplex_inspect.specs.Json.{head_members}
use Rattle.simplex_inspect.specs.Line.{statements_json}
use Rattle.simplex_inspect.specs.Shown.{shown_of}
use Rattle.simplex_inspect.proofs.TokenLemmas.{listed}
use Rattle.simplex_inspect.proofs.line.write_message.Goals as goal

pub returns : goal.returns
returns g c =
    let shown =
    shown_of g.D.Fixed.bytes_of g.S.Signature.Fixed.bytes_of (scheme_of g.D.PartialEq.eq g.S.CertificateScheme.keys
    g.S.Scheme.good g.S.CertificateVerifier.certified g.S.Listing.listed) c.args.committees.now in
    let m = c.args.message.now in
    rw (← c.message_word.ensures)
    (listed c.close_listing.result
    (head_members c.args.offset c.args.length c.message_word.result.now (activity_round m).epoch (activity_round m).view)
    (codes "statements") (statements_json shown (contents_of m)) None _
    (rw (c.get.ensures, c.get-2.ensures, c.epoch.ensures, c.view.ensures, c.round-round.ensures)
    at c.in_ok-open_message.ensures)
    c.in_ok-write_statements.ensures
    c.close_listing.ensures)
