use Rattle.std.proofs.Common.{List, ◌++◌, append-nil, sym, ap}
use Rattle.json.specs.Token.{Token}
use Rattle.json.specs.Tree.{json_tokens}
use Rattle.simplex_evidence.specs.Contents.{signed_value}
use Rattle.simplex_rules.specs.Scheme.{scheme_of}
use Rattle.simplex_inspect.specs.Line.{vote_json}
use Rattle.simplex_inspect.specs.Shown.{shown_of}
use Rattle.simplex_inspect.proofs.TokenLemmas.{alone, then}
use Rattle.simplex_inspect.proofs.line.write_statements.Goals as goal

pub returns-in-Vote : goal.returns-in-Vote
returns-in-Vote g c = rw (← c.contents.ensures.value) (rw c.in-Vote.is (alone c.write_vote.result _ _ _ c.write_vote.ensures))

pub returns-in-Certificate : goal.returns-in-Certificate
returns-in-Certificate g c =
    rw (← c.contents.ensures.value) (rw c.in-Certificate.is (alone c.write_certificate.result _ _ _
    c.write_certificate.ensures))

-- both votes of evidence
pub returns-in_ok-write_vote-in-Evidence : goal.returns-in_ok-write_vote-in-Evidence
returns-in_ok-write_vote-in-Evidence g c =
    let shown =
    shown_of g.D.Fixed.bytes_of g.S.Signature.Fixed.bytes_of (scheme_of g.D.PartialEq.eq g.S.CertificateScheme.keys
    g.S.Scheme.good g.S.CertificateVerifier.certified g.S.Listing.listed) c.args.committees.now in
    rw (← c.contents.ensures.value) (rw c.in-Evidence.is
    (then c.write_vote-in-Evidence-2.result _ _
    (ap (λ (ts : List Token). json_tokens (vote_json shown (signed_value c.in-Evidence.first)) ++ ts) (sym (append-nil _)))
    c.in_ok-write_vote-in-Evidence.ensures c.write_vote-in-Evidence-2.ensures))
