use Rattle.std.proofs.Common.{[], ◌∷◌, None, append-nil, sym}
use Rattle.std.specs.Prelude.{codes}
use Rattle.simplex_evidence.specs.Contents.{signed_value}
use Rattle.simplex_scheme.specs.Subject.{subject_value}
use Rattle.simplex_rules.specs.Scheme.{scheme_of}
use Rattle.simplex_inspect.specs.Line.{subject_members, signed_json}
use Rattle.simplex_inspect.specs.Shown.{shown_of}
use Rattle.simplex_inspect.proofs.TokenLemmas.{listed, same}
use Rattle.simplex_inspect.proofs.line.write_vote.Goals as goal

pub returns : goal.returns
returns g c =
    let shown =
    shown_of g.D.Fixed.bytes_of g.S.Signature.Fixed.bytes_of (scheme_of g.D.PartialEq.eq g.S.CertificateScheme.keys
    g.S.Scheme.good g.S.CertificateVerifier.certified g.S.Listing.listed) c.args.committees.now in
    let vote = c.args.vote.now in
    listed c.close_listing.result (subject_members g.D.Fixed.bytes_of (subject_value vote.subject)) (codes "signatures")
    (signed_json shown (signed_value vote) ∷ []) None _ c.in_ok-open_statement.ensures
    (same (sym (append-nil _)) c.in_ok-write_attestation.ensures) c.close_listing.ensures
