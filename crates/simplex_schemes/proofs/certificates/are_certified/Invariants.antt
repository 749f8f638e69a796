use Rattle.std.proofs.Common.{◌≡◌, true, length, take}
use Rattle.std.specs.List.{list_all}
use Rattle.simplex_scheme.specs.Committee.{is_quorum}
use Rattle.simplex_scheme.specs.Subject.{subject_value}
use Rattle.simplex_schemes.proofs.certificates.are_certified.Given as goal

-- each certificate so far certifies its subject
abbrev pub invariant-loop-item : goal.invariant-loop-item
invariant-loop-item g l =
    list_all (λ item. is_quorum (length (g.S.CertificateScheme.keys l.scheme))
    (g.S.AttestationVerifier.accepted l.scheme (subject_value item.0)) (g.C.Lists.list item.1.now))
    (take l.item-index l.items) ≡ true
