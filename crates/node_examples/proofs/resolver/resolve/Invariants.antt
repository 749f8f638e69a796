use Rattle.std.proofs.Common.{◌≡◌, take, map}
use Rattle.std.specs.List.{filter}
use Rattle.simplex_scheme.specs.Subject.{subject_value}
use Rattle.node_examples.proofs.resolver.resolve.Given as goal

-- of the items looked at, those whose certificate certifies are selected
abbrev pub invariant-loop-place : goal.invariant-loop-place
invariant-loop-place g l =
    map (λ item. item.now) l.selected.items
    ≡ filter (λ item. g.S.CertificateVerifier.certified l.scheme (subject_value item.0) item.1.now) (take l.place l.items)
