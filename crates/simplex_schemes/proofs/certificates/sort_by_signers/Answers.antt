use Rattle.std.proofs.Common.{rules}
use Rattle.std.proofs.lemmas.List.Sorted.{IsNonDecreasingBy-from_sort_by_key}
use Rattle.simplex_schemes.proofs.CertificateLemmas.{sorted_in_order}
use Rattle.simplex_schemes.proofs.certificates.sort_by_signers.Goals as goal

pub returns : goal.returns
returns g c =
    sorted_in_order _ _ c.sort_unstable_by_key.ensures.permutation (IsNonDecreasingBy-from_sort_by_key (λ a. a.signer) _
    c.sort_unstable_by_key.ensures.sorted (λ a r q k. search rules)) c.requires
