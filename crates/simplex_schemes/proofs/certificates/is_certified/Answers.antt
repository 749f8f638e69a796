use Rattle.simplex_schemes.proofs.certificates.is_certified.Goals as goal

-- nothing is known, so what is known is valid
pub returns : goal.returns
returns g c = c.is_certified_knowing.ensures (λ x signer signature known. absurd known)
