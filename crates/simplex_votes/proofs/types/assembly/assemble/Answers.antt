use Rattle.std.proofs.Common.{◌≡◌, true, sym, subst}
use Rattle.std.specs.Prelude.{All}
use Rattle.std.proofs.lemmas.Result.{IfOk-weaker}
use Rattle.std.proofs.lemmas.List.Elements.{All-map}
use Rattle.simplex_scheme.specs.Subject.{SubjectValue}
use Rattle.simplex_votes.proofs.types.assembly.assemble.Goals as goal

-- valid votes have valid attestations
pub returns-in-Ok-clause-certified : goal.returns-in-Ok-clause-certified
returns-in-Ok-clause-certified g c =
    let good = g.S.Scheme.good c.args.scheme.now in
    let certified = g.S.CertificateVerifier.certified c.args.scheme.now in
    let attestation = g.V.Attested.attestation_of in
    let votes = c.args.votes.now in
    IfOk-weaker c.assemble.result
    (λ certificate. (subject : SubjectValue g.row.D.Denot) →
    All (λ a. good subject a.signer a.signature ≡ true) c.in-Ok.attestations.items → certified subject certificate ≡ true)
    (λ certificate. (subject : SubjectValue g.row.D.Denot) → All
    (λ v. good subject (attestation v).signer (attestation v).signature ≡ true) votes → certified subject certificate ≡ true)
    (λ certificate certifies subject each. certifies subject
    (subst (All (λ a. good subject a.signer a.signature ≡ true)) (sym c.in-Ok.ensures)
    (All-map (λ a. good subject a.signer a.signature ≡ true) attestation votes each)))
    c.assemble.ensures.certified
