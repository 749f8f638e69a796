use Rattle.std.proofs.Common.{All, ap, length, subst, sym, ◌∙◌, ◌≤◌}
use Rattle.simplex_scheme.specs.Committees.{IsSchedule, Listed, committee_of, greatest, schedule_of}
use Rattle.simplex_scheme.proofs.CommitteeLemmas.{most, reached, listed_some}
use Rattle.simplex_scheme.proofs.committees.Committees.bound.Goals as goal

pub returns-in-Listed-clause-most : goal.returns-in-Listed-clause-most
returns-in-Listed-clause-most g c epoch committee h =
    let now = ap schedule_of (sym c.in-Listed.is) ∙ c.self.view_is in
    subst (λ n. length (g.S.CertificateScheme.keys committee) ≤ n)
    (sym (c.greatest.ensures.value ∙ ap (greatest g.S.CertificateScheme.keys) c.deref.ensures.value))
    (most g.S.CertificateScheme.keys (Listed c.in-Listed.pairs.items) epoch committee (ap (λ s. committee_of s epoch) now ∙ h))

pub returns-in-Listed-clause-reached : goal.returns-in-Listed-clause-reached
returns-in-Listed-clause-reached g c =
    let now = ap schedule_of (sym c.in-Listed.is) ∙ c.self.view_is in
    let (epoch, committee, found, same) = reached g.S.CertificateScheme.keys (Listed c.in-Listed.pairs.items)
    (subst IsSchedule (ap schedule_of c.in-Listed.is) c.self.invariant) in (
      epoch,
      committee,
      ap (λ s. committee_of s epoch) (sym now) ∙ found,
      same ∙ sym (c.greatest.ensures.value ∙ ap (greatest g.S.CertificateScheme.keys) c.deref.ensures.value),
    )

pub returns-in-Listed-clause-some : goal.returns-in-Listed-clause-some
returns-in-Listed-clause-some g c epoch committee h =
    let now = ap schedule_of (sym c.in-Listed.is) ∙ c.self.view_is in
    listed_some g.S.CertificateScheme.keys c.in-Listed.pairs.items
    (subst (All (λ p. 1 ≤ length (g.S.CertificateScheme.keys p.1))) c.deref.ensures.value c.greatest.ensures.some) epoch
    committee (ap (λ s. committee_of s epoch) now ∙ h)
