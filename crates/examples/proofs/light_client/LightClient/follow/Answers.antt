use Rattle.std.proofs.Common.{ap, ◌∙◌, subst}
use Rattle.simplex_base.specs.Format.{fixed}
use Rattle.simplex_rules.specs.Scheme.{rules_of, scheme_of}
use Rattle.examples.specs.Following.{Follows}
use Rattle.examples.proofs.ForkLemmas.{taken_now, not_taken_now, value_outside}
use Rattle.examples.proofs.light_client.LightClient.follow.Goals as goal
use Rattle.examples.proofs.light_client.LightClient.follow.Goals.{in-Taken, in_default}

pub returns-clause-follows : goal.returns-clause-follows
returns-clause-follows g c =
    let inside = c.self.inside in
    let f = c.in_ok-finalization.finalization in
    let followed = c.in_ok-followed.followed in
    let rules = rules_of (scheme_of g.D.PartialEq.eq g.S.CertificateScheme.keys g.S.Scheme.good
    g.S.CertificateVerifier.certified g.S.Listing.listed) in (
      f,
      c.in_ok-finalization.ensures.encoded,
      value_outside (fixed g.D.Fixed.SIZE g.D.Fixed.bytes_of g.D.Fixed.of_bytes) g.S.Certificate.Read.fits
          g.S.CertificateScheme.keys _ _ f c.self.view_is c.in_ok-finalization.ensures.value,
      subst (λ b. Follows (rules b.committees) b.latest f followed) c.self.view_is
          (subst (λ l. Follows (rules inside.committees.now) l f followed) c.as_ref.ensures.value
          c.in_ok-followed.ensures.follows),
      elim c.match-followed.branch [
        | in-Taken w ↦ taken_now _ _ _ f followed c.self.view_is w.in-Taken.is (ap (λ b. b.committees) w.self-is)
            (ap (λ b. b.latest) w.self-is)
        | in_default w ↦ w.self-is ∙ not_taken_now _ f followed w.in_default.not-Taken
      ],
    )
