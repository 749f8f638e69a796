-- Electors: how they use certificates, and when two elect alike.
use Rattle.std.specs.Prelude.{◌≡◌, ℕ, Bool, true, false, Option, None}
use Rattle.simplex_base.specs.Positions.{Round}
use Rattle.simplex_lead.specs.Terms.{Terms}
use Rattle.simplex_lead.specs.declared.elector.mode.Mode.{Mode}
use Rattle.simplex_lead.specs.declared.elector.mode.Mode.TheVariants.{Scheduled, Dynamic}

-- whether modes are the same
abbrev pub same_mode : Mode → Mode → Bool
same_mode Scheduled Scheduled = true
same_mode Scheduled Dynamic = false
same_mode Dynamic Scheduled = false
same_mode Dynamic Dynamic = true

-- the certificate, as an elector of this mode is given it
abbrev pub seen : {C : Type 0} → Mode → Option C → Option C
seen Scheduled certificate = None
seen Dynamic certificate = certificate

-- two electors elect alike: in one mode, in the same terms, of as many participants, and each round has one leader by
-- both with the same certificate
pub record ElectAlike {E C : Type 0}
    (mode_of : E → Mode) (terms_of : E → Terms) (participants_of : E → ℕ) (leader_of : E → Round → Option C → ℕ)
    (one other : E) : Type 0 where
  pub modes : mode_of one ≡ mode_of other
  pub terms : terms_of one ≡ terms_of other
  pub participants : participants_of one ≡ participants_of other
  pub leaders : (round : Round) (certificate : Option C) → leader_of one round certificate ≡ leader_of other round certificate
