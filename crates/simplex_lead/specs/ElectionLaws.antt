-- A law of electors, which ghost members of impls cite.
use Rattle.std.proofs.Common.{ap}
use Rattle.std.specs.Prelude.{◌≡◌, ℕ, Option}
use Rattle.simplex_base.specs.Positions.{Round}
use Rattle.simplex_lead.specs.Terms.{Terms}
use Rattle.simplex_lead.specs.declared.elector.mode.Mode.{Mode}
use Rattle.simplex_lead.specs.Election.{ElectAlike}

-- an elector elects as itself
pub one_alike : {E C : Type 0}
    (mode_of : E → Mode) (terms_of : E → Terms) (participants_of : E → ℕ) (leader_of : E → Round → Option C → ℕ)
    (one other : E) → one ≡ other → ElectAlike mode_of terms_of participants_of leader_of one other
one_alike mode_of terms_of participants_of leader_of one other same = record {
  modes = ap mode_of same;
  terms = ap terms_of same;
  participants = ap participants_of same;
  leaders = λ round certificate. ap (λ elector. leader_of elector round certificate) same;
}
