-- Laws of rotations.
-- They stand beside the definitions because ghost members of impls cite them, and those see no proofs.
use Rattle.std.proofs.Common.{◌≡◌, ◌∙◌, ◌↔◌, ℕ, List, Ordering, refl, sym, ap}
use Rattle.std.specs.Cmp.{IsTotalOrder}
use Rattle.simplex_base.specs.Positions.{Round}
use Rattle.simplex_base.specs.Terms.{HoldsView}
use Rattle.simplex_base.specs.TermLaws.{same_term}
use Rattle.simplex_lead.specs.OrderLaws.{one_order}
use Rattle.simplex_lead.specs.Terms.{Terms}
use Rattle.simplex_lead.specs.Rotation.{Rotation, Settings, IsRotation, leader_of_round}

-- two rounds of one term have one leader
pub same_leader : (rotation : Rotation) (one other : Round) (term : ℕ) →
    one.epoch ≡ other.epoch →
    HoldsView rotation.terms.term_length term one.view →
    HoldsView rotation.terms.term_length term other.view →
    leader_of_round rotation one ≡ leader_of_round rotation other
same_leader rotation one other term epoch in_one in_other =
    rw (epoch, same_term rotation.terms.term_length term one.view other.view in_one in_other) refl

module _ {D : Type 0} (compare : D → D → Ordering) (hash : List ℕ → D) where
  -- the same settings make the same rotations
  pub same_rotations : (settings copy : Settings) (n : ℕ) (rotation : Rotation) →
      copy ≡ settings → IsRotation compare hash copy n rotation ↔ IsRotation compare hash settings n rotation
  same_rotations settings copy n rotation same = rw same ((λ is. is), (λ is. is))

  -- settings make one rotation alone
  pub one_rotation : IsTotalOrder compare → (settings : Settings) (n : ℕ) (one other : Rotation) →
      IsRotation compare hash settings n one → IsRotation compare hash settings n other → one ≡ other
  one_rotation total settings n one other is_one is_other =
      ap (λ (order : List ℕ). let made : Rotation = record { order = order; terms = one.terms } in made)
      (one_order compare total hash settings.seed n one.order other.order is_one.0 is_other.0)
      ∙ ap (λ (terms : Terms). let made : Rotation = record { order = other.order; terms = terms } in made)
      (is_one.1 ∙ sym is_other.1)
