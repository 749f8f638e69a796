-- Who leads a round.
use Rattle.std.specs.Prelude.{◌≡◌, ℕ, List, Option}
use Rattle.std.specs.declared.cmp.Ordering.{Ordering}
use Rattle.simplex_base.specs.Terms.{term_of}
use Rattle.simplex_lead.specs.Rotation.{IsOrder, leader}

-- The participant leads a view of an epoch: of n participants, in the order that the seed determines, if there is one, and in
-- terms of this many views.
pub record LeadsRound {D : Type 0} (compare : D → D → Ordering) (hash : List ℕ → D) (seed : Option (List ℕ))
    (n term_length epoch view participant : ℕ) : Type 0 where
  pub order : List ℕ
  pub order_is : IsOrder compare hash seed n order
  pub leads : participant ≡ leader order epoch (term_of term_length view)
