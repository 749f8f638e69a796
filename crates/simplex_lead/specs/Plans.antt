-- Which plans are the same, and which are clones of others.
use Rattle.std.specs.Prelude.{◌≡◌, Bool, true, false, ⊤, ◌&&◌, length}
use Rattle.std.specs.List.{AllZip}
use Rattle.std.specs.Cmp.Lexicographic.{pointwise}
use Rattle.simplex_base.specs.Positions.{same_round}
use Rattle.simplex_lead.specs.declared.plan.Recipients.{Recipients}
use Rattle.simplex_lead.specs.declared.plan.Recipients.TheVariants.{All, Some, One}
use Rattle.simplex_lead.specs.declared.plan.Plan.{Plan}
use Rattle.simplex_lead.specs.declared.plan.Plan.TheVariants.{Prepare, Propose, Forward}

-- whether recipients are the same, where this says which keys are
abbrev pub same_recipients : {P : Type 0} → (P → P → Bool) → Recipients P → Recipients P → Bool
same_recipients same_key All All = true
same_recipients same_key (Some xs) (Some ys) = pointwise same_key xs.items ys.items
same_recipients same_key (One x) (One y) = same_key x y
same_recipients same_key _ _ = false

-- whether plans are the same, where this says which recipients are
abbrev pub same_plan : {P : Type 0} → (Recipients P → Recipients P → Bool) → Plan P → Plan P → Bool
same_plan same_to (Prepare x) (Prepare y) = same_round x y
same_plan same_to (Propose x) (Propose y) = same_round x y
same_plan same_to (Forward x to) (Forward y other) = same_round x y && same_to to other
same_plan same_to _ _ = false

-- recipients and a clone of them, where this says what a clone of a key is
abbrev pub IsRecipientsClone : {P : Type 0} → (P → P → Type 0) → Recipients P → Recipients P → Type 0
IsRecipientsClone is_clone All All = ⊤
IsRecipientsClone is_clone (Some keys) (Some copies) =
    AllZip is_clone keys.items copies.items × (length copies.items ≡ length keys.items)
IsRecipientsClone is_clone (One key) (One copy) = is_clone key copy
IsRecipientsClone is_clone _ _ = ⊥

-- a plan and a clone of it, where this says what a clone of a key is
abbrev pub IsPlanClone : {P : Type 0} → (P → P → Type 0) → Plan P → Plan P → Type 0
IsPlanClone is_clone (Prepare round) (Prepare copy) = copy ≡ round
IsPlanClone is_clone (Propose round) (Propose copy) = copy ≡ round
IsPlanClone is_clone (Forward round to) (Forward copy other) = (copy ≡ round) × IsRecipientsClone is_clone to other
IsPlanClone is_clone _ _ = ⊥
