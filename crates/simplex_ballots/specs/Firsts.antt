-- The earliest votes of a kind, by signers.
use Rattle.std.specs.Prelude.{ℕ, ◌+◌, ◌-◌, ◌^◌, ◌≤◌, ◌==◌, List, [], ◌∷◌, length, ⊤, if◌then◌else◌}
use Rattle.simplex_ballots.specs.declared.firsts.First.{First}
use Rattle.simplex_ballots.specs.declared.firsts.Held.{Held}
use Rattle.simplex_ballots.specs.declared.firsts.Held.TheVariants.{Few, Many}

-- their order
abbrev pub first_key : First → ℕ
first_key first = first.signer

-- where one stands among the ballots
abbrev pub first_place_of : First → ℕ
first_place_of first = first.place

-- the place in a table of a participant who has no vote
abbrev pub vacant : ℕ
vacant = 2 ^ 32 - 1

-- the votes in a table of places, the first of which is participant n's
abbrev pub held_from : ℕ → List ℕ → List First
held_from n [] = []
held_from n (p ∷ ps) =
    if p == vacant then held_from (n + 1) ps else record { signer = n; place = p } ∷ held_from (n + 1) ps

-- the votes
abbrev pub firsts_of : Held → List First
firsts_of (Few few) = few
firsts_of (Many places) = held_from 0 places.items

-- the participants of a table have numbers
abbrev pub IsHeld : Held → Type 0
IsHeld (Few few) = ⊤
IsHeld (Many places) = length places.items ≤ 2 ^ 32
