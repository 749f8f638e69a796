-- How accusations are ordered, and what is at a floor or above it.
use Rattle.simplex_rules.proofs.Prelude.{round_cmp, All, All-contains, Equal, EquivocationKind, Ordering, nat_cmp, ordering_then, signer_cmp, List, Round, ap, false, false≢true, filter, map, refl, subst, sym, true, ◌∙◌, ◌≡◌, is_from, Less, Greater, is_le, is_gt}
use Rattle.simplex_rules.proofs.Lists.{Contains-map, each}
use Rattle.simplex_rules.specs.Accusation.{key_cmp, way_rank}
use Rattle.simplex_rules.specs.declared.evidence.Accusation.{Accusation}
use Rattle.simplex_rules.specs.declared.evidence.EquivocationKind as declared_kind
use Rattle.simplex_rules.specs.declared.evidence.EquivocationKind.TheVariants as ways
use Rattle.simplex_rules.specs.contracts.evidence.AccusationOrd.TheImpl as ord
use Rattle.simplex_rules.specs.contracts.evidence.EquivocationKindOrd.TheImpl as kind_ord
use Rattle.std.specs.Ordering.{ordering_reverse}
use Rattle.simplex_rules.proofs.Places.{exact_rounds, round_cmp_total}
use Rattle.simplex_rules.proofs.Filters.{filter_all}

-- how the code orders them is how they are ordered
pub by_key : ord.cmp-value.it ≡ key_cmp
by_key = λ i a b. ordering_then (signer_cmp a.accused b.accused) (of_kinds a.kind b.kind i)
  where
    of_kinds : (k l : declared_kind.EquivocationKind) → kind_ord.cmp-value.it k l ≡ nat_cmp (way_rank k) (way_rank l)
    of_kinds ways.ConflictingNotarize ways.ConflictingNotarize = refl
    of_kinds ways.ConflictingNotarize ways.ConflictingFinalize = refl
    of_kinds ways.ConflictingNotarize ways.NullifyFinalize = refl
    of_kinds ways.ConflictingFinalize ways.ConflictingNotarize = refl
    of_kinds ways.ConflictingFinalize ways.ConflictingFinalize = refl
    of_kinds ways.ConflictingFinalize ways.NullifyFinalize = refl
    of_kinds ways.NullifyFinalize ways.ConflictingNotarize = refl
    of_kinds ways.NullifyFinalize ways.ConflictingFinalize = refl
    of_kinds ways.NullifyFinalize ways.NullifyFinalize = refl

-- a round below a floor is below each round from it on
pub below_floor : (floor a b : Round) → is_from floor a ≡ false → is_from floor b ≡ true → round_cmp a b ≡ Less
below_floor floor a b below above =
    let under : round_cmp a floor ≡ Less = round_cmp_total.antisymm a floor
    ∙ (elim (round_cmp floor a) as (λ o. is_le o ≡ false → ordering_reverse o ≡ Less)
    [ Greater ↦ λ h. refl | _ ↦ λ h. absurd (false≢true (sym h)) ]) below in
    (elim (round_cmp floor b) as (λ o. round_cmp floor b ≡ o → is_le o ≡ true → round_cmp a b ≡ Less) [
      | Less ↦ λ e h. round_cmp_total.trans a floor b under e
      | Equal ↦ λ e h. subst (λ r. round_cmp a r ≡ Less) (exact_rounds floor b e) under
      | Greater ↦ λ e h. absurd (false≢true h)
    ]) refl above

-- what is not above a round from a floor on is from the floor on
from_floor : (floor first round : Round) → is_from floor first ≡ true → is_gt (round_cmp first round) ≡ false →
    is_from floor round ≡ true
from_floor floor first round at h =
    (elim (is_from floor round) as (λ b. is_from floor round ≡ b → b ≡ true) [
      | true ↦ λ here. refl
      | false ↦ λ away. absurd (false≢true (sym h
          ∙ ap is_gt (round_cmp_total.antisymm first round ∙ ap ordering_reverse (below_floor floor round first away at))))
    ]) refl

-- if the first round is from a floor on, all are
pub all_from_floor : {V : Type 0} (floor first : Round) → is_from floor first ≡ true → (entries : List (Round × V)) →
    All (λ round. is_gt (round_cmp first round) ≡ false) (map (λ entry. entry.0) entries) →
    filter (λ entry. is_from floor entry.0) entries ≡ entries
all_from_floor floor first at entries all =
    filter_all (λ entry. is_from floor entry.0) entries (each (λ entry. is_from floor entry.0 ≡ true) entries (λ entry e_in.
    from_floor floor first entry.0 at (All-contains (λ round. is_gt (round_cmp first round) ≡ false)
    (map (λ entry. entry.0) entries) entry.0 all (Contains-map (λ entry. entry.0) entries entry e_in))))

-- if the first accusation is of a round from a floor on, all are
pub accusations_from_floor : (floor : Round) (first : Accusation) → is_from floor first.accused.round ≡ true →
    (keys : List Accusation) → All (λ q. is_gt (key_cmp first q) ≡ false) keys →
    filter (λ q. is_from floor q.accused.round) keys ≡ keys
accusations_from_floor floor first at keys all =
    filter_all (λ q. is_from floor q.accused.round) keys (each (λ q. is_from floor q.accused.round ≡ true) keys (λ q q_in.
    from_floor floor first.accused.round q.accused.round at (not_above _ (nat_cmp first.accused.signer q.accused.signer)
    (not_above (signer_cmp first.accused q.accused) (nat_cmp (way_rank first.kind) (way_rank q.kind))
    (All-contains (λ q. is_gt (key_cmp first q) ≡ false) keys q all q_in)))))
  where
    not_above : (o p : Ordering) → is_gt (ordering_then o p) ≡ false → is_gt o ≡ false
    not_above Less p h = refl
    not_above Equal p h = refl
    not_above Greater p h = h
