-- Lists in general: what they contain, what `find` and `list_any` give, and the listing of a partial map in the order of
-- its keys.
use Rattle.simplex_rules.proofs.Prelude.{All, All-append, All-contains, All-contains_itself, All-filter, All-from_recursion, All-map, AllByRecursion, Any-from_list_any, BTreeSet, Bool, CmpEqualImpliesEq, Contains, Contains-append_cases, Contains-append_left, Contains-append_right, Contains-get_or, IsStrictlySortedBy-filter, IsTotalOrder, Less, List, None, Option, Ordering, Some, [], ap, append-nil, arith, btree_set_contains_iff, btree_set_from_contains, cond, cons_option, false, filter, filter_map, filter_passes, find, find-append, flat_map, get_or, get_or-map, inl, inr, is_some, length, length-map, list_any, list_any-from_Any, map, option_map, option_or, option_to_list, recursion_from_All, refl, same_Some, sorted_head, subst, sym, true, ℕ, ⊎_elim, ◌++◌, ◌<◌, ◌||◌, ◌∙◌, ◌∷◌, ◌≡◌, ◌⊎◌}
use Rattle.std.specs.List.Sorted.{IsStrictlySortedBy}

-- two truth values that imply each other are equal
pub same_bool : (a b : Bool) → (a ≡ true → b ≡ true) → (b ≡ true → a ≡ true) → a ≡ b
same_bool true b f g = sym (f refl)
same_bool false true f g = g refl
same_bool false false f g = refl

-- an option that is some has a value
pub some_from_is_some : {X : Type 0} (o : Option X) → is_some o ≡ true → (x : X) × (o ≡ Some x)
some_from_is_some None h = absurd cc
some_from_is_some (Some x) h = (x, refl)

-- what holds of a list where b is false, and of it with x appended where b is true, holds of it with x appended if b
pub if_appended : {X : Type 0} (P : List X → Type 0) (xs : List X) (x : X) (b : Bool) → (b ≡ false → P xs) →
    (b ≡ true → P (xs ++ x ∷ [])) → P (xs ++ cond b (x ∷ []) [])
if_appended P xs x true without with_x = with_x refl
if_appended P xs x false without with_x = subst P (sym (append-nil xs)) (without refl)

-- ---- `Contains`

-- what holds of all that a list contains holds of each of its elements
pub each : {X : Type 0} (P : X → Type 0) (xs : List X) → ((x : X) → Contains xs x → P x) → All P xs
each P xs h = λ k d lt. h (get_or xs k d) (Contains-get_or xs k d lt)

pub Contains-none : {X : Type 0} (x : X) → Contains [] x → ⊥
Contains-none x h = absurd (omega (arith, h.1))

pub Contains-first : {X : Type 0} (x : X) (xs : List X) → Contains (x ∷ xs) x
Contains-first x xs = (0, omega arith, refl)

pub Contains-cons : {X : Type 0} (y : X) (xs : List X) (x : X) → Contains xs x → Contains (y ∷ xs) x
Contains-cons y xs x h = Contains-append_right (y ∷ []) xs x h

pub Contains-cons_cases : {X : Type 0} (y : X) (xs : List X) (x : X) → Contains (y ∷ xs) x → (y ≡ x) ⊎ Contains xs x
Contains-cons_cases y xs x h =
    ⊎_elim (λ one. inl (All-contains (λ z. y ≡ z) (y ∷ []) x (All-from_recursion (λ z. y ≡ z) (y ∷ []) (refl, tt)) one)) inr
    (Contains-append_cases (y ∷ []) xs x h)

pub Contains-map : {X Y : Type 0} (f : X → Y) (xs : List X) (x : X) → Contains xs x → Contains (map f xs) (f x)
Contains-map f xs x h = (h.0, omega (arith, h.1, length-map xs f), get_or-map f xs h.0 x (f x) h.1 ∙ ap f h.2)

pub Contains-from_map : {X Y : Type 0} (f : X → Y) (xs : List X) (y : Y) → Contains (map f xs) y →
    (x : X) × Contains xs x × (f x ≡ y)
Contains-from_map {X} f xs y h =
    All-contains (λ z. (x : X) × Contains xs x × (f x ≡ z)) (map f xs) y (All-map (λ z. (x : X) × Contains xs x × (f x ≡ z)) f
    xs (each (λ w. (x : X) × Contains xs x × (f x ≡ f w)) xs (λ x x_in. (x, x_in, refl)))) h

pub Contains-flat_map : {X Y : Type 0} (f : X → List Y) (xs : List X) (x : X) (y : Y) → Contains xs x → Contains (f x) y →
    Contains (flat_map f xs) y
Contains-flat_map f [] x y h k = absurd (Contains-none x h)
Contains-flat_map f (z ∷ xs) x y h k =
    ⊎_elim
    (λ e. Contains-append_left (f z) (flat_map f xs) y (subst (λ w. Contains (f w) y) (sym e) k))
    (λ l. Contains-append_right (f z) (flat_map f xs) y (Contains-flat_map f xs x y l k))
    (Contains-cons_cases z xs x h)

pub Contains-from_flat_map : {X Y : Type 0} (f : X → List Y) (xs : List X) (y : Y) → Contains (flat_map f xs) y →
    (x : X) × Contains xs x × Contains (f x) y
Contains-from_flat_map f [] y h = absurd (Contains-none y h)
Contains-from_flat_map f (x ∷ xs) y h =
    elim (Contains-append_cases (f x) (flat_map f xs) y h) [
      | inl k ↦ (x, Contains-first x xs, k)
      | inr k ↦ let (z, z_in, l) = Contains-from_flat_map f xs y k in (z, Contains-cons x xs z z_in, l)
    ]

-- ---- `filter` and `filter_map`

-- a `filter` joins what it keeps of each element
filter-joined : {X : Type 0} (p : X → Bool) (xs : List X) → filter p xs ≡ flat_map (λ x. cond (p x) (x ∷ []) []) xs
filter-joined p [] = refl
filter-joined p (x ∷ xs) =
    elim (p x) as (λ b. cond b (x ∷ filter p xs) (filter p xs) ≡ cond b (x ∷ []) []
    ++ flat_map (λ x. cond (p x) (x ∷ []) []) xs) [ true ↦ ap (λ ys. x ∷ ys) (filter-joined p xs) | false ↦ filter-joined p xs ]

-- so does a `filter_map`
pub filter_map-joined : {X Y : Type 0} (f : X → Option Y) (xs : List X) →
    filter_map f xs ≡ flat_map (λ x. option_to_list (f x)) xs
filter_map-joined f [] = refl
filter_map-joined f (x ∷ xs) =
    elim (f x) as (λ o. cons_option o (filter_map f xs) ≡ option_to_list o ++ flat_map (λ x. option_to_list (f x)) xs)
    [ None ↦ filter_map-joined f xs | Some y ↦ ap (λ ys. y ∷ ys) (filter_map-joined f xs) ]

pub Contains-filter : {X : Type 0} (p : X → Bool) (xs : List X) (x : X) → Contains xs x → p x ≡ true → Contains (filter p xs) x
Contains-filter p xs x h e =
    subst (λ ys. Contains ys x) (sym (filter-joined p xs))
    (Contains-flat_map _ xs x x h (subst (λ b. Contains (cond b (x ∷ []) []) x) (sym e) (Contains-first x [])))

pub Contains-from_filter : {X : Type 0} (p : X → Bool) (xs : List X) (x : X) → Contains (filter p xs) x →
    Contains xs x × (p x ≡ true)
Contains-from_filter p xs x h = (
  All-contains (Contains xs) (filter p xs) x (All-filter p (Contains xs) xs (All-contains_itself xs)) h,
  All-contains (λ x. p x ≡ true) (filter p xs) x (filter_passes p xs) h,
)

pub Contains-filter_map : {X Y : Type 0} (f : X → Option Y) (xs : List X) (x : X) (y : Y) → Contains xs x → f x ≡ Some y →
    Contains (filter_map f xs) y
Contains-filter_map f xs x y h e =
    subst (λ ys. Contains ys y) (sym (filter_map-joined f xs))
    (Contains-flat_map _ xs x y h (subst (λ o. Contains (option_to_list o) y) (sym e) (Contains-first y [])))

pub Contains-from_filter_map : {X Y : Type 0} (f : X → Option Y) (xs : List X) (y : Y) → Contains (filter_map f xs) y →
    (x : X) × Contains xs x × (f x ≡ Some y)
Contains-from_filter_map f xs y h =
    let (x, x_in, k) =
    Contains-from_flat_map (λ x. option_to_list (f x)) xs y (subst (λ ys. Contains ys y) (filter_map-joined f xs) h) in (
      x,
      x_in,
      (elim (f x) as (λ o. Contains (option_to_list o) y → o ≡ Some y) [
        | None ↦ λ l. absurd (Contains-none y l)
        | Some z ↦ λ l. ⊎_elim (λ e. ap Some e) (λ m. absurd (Contains-none y m)) (Contains-cons_cases z [] y l)
      ]) k,
    )

-- ---- `find` and `list_any`

-- something is found where something passes
pub is_some-find : {X : Type 0} (p : X → Bool) (xs : List X) → is_some (find p xs) ≡ list_any p xs
is_some-find p [] = refl
is_some-find p (x ∷ xs) =
    elim (p x) as (λ b. is_some (cond b (Some x) (find p xs)) ≡ (b || list_any p xs))
    [ true ↦ refl | false ↦ is_some-find p xs ]

-- what is found is an element that passes
pub found : {X : Type 0} (p : X → Bool) (xs : List X) (x : X) → find p xs ≡ Some x → Contains xs x × (p x ≡ true)
found p [] x h = absurd cc
found p (y ∷ xs) x h =
    (elim (p y) as (λ b. p y ≡ b → cond b (Some y) (find p xs) ≡ Some x → Contains (y ∷ xs) x × (p x ≡ true)) [
      | true ↦ λ e is.
          let same = same_Some y x is in (subst (Contains (y ∷ xs)) same (Contains-first y xs), sym (ap p same) ∙ e)
      | false ↦ λ e is. (Contains-cons y xs x (found p xs x is).0, (found p xs x is).1)
    ]) refl h

-- a mapped value that is found is that of an element that passes
pub found_mapped : {X Y : Type 0} (f : X → Y) (p : X → Bool) (xs : List X) (y : Y) → option_map f (find p xs) ≡ Some y →
    (x : X) × Contains xs x × (p x ≡ true) × (f x ≡ y)
found_mapped {X} f p xs y h =
    (elim (find p xs) as (λ o. find p xs ≡ o → option_map f o ≡ Some y → (x : X) × Contains xs x × (p x ≡ true) × (f x ≡ y))
    [ None ↦ λ e is. absurd cc | Some x ↦ λ e is. (x, (found p xs x e).0, (found p xs x e).1, same_Some (f x) y is) ]) refl h

-- where nothing passes nothing is found
pub none_found : {X : Type 0} (p : X → Bool) (xs : List X) → ((x : X) → Contains xs x → p x ≡ true → ⊥) → find p xs ≡ None
none_found p xs h =
    (elim (find p xs) as (λ o. find p xs ≡ o → o ≡ None)
    [ None ↦ λ e. refl | Some x ↦ λ e. absurd (h x (found p xs x e).0 (found p xs x e).1) ]) refl

-- some element passes where one that is contained does
pub any_from_Contains : {X : Type 0} (p : X → Bool) (xs : List X) (x : X) → Contains xs x → p x ≡ true → list_any p xs ≡ true
any_from_Contains p xs x h e = list_any-from_Any p xs (h.0, x, h.1, h.2, e)

-- and then one is found
pub find_from_Contains : {X : Type 0} (p : X → Bool) (xs : List X) (x : X) → Contains xs x → p x ≡ true →
    (y : X) × (find p xs ≡ Some y)
find_from_Contains p xs x h e = some_from_is_some (find p xs) (is_some-find p xs ∙ any_from_Contains p xs x h e)

pub Contains-from_list_any : {X : Type 0} (p : X → Bool) (xs : List X) → list_any p xs ≡ true →
    (x : X) × Contains xs x × (p x ≡ true)
Contains-from_list_any {X} p xs h =
    let a : (k : ℕ) × (x : X) × (k < length xs) × (get_or xs k x ≡ x) × (p x ≡ true) = Any-from_list_any p xs h in
    (a.1, (a.0, a.2, a.3), a.4)

-- the `find` of one more element, by what was found so far
pub find_push : {X : Type 0} (p : X → Bool) (xs : List X) (x : X) →
    find p (xs ++ x ∷ []) ≡ cond (p x) (option_or (find p xs) (Some x)) (find p xs)
find_push p xs x =
    find-append p xs (x ∷ []) ∙
    elim (p x) as (λ b. option_or (find p xs) (cond b (Some x) None) ≡ cond b (option_or (find p xs) (Some x)) (find p xs))
    [ true ↦ refl | false ↦ elim (find p xs) as (λ o. option_or o None ≡ o) [ None ↦ refl | Some y ↦ refl ] ]

-- the first of sorted keys is below each other one
pub below_all : {K : Type 0} (cmp : K → K → Ordering) (k : K) (ks : List K) → IsStrictlySortedBy cmp (k ∷ ks) → (q : K) →
    Contains ks q → cmp k q ≡ Less
below_all cmp k ks s q h = All-contains (λ y. cmp k y ≡ Less) ks q (All-from_recursion _ ks (sorted_head cmp k ks s)) h

-- two sorted lists joined are sorted where the first is below the second
pub sorted_append : {K : Type 0} (cmp : K → K → Ordering) (ks qs : List K) → IsStrictlySortedBy cmp ks →
    IsStrictlySortedBy cmp qs →
    ((k q : K) → Contains ks k → Contains qs q → cmp k q ≡ Less) → IsStrictlySortedBy cmp (ks ++ qs)
unfolding IsStrictlySortedBy
sorted_append cmp [] qs s t below = t
sorted_append cmp (k ∷ ks) qs s t below = (
  recursion_from_All _ (ks ++ qs) (All-append (λ q. cmp k q ≡ Less) ks qs (All-from_recursion _ ks s.0)
      (each _ qs (λ q q_in. below k q (Contains-first k ks) q_in))),
  sorted_append cmp ks qs s.1 t (λ l q l_in q_in. below l q (Contains-cons k ks l l_in) q_in),
)

-- so are the sorted lists of sorted elements, joined, where the list of each element is below those of greater ones
pub sorted_joined : {X Y K : Type 0} (order : Y → Y → Ordering) (cmp : K → K → Ordering) (key : X → Y) (f : X → List K) →
    ((x y : X) (k q : K) → order (key x) (key y) ≡ Less → Contains (f x) k → Contains (f y) q → cmp k q ≡ Less) →
    (xs : List X) → ((x : X) → Contains xs x → IsStrictlySortedBy cmp (f x)) → IsStrictlySortedBy order (map key xs) →
    IsStrictlySortedBy cmp (flat_map f xs)
unfolding IsStrictlySortedBy
sorted_joined order cmp key f rise [] sorted s = tt
sorted_joined order cmp key f rise (x ∷ xs) sorted s =
    sorted_append cmp (f x) (flat_map f xs) (sorted x (Contains-first x xs))
    (sorted_joined order cmp key f rise xs (λ y y_in. sorted y (Contains-cons x xs y y_in)) s.1)
    (λ k q k_in q_in. let (y, y_in, q_at) = Contains-from_flat_map f xs q q_in in
    rise x y k q (below_all order (key x) (map key xs) s (key y) (Contains-map key xs y y_in)) k_in q_at)

-- sorted lists with the same elements are equal
same_keys : {K : Type 0} {cmp : K → K → Ordering} → IsTotalOrder cmp → CmpEqualImpliesEq cmp → (ks qs : List K) →
    IsStrictlySortedBy cmp ks → IsStrictlySortedBy cmp qs → ((k : K) → Contains ks k → Contains qs k) →
    ((k : K) → Contains qs k → Contains ks k) → ks ≡ qs
same_keys {K} o exact ks qs s t to from =
    let a : BTreeSet K = record { keys = ks } in
    let b : BTreeSet K = record { keys = qs } in
    let has = btree_set_contains_iff o exact in
    btree_set_from_contains o a b s t
    (λ k. same_bool _ _ (λ h. (has b k).1 (to k ((has a k).0 h))) (λ h. (has a k).1 (from k ((has b k).0 h)))) exact

-- ---- what a partial map has, in the order of its keys

-- each of xs is the value of `at` at its key, in the order of keys, and no key at which `at` has a value is left out
pub record IsListing {X K : Type 0} (key : X → K) (cmp : K → K → Ordering) (at : K → Option X) (xs : List X) : Type 0 where
  pub ordered : IsStrictlySortedBy cmp (map key xs)
  pub sound : All (λ x. at (key x) ≡ Some x) xs
  pub complete : (k : K) → is_some (at k) ≡ true → Contains (map key xs) k

module _ {X K : Type 0} (key : X → K) (cmp : K → K → Ordering) (at : K → Option X) where
  -- the map has a value at each key of a listing
  pub listed_is_some : (xs : List X) → All (λ x. at (key x) ≡ Some x) xs → (k : K) → Contains (map key xs) k →
      is_some (at k) ≡ true
  listed_is_some xs sound k h =
      All-contains (λ k. is_some (at k) ≡ true) (map key xs) k
      (All-map (λ k. is_some (at k) ≡ true) key xs (λ i d lt. ap is_some (sound i d lt))) h

  -- a listing is the values at its keys
  read_back : (xs : List X) → AllByRecursion (λ x. at (key x) ≡ Some x) xs → filter_map at (map key xs) ≡ xs
  read_back [] h = refl
  read_back (x ∷ xs) h = λ i. cons_option (h.0 i) (read_back xs h.1 i)

  -- so the listing is unique
  pub listing_is_unique : IsTotalOrder cmp → CmpEqualImpliesEq cmp → (xs ys : List X) → IsListing key cmp at xs →
      IsListing key cmp at ys → xs ≡ ys
  listing_is_unique o exact xs ys a b =
      sym (read_back xs (recursion_from_All _ xs a.sound)) ∙
      ap (filter_map at) (same_keys o exact (map key xs) (map key ys) a.ordered b.ordered
      (λ k h. b.complete k (listed_is_some xs a.sound k h)) (λ k h. a.complete k (listed_is_some ys b.sound k h))) ∙
      read_back ys (recursion_from_All _ ys b.sound)

  module _ (own : (k : K) (x : X) → at k ≡ Some x → key x ≡ k) (ks : List K) where
    -- what the map has at some keys is sound
    pub made_sound : All (λ x. at (key x) ≡ Some x) (filter_map at ks)
    made_sound = each _ _ (λ x x_in. let (k, k_in, is) = Contains-from_filter_map at ks x x_in in ap at (own k x is) ∙ is)

    -- and complete, as far as the keys go
    pub made_complete : (k : K) → Contains ks k → is_some (at k) ≡ true → Contains (map key (filter_map at ks)) k
    made_complete k h e =
        let (x, is) = some_from_is_some (at k) e in
        subst (Contains (map key (filter_map at ks))) (own k x is) (Contains-map key _ x (Contains-filter_map at ks k x h is))

  -- and in order where the keys are
  pub made_ordered : ((k : K) (x : X) → at k ≡ Some x → key x ≡ k) → (ks : List K) → IsStrictlySortedBy cmp ks →
      IsStrictlySortedBy cmp (map key (filter_map at ks))
  made_ordered own ks sorted =
      subst (IsStrictlySortedBy cmp) (sym (keys_made ks)) (IsStrictlySortedBy-filter cmp (λ k. is_some (at k)) ks sorted)
    where
      keys_made : (ks : List K) → map key (filter_map at ks) ≡ filter (λ k. is_some (at k)) ks
      keys_made [] = refl
      keys_made (k ∷ ks) =
          (elim (at k) as (λ o. at k ≡ o → map key (cons_option o (filter_map at ks))
          ≡ cond (is_some o) (k ∷ filter (λ k. is_some (at k)) ks) (filter (λ k. is_some (at k)) ks))
          [ None ↦ λ e. keys_made ks | Some x ↦ λ e i. own k x e i ∷ keys_made ks i ]) refl
