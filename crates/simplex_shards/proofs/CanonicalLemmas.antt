-- The messages of a stream in one order, each once.
use Rattle.std.proofs.Common.{◌≡◌, ℕ, Bool, true, false, Less, Equal, Greater, Ordering, inl, inr, List, [], ◌∷◌, ◌++◌, length, map, Option, refl, sym, ap, subst, ◌∙◌, arith}
use Rattle.std.specs.Prelude.{◌↔◌, ◌⊎◌, All, Contains, IsTrue, Vec}
use Rattle.std.specs.BTreeSet.{BTreeSet, insert_key}
use Rattle.std.specs.Cmp.{IsTotalOrder}
use Rattle.std.specs.Cmp.Lexicographic.{nat_list_cmp_total}
use Rattle.std.specs.Global.{Global}
use Rattle.std.specs.List.{AllByRecursion, flat_map}
use Rattle.std.specs.List.Sorted.{IsStrictlySortedBy}
use Rattle.std.specs.Ordering.{match_ordering}
use Rattle.std.proofs.lemmas.List.Elements.{All-cons, All-contains, All-nil, Contains-append_cases, Contains-append_left, Contains-append_right, Contains-push, Contains-push_cases}
use Rattle.std.proofs.lemmas.List.Folds.{flat_map-map}
use Rattle.std.proofs.lemmas.Map.Lookups.{CmpEqualImpliesEq, btree_set_from_contains, exact_bytes}
use Rattle.std.proofs.lemmas.Map.Views.{btree_set_contains_iff}
use Rattle.simplex_base.specs.Format.{Format, IsLawful}
use Rattle.simplex_base.specs.FormatLaws.{one_encoding}
use Rattle.simplex_base.specs.declared.codec.error.Error.{Error}
use Rattle.simplex_stream.specs.Fault.{IsFault}
use Rattle.simplex_stream.specs.Messages.{AreMessages}
use Rattle.simplex_stream.specs.Progress.{IsProgress}
use Rattle.simplex_stream.specs.StreamLaws.{IsNeverEmpty, are_joined, messages_once}
use Rattle.simplex_shards.specs.Canonical.{Collects, HaveSameElements, HaveSameMessages, IsCanonical, bytes_cmp, collected}
use Rattle.simplex_shards.specs.declared.canonical.CanonicalForm.{CanonicalForm}
use Rattle.simplex_shards.specs.declared.canonical.Collector.{Collector}

-- ---- elements

module _ {X : Type 0} where
  single : (x q : X) → Contains (x ∷ []) q → x ≡ q
  single x q h = elim (Contains-push_cases [] x q h) [ inl none ↦ absurd (omega (arith, none.1)) | inr same ↦ same ]

  pub here : (x : X) (xs : List X) → Contains (x ∷ xs) x
  here x xs = Contains-append_left (x ∷ []) xs x (Contains-push [] x)

  pub later : (x : X) (xs : List X) (q : X) → Contains xs q → Contains (x ∷ xs) q
  later x xs q h = Contains-append_right (x ∷ []) xs q h

  pub first_or_later : (x : X) (xs : List X) (q : X) → Contains (x ∷ xs) q → (x ≡ q) ⊎ Contains xs q
  first_or_later x xs q h =
      elim (Contains-append_cases (x ∷ []) xs q h) [ inl one ↦ inl (single x q one) | inr more ↦ inr more ]

  pub at : (x : X) (xs : List X) (q : X) → x ≡ q → Contains (x ∷ xs) q
  at x xs q same = subst (Contains (x ∷ xs)) same (here x xs)

module _ {X Y : Type 0} (f : X → Y) where
  mapped : (xs : List X) (x : X) → Contains xs x → Contains (map f xs) (f x)
  mapped [] x none = absurd (omega (arith, none.1))
  mapped (k ∷ xs) x h = elim (first_or_later k xs x h) [
    | inl same ↦ at (f k) (map f xs) (f x) (ap f same)
    | inr more ↦ later (f k) (map f xs) (f x) (mapped xs x more)
  ]

  pub record Source (xs : List X) (y : Y) : Type 0 where
    pub source : X
    pub within : Contains xs source
    pub is : f source ≡ y

  source_of : (xs : List X) (y : Y) → Contains (map f xs) y → Source xs y
  source_of [] y none = absurd (omega (arith, none.1))
  source_of (x ∷ xs) y h = elim (first_or_later (f x) (map f xs) y h) [
    | inl same ↦ record { source = x; within = here x xs; is = same }
    | inr more ↦
        let one = source_of xs y more in
        record { source = one.source; within = later x xs one.source one.within; is = one.is }
  ]

  pub same_mapped : (xs ys : List X) → HaveSameElements xs ys → HaveSameElements (map f xs) (map f ys)
  same_mapped xs ys same y = (half xs ys (λ x. (same x).0), half ys xs (λ x. (same x).1))
    where
      half : (us vs : List X) → ((x : X) → Contains us x → Contains vs x) → Contains (map f us) y → Contains (map f vs) y
      half us vs to h =
          let one = source_of us y h in
          subst (Contains (map f vs)) one.is (mapped vs one.source (to one.source one.within))

-- ---- one message is collected

abbrev items : Vec ℕ Global → List ℕ
items bytes = bytes.items

abbrev items_cmp : Vec ℕ Global → Vec ℕ Global → Ordering
items_cmp a b = bytes_cmp a.items b.items

inserted_items : (ks : List (Vec ℕ Global)) (k : Vec ℕ Global) →
    map items (insert_key items_cmp ks k) ≡ insert_key bytes_cmp (map items ks) k.items
inserted_items [] k = refl
inserted_items (x ∷ ks) k =
    elim (bytes_cmp k.items x.items) as (λ o.
    map items (match_ordering o (k ∷ x ∷ ks) (x ∷ ks) (x ∷ insert_key items_cmp ks k))
    ≡ match_ordering o (k.items ∷ x.items ∷ map items ks) (x.items ∷ map items ks)
    (x.items ∷ insert_key bytes_cmp (map items ks) k.items)) [
      | Less ↦ refl
      | Equal ↦ refl
      | Greater ↦ ap (λ (l : List (List ℕ)). x.items ∷ l) (inserted_items ks k)
    ]

-- the elements of a list into which another was inserted
inserted : (xs : List (List ℕ)) (k q : List ℕ) → Contains (insert_key bytes_cmp xs k) q ↔ (Contains xs q ⊎ (k ≡ q))
inserted [] k q =
    (λ h. inr (single k q h), λ h. elim h [ inl none ↦ absurd (omega (arith, none.1)) | inr same ↦ at k [] q same ])
inserted (x ∷ xs) k q =
    elim (bytes_cmp k x) as (λ o. bytes_cmp k x ≡ o →
    Contains (match_ordering o (k ∷ x ∷ xs) (x ∷ xs) (x ∷ insert_key bytes_cmp xs k)) q
    ↔ (Contains (x ∷ xs) q ⊎ (k ≡ q))) [
      | Less ↦ λ e. (
        λ h. elim (first_or_later k (x ∷ xs) q h) [ inl same ↦ inr same | inr more ↦ inl more ],
        λ h. elim h [ inl more ↦ later k (x ∷ xs) q more | inr same ↦ at k (x ∷ xs) q same ],
      )
      | Equal ↦ λ e. (
        λ h. inl h,
        λ h. elim h [ inl more ↦ more | inr same ↦ at x xs q (sym (exact_bytes k x e) ∙ same) ],
      )
      | Greater ↦ λ e. let next = insert_key bytes_cmp xs k in (
        λ h. elim (first_or_later x next q h) [
          | inl same ↦ inl (at x xs q same)
          | inr more ↦ elim ((inserted xs k q).0 more) [ inl old ↦ inl (later x xs q old) | inr same ↦ inr same ]
        ],
        λ h. elim h [
          | inl old ↦ elim (first_or_later x xs q old) [
            | inl same ↦ at x next q same
            | inr more ↦ later x next q ((inserted xs k q).1 (inl more))
          ]
          | inr same ↦ later x next q ((inserted xs k q).1 (inr same))
        ],
      )
    ] refl

pub collects_one : {M : Type 0} (encoding : M → List ℕ) (m : M) (old new : Collector) (k : Vec ℕ Global) →
    new.messages.keys ≡ insert_key items_cmp old.messages.keys k → k.items ≡ encoding m → Collects encoding (m ∷ []) old new
collects_one encoding m old new k set written = record {
  has = λ q.
      let is : collected new ≡ insert_key bytes_cmp (collected old) (encoding m) =
      ap (map items) set ∙ (inserted_items old.messages.keys k ∙ ap (insert_key bytes_cmp (collected old)) written) in
      let one = inserted (collected old) (encoding m) q in (
        λ h. elim (one.0 (subst (λ (l : List (List ℕ)). Contains l q) is h)) [
          | inl before ↦ inl before
          | inr same ↦ inr (at (encoding m) [] q same)
        ],
        λ h. subst (λ (l : List (List ℕ)). Contains l q) (sym is)
            (one.1 (elim h [ inl before ↦ inl before | inr last ↦ inr (single (encoding m) q last) ])),
      );
}

-- ---- all messages of a stream

sorted_items : (ks : List (Vec ℕ Global)) → IsStrictlySortedBy items_cmp ks → IsStrictlySortedBy bytes_cmp (map items ks)
unfolding IsStrictlySortedBy
sorted_items [] sorted = tt
sorted_items (k ∷ ks) sorted = (above ks sorted.0, sorted_items ks sorted.1)
  where
    above : (xs : List (Vec ℕ Global)) → AllByRecursion (λ x. items_cmp k x ≡ Less) xs →
        AllByRecursion (λ x. bytes_cmp k.items x ≡ Less) (map items xs)
    above [] h = tt
    above (x ∷ xs) h = (h.0, above xs h.1)

module _ {M : Type 0} (format : Format M) (law : IsLawful format) where
  -- the messages of some encodings
  pub record Chosen (ms : List M) (encodings : List (List ℕ)) : Type 0 where
    pub chosen : List M
    pub are : map format.encoding chosen ≡ encodings
    pub within : All (Contains ms) chosen

  choose : (ms : List M) (encodings : List (List ℕ)) →
      ((q : List ℕ) → Contains encodings q → Contains (map format.encoding ms) q) → Chosen ms encodings
  choose ms [] some = record { chosen = []; are = refl; within = All-nil (Contains ms) }
  choose ms (b ∷ encodings) some =
      let others = choose ms encodings (λ q h. some q (later b encodings q h)) in
      let one = source_of format.encoding ms b (some b (here b encodings)) in
      record {
        chosen = one.source ∷ others.chosen;
        are = ap (λ (x : List ℕ). x ∷ map format.encoding others.chosen) one.is
            ∙ ap (λ (l : List (List ℕ)). b ∷ l) others.are;
        within = All-cons (Contains ms) one.source others.chosen one.within others.within;
      }

  -- a value whose encoding is that of one of some values is that value
  same_value : (ks : List M) (m : M) → All format.is_value ks → format.is_value m →
      Contains (map format.encoding ks) (format.encoding m) → Contains ks m
  same_value ks m values value h =
      let one = source_of format.encoding ks (format.encoding m) h in
      let is = (one_encoding law one.source m [] [] (All-contains format.is_value ks one.source values one.within) value
      (ap (λ (t : List ℕ). t ++ []) one.is)).0 in
      subst (Contains ks) is one.within

  joined_encodings : (ks : List M) → flat_map (λ b. b) (map format.encoding ks) ≡ flat_map format.encoding ks
  joined_encodings ks = flat_map-map (λ (b : List ℕ). b) format.encoding ks

  -- the encodings of a stream's messages were collected and joined
  pub canonical_all : (stream rest : List ℕ) (read : ℕ) (stop : Option Error) (old new : Collector) (form : CanonicalForm) →
      IsNeverEmpty format → old.messages.keys ≡ [] →
      (p : IsProgress format (λ ms. Collects format.encoding ms old new) stream rest read stop) → form.read ≡ read →
      IsStrictlySortedBy items_cmp new.messages.keys → form.bytes.items ≡ flat_map items new.messages.keys →
      IsFault format.reading (length (flat_map format.encoding p.messages)) rest form.fault → IsCanonical format stream form
  canonical_all stream rest read stop old new form some empty p read_is sorted joined fault =
      let ms = p.messages in
      let all : List (List ℕ) = collected new in
      let none : (q : List ℕ) → Contains (collected old) q → Contains (map format.encoding ms) q = λ q h.
      absurd (omega (arith, (subst (λ (l : List (Vec ℕ Global)). Contains (map items l) q) empty h).1)) in
      let c = choose ms all (λ q h. elim ((p.recorded.has q).0 h) [ inl before ↦ none q before | inr one ↦ one ]) in
      let values = All-from c.chosen c.within in
      let whole : form.bytes.items ≡ flat_map format.encoding c.chosen =
      joined ∙ (sym (flat_map-map (λ (b : List ℕ). b) items new.messages.keys)
      ∙ (ap (flat_map (λ (b : List ℕ). b)) (sym c.are) ∙ joined_encodings c.chosen)) in
      record {
        messages = ms;
        rest = rest;
        are_messages = p.are_messages;
        read_is = read_is ∙ p.read_is;
        fault_is = fault;
        chosen = c.chosen;
        are_chosen = subst (λ (bytes : List ℕ). AreMessages format bytes c.chosen []) (sym whole)
            (are_joined format some c.chosen values);
        ascending = subst (IsStrictlySortedBy bytes_cmp) (sym c.are) (sorted_items new.messages.keys sorted);
        same = λ m. (
          λ h. same_value c.chosen m values (All-contains format.is_value ms m p.are_messages.each h)
              (subst (λ (l : List (List ℕ)). Contains l (format.encoding m)) (sym c.are)
              ((p.recorded.has (format.encoding m)).1 (inr (mapped format.encoding ms m h)))),
          λ h. All-contains (Contains ms) c.chosen m c.within h,
        );
      }
    where
      All-from : (ks : List M) → All (Contains p.messages) ks → All format.is_value ks
      All-from ks within i d lt =
          All-contains format.is_value p.messages _ p.are_messages.each (within i d lt)

-- ---- streams with the same messages

pub same_truth : (a b : Bool) → (IsTrue a → IsTrue b) → (IsTrue b → IsTrue a) → a ≡ b
same_truth true true to back = refl
same_truth false false to back = refl
same_truth true false to back = absurd (let h = to refl in cc)
same_truth false true to back = absurd (let h = back refl in cc)

-- elements in strict order, and the same ones in strict order, are the same list
pub same_order : {K : Type 0} (cmp : K → K → Ordering) → IsTotalOrder cmp → CmpEqualImpliesEq cmp → (xs ys : List K) →
    IsStrictlySortedBy cmp xs → IsStrictlySortedBy cmp ys → HaveSameElements xs ys → xs ≡ ys
same_order {K} cmp total exact xs ys sorted others same =
    let as_set : List K → BTreeSet K = λ ks. record { keys = ks } in
    btree_set_from_contains total (as_set xs) (as_set ys) sorted others (λ q.
    let one = btree_set_contains_iff total exact (as_set xs) q in
    let other = btree_set_contains_iff total exact (as_set ys) q in
    same_truth _ _ (λ h. other.1 ((same q).0 (one.0 h))) (λ h. one.1 ((same q).1 (other.0 h)))) exact

pub same_form : {M : Type 0} (format : Format M) → IsLawful format → (stream other : List ℕ) (form its : CanonicalForm) →
    IsCanonical format stream form → HaveSameMessages format stream other → IsCanonical format other its →
    form.bytes.items ≡ its.bytes.items
same_form {M} format law stream other form its one same two =
    let first : one.messages ≡ same.messages =
    (messages_once format law stream one.rest same.rest one.messages same.messages one.are_messages same.are_messages).0 in
    let second : two.messages ≡ same.others =
    (messages_once format law other two.rest same.left two.messages same.others two.are_messages same.are_others).0 in
    let chosen : HaveSameElements one.chosen two.chosen = λ m. (
      λ h. (two.same m).0 (subst (λ (l : List M). Contains l m) (sym second)
          ((same.same m).0 (subst (λ (l : List M). Contains l m) first ((one.same m).1 h)))),
      λ h. (one.same m).0 (subst (λ (l : List M). Contains l m) (sym first)
          ((same.same m).1 (subst (λ (l : List M). Contains l m) second ((two.same m).1 h)))),
    ) in
    let encodings = same_order bytes_cmp nat_list_cmp_total exact_bytes (map format.encoding one.chosen)
    (map format.encoding two.chosen) one.ascending two.ascending (same_mapped format.encoding one.chosen two.chosen chosen) in
    one.are_chosen.whole ∙ (ap (λ (t : List ℕ). t ++ []) (sym (joined_encodings format law one.chosen)
    ∙ (ap (flat_map (λ (b : List ℕ). b)) encodings ∙ joined_encodings format law two.chosen)) ∙ sym two.are_chosen.whole)
