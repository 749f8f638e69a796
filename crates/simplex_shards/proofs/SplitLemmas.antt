-- One message that is appended to the part of its class, and the parts of a whole stream.
use Rattle.std.proofs.Common.{◌≡◌, ◌==◌, ℕ, Bool, true, false, cond, inl, inr, List, [], ◌∷◌, ◌++◌, length, map, get_or, Some, Option, ◌≤◌, ◌<◌, arith, refl, sym, ap, subst, ◌∙◌, zero, suc, append-nil}
use Rattle.std.specs.Prelude.{slice_get, slice_set, replicate, All, Vec}
use Rattle.std.specs.List.{flat_map}
use Rattle.std.proofs.lemmas.Bool.{cases_eq, eq-eqb, ne_eqb}
use Rattle.std.proofs.lemmas.List.{length-map}
use Rattle.std.specs.Global.{Global}
use Rattle.simplex_base.specs.Positions.{Round}
use Rattle.simplex_shards.specs.Split.{AreParts, IsSplit, Scatters, bytes_of, of_class, parts_of}
use Rattle.simplex_shards.specs.declared.split.Scatter.{Scatter}
use Rattle.simplex_shards.specs.declared.split.Shards.{Shards}
use Rattle.simplex_base.specs.Format.{Format}
use Rattle.simplex_base.specs.declared.codec.error.Error.{Error}
use Rattle.simplex_stream.specs.Fault.{IsFault}
use Rattle.simplex_stream.specs.Messages.{AreMessages}
use Rattle.simplex_stream.specs.Progress.{IsProgress}
use Rattle.simplex_stream.specs.StreamLaws.{IsNeverEmpty, are_joined}
use Rattle.std.proofs.lemmas.Option.{slice_get_within, same_Some}
use Rattle.std.proofs.lemmas.List.Elements.{All-cons, All-filter, All-nil}

module _ {X Y : Type 0} (view : X → Y) where
  -- where an element was put, it stands,
  pub view_at : (xs : List X) (c : ℕ) (w : X) (part : Y) → slice_get (map view xs) c ≡ Some part →
      slice_get (map view (slice_set xs c w)) c ≡ Some (view w)
  view_at [] c w part e = absurd cc
  view_at (x ∷ xs) zero w part e = refl
  view_at (x ∷ xs) (suc c) w part e = view_at xs c w part e

  -- and the others stand where they stood
  pub view_beside : (xs : List X) (c i : ℕ) (w : X) → (c ≡ i → ⊥) →
      slice_get (map view (slice_set xs c w)) i ≡ slice_get (map view xs) i
  view_beside [] c i w other = refl
  view_beside (x ∷ xs) zero zero w other = absurd (other refl)
  view_beside (x ∷ xs) zero (suc i) w other = refl
  view_beside (x ∷ xs) (suc c) zero w other = refl
  view_beside (x ∷ xs) (suc c) (suc i) w other = view_beside xs c i w (λ e. other (ap suc e))

  -- what stood there before
  pub view_before : (xs : List X) (c : ℕ) (v : X) (part : Y) → slice_get (map view xs) c ≡ Some part →
      v ≡ get_or xs c v → view v ≡ part
  view_before [] c v part e same = absurd cc
  view_before (x ∷ xs) zero v part e same = ap view same ∙ cc
  view_before (x ∷ xs) (suc c) v part e same = view_before xs c v part e same

  pub length_set : (xs : List X) (c : ℕ) (w : X) → length (map view (slice_set xs c w)) ≡ length (map view xs)
  length_set [] c w = refl
  length_set (x ∷ xs) zero w = refl
  length_set (x ∷ xs) (suc c) w = ap suc (length_set xs c w)

module _ {M : Type 0} (round : M → Round) (class : Round → ℕ) (encoding : M → List ℕ) (m : M) where
  -- the message alone, if it is of the class
  alone : (i : ℕ) (here : Bool) → here ≡ (class (round m) == i) →
      flat_map encoding (of_class round class i (m ∷ [])) ≡ cond here (encoding m) []
  alone i true e = ap (λ (b : Bool). flat_map encoding (cond b (m ∷ []) [])) (sym e) ∙ append-nil (encoding m)
  alone i false e = ap (λ (b : Bool). flat_map encoding (cond b (m ∷ []) [])) (sym e)

  -- it was appended to the part of its class
  pub scatters_one : (old new : Scatter) (c : ℕ) (v w : Vec ℕ Global) → c ≡ class (round m) →
      v ≡ get_or old.parts.items c v → new.parts.items ≡ slice_set old.parts.items c w →
      w.items ≡ v.items ++ encoding m → Scatters round class encoding (m ∷ []) old new
  scatters_one old new c v w is before set grown = record {
    count = ap (λ (xs : List (Vec ℕ Global)). length (map view xs)) set ∙ length_set view old.parts.items c w;
    grown = λ i part e. elim (cases_eq c i) [
      | inl same ↦
          let at = subst (λ (j : ℕ). slice_get (parts_of old) j ≡ Some part) (sym same) e in
          let one = alone i true (sym (eq-eqb (class (round m)) i (sym is ∙ same))) in
          ap (λ (xs : List (Vec ℕ Global)). slice_get (map view xs) i) set ∙
          (ap (slice_get (map view (slice_set old.parts.items c w))) (sym same) ∙
          (view_at view old.parts.items c w part at ∙ ap Some (grown ∙
          (ap (λ (t : List ℕ). t ++ encoding m) (view_before view old.parts.items c v part at before) ∙
          ap (λ (t : List ℕ). part ++ t) (sym one)))))
      | inr other ↦
          let one = alone i false (sym (ne_eqb (class (round m)) i (λ e. other (is ∙ e)))) in
          ap (λ (xs : List (Vec ℕ Global)). slice_get (map view xs) i) set ∙
          (view_beside view old.parts.items c i w other ∙ (e ∙
          ap Some (sym (append-nil part) ∙ ap (λ (t : List ℕ). part ++ t) (sym one))))
    ];
  }
    where
      view : Vec ℕ Global → List ℕ
      view v = v.items

  -- where there is no such part, nothing was appended
  pub scatters_past : (state : Scatter) (c : ℕ) → c ≡ class (round m) → length state.parts.items ≤ c →
      Scatters round class encoding (m ∷ []) state state
  scatters_past state c is past = record {
    count = refl;
    grown = λ i part e.
        let within = slice_get_within (parts_of state) i part e in
        let len = length-map state.parts.items (λ (v : Vec ℕ Global). v.items) in
        let other : (class (round m) ≡ i) → ⊥ = λ same. omega (arith, within, len, past, is, same) in
        e ∙ ap Some (sym (append-nil part) ∙ ap (λ (t : List ℕ). part ++ t)
        (sym (alone i false (sym (ne_eqb (class (round m)) i other)))));
  }

-- ---- all messages of a stream

-- an empty part
pub empty_at : {A : Type 0} (k i : ℕ) → i < k → slice_get (replicate {A = List A} k []) i ≡ Some []
empty_at zero i lt = absurd (omega (arith, lt))
empty_at (suc k) zero lt = refl
empty_at (suc k) (suc i) lt = empty_at k i (omega (arith, lt))

pub empty_count : (A : Type 0) (k : ℕ) → length (replicate {A = List A} k []) ≡ k
empty_count A zero = refl
empty_count A (suc k) = ap suc (empty_count A k)

-- each message is of a class
pub all_within : {M : Type 0} (round : M → Round) (class : Round → ℕ) (classes : ℕ) → ((r : Round) → class r < classes) →
    (ms : List M) → All (λ m. class (round m) < classes) ms
all_within round class classes within [] = All-nil (λ m. class (round m) < classes)
all_within round class classes within (m ∷ ms) =
    All-cons (λ m. class (round m) < classes) m ms (within (round m)) (all_within round class classes within ms)

-- what was appended to empty parts are the parts of the messages
pub scattered : {M : Type 0} (format : Format M) (round : M → Round) (class : Round → ℕ) (classes : ℕ) (ms : List M)
    (old new : Scatter) → IsNeverEmpty format → ((r : Round) → class r < classes) → parts_of old ≡ replicate classes [] →
    All format.is_value ms → Scatters round class format.encoding ms old new →
    AreParts format round class classes ms (parts_of new)
scattered format round class classes ms old new some within empty values done =
    let count : length (parts_of new) ≡ classes = done.count ∙ (ap length empty ∙ empty_count ℕ classes) in
    record {
      count = count;
      one = all_within round class classes within ms;
      each = λ i part e.
          let in_range = slice_get_within (parts_of new) i part e in
          let ks = of_class round class i ms in
          let begun = ap (λ (xs : List (List ℕ)). slice_get xs i) empty ∙ empty_at classes i (omega (arith, in_range, count)) in
          let same : part ≡ flat_map format.encoding ks = same_Some _ _ (sym e ∙ done.grown i [] begun) in
          subst (λ (bytes : List ℕ). AreMessages format bytes ks []) (sym same)
          (are_joined format some ks (All-filter (λ m. class (round m) == i) format.is_value ms values));
    }

-- what was appended of a stream to empty parts is the stream, cut
pub split_all : {M : Type 0} (format : Format M) (round : M → Round) (class : Round → ℕ) (classes : ℕ)
    (stream rest : List ℕ) (read : ℕ) (stop : Option Error) (old new : Scatter) (shards : Shards) → IsNeverEmpty format →
    ((r : Round) → class r < classes) → parts_of old ≡ replicate classes [] →
    (p : IsProgress format (λ ms. Scatters round class format.encoding ms old new) stream rest read stop) →
    shards.read ≡ read → bytes_of shards ≡ parts_of new →
    IsFault format.reading (length (flat_map format.encoding p.messages)) rest shards.fault →
    IsSplit format round class classes stream shards
split_all format round class classes stream rest read stop old new shards some within empty p read_is parts fault = record {
  messages = p.messages;
  rest = rest;
  are_messages = p.are_messages;
  read_is = read_is ∙ p.read_is;
  fault_is = fault;
  parts_are = subst (AreParts format round class classes p.messages) (sym parts)
      (scattered format round class classes p.messages old new some within empty p.are_messages.each p.recorded);
}
