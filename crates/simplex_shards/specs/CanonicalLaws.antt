-- Messages that are collected one after another.
use Rattle.std.proofs.Common.{◌≡◌, ℕ, inl, inr, List, [], ◌∷◌, ◌++◌, map, arith, subst, sym}
use Rattle.std.specs.Prelude.{◌⊎◌, Contains}
use Rattle.std.proofs.lemmas.List.{map-append}
use Rattle.std.proofs.lemmas.List.Elements.{Contains-append_cases, Contains-append_left, Contains-append_right}
use Rattle.simplex_shards.specs.Canonical.{Collects, collected}
use Rattle.simplex_shards.specs.declared.canonical.Collector.{Collector}

module _ {M : Type 0} (encoding : M → List ℕ) where
  -- no message was collected
  pub collects_none : (state : Collector) → Collects encoding [] state state
  collects_none state = record {
    has = λ bytes. (inl, λ either. elim either [ inl old ↦ old | inr none ↦ absurd (omega (arith, none.1)) ]);
  }

  -- one message more was collected
  pub collects_more : (ms : List M) (m : M) (a b c : Collector) → Collects encoding ms a b →
      Collects encoding (m ∷ []) b c → Collects encoding (ms ++ m ∷ []) a c
  collects_more ms m a b c before one = record {
    has = λ bytes.
        let joined : map encoding (ms ++ m ∷ []) ≡ map encoding ms ++ map encoding (m ∷ []) = map-append encoding ms (m ∷ []) in
        let Whole : Type 0 = Contains (collected a) bytes ⊎ Contains (map encoding (ms ++ m ∷ [])) bytes in
        let all : Contains (map encoding ms ++ map encoding (m ∷ [])) bytes → Whole =
        λ h. inr (subst (λ (l : List (List ℕ)). Contains l bytes) (sym joined) h) in (
          λ h. elim ((one.has bytes).0 h) [
            | inl earlier ↦ elim ((before.has bytes).0 earlier) [
              | inl old ↦ inl old
              | inr first ↦ all (Contains-append_left (map encoding ms) (map encoding (m ∷ [])) bytes first)
            ]
            | inr last ↦ all (Contains-append_right (map encoding ms) (map encoding (m ∷ [])) bytes last)
          ],
          λ h. elim h [
            | inl old ↦ (one.has bytes).1 (inl ((before.has bytes).1 (inl old)))
            | inr some ↦
                elim (Contains-append_cases (map encoding ms) (map encoding (m ∷ [])) bytes
                (subst (λ (l : List (List ℕ)). Contains l bytes) joined some)) [
                  | inl first ↦ (one.has bytes).1 (inl ((before.has bytes).1 (inr first)))
                  | inr last ↦ (one.has bytes).1 (inr last)
                ]
          ],
        );
  }
