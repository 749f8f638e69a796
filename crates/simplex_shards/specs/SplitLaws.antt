-- Messages that are cut one after another.
use Rattle.std.proofs.Common.{◌≡◌, ◌==◌, ℕ, List, [], ◌∷◌, ◌++◌, Some, refl, sym, ap, ◌∙◌, append_assoc, append-nil}
use Rattle.std.specs.List.{flat_map}
use Rattle.std.proofs.lemmas.Grind.{flat_map-append}
use Rattle.std.proofs.lemmas.List.Elements.{filter-append}
use Rattle.simplex_base.specs.Positions.{Round}
use Rattle.simplex_shards.specs.Split.{Scatters, of_class}
use Rattle.simplex_shards.specs.declared.split.Scatter.{Scatter}

module _ {M : Type 0} (round : M → Round) (class : Round → ℕ) (encoding : M → List ℕ) where
  -- no message was appended
  pub scatters_none : (state : Scatter) → Scatters round class encoding [] state state
  scatters_none state = record { count = refl; grown = λ i part e. e ∙ ap Some (sym (append-nil part)) }

  -- one message more was appended
  pub scatters_more : (ms : List M) (m : M) (a b c : Scatter) → Scatters round class encoding ms a b →
      Scatters round class encoding (m ∷ []) b c → Scatters round class encoding (ms ++ m ∷ []) a c
  scatters_more ms m a b c before one = record {
    count = one.count ∙ before.count;
    grown = λ i part e.
        let encoded : List M → List ℕ = λ xs. flat_map encoding (of_class round class i xs) in
        let joined : encoded (ms ++ m ∷ []) ≡ encoded ms ++ encoded (m ∷ []) =
        ap (flat_map encoding) (filter-append (λ k. class (round k) == i) ms (m ∷ [])) ∙
        flat_map-append encoding (of_class round class i ms) (of_class round class i (m ∷ [])) in
        one.grown i (part ++ encoded ms) (before.grown i part e) ∙
        ap Some (append_assoc part (encoded ms) (encoded (m ∷ [])) ∙ ap (λ (t : List ℕ). part ++ t) (sym joined));
  }
