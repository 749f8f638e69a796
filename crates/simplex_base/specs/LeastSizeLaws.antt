-- Encodings of which some bytes are known.
use Rattle.std.proofs.Common.{◌≡◌, ℕ, ◌≤◌, List, ◌++◌, length, take, drop, refl, sym, ap, ◌∙◌}
use Rattle.std.proofs.lemmas.List.{take_at, take-append-le, take-append-drop}

-- of two lists of bytes that begin the same one, the longer begins with the shorter
pub front_in : (a b c d : List ℕ) → a ++ b ≡ c ++ d → length a ≤ length c → c ≡ a ++ drop (length a) c
front_in a b c d same within =
    let here : take (length a) c ≡ a = sym (take-append-le (length a) c d within)
    ∙ (ap (take (length a)) (sym same) ∙ take_at a b (length a) refl) in
    sym (take-append-drop (length a) c) ∙ ap (λ (t : List ℕ). t ++ drop (length a) c) here
