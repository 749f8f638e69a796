use Rattle.std.proofs.Common.{◌≡◌, ◌∙◌, ℕ, List, ◌++◌, length, take, ap}
use Rattle.std.proofs.lemmas.List.{take_at}
use Rattle.simplex_schemes.proofs.hashed.Head.new.Goals as goal

-- the first bytes are the key
first : (front rest key : List ℕ) → front ≡ key → length key ≡ 32 → take 32 (front ++ rest) ≡ key
first front rest key same size = take_at front rest 32 (ap length same ∙ size) ∙ same

pub returns-clause-bytes : goal.returns-clause-bytes
returns-clause-bytes c =
    first _ _ _ (c.copy_from_slice.ensures.after ∙ c.as_bytes.ensures.value) c.as_bytes.ensures.fixed.len

pub returns-clause-size : goal.returns-clause-size
returns-clause-size c =
    ap length (first _ _ _ (c.copy_from_slice.ensures.after ∙ c.as_bytes.ensures.value) c.as_bytes.ensures.fixed.len)
    ∙ c.as_bytes.ensures.fixed.len
