use Rattle.std.proofs.Common.{◌≡◌, ℕ, ◌*◌, List, ◌++◌, length, take, drop}
use Rattle.std.specs.Prelude.{All, map, sum}
use Rattle.simplex_schemes.specs.Plain.{PlainScheme}
use Rattle.simplex_border.specs.Keys.{HasNoKeyTwice, parts_of}
use Rattle.simplex_border.proofs.KeyLemmas.{AreCommittees}
use Rattle.simplex_border.proofs.keys.pairs.Given as goal

-- the committees so far, with those of the rest of the keys, are those of all
abbrev pub invariant-epochs : goal.invariant-epochs
invariant-epochs l = record {
  room : length l.rest ≡ 32 * sum (drop l.i l.sizes);
  epochs : map (λ p. p.0) l.pairs.items ≡ take l.i l.epochs;
  committees : (more : List (ℕ × PlainScheme)) → AreCommittees l.namespace (parts_of (drop l.i l.sizes) l.rest) more →
      AreCommittees l.namespace (parts_of l.sizes l.fn.keys) (l.pairs.items ++ more);
  distinct : All HasNoKeyTwice (parts_of l.sizes l.fn.keys) → All HasNoKeyTwice (parts_of (drop l.i l.sizes) l.rest);
}
