use Rattle.std.proofs.Common.{◌≡◌, map, string_bytes, take}
use Rattle.simplex_live.specs.State.{words_bytes}
use Rattle.simplex_live.proofs.state.head.Given as goal

-- the words so far, each behind its length
abbrev pub invariant-words : goal.invariant-words
invariant-words l = l.text.items ≡ words_bytes (map string_bytes (take l.word-index l.words))
