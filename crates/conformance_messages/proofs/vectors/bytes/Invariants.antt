use Rattle.std.proofs.Common.{◌≡◌, take}
use Rattle.std.specs.List.{flat_map}
use Rattle.conformance_messages.specs.Words.{decoded}
use Rattle.conformance_messages.proofs.vectors.bytes.Given as goal

abbrev pub invariant-loop-word : goal.invariant-loop-word
invariant-loop-word l = l.bytes.items ≡ flat_map (λ word. decoded word.now) (take l.word-index l.words)
