use Rattle.std.proofs.Common.{◌≡◌, ◌++◌, length, take}
use Rattle.std.specs.List.{flat_map}
use Rattle.simplex_base.proofs.codec.counted.write_all.Given as goal

abbrev pub invariant-loop-item : goal.invariant-loop-item
invariant-loop-item g l =
    (l.start ≡ length l.fn.buf.items)
    × (l.buf.items ≡ l.fn.buf.items ++ flat_map g.T.Encoding.encoding (take l.item-index l.items))
