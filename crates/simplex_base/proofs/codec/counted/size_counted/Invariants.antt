use Rattle.std.proofs.Common.{◌≡◌, ◌++◌, ◌+◌, ◌-◌, ◌*◌, ◌≤◌, ◌^◌, All, length, min, take}
use Rattle.std.specs.List.{flat_map}
use Rattle.simplex_base.specs.Varint.{number_32}
use Rattle.simplex_base.proofs.codec.counted.size_counted.Given as goal

abbrev pub invariant-loop-item : goal.invariant-loop-item
invariant-loop-item g l = record {
  size : l.size ≡ min
      (length (number_32.encoding (length l.items) ++ flat_map g.T.Encoding.encoding (take l.item-index l.items))) (2 ^ 64 - 1);
  values : All g.T.Encoding.is_value (take l.item-index l.items);
  limited : l.size ≤ 5 + l.item-index * g.T.EncodeSize.limit;
}
