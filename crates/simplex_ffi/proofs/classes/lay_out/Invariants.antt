use Rattle.std.proofs.Common.{◌≡◌, map, take}
use Rattle.std.specs.List.{flat_map}
use Rattle.simplex_ffi.specs.Rows.{ends_from}
use Rattle.simplex_ffi.proofs.classes.lay_out.Given as goal

abbrev pub invariant-parts : goal.invariant-parts
invariant-parts l =
    (l.ranges.items ≡ flat_map (λ part. part.items) (take l.part-index l.fn.parts)) ×
    (l.ends.items ≡ ends_from 0 (map (λ part. part.items) (take l.part-index l.fn.parts)))
