use Rattle.std.proofs.Common.{◌≡◌, take}
use Rattle.std.specs.List.{range_with_len}
use Rattle.simplex_lead.proofs.elector.order.are_ascending.Given as goal

abbrev pub invariant-participants : goal.invariant-participants
invariant-participants l = take l.place l.fn.participants ≡ range_with_len 0 l.place
