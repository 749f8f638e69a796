use Rattle.std.proofs.Common.{◌≡◌, ◌++◌, All, take}
use Rattle.std.specs.List.{flat_map}
use Rattle.simplex_audit.proofs.compaction.append_all.Given as goal

abbrev pub invariant-messages : goal.invariant-messages
invariant-messages g l = record {
  written : l.kept.items ≡ l.fn.kept.items ++ flat_map g.M.Encoding.encoding (take l.message-index l.fn.messages);
  values : All g.M.Encoding.is_value (take l.message-index l.fn.messages);
}
