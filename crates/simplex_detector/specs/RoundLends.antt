-- What a map from rounds to values ends as, where a `&mut` to one of the values is returned.
use Rattle.std.specs.Prelude.{List, Option}
use Rattle.std.specs.BTreeMap.{is_at}
use Rattle.std.specs.Map.{set_value}
use Rattle.std.specs.Borrow.{LendsIf, Fml, RattleType, MutBor}
use Rattle.simplex_base.specs.Positions.{Round}
use Rattle.simplex_rules.specs.Accusation.{round_cmp}
use Rattle.simplex_detector.specs.contracts.round_map.RoundMap.{the_row}

-- once the borrow r ends, the round has the last value written through it, and at `None` the map stays as it is
abbrev pub lends_value : (V : RattleType) → MutBor (List (Round × V.Denot)) → Round → Option (MutBor V.Denot) → Fml
lends_value V map round r = LendsIf (the_row V) V map r (set_value (is_at (round_cmp round)) map.now) map.now
