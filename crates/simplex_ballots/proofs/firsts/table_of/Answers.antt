use Rattle.std.proofs.Common.{arith, rules, sym, ◌∙◌}
use Rattle.simplex_ballots.proofs.TableLemmas.{appended}
use Rattle.simplex_ballots.proofs.firsts.table_of.Goals as goal

pub few-preserved : goal.few-preserved
few-preserved c = record {
  held = appended c.few.places.items c.resize.new.self.items c.push.new.self.items c.as_slice-first-items.result.now
      c.few.first-index c.get-index.result _ c.first-item.result c.first-item.result c.few-test.true c.first-item.is
      c.few.invariant.held (omega (arith, c.if-index-len.false, c.len.ensures)) c.in_ok-resize.ensures.items
      (sym c.resize.new.self.ok.0 ∙ c.in_ok-resize.ensures.len) c.get-index.ensures
      c.in_ok-push.ensures.items c.if-first.false;
  small = search rules;
}
