use Rattle.std.proofs.Common.{refl}
use Rattle.simplex_rules.specs.declared.judging.Judging.TheVariants.{From}
use Rattle.simplex_audit.proofs.compaction.Compactor.new.Goals as goal

pub returns : goal.returns
returns g c = record {
  judging = refl;
  recalls = λ schedule. c.new-detector.ensures (From c.args.floor) schedule;
  kept = c.new.ensures.items;
}
