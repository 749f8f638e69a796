use Rattle.std.proofs.Common.{rules, subst, sym}
use Rattle.std.proofs.Math.Seq.{take-add}
use Rattle.std.proofs.lemmas.List.{take_rest}
use Rattle.std.specs.Io.KnownBytes.{Appends}
use Rattle.std.proofs.KnownBytes.{Appends-trans}
use Rattle.simplex_stream.specs.Watched.{inner_of}
use Rattle.simplex_cli.proofs.command.say.Goals as goal

pub parts-preserved-in-Ok : goal.parts-preserved-in-Ok
parts-preserved-in-Ok g c =
    let next = rw take_rest at c.in-Ok.ensures.bytes in (
      search rules,
      subst (Appends (g.E.Write.contents (inner_of c.args.errors.now)) (g.E.Write.contents (inner_of c.write.new.self)))
          (sym (take-add c.parts.count c.in-Ok.taken c.args.text.now)) (Appends-trans _ _ _ _ _ c.parts.invariant.1 next),
    )
