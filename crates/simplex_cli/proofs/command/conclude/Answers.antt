use Rattle.std.proofs.Common.{rules, ◌≡◌, subst}
use Rattle.simplex_audit.specs.Outcome.{writer_use}
use Rattle.simplex_cli.specs.Answer.{Says}
use Rattle.simplex_cli.specs.Complaints.{said_of}
use Rattle.simplex_cli.proofs.command.conclude.Goals as goal

pub returns-in-Ok-Some-clause-said : goal.returns-in-Ok-Some-clause-said
returns-in-Ok-Some-clause-said g c =
    let text : c.as_bytes.result.now ≡ said_of c.args.program c.args.ended = search rules in
    subst (Says (writer_use g.E.Write.contents c.args.errors.now c.say.new.errors)) text c.say.ensures.said

pub returns-in-Err-clause-said : goal.returns-in-Err-clause-said
returns-in-Err-clause-said g c =
    let text : c.as_bytes-in-Err.result.now ≡ said_of c.args.program c.args.ended = search rules in
    subst (Says (writer_use g.E.Write.contents c.args.errors.now c.say-in-Err.new.errors)) text c.say-in-Err.ensures.said
