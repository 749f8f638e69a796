use Rattle.simplex_cli.proofs.ProgramLemmas.{refused-by, refused-status}
use Rattle.simplex_cli.proofs.command.command.Goals as goal

pub returns-clause-refused : goal.returns-clause-refused
returns-clause-refused g c = λ none.
    rw c.conclude.ensures.status (refused-status _ (refused-by _ _ c.args.program _ _ _ _ none c.process-ended.ensures.ends))
