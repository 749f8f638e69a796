use Rattle.std.proofs.Common.{[]}
use Rattle.std.proofs.lemmas.Result.{IfOk-weaker}
use Rattle.simplex_audit.proofs.ledger.Ledger.resume.Goals as goal

pub returns-clause-fed : goal.returns-clause-fed
returns-clause-fed g c =
    IfOk-weaker c.feed.result _ _ (λ ledger fed. fed c.args.committees.now [] c.new.ensures.fed) c.feed.ensures.fed
