use Rattle.std.proofs.Common.{◌++◌}
use Rattle.std.proofs.lemmas.Result.{IfOk-weaker}
use Rattle.simplex_ffi.proofs.store.stored_after.Goals as goal

pub returns : goal.returns
returns g c =
    let committees = c.args.committees.now in
    IfOk-weaker c.store.result _ _ (λ bytes stored. stored committees (c.args.stored.now ++ c.args.batch.now)
    (c.in_ok-ledger.ensures.fed committees c.args.stored.now c.in_ok-resumed.ensures.fed)) c.store.ensures
