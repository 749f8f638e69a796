use Rattle.simplex_border.proofs.KeyLemmas.{one_more}
use Rattle.simplex_border.proofs.keys.read_keys.Goals as goal

pub keys-preserved : goal.keys-preserved
keys-preserved c = cc (c.in_ok-push.ensures.items, c.keys.invariant, c.key_at.ensures, one_more c.args.bytes.now c.keys.place)
