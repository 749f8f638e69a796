use Rattle.std.proofs.Common.{◌≡◌, ◌∙◌, ap, append_assoc, arith}
use Rattle.simplex_live.specs.State.{number_bytes}
use Rattle.simplex_live.proofs.StateLemmas.{number_is}
use Rattle.simplex_live.proofs.state.push_round.Goals as goal

pub returns : goal.returns
returns c =
    let epoch : c.to_le_bytes.result ≡ number_bytes c.args.round.epoch =
    c.to_le_bytes.ensures ∙ number_is c.get.result ∙ ap number_bytes (c.get.ensures ∙ c.epoch.ensures) in
    let view : c.to_le_bytes-2.result ≡ number_bytes c.args.round.view =
    c.to_le_bytes-2.ensures ∙ number_is c.get-2.result ∙ ap number_bytes (c.get-2.ensures ∙ c.view.ensures) in
    grind (arith, append_assoc, c.in_ok-extend_from_slice.ensures.items, c.in_ok-extend_from_slice-2.ensures.items, epoch, view)
