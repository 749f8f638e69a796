use Rattle.std.proofs.Common.{refl}
use Rattle.simplex_inspect.proofs.TokenLemmas.{behind, put, then}
use Rattle.simplex_inspect.proofs.parts.open_message.Goals as goal

pub returns : goal.returns
returns c =
    let head = put c.begin_object.ensures.room.0 c.in_ok-begin_object.ensures.ok in
    let size = behind (behind head c.in_ok-write_number.ensures) c.in_ok-write_number-2.ensures in
    let place = behind (behind (behind size c.in_ok-write_text.ensures) c.in_ok-write_number-3.ensures)
    c.in_ok-write_number-4.ensures in
    then c.open_list.result _ _ refl place c.open_list.ensures
