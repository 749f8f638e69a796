use Rattle.std.proofs.Common.{refl}
use Rattle.simplex_inspect.proofs.TokenLemmas.{behind, put, then}
use Rattle.simplex_inspect.proofs.line.open_statement.Goals as goal

pub returns : goal.returns
returns g c =
    then c.open_list.result _ _ refl
    (behind (put c.begin_object.ensures.room.0 c.in_ok-begin_object.ensures.ok) c.in_ok-write_subject.ensures)
    c.open_list.ensures
