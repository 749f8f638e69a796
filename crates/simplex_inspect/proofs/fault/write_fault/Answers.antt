use Rattle.std.proofs.Common.{[], ◌∷◌, ◌∙◌}
use Rattle.std.specs.Prelude.{codes}
use Rattle.json.specs.Json.{string}
use Rattle.simplex_inspect.specs.Values.{number_json, bytes_json}
use Rattle.simplex_inspect.proofs.TokenLemmas.{behind, object_written, one, put}
use Rattle.simplex_inspect.proofs.fault.write_fault.Goals as goal

pub returns : goal.returns
returns c =
    rw (← (c.as_str.ensures.value ∙ c.in_ok-name.ensures), ← c.first_bytes.ensures)
    (object_written c.end_object.result
    ((codes "offset", number_json c.args.fault.now.place) ∷ (codes "fault", string c.as_str.result.now)
    ∷ (codes "next", bytes_json c.first_bytes.result.now) ∷ []) _
    (put c.begin_object.ensures.room.0 c.in_ok-begin_object.ensures.ok)
    (behind (behind c.in_ok-write_number.ensures c.in_ok-write_text.ensures) c.in_ok-write_bytes.ensures)
    (one c.end_object.ensures))
