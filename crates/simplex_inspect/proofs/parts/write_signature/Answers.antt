use Rattle.std.proofs.Common.{◌∷◌}
use Rattle.std.specs.Prelude.{codes}
use Rattle.simplex_inspect.specs.Json.{validity_members}
use Rattle.simplex_inspect.specs.Values.{number_json, bytes_json}
use Rattle.simplex_inspect.proofs.TokenLemmas.{behind, object_written, one, put}
use Rattle.simplex_inspect.proofs.parts.write_signature.Goals as goal

pub returns : goal.returns
returns c =
    object_written c.end_object.result
    ((codes "signer", number_json c.args.signer) ∷ (codes "signature", bytes_json c.args.signature.now)
    ∷ validity_members c.args.validity) _
    (put c.begin_object.ensures.room.0 c.in_ok-begin_object.ensures.ok)
    (behind (behind c.in_ok-write_number.ensures c.in_ok-write_bytes.ensures) c.in_ok-write_validity.ensures)
    (one c.end_object.ensures)
