-- Reports of what was read and recorded.
use Rattle.std.proofs.Common.{Bool, List, map}
use Rattle.std.specs.Prelude.{All}
use Rattle.std.proofs.lemmas.List.Elements.{All-map}
use Rattle.simplex_base.specs.Format.{Format}
use Rattle.simplex_evidence.specs.Activity.{IsActivity}
use Rattle.simplex_rules.specs.EncodedEvidence.{IsEncoded}
use Rattle.simplex_rules.specs.Values.{activity_of}
use Rattle.simplex_rules.specs.declared.evidence.Evidence.{Evidence}
use Rattle.simplex_rules.specs.declared.evidence.Evidence.TheVariants as variants

-- evidence that can be encoded is a message, for any type of certificates
is_message : {S D C P G : Type 0} (eq : D → D → Bool) (payload : Format D) (is_certificate : C → Type 0) (signature : Format G)
    (e : Evidence S D P G) → IsEncoded eq payload signature e → IsActivity eq payload is_certificate signature (activity_of e)
is_message eq payload is_certificate signature (variants.ConflictingNotarize c) h = h
is_message eq payload is_certificate signature (variants.ConflictingFinalize c) h = h
is_message eq payload is_certificate signature (variants.NullifyFinalize c) h = h

pub are_messages : {S D C P G : Type 0} (eq : D → D → Bool) (payload : Format D) (is_certificate : C → Type 0)
    (signature : Format G) (es : List (Evidence S D P G)) → All (IsEncoded eq payload signature) es →
    All (IsActivity eq payload is_certificate signature) (map activity_of es)
are_messages eq payload is_certificate signature es all =
    All-map (IsActivity eq payload is_certificate signature) activity_of es
    (λ k d lt. is_message eq payload is_certificate signature _ (all k d lt))
