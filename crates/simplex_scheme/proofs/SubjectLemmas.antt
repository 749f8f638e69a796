-- A name and a message are those of one subject alone.
use Rattle.std.proofs.Common.{◌≡◌, ℕ, List, [], ◌++◌, ap}
use Rattle.simplex_base.specs.Format.{Format, IsLawful}
use Rattle.simplex_base.specs.FormatLaws.{one_encoding}
use Rattle.simplex_base.specs.Positions.{round_format}
use Rattle.simplex_base.specs.PositionLaws.{round_lawful}
use Rattle.simplex_scheme.specs.Namespace.{names_of}
use Rattle.simplex_scheme.specs.Proposal.{proposal_format}
use Rattle.simplex_scheme.specs.ProposalLaws.{proposal_lawful}
use Rattle.simplex_scheme.specs.Subject.{SubjectValue, Notarizes, Nullifies, Finalizes, IsSubject, name_of, message_of}
use Rattle.simplex_scheme.proofs.NamespaceLemmas.{names_apart}

-- one encoding is one value's
one_value : {T : Type 0} (format : Format T) → IsLawful format → (x y : T) → format.is_value x → format.is_value y →
    format.encoding x ≡ format.encoding y → x ≡ y
one_value format law x y is_x is_y same = (one_encoding law x y [] [] is_x is_y (ap (λ bytes. bytes ++ []) same)).0

pub one_subject : {D : Type 0} (payload : Format D) → IsLawful payload → (base : List ℕ) (these those : SubjectValue D) →
    IsSubject payload these → IsSubject payload those → name_of (names_of base) these ≡ name_of (names_of base) those →
    message_of payload these ≡ message_of payload those → these ≡ those
one_subject payload law base (Notarizes p) (Notarizes q) is is' name message =
    ap (λ r. Notarizes r) (one_value (proposal_format payload) (proposal_lawful payload law) p q is is' message)
one_subject payload law base (Notarizes p) (Nullifies r) is is' name message = absurd ((names_apart base base).notarize.0 name)
one_subject payload law base (Notarizes p) (Finalizes q) is is' name message = absurd ((names_apart base base).notarize.1 name)
one_subject payload law base (Nullifies r) (Notarizes p) is is' name message = absurd ((names_apart base base).nullify.0 name)
one_subject payload law base (Nullifies r) (Nullifies s) is is' name message =
    ap (λ t. Nullifies t) (one_value round_format round_lawful r s is is' message)
one_subject payload law base (Nullifies r) (Finalizes p) is is' name message = absurd ((names_apart base base).nullify.1 name)
one_subject payload law base (Finalizes p) (Notarizes q) is is' name message = absurd ((names_apart base base).finalize.0 name)
one_subject payload law base (Finalizes p) (Nullifies r) is is' name message = absurd ((names_apart base base).finalize.1 name)
one_subject payload law base (Finalizes p) (Finalizes q) is is' name message =
    ap (λ r. Finalizes r) (one_value (proposal_format payload) (proposal_lawful payload law) p q is is' message)
