-- What a vote or a certificate says, as a value.
use Rattle.std.specs.Prelude.{ℕ, List}
use Rattle.simplex_base.specs.Format.{Format}
use Rattle.simplex_base.specs.Positions.{Round, round_format}
use Rattle.simplex_scheme.specs.declared.proposal.Proposal.{Proposal}
use Rattle.simplex_scheme.specs.declared.subject.Subject as rust
use Rattle.simplex_scheme.specs.declared.subject.Subject.TheVariants as variants
use Rattle.simplex_scheme.specs.Namespace.{Names}
use Rattle.simplex_scheme.specs.Proposal.{proposal_format}

-- what a vote or a certificate says, wherever it borrows it from
pub data SubjectValue (D : Type 0) : Type 0 where
  Notarizes : Proposal D → SubjectValue D
  Nullifies : Round → SubjectValue D
  Finalizes : Proposal D → SubjectValue D

abbrev pub subject_value : {D : Type 0} → rust.Subject D → SubjectValue D
subject_value (variants.Notarize p) = Notarizes p.now
subject_value (variants.Nullify r) = Nullifies r
subject_value (variants.Finalize p) = Finalizes p.now

-- the round that a subject is of
abbrev pub round_of : {D : Type 0} → SubjectValue D → Round
round_of (Notarizes p) = p.round
round_of (Nullifies r) = r
round_of (Finalizes p) = p.round

-- its numbers and its payload are within their types
abbrev pub IsSubject : {D : Type 0} → Format D → SubjectValue D → Type 0
IsSubject payload (Notarizes p) = (proposal_format payload).is_value p
IsSubject payload (Nullifies r) = round_format.is_value r
IsSubject payload (Finalizes p) = (proposal_format payload).is_value p

-- the name under which it is signed, by its kind
abbrev pub name_of : {D : Type 0} → Names → SubjectValue D → List ℕ
name_of names (Notarizes p) = names.notarize
name_of names (Nullifies r) = names.nullify
name_of names (Finalizes p) = names.finalize

-- the message that is signed: the encoding of the proposal or the round
abbrev pub message_of : {D : Type 0} → Format D → SubjectValue D → List ℕ
message_of payload (Notarizes p) = (proposal_format payload).encoding p
message_of payload (Nullifies r) = round_format.encoding r
message_of payload (Finalizes p) = (proposal_format payload).encoding p
