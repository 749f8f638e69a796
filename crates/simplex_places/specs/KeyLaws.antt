-- When keys of votes are equal.
use Rattle.std.specs.Prelude.{◌≡◌, Bool, true, false, ◌==◌, ◌&&◌}
use Rattle.std.specs.Option.{option_eq}
use Rattle.std.proofs.Common.{ap, refl, ◌∙◌}
use Rattle.simplex_base.specs.Positions.{same_round}
use Rattle.simplex_scheme.specs.Kind.{kind_of, same_kind}
use Rattle.simplex_scheme.specs.Subject.{SubjectValue, Notarizes, Nullifies, Finalizes, round_of}
use Rattle.simplex_scheme.specs.declared.kind.VoteKind.{VoteKind}
use Rattle.simplex_votes.specs.Votes.{SignedVote, same_proposal}
use Rattle.simplex_places.specs.Votes.{proposal_of, same_subject, same_signed_vote}

twice : (a b c : Bool) → (a && ((a && b) && c)) ≡ ((a && b) && c)
twice true b c = refl
twice false b c = refl

module _ {D : Type 0} (payload_eq : D → D → Bool) where
  -- subjects of one kind, round and proposal are the same
  subjects_alike : (x y : SubjectValue D) (more : Bool) →
      (same_kind (kind_of x) (kind_of y) && (same_round (round_of x) (round_of y)
      && (option_eq (same_proposal payload_eq) (proposal_of x) (proposal_of y) && more)))
      ≡ (same_subject payload_eq x y && more)
  subjects_alike (Notarizes p) (Notarizes q) more = twice (same_round p.round q.round) _ more
  subjects_alike (Notarizes p) (Nullifies s) more = refl
  subjects_alike (Notarizes p) (Finalizes q) more = refl
  subjects_alike (Nullifies r) (Notarizes q) more = refl
  subjects_alike (Nullifies r) (Nullifies s) more = refl
  subjects_alike (Nullifies r) (Finalizes q) more = refl
  subjects_alike (Finalizes p) (Notarizes q) more = refl
  subjects_alike (Finalizes p) (Nullifies s) more = refl
  subjects_alike (Finalizes p) (Finalizes q) more = twice (same_round p.round q.round) _ more

-- if kinds are compared as kinds, keys are compared as votes
pub keys_alike : {D G : Type 0} (kind_eq : VoteKind → VoteKind → Bool) (payload_eq : D → D → Bool)
    (signature_eq : G → G → Bool) → ((k l : VoteKind) → kind_eq k l ≡ same_kind k l) → (v w : SignedVote D G) →
    (kind_eq (kind_of v.subject) (kind_of w.subject) && (same_round (round_of v.subject) (round_of w.subject)
    && (option_eq (same_proposal payload_eq) (proposal_of v.subject) (proposal_of w.subject)
    && ((v.signer == w.signer) && signature_eq v.signature w.signature))))
    ≡ same_signed_vote payload_eq signature_eq v w
keys_alike kind_eq payload_eq signature_eq alike v w =
    let signed = (v.signer == w.signer) && signature_eq v.signature w.signature in
    ap (λ (k : Bool). k && (same_round (round_of v.subject) (round_of w.subject)
    && (option_eq (same_proposal payload_eq) (proposal_of v.subject) (proposal_of w.subject) && signed)))
    (alike (kind_of v.subject) (kind_of w.subject))
    ∙ subjects_alike payload_eq v.subject w.subject signed
