-- Rounds whose certificates contradict, and how many participants are accused there.
use Rattle.std.specs.Prelude.{◌≡◌, ℕ, ◌+◌, Bool, ◌&&◌, ◌||◌, List, [], ◌∷◌, map, filter, nat_eq, Option, Some, None, All, Contains, IsTrue, if◌then◌else◌, codes, decimal}
use Rattle.std.specs.List.{list_any}
use Rattle.std.specs.Option.{is_some}
use Rattle.std.specs.List.Sorted.{IsStrictlySortedBy}
use Rattle.std.specs.Set.{distinct_count}
use Rattle.simplex_base.specs.Positions.{Round, same_round}
use Rattle.simplex_scheme.specs.Committee.{faults_of}
use Rattle.simplex_scheme.specs.Subject.{SubjectValue}
use Rattle.simplex_votes.specs.Votes.{SignedVote}
use Rattle.simplex_evidence.specs.Contradiction.{Conflicting_notarize, Conflicting_finalize, Nullify_finalize}
use Rattle.simplex_evidence.specs.Activity.{activity_round, subject_and_certificate}
use Rattle.simplex_evidence.specs.declared.types.activity.Activity.{Activity}
use Rattle.simplex_rules.specs.Accusation.{is_accused, round_cmp}
use Rattle.simplex_rules.specs.Rules.{Rules, valid_votes}
use Rattle.simplex_rules.specs.Certificates.{messages_contradict}
use Rattle.simplex_rules.specs.Line.{parted}
use Rattle.simplex_rules.specs.declared.split.Split.{Split}

-- ---- what messages certify

module _ {S D C P G : Type 0} (rules : Rules S D C P G) where
  -- the subject of a certificate, if the certificate certifies it
  abbrev pub if_certified : Option (SubjectValue D × C) → Option (SubjectValue D)
  if_certified None = None
  if_certified (Some s) = if rules.certified s.0 s.1 then Some s.0 else None

  -- what a message certifies, if it has a certificate and that certifies its subject
  abbrev pub certified_in : Activity S D C P G → Option (SubjectValue D)
  certified_in message = if_certified (subject_and_certificate message)

  -- whether a message has a certificate that certifies its subject
  abbrev pub is_certified_message : Activity S D C P G → Bool
  is_certified_message message = is_some (certified_in message)

-- ---- who is accused in a round

module _ {D G : Type 0} (eq : D → D → Bool) (vs : List (SignedVote D G)) (round : Round) where
  -- whether a signer is accused in a round, for any kind of contradiction
  abbrev pub is_accused_in : ℕ → Bool
  is_accused_in signer =
      is_accused eq vs (record { round = round; signer = signer; kind = Conflicting_notarize }) ||
      (is_accused eq vs (record { round = round; signer = signer; kind = Conflicting_finalize }) ||
      is_accused eq vs (record { round = round; signer = signer; kind = Nullify_finalize }))

  -- how many distinct signers are accused in a round
  abbrev pub accused_count : ℕ
  accused_count = distinct_count nat_eq (filter is_accused_in (map (λ v. v.signer) vs))

-- ---- splits

module _ {S D C P G : Type 0} (rules : Rules S D C P G) (messages : List (Activity S D C P G)) where
  -- whether a round is split: two of the messages, of that round, contradict, and both are certified
  abbrev pub is_split : Round → Bool
  is_split round =
      list_any (λ m. (same_round (activity_round m) round && is_certified_message rules m)
      && list_any (λ k. is_certified_message rules k && messages_contradict rules.eq m k) messages) messages

  -- the split of a round, if it is split: how many are accused in it, and one more than may lie in its committee
  abbrev pub split_of : Round → Option Split
  split_of round =
      if is_split round
      then Some (record {
        round = round;
        named = accused_count rules.eq (valid_votes rules messages) round;
        least = faults_of (rules.size round.epoch) + 1;
      })
      else None

  -- the splits of the messages: in the order of rounds, each that of its round, and no split round left out
  pub record AreSplits (splits : List Split) : Type 0 where
    pub ordered : IsStrictlySortedBy round_cmp (map (λ s. s.round) splits)
    pub sound : All (λ s. split_of s.round ≡ Some s) splits
    pub complete : (round : Round) → IsTrue (is_split round) → Contains (map (λ s. s.round) splits) round

-- ---- the line of a split

-- epoch, view, the word `split`, how many are accused, and one more than may lie
abbrev pub split_line : Split → List ℕ
split_line s = parted (decimal s.round.epoch ∷ decimal s.round.view ∷ codes "split" ∷ decimal s.named ∷ decimal s.least ∷ [])
