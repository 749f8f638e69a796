-- What is recorded of a part of the rounds.
use Rattle.simplex_rules.proofs.Prelude.{Activity, All, Bool, List, None, Option, Round, Rules, SignedVote, Slot, Some, SubjectValue, VoteKind, and_parts, ap, are_split, certified_subjects, false, false_from_ne_true, false≢true, filter, find, first_certified, in_rounds, is_at, kind_of, other_than, refl, round_of, same_kind, same_round, slot_of, sym, true, valid_votes, ℕ, ◌∙◌, ◌≡◌}
use Rattle.simplex_rules.specs.Independence.{IsOfOneRound, of_rounds}
use Rattle.simplex_rules.specs.Interchange.{HaveSameState}
use Rattle.simplex_rules.proofs.Filters.{filter_filtered, find_filtered}
use Rattle.simplex_rules.proofs.PartLemmas.{is_subject_of, is_vote_of, split-within, split-from_within, subjects_in_rounds, votes_in_rounds}
use Rattle.simplex_laws.proofs.IndependenceLemmas.{subjects_of_rounds, votes_of_rounds}
use Rattle.simplex_rules.proofs.Lists.{Contains-from_filter, none_found}
use Rattle.simplex_rules.proofs.Places.{is_at-true, same_round-true}

-- the slot without a vote
abbrev empty_slot : {D G : Type 0} → Slot D G
empty_slot = record { earliest = None; other = None }

module _ {D G : Type 0} (eq : D → D → Bool) (part : Round → Bool) (kind : VoteKind) (round : Round) (signer : ℕ) where
  -- a vote of the slot is of its round
  round_at : (v : SignedVote D G) → is_at kind round signer v ≡ true → round_of v.subject ≡ round
  round_at v h i = (is_at-true (record { kind = kind; round = round; signer = signer }) v h i).round

  -- a slot of the part is that of all votes
  slot_within : (vs : List (SignedVote D G)) → part round ≡ true →
      slot_of eq (filter (is_vote_of part) vs) kind round signer ≡ slot_of eq vs kind round signer
  slot_within vs here =
      let at : SignedVote D G → Bool = is_at kind round signer in
      let first : find at (filter (is_vote_of part) vs) ≡ find at vs =
      find_filtered at (is_vote_of part) (λ v h. ap part (round_at v h) ∙ here) vs in
      let other = ap (other_than eq (filter (is_vote_of part) vs) kind round signer) first ∙ others (find at vs) in
      λ i. record { earliest = first i; other = other i }
    where
      others : (o : Option (SignedVote D G)) → other_than eq (filter (is_vote_of part) vs) kind round signer o
          ≡ other_than eq vs kind round signer o
      others None = refl
      others (Some v) = find_filtered _ (is_vote_of part) (λ w h. ap part (round_at w (and_parts _ _ h).0) ∙ here) vs

  -- another slot is empty
  slot_without : (vs : List (SignedVote D G)) → part round ≡ false →
      slot_of eq (filter (is_vote_of part) vs) kind round signer ≡ empty_slot
  slot_without vs out =
      let at : SignedVote D G → Bool = is_at kind round signer in
      let none : find at (filter (is_vote_of part) vs) ≡ None = none_found at (filter (is_vote_of part) vs)
      (λ v v_in h.
      false≢true (sym out ∙ sym (ap part (round_at v h)) ∙ (Contains-from_filter (is_vote_of part) vs v v_in).1)) in
      λ i. record { earliest = none i; other = other_than eq (filter (is_vote_of part) vs) kind round signer (none i) }

  -- so slots that are the same stay so
  same_within : (vs ws : List (SignedVote D G)) → slot_of eq vs kind round signer ≡ slot_of eq ws kind round signer →
      slot_of eq (filter (is_vote_of part) vs) kind round signer ≡ slot_of eq (filter (is_vote_of part) ws) kind round signer
  same_within vs ws same = by (part round) refl
    where
      by : (b : Bool) → part round ≡ b → slot_of eq (filter (is_vote_of part) vs) kind round signer
          ≡ slot_of eq (filter (is_vote_of part) ws) kind round signer
      by true here = slot_within vs here ∙ same ∙ sym (slot_within ws here)
      by false out = slot_without vs out ∙ sym (slot_without ws out)

module _ {D : Type 0} (eq : D → D → Bool) (part : Round → Bool) (round : Round) where
  -- a round without the part is not split by it
  whole_without : (xs : List (SubjectValue D)) → part round ≡ false →
      are_split eq (filter (is_subject_of part) xs) round ≡ false
  whole_without xs out =
      false_from_ne_true _ (λ h. false≢true (sym out ∙ split-from_within eq part xs round h))

  -- rounds that are split alike stay so
  split_alike : (xs ys : List (SubjectValue D)) → are_split eq xs round ≡ are_split eq ys round →
      are_split eq (filter (is_subject_of part) xs) round ≡ are_split eq (filter (is_subject_of part) ys) round
  split_alike xs ys same = by (part round) refl
    where
      by : (b : Bool) → part round ≡ b → are_split eq (filter (is_subject_of part) xs) round
          ≡ are_split eq (filter (is_subject_of part) ys) round
      by true here = split-within eq part xs round here ∙ same ∙ sym (split-within eq part ys round here)
      by false out = whole_without xs out ∙ sym (whole_without ys out)

  -- the first of a kind in a round of the part is that of all
  first_within : (kind : VoteKind) (xs : List (SubjectValue D)) → part round ≡ true →
      first_certified (filter (is_subject_of part) xs) round kind ≡ first_certified xs round kind
  first_within kind xs here =
      find_filtered _ (is_subject_of part) (λ x h. ap part (same_round-true (round_of x) round
      (and_parts (same_kind (kind_of x) kind) (same_round (round_of x) round) h).1) ∙ here) xs

  -- in another round there is none
  first_without : (kind : VoteKind) (xs : List (SubjectValue D)) → part round ≡ false →
      first_certified (filter (is_subject_of part) xs) round kind ≡ None
  first_without kind xs out =
      none_found _ (filter (is_subject_of part) xs) (λ x x_in h. false≢true (sym out
      ∙ sym (ap part (same_round-true (round_of x) round
      (and_parts (same_kind (kind_of x) kind) (same_round (round_of x) round) h).1))
      ∙ (Contains-from_filter (is_subject_of part) xs x x_in).1))

  -- so the first of a kind is the same if it was
  first_alike : (xs ys : List (SubjectValue D)) → (are_split eq xs round ≡ false → (kind : VoteKind) →
      first_certified xs round kind ≡ first_certified ys round kind) →
      are_split eq (filter (is_subject_of part) xs) round ≡ false → (kind : VoteKind) →
      first_certified (filter (is_subject_of part) xs) round kind ≡ first_certified (filter (is_subject_of part) ys) round kind
  first_alike xs ys same whole kind = by (part round) refl
    where
      by : (b : Bool) → part round ≡ b → first_certified (filter (is_subject_of part) xs) round kind
          ≡ first_certified (filter (is_subject_of part) ys) round kind
      by true here =
          first_within kind xs here ∙ same (sym (split-within eq part xs round here) ∙ whole) kind
          ∙ sym (first_within kind ys here)
      by false out = first_without kind xs out ∙ sym (first_without kind ys out)

module _ {S D C P G : Type 0} (rules : Rules S D C P G) (part : Round → Bool) where
  -- messages with the same state have the same state of a part of the rounds
  pub state_in_part : (messages others : List (Activity S D C P G)) → HaveSameState rules messages others →
      HaveSameState (in_rounds part rules) messages others
  state_in_part messages others same =
      let votes = votes_in_rounds rules part messages in
      let other_votes = votes_in_rounds rules part others in
      let subjects = subjects_in_rounds rules part messages in
      let other_subjects = subjects_in_rounds rules part others in
      record {
        votes = λ kind round signer.
            ap (λ vs. slot_of rules.eq vs kind round signer) votes
            ∙ same_within rules.eq part kind round signer (valid_votes rules messages) (valid_votes rules others)
            (same.votes kind round signer)
            ∙ sym (ap (λ vs. slot_of rules.eq vs kind round signer) other_votes);
        splits = λ round.
            ap (λ xs. are_split rules.eq xs round) subjects
            ∙ split_alike rules.eq part round (certified_subjects rules messages) (certified_subjects rules others)
            (same.splits round)
            ∙ sym (ap (λ xs. are_split rules.eq xs round) other_subjects);
        firsts = λ round whole kind.
            ap (λ xs. first_certified xs round kind) subjects
            ∙ first_alike rules.eq part round (certified_subjects rules messages) (certified_subjects rules others)
            (same.firsts round) (sym (ap (λ xs. are_split rules.eq xs round) subjects) ∙ whole) kind
            ∙ sym (ap (λ xs. first_certified xs round kind) other_subjects);
      }

  -- the messages of the part have the state of the part
  pub state_of_rounds : (messages : List (Activity S D C P G)) → All (IsOfOneRound rules.listed) messages →
      HaveSameState (in_rounds part rules) (of_rounds part messages) messages
  state_of_rounds messages one =
      let votes : valid_votes (in_rounds part rules) (of_rounds part messages) ≡ valid_votes (in_rounds part rules) messages =
      votes_in_rounds rules part (of_rounds part messages)
      ∙ ap (filter (is_vote_of part)) (votes_of_rounds rules part messages one)
      ∙ filter_filtered (is_vote_of part) (is_vote_of part) (λ v h. h) (valid_votes rules messages)
      ∙ sym (votes_in_rounds rules part messages) in
      let subjects : certified_subjects (in_rounds part rules) (of_rounds part messages)
      ≡ certified_subjects (in_rounds part rules) messages =
      subjects_in_rounds rules part (of_rounds part messages)
      ∙ ap (filter (is_subject_of part)) (subjects_of_rounds rules part messages)
      ∙ filter_filtered (is_subject_of part) (is_subject_of part) (λ x h. h) (certified_subjects rules messages)
      ∙ sym (subjects_in_rounds rules part messages) in
      record {
        votes = λ kind round signer. ap (λ vs. slot_of rules.eq vs kind round signer) votes;
        splits = λ round. ap (λ xs. are_split rules.eq xs round) subjects;
        firsts = λ round whole kind. ap (λ xs. first_certified xs round kind) subjects;
      }
