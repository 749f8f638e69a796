-- The recorded votes are among the votes so far, so what is recorded of valid votes is known to be valid.
use Rattle.simplex_rules.proofs.Prelude.{All, All-append, All-contains, Bool, Contains, List, None, Option, Round, Rules, Schedule, Scheme, SignedVote, Slot, Some, and_parts, ap, committee_of, excludes, filter, filter_passes, find, flat_map, inl, inr, is_at, is_valid, kind_of, other_than, round_of, rules_of, sym, true, valid_by, valid_votes, votes_in, ℕ, ◌&&◌, ◌++◌, ◌∙◌, ◌≡◌}
use Rattle.simplex_ballots.specs.Rounds.{HoldsRound, IsRecorded}
use Rattle.simplex_ballots.specs.declared.round_votes.RoundVotes.{RoundVotes}
use Rattle.simplex_scheme.specs.Known.{AreValid}
use Rattle.simplex_evidence.specs.declared.types.activity.Activity.{Activity}
use Rattle.simplex_rules.proofs.Lists.{found}
use Rattle.simplex_rules.proofs.Places.{Spot, is_at-true}

module _ {S D P G : Type 0} (eq : D → D → Bool) (n : ℕ) (vs : List (SignedVote D G)) (round : Round)
    (recorded : RoundVotes S D P G) (holds : HoldsRound eq n vs round recorded) (v : SignedVote D G) where
  -- it is one of the votes so far, and of the round
  abbrev IsAmong : Type 0
  IsAmong = Contains vs v × (round_of v.subject ≡ round)

  -- what is at its place has the round
  at_place : Contains vs v → is_at (kind_of v.subject) round v.signer v ≡ true → IsAmong
  at_place v_in at =
      let here : Spot = record { kind = kind_of v.subject; round = round; signer = v.signer } in
      (v_in, ap (λ (s : Spot). s.round) (is_at-true here v at))

  -- an earliest vote
  earliest_among : find (is_at (kind_of v.subject) round v.signer) vs ≡ Some v → IsAmong
  earliest_among e =
      let one = found (is_at (kind_of v.subject) round v.signer) vs v e in at_place one.0 one.1

  -- another vote
  other_among : (first : Option (SignedVote D G)) → other_than eq vs (kind_of v.subject) round v.signer first ≡ Some v → IsAmong
  other_among None e = absurd cc
  other_among (Some w) e =
      let one = found (λ u. is_at (kind_of v.subject) round v.signer u && excludes eq w.subject u.subject) vs v e in
      at_place one.0 (and_parts (is_at (kind_of v.subject) round v.signer v) (excludes eq w.subject v.subject) one.1).0

  -- a recorded vote
  pub recorded_among : IsRecorded recorded v → IsAmong
  recorded_among (inl e) =
      earliest_among (ap (λ (s : Slot D G). s.earliest) (sym (holds.held v.signer (kind_of v.subject))) ∙ e)
  recorded_among (inr e) =
      other_among (find (is_at (kind_of v.subject) round v.signer) vs)
      (ap (λ (s : Slot D G). s.other) (sym (holds.held v.signer (kind_of v.subject))) ∙ e)

-- each vote is valid by the rules
abbrev pub EachValid : {S D C P G : Type 0} → Rules S D C P G → List (SignedVote D G) → Type 0
EachValid rules vs = All (λ v. is_valid rules v ≡ true) vs

-- each valid vote is
pub each_valid : {S D C P G : Type 0} (rules : Rules S D C P G) (messages : List (Activity S D C P G)) →
    EachValid rules (valid_votes rules messages)
each_valid rules messages = filter_passes (is_valid rules) (flat_map (votes_in rules.listed) messages)

-- and those that are appended
pub each_appended : {S D C P G : Type 0} (rules : Rules S D C P G) (vs more : List (SignedVote D G)) → EachValid rules vs →
    EachValid rules (vs ++ filter (is_valid rules) more)
each_appended {S} {D} {C} {P} {G} rules vs more valid =
    All-append (λ (v : SignedVote D G). is_valid rules v ≡ true) vs (filter (is_valid rules) more) valid
    (filter_passes (is_valid rules) more)

-- what is recorded in a round is valid under the committee
abbrev pub RecordsAreValid : {S D C P G : Type 0} → Scheme S D C P G → S → RoundVotes S D P G → Type 0
RecordsAreValid scheme s recorded =
    AreValid
    (λ x signer signature. IsRecorded recorded (record { subject = x; signer = signer; signature = signature }))
    (scheme.good s)

-- so it is if the votes so far are
pub records_are_valid : {S D C P G : Type 0} (scheme : Scheme S D C P G) (s : S) (round : Round) (schedule : Schedule S) →
    committee_of schedule round.epoch ≡ Some s → (vs : List (SignedVote D G)) → EachValid (rules_of scheme schedule) vs →
    (n : ℕ) (recorded : RoundVotes S D P G) → HoldsRound scheme.eq n vs round recorded → RecordsAreValid scheme s recorded
records_are_valid {S} {D} {C} {P} {G} scheme s round schedule is vs valid n recorded holds x signer signature known =
    let v : SignedVote D G = record { subject = x; signer = signer; signature = signature } in
    let among = recorded_among scheme.eq n vs round recorded holds v known in
    let passes = All-contains (λ (w : SignedVote D G). is_valid (rules_of scheme schedule) w ≡ true) vs v valid among.0 in
    sym (ap (λ o. valid_by scheme.good o x signer signature) (ap (λ (r : Round). committee_of schedule r.epoch) among.1 ∙ is))
    ∙ passes
