-- No more votes of messages are recorded than their encodings have bytes.
use Rattle.simplex_rules.proofs.Prelude.{Activity, Attestation, Bool, Format, List, Rules, SignedVote, [], activity_encoding, arith, cond, count_by-le-length, false, flat_map, groups_some, is_news, is_valid, length, length-append, length-filter, length-map, map, news_after, suc, true, valid_votes, votes_in, votes_recorded, ℕ, ◌++◌, ◌+◌, ◌∷◌, ◌≤◌, Notarizes, Nullifies, Finalizes, vote_on}
use Rattle.simplex_evidence.specs.declared.types.activity.Activity.TheVariants as activity

news_among : {D G : Type 0} (eq : D → D → Bool) (before vs : List (SignedVote D G)) →
    length (news_after eq before vs) ≤ length vs
news_among eq before [] = omega arith
news_among eq before (v ∷ vs) =
    let first = elim (is_news eq before v) as (λ b. length (cond b (v ∷ []) [] ++ news_after eq (before ++ v ∷ []) vs)
    ≤ length (news_after eq (before ++ v ∷ []) vs) + 1) [ true ↦ omega arith | false ↦ omega arith ] in
    let others = news_among eq (before ++ v ∷ []) vs in
    omega arith

front_some : (front rest : List ℕ) → 1 ≤ length front → 1 ≤ length (front ++ rest)
front_some front rest some = omega (arith, length-append front rest)

-- behind a prefix, the votes of a list of attestations that the bytes have room for
votes_behind : {X Y : Type 0} (vote : X → Y) (xs : List X) (front bytes : List ℕ) → length xs ≤ length bytes →
    length (map vote xs) ≤ suc (length (front ++ bytes))
votes_behind vote xs front bytes room = omega (arith, length-map xs vote, length-append front bytes)

-- two votes whose encodings begin with a prefix that is not empty
two_behind : (front mid rest : List ℕ) → 1 ≤ length front → 2 ≤ suc (length ((front ++ mid) ++ rest))
two_behind front mid rest some = omega (arith, length-append (front ++ mid) rest, length-append front mid)

module _ {S D C P G : Type 0} (eq : D → D → Bool) (payload : Format D) (certificate : C → List ℕ) (signature : Format G)
    (listed : C → List (Attestation S P G)) (room : (c : C) → length (listed c) ≤ length (certificate c)) where
  message_has_room : (m : Activity S D C P G) →
      length (votes_in listed m) ≤ length (activity_encoding eq payload certificate signature m)
  message_has_room (activity.Notarize v) = omega arith
  message_has_room (activity.Notarization n) =
      votes_behind (vote_on (Notarizes n.proposal)) (listed n.certificate) _ _ (room n.certificate)
  message_has_room (activity.Certification n) =
      votes_behind (vote_on (Notarizes n.proposal)) (listed n.certificate) _ _ (room n.certificate)
  message_has_room (activity.Nullify v) = omega arith
  message_has_room (activity.Nullification n) =
      votes_behind (vote_on (Nullifies n.round)) (listed n.certificate) _ _ (room n.certificate)
  message_has_room (activity.Finalize v) = omega arith
  message_has_room (activity.Finalization n) =
      votes_behind (vote_on (Finalizes n.proposal)) (listed n.certificate) _ _ (room n.certificate)
  message_has_room (activity.ConflictingNotarize c) =
      two_behind _ _ _ (front_some _ _ (front_some _ _ (groups_some 9 c.first.proposal.round.epoch)))
  message_has_room (activity.ConflictingFinalize c) =
      two_behind _ _ _ (front_some _ _ (front_some _ _ (groups_some 9 c.first.proposal.round.epoch)))
  message_has_room (activity.NullifyFinalize c) = two_behind _ _ _ (front_some _ _ (groups_some 9 c.first.round.epoch))

  messages_have_room : (messages : List (Activity S D C P G)) → length (flat_map (votes_in listed) messages)
      ≤ length (flat_map (activity_encoding eq payload certificate signature) messages)
  messages_have_room [] = omega arith
  messages_have_room (m ∷ messages) =
      let first = message_has_room m in
      let others = messages_have_room messages in
      omega (
        arith,
        length-append (votes_in listed m) (flat_map (votes_in listed) messages),
        length-append (activity_encoding eq payload certificate signature m)
            (flat_map (activity_encoding eq payload certificate signature) messages),
      )

-- no more votes are recorded than the encodings of all messages have bytes
pub recorded_have_room : {S D C P G : Type 0} (rules : Rules S D C P G) (eq : D → D → Bool) (payload : Format D)
    (certificate : C → List ℕ) (signature : Format G) → ((c : C) → length (rules.listed c) ≤ length (certificate c)) →
    (messages : List (Activity S D C P G)) →
    votes_recorded eq (valid_votes rules messages)
    ≤ length (flat_map (activity_encoding eq payload certificate signature) messages)
recorded_have_room rules eq payload certificate signature room messages =
    let votes = flat_map (votes_in rules.listed) messages in
    let recorded = news_among eq [] (valid_votes rules messages) in
    let good = length-filter (is_valid rules) votes in
    let few = count_by-le-length (is_valid rules) votes in
    let all = messages_have_room eq payload certificate signature rules.listed room messages in
    omega arith
