-- What is held of a round is determined by the slots of its votes.
use Rattle.simplex_rules.proofs.Prelude.{Attestation, Bool, Contains, IsEquivalence, List, Round, SignedVote, Slot, VoteKind, SubjectValue, [], and_from, and_right, ap, append_assoc, arith, changes, cond, cond-false, eqb, false, false_from_ne_true, filter, filter-append, have_news, is_at, is_news, length, map, map-append, recorded_in, recorded_of, refl, round_of, same_kind, slot_of, slot_with, kind_of, subst, sym, true, vote_on, votes_in_slot, ℕ, ◌&&◌, ◌++◌, ◌+◌, ◌||◌, ◌∙◌, ◌∷◌, ◌≡◌}
use Rattle.simplex_ballots.specs.Rounds.{HoldsRound, RecordsVotes, TakesVote, is_for, no_slot, slots}
use Rattle.simplex_ballots.specs.declared.round_votes.RoundVotes.{RoundVotes}
use Rattle.simplex_rules.proofs.Lists.{Contains-cons, Contains-filter, Contains-first, Contains-none}
use Rattle.simplex_rules.proofs.Places.{is_at-from, same_round-from, same_round-true}
use Rattle.simplex_rules.proofs.RecordedLemmas.{slot_after_vote, no_news, of_round, recorded_in_push, recorded_are_slots, have_news-append}

-- ---- a round without votes

module _ {D G : Type 0} (eq : D → D → Bool) (l : IsEquivalence eq) (vs : List (SignedVote D G)) (round : Round) where
  -- where the slots of the round are empty none of its votes is recorded
  pub none_of_round : ((signer : ℕ) (kind : VoteKind) → no_slot ≡ slot_of eq vs kind round signer) → (v : SignedVote D G) →
      Contains (recorded_of eq vs) v → round_of v.subject ≡ round → ⊥
  none_of_round empty v v_in is =
      let at = is_at-from (record { kind = kind_of v.subject; round = round; signer = v.signer }) v
      (λ i. record { kind = kind_of v.subject; round = is i; signer = v.signer }) in
      Contains-none v (subst (λ ws. Contains ws v) (recorded_are_slots eq l vs (kind_of v.subject) round v.signer
      ∙ ap votes_in_slot (sym (empty v.signer (kind_of v.subject))))
      (Contains-filter (is_at (kind_of v.subject) round v.signer) (recorded_of eq vs) v v_in at))

  pub none_in_round : ((signer : ℕ) (kind : VoteKind) → no_slot ≡ slot_of eq vs kind round signer) → recorded_in eq vs round ≡ 0
  none_in_round empty =
      ap length (filter_none (of_round round) (recorded_of eq vs)
      (λ v v_in. false_from_ne_true _ (λ e. none_of_round empty v v_in (same_round-true (round_of v.subject) round e))))
    where
      filter_none : {X : Type 0} (p : X → Bool) (xs : List X) → ((x : X) → Contains xs x → p x ≡ false) → filter p xs ≡ []
      filter_none p [] h = refl
      filter_none p (x ∷ xs) h =
          cond-false (p x) (x ∷ filter p xs) (filter p xs) (h x (Contains-first x xs))
          ∙ filter_none p xs (λ y y_in. h y (Contains-cons x xs y y_in))

-- ---- what is held of a round

-- what is held of a round is determined by the slots, and by how many votes are recorded
pub same_held : {S D P G : Type 0} (eq : D → D → Bool) (n : ℕ) (vs ws : List (SignedVote D G)) (round : Round)
    (recorded : RoundVotes S D P G) →
    ((kind : VoteKind) (signer : ℕ) → slot_of eq ws kind round signer ≡ slot_of eq vs kind round signer) →
    recorded_in eq ws round ≡ recorded_in eq vs round → HoldsRound eq n vs round recorded → HoldsRound eq n ws round recorded
same_held eq n vs ws round recorded same many holds = record {
  sized = holds.sized;
  round_is = holds.round_is;
  held = λ signer kind. holds.held signer kind ∙ sym (same kind signer);
  counted = holds.counted ∙ sym many;
}

module _ {S D P G : Type 0} (eq : D → D → Bool) (l : IsEquivalence eq) (n : ℕ) (vs : List (SignedVote D G)) (v : SignedVote D G)
    (before : RoundVotes S D P G) (holds : HoldsRound eq n vs (round_of v.subject) before) where
  -- whether a vote is news is determined by its slot
  pub news_held : changes eq (slots before v.signer (kind_of v.subject)).earliest (slots before v.signer
      (kind_of v.subject)).other v.subject ≡ is_news eq vs v
  news_held = ap (λ (slot : Slot D G). changes eq slot.earliest slot.other v.subject) (holds.held v.signer (kind_of v.subject))

  -- a vote that is no news changes nothing
  pub held_no_news : changes eq (slots before v.signer (kind_of v.subject)).earliest (slots before v.signer
      (kind_of v.subject)).other v.subject ≡ false → HoldsRound eq n (vs ++ v ∷ []) (round_of v.subject) before
  held_no_news old =
      let no = sym news_held ∙ old in
      let many = ap (λ b. length (cond b (v ∷ []) [])) (and_right (of_round (round_of v.subject) v) (is_news eq vs v) no) in
      same_held eq n vs (vs ++ v ∷ []) (round_of v.subject) before
      (λ kind signer. no_news eq l vs v no (record { kind = kind; round = round_of v.subject; signer = signer }))
      (omega (arith, many, recorded_in_push eq vs v (round_of v.subject))) holds

  -- a vote that is news is taken
  pub held_after : (after : RoundVotes S D P G) → changes eq (slots before v.signer (kind_of v.subject)).earliest
      (slots before v.signer (kind_of v.subject)).other v.subject ≡ true → TakesVote eq v before after →
      HoldsRound eq n (vs ++ v ∷ []) (round_of v.subject) after
  held_after after news takes =
      let here : of_round (round_of v.subject) v ≡ true = same_round-from (round_of v.subject) (round_of v.subject) refl in
      let at_round : (kind : VoteKind) (signer : ℕ) → is_for v signer kind ≡ is_at kind (round_of v.subject) signer v =
      λ kind signer. ap (λ b. same_kind (kind_of v.subject) kind && (b && eqb v.signer signer)) (sym here) in
      record {
        sized = takes.sized n holds.sized holds.round_is;
        round_is = takes.round ∙ holds.round_is;
        held = λ signer kind.
            takes.taken n holds.sized holds.round_is news signer kind
            ∙ (λ i. cond (at_round kind signer i) (slot_with eq v (holds.held signer kind i)) (holds.held signer kind i))
            ∙ sym (slot_after_vote eq l vs v kind (round_of v.subject) signer);
        counted = takes.more n holds.sized news
            ∙ (λ i. holds.counted i + length (cond (sym (and_from _ _ here (sym news_held ∙ news)) i) (v ∷ []) []))
            ∙ sym (recorded_in_push eq vs v (round_of v.subject));
      }

-- ---- votes on a subject, one after the other

-- the valid ones of some more votes on a subject are recorded
abbrev pub RecordsMore : {S D P G : Type 0} → (D → D → Bool) → ℕ → (SubjectValue D → ℕ → G → Bool) → SubjectValue D →
    List (Attestation S P G) → Bool → RoundVotes S D P G → RoundVotes S D P G → Type 0
RecordsMore eq n good x given news before after =
    RecordsVotes eq n (round_of x) (filter (λ v. good v.subject v.signer v.signature) (map (vote_on x) given)) news before after

-- one attestation more
pub records_one_more : {S D P G : Type 0} (eq : D → D → Bool) (n : ℕ) (good : SubjectValue D → ℕ → G → Bool)
    (x : SubjectValue D) (given : List (Attestation S P G)) (a : Attestation S P G) (news one : Bool)
    (before recorded after : RoundVotes S D P G) → RecordsMore eq n good x given news before recorded →
    RecordsMore eq n good x (a ∷ []) one recorded after → RecordsMore eq n good x (given ++ a ∷ []) (news || one) before after
records_one_more {D = D} {G = G} eq n good x given a news one before recorded after some next =
    let keep : SignedVote D G → Bool = λ v. good v.subject v.signer v.signature in
    let valid = filter keep (map (vote_on x) given) in
    let last = filter keep (map (vote_on x) (a ∷ [])) in
    let together : valid ++ last ≡ filter keep (map (vote_on x) (given ++ a ∷ [])) =
    sym (filter-append keep (map (vote_on x) given) (map (vote_on x) (a ∷ [])))
    ∙ ap (filter keep) (sym (map-append (vote_on x) given (a ∷ []))) in
    record {
      held = λ vs holds. subst (λ ws. HoldsRound eq n ws (round_of x) after)
          (append_assoc vs valid last ∙ ap (λ ws. vs ++ ws) together) (next.held (vs ++ valid) (some.held vs holds));
      tells = λ vs holds. (λ i. some.tells vs holds i || next.tells (vs ++ valid) (some.held vs holds) i)
          ∙ sym (have_news-append eq vs valid last) ∙ ap (have_news eq vs) together;
    }
