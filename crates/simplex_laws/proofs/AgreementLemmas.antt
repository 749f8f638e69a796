-- Messages that agree on what suspects signed have the same evidence and the same splits.
use Rattle.simplex_rules.proofs.Prelude.{Activity, AreLawful, AreSplits, Bool, Conflicting_finalize, Conflicting_notarize, Equivocation, IsEvidence, List, Accusation, None, Nullify_finalize, Round, Rules, SignedVote, Some, Suspected, [], accused_count, ap, are_split, certified_subjects, claimed, cond, contradicts, false, faults_of, filter, flat_map, is_accused, is_accused_in, is_of, is_suspect, is_suspect_round, is_valid, list_any, ltb-true, map, nat_lt, refl, round_of, split_of, subst, sym, true, valid_votes, votes_in, ℕ, ◌&&◌, ◌+◌, ◌<◌, ◌||◌, ◌∙◌, ◌∷◌, ◌≡◌}
use Rattle.simplex_rules.specs.declared.split.Split.{Split}
use Rattle.simplex_rules.specs.Agreement.{AgreeOnSuspects, SuspectsDecide, claim_of, claims_of}
use Rattle.simplex_rules.proofs.AccountLemmas.{kind_from_accused_in}
use Rattle.simplex_rules.proofs.EvidenceLemmas.{valid_from, votes_from_accused}
use Rattle.simplex_rules.proofs.Places.{is_of-true}
use Rattle.simplex_rules.proofs.SplitLemmas.{from_subjects, moved_splits}
use Rattle.simplex_laws.proofs.SuspectLemmas.{AreSuspect, accused_is_claimed, among, certified_among, claimed_is_suspect, here, suspected, suspects_determine_reports}

-- ---- messages that claim the same votes

any_map : {X Y : Type 0} (p : Y → Bool) (f : X → Y) (xs : List X) → list_any p (map f xs) ≡ list_any (λ x. p (f x)) xs
any_map p f [] = refl
any_map p f (x ∷ xs) = ap (λ b. p (f x) || b) (any_map p f xs)

map_filter : {X Y : Type 0} (p : Y → Bool) (f : X → Y) (xs : List X) → map f (filter (λ x. p (f x)) xs) ≡ filter p (map f xs)
map_filter p f [] = refl
map_filter p f (x ∷ xs) =
    elim (p (f x)) as (λ b. map f (cond b (x ∷ filter (λ y. p (f y)) xs) (filter (λ y. p (f y)) xs))
    ≡ cond b (f x ∷ filter p (map f xs)) (filter p (map f xs))) [
      | true ↦ ap (λ ys. f x ∷ ys) (map_filter p f xs)
      | false ↦ map_filter p f xs
    ]

-- whom votes accuse is determined by what they claim
accused_by_claims : {D G : Type 0} (eq : D → D → Bool) (vs : List (SignedVote D G)) (n : Accusation) →
    is_accused eq (map claim_of vs) n ≡ is_accused eq vs n
accused_by_claims eq vs n =
    any_map (λ c. is_of n.round n.signer c && list_any (contradicts eq n.kind c) (map claim_of vs)) claim_of vs
    ∙ λ i. list_any (λ v. is_of n.round n.signer v && any_map (contradicts eq n.kind (claim_of v)) claim_of vs i) vs

module _ {S D C P G : Type 0} (rules : Rules S D C P G) where
  -- the claimed votes of messages, without their signatures
  abbrev claims_in : List (SignedVote D Unit) → List (SignedVote D Unit)
  claims_in cs = filter (λ c. nat_lt c.signer (rules.size (round_of c.subject).epoch)) cs

  claimed_claims : (ms : List (Activity S D C P G)) →
      map claim_of (valid_votes (claimed rules) ms) ≡ claims_in (claims_of rules ms)
  claimed_claims ms =
      map_filter (λ c. nat_lt c.signer (rules.size (round_of c.subject).epoch)) claim_of (flat_map (votes_in rules.listed) ms)

  accused_in_claims : (ms : List (Activity S D C P G)) (n : Accusation) →
      is_accused rules.eq (valid_votes (claimed rules) ms) n ≡ is_accused rules.eq (claims_in (claims_of rules ms)) n
  accused_in_claims ms n =
      sym (accused_by_claims rules.eq (valid_votes (claimed rules) ms) n)
      ∙ ap (λ cs. is_accused rules.eq cs n) (claimed_claims ms)

  suspect_in_claims : (ms : List (Activity S D C P G)) (round : Round) (signer : ℕ) →
      is_suspect rules ms round signer ≡ is_accused_in rules.eq (claims_in (claims_of rules ms)) round signer
  suspect_in_claims ms round signer i =
      accused_in_claims ms (record { round = round; signer = signer; kind = Conflicting_notarize }) i
      || (accused_in_claims ms (record { round = round; signer = signer; kind = Conflicting_finalize }) i
      || accused_in_claims ms (record { round = round; signer = signer; kind = Nullify_finalize }) i)

  module _ (messages others : List (Activity S D C P G)) (same : claims_of rules others ≡ claims_of rules messages) where
    -- messages that claim the same votes have the same suspects
    same_suspects : (round : Round) (signer : ℕ) → is_suspect rules others round signer ≡ is_suspect rules messages round signer
    same_suspects round signer =
        suspect_in_claims others round signer
        ∙ (ap (λ cs. is_accused_in rules.eq (claims_in cs) round signer) same ∙ sym (suspect_in_claims messages round signer))

    -- and the same suspect rounds
    same_suspect_rounds : (round : Round) → is_suspect_round rules others round ≡ is_suspect_round rules messages round
    same_suspect_rounds round =
        let any : (ms : List (Activity S D C P G)) →
        is_suspect_round rules ms round ≡ list_any (λ c. is_suspect rules ms round c.signer) (claims_in (claims_of rules ms)) =
        λ ms.
        sym (any_map (λ c. is_suspect rules ms round c.signer) claim_of (valid_votes (claimed rules) ms))
        ∙ ap (list_any (λ c. is_suspect rules ms round c.signer)) (claimed_claims ms) in
        any others ∙ ((λ i. list_any (λ c. same_suspects round c.signer i) (claims_in (same i))) ∙ sym (any messages))

-- ---- messages that agree on suspects

module _ {S D C P G : Type 0} (rules : Rules S D C P G) (l : AreLawful rules) (messages others : List (Activity S D C P G))
    (agree : AgreeOnSuspects rules messages others) where
  abbrev suspects : Suspected
  suspects = suspected rules messages

  -- whom the others accuse is suspect
  others_are_suspect : AreSuspect rules others suspects
  others_are_suspect n h =
      let (signer, round) = claimed_is_suspect rules others n (accused_is_claimed rules l others n h) in (
        sym (same_suspects rules messages others agree.claims n.round n.signer) ∙ signer,
        sym (same_suspect_rounds rules messages others agree.claims n.round) ∙ round,
      )

  messages_are_suspect : AreSuspect rules messages suspects
  messages_are_suspect n h = claimed_is_suspect rules messages n (accused_is_claimed rules l messages n h)

  -- the valid votes among suspects are the valid ones of theirs
  valid_among : (vs : List (SignedVote D G)) →
      filter (is_valid (among rules suspects)) vs ≡ filter (is_valid rules) (filter (here suspects.signers) vs)
  valid_among [] = refl
  valid_among (v ∷ vs) =
      elim (here suspects.signers v) as (λ b. cond (b && is_valid rules v) (v ∷ filter (is_valid (among rules suspects)) vs)
      (filter (is_valid (among rules suspects)) vs)
      ≡ filter (is_valid rules) (cond b (v ∷ filter (here suspects.signers) vs) (filter (here suspects.signers) vs))) [
        | true ↦ λ i. cond (is_valid rules v) (v ∷ valid_among vs i) (valid_among vs i)
        | false ↦ valid_among vs
      ]

  same_valid : valid_votes (among rules suspects) others ≡ valid_votes (among rules suspects) messages
  same_valid =
      valid_among (flat_map (votes_in rules.listed) others)
      ∙ (ap (filter (is_valid rules)) agree.votes ∙ sym (valid_among (flat_map (votes_in rules.listed) messages)))

  same_certified : certified_subjects (among rules suspects) others ≡ certified_subjects (among rules suspects) messages
  same_certified =
      certified_among rules l messages suspects messages_are_suspect others
      ∙ (agree.certificates ∙ sym (certified_among rules l messages suspects messages_are_suspect messages))

  same_split : (round : Round) → split_of (among rules suspects) messages round ≡ split_of (among rules suspects) others round
  same_split round =
      let split = from_subjects (among rules suspects) messages round ∙ (ap (λ xs. are_split rules.eq xs round)
      (sym same_certified) ∙ sym (from_subjects (among rules suspects) others round)) in
      λ i. cond (split i) (Some (record {
        round = round;
        named = accused_count rules.eq (sym same_valid i) round;
        least = faults_of (rules.size round.epoch) + 1;
      })) None

  -- the evidence of the messages is that of the others
  agreed_evidence : (es : List (Equivocation D G)) → IsEvidence rules.eq (valid_votes rules messages) es →
      IsEvidence rules.eq (valid_votes rules others) es
  agreed_evidence es is =
      let ours = suspects_determine_reports rules l messages suspects messages_are_suspect in
      let theirs = suspects_determine_reports rules l others suspects others_are_suspect in
      (theirs.evidence es).0 (subst (λ vs. IsEvidence rules.eq vs es) (sym same_valid) ((ours.evidence es).1 is))

  -- and so are the splits
  agreed_splits : (splits : List Split) → AreSplits rules messages splits → AreSplits rules others splits
  agreed_splits splits are =
      let ours = suspects_determine_reports rules l messages suspects messages_are_suspect in
      let theirs = suspects_determine_reports rules l others suspects others_are_suspect in
      (theirs.splits splits).0 (moved_splits (among rules suspects) (among rules suspects) others messages same_split splits
      ((ours.splits splits).1 are))

-- ---- suspects decide

-- a suspect is in the committee, and its round is suspect
suspect_is_member : {S D C P G : Type 0} (rules : Rules S D C P G) (messages : List (Activity S D C P G)) (round : Round)
    (signer : ℕ) → is_suspect rules messages round signer ≡ true →
    (is_suspect_round rules messages round ≡ true) × (signer < rules.size round.epoch)
suspect_is_member rules messages round signer h =
    let vs = valid_votes (claimed rules) messages in
    let (kind, named) = kind_from_accused_in rules.eq vs round signer h in
    let (v, w, v_in, w_in, of_v, against) =
    votes_from_accused rules.eq vs (record { round = round; signer = signer; kind = kind }) named in
    let at = is_of-true round signer v of_v in
    let (m, m_in, own, valid) = valid_from (claimed rules) messages v v_in in (
      (claimed_is_suspect rules messages (record { round = round; signer = signer; kind = kind }) named).1,
      ltb-true signer (rules.size round.epoch) ((λ i. nat_lt (sym at.1 i) (rules.size (sym at.0 i).epoch)) ∙ valid),
    )

pub suspects_decide : {S D C P G : Type 0} (rules : Rules S D C P G) → AreLawful rules → SuspectsDecide rules
suspects_decide rules l = record {
  members = suspect_is_member rules;
  signers = same_suspects rules;
  rounds = same_suspect_rounds rules;
  evidence = agreed_evidence rules l;
  splits = agreed_splits rules l;
}
