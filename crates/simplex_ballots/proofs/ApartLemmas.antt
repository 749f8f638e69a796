-- Which votes on a subject are gathered, one after the other, and what is kept of a message.
use Rattle.simplex_rules.proofs.Prelude.{Activity, Attestation, Bool, List, SignedVote, SubjectValue, [], ap, append-nil, append_assoc, arith, cond, false, false≢true, filter, filter-append, have_news, is_news, length, map, map-append, news_after, not, refl, round_of, sym, true, vote_on, ℕ, ◌&&◌, ◌++◌, ◌||◌, ◌∙◌, ◌∷◌, ◌≡◌, ◌≤◌}
use Rattle.simplex_ballots.specs.declared.round_votes.RoundVotes.{RoundVotes}
use Rattle.simplex_ballots.specs.Kept.{GathersVotes, kept_from}
use Rattle.simplex_rules.specs.News.{message_on, vote_message}
use Rattle.simplex_ballots.specs.declared.apart.Apart.{Apart}
use Rattle.simplex_rules.proofs.RecordedLemmas.{news_after-append}
use Rattle.simplex_ballots.proofs.HeldLemmas.{RecordsMore}

-- nothing is gathered where there is nothing to gather
pub gathers_nothing : {X : Type 0} (xs : List X) (wanted : Bool) → xs ≡ xs ++ cond wanted [] []
gathers_nothing xs true = sym (append-nil xs)
gathers_nothing xs false = sym (append-nil xs)

-- ---- votes on a subject, one after the other

-- the valid ones of some votes on a subject are gathered if they are news
abbrev pub GathersMore : {S D C P G : Type 0} → (D → D → Bool) → ℕ → (SubjectValue D → ℕ → G → Bool) → SubjectValue D →
    List (Attestation S P G) → Bool → RoundVotes S D P G → Apart S D C P G → Apart S D C P G → Type 0
GathersMore eq n good x given known held before after =
    GathersVotes eq n (round_of x) (filter (λ v. good v.subject v.signer v.signature) (map (vote_on x) given)) known held before
    after

-- one vote at most, if it is news
one_gathered : {S D C P G : Type 0} (eq : D → D → Bool) (vs : List (SignedVote D G)) (v : SignedVote D G) (b news : Bool) →
    news ≡ have_news eq vs (cond b (v ∷ []) []) →
    cond news (vote_message {S = S} {C = C} {P = P} v ∷ []) [] ≡ map vote_message (news_after eq vs (cond b (v ∷ []) []))
one_gathered {S} {D} {C} {P} {G} eq vs v true news told =
    (elim (is_news eq vs v) as (λ k. news ≡ (k || false) →
    cond news (vote_message {S = S} {C = C} {P = P} v ∷ []) [] ≡ map vote_message (cond k (v ∷ []) [] ++ []))
    [ true ↦ λ e. ap (λ k. cond k (vote_message v ∷ []) []) e | false ↦ λ e. ap (λ k. cond k (vote_message v ∷ []) []) e ])
    told
one_gathered eq vs v false news told = ap (λ k. cond k (vote_message v ∷ []) []) told

-- more elements are appended where elements are
appended_if : {X : Type 0} (old xs ys : List X) (x : X) (b one : Bool) → cond one (x ∷ []) [] ≡ ys →
    (old ++ cond b xs []) ++ cond (b && one) (x ∷ []) [] ≡ old ++ cond b (xs ++ ys) []
appended_if old xs ys x true one is = append_assoc old xs (cond one (x ∷ []) []) ∙ ap (λ zs. old ++ (xs ++ zs)) is
appended_if old xs ys x false one is = append-nil (old ++ [])

-- one attestation more
pub gathers_one_more : {S D C P G : Type 0} (eq : D → D → Bool) (n : ℕ) (good : SubjectValue D → ℕ → G → Bool)
    (x : SubjectValue D) (given : List (Attestation S P G)) (a : Attestation S P G) (known news one : Bool)
    (held recorded after : RoundVotes S D P G) (first second third : Apart S D C P G) →
    RecordsMore eq n good x given news held recorded → RecordsMore eq n good x (a ∷ []) one recorded after →
    second.wanted ≡ first.wanted → GathersMore eq n good x given known held first second →
    third.votes.items ≡ second.votes.items ++ cond ((second.wanted && not known) && one) (message_on x a ∷ []) [] →
    GathersMore eq n good x (given ++ a ∷ []) known held first third
gathers_one_more {S} {D} {C} {P} {G} eq n good x given a known news one held recorded after first second third some next
    same gathers more =
    let keep : SignedVote D G → Bool = λ v. good v.subject v.signer v.signature in
    let valid = filter keep (map (vote_on x) given) in
    let last = filter keep (map (vote_on x) (a ∷ [])) in
    let together : valid ++ last ≡ filter keep (map (vote_on x) (given ++ a ∷ [])) =
    sym (filter-append keep (map (vote_on x) given) (map (vote_on x) (a ∷ [])))
    ∙ ap (filter keep) (sym (map-append (vote_on x) given (a ∷ []))) in
    let wanted = first.wanted && not known in
    record {
      gathered = λ vs holds.
          let before = map (vote_message {S = S} {C = C} {P = P}) (news_after eq vs valid) in
          let here = map (vote_message {S = S} {C = C} {P = P}) (news_after eq (vs ++ valid) last) in
          more
          ∙ (λ i. gathers.gathered vs holds i ++ cond ((same i && not known) && one) (message_on x a ∷ []) [])
          ∙ appended_if first.votes.items before here (message_on x a) wanted one
          (one_gathered eq (vs ++ valid) (vote_on x a) (keep (vote_on x a)) one (next.tells (vs ++ valid) (some.held vs holds)))
          ∙ ap (λ zs. first.votes.items ++ cond wanted zs [])
          (sym (map-append vote_message (news_after eq vs valid) (news_after eq (vs ++ valid) last))
          ∙ ap (map vote_message) (sym (news_after-append eq vs valid last) ∙ ap (news_after eq vs) together));
    }

-- ---- what is kept of a message

-- a message that is news is kept as a whole, if none of its votes was gathered
pub kept_whole : {S D C P G : Type 0} (news : Bool) (votes : List (Activity S D C P G)) (m : Activity S D C P G) →
    news ≡ true → length votes ≡ 0 → m ∷ [] ≡ kept_from news votes m
kept_whole true [] m is none = refl
kept_whole true (v ∷ vs) m is none = absurd (omega (arith, none))
kept_whole false votes m is none = absurd (false≢true is)

-- else these votes are kept
pub kept_votes : {S D C P G : Type 0} (news : Bool) (votes : List (Activity S D C P G)) (m : Activity S D C P G) →
    news ≡ true → 1 ≤ length votes → votes ≡ kept_from news votes m
kept_votes true [] m is some = absurd (omega (arith, some))
kept_votes true (v ∷ vs) m is some = refl
kept_votes false votes m is some = absurd (false≢true is)
