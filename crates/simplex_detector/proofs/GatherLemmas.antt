-- Which votes are gathered of a certificate that is observed, and what is kept of its message.
use Rattle.simplex_rules.proofs.Prelude.{Activity, All, Attestation, Bool, List, None, Rules, Schedule, Scheme, SignedVote, Some, SubjectValue, [], activity_round, ap, certified_in, certified_subjects, changes_firsts, committee_of, cond, false, filter, firsts_of, have_news, if_certified, is_news, is_some, is_valid, length, map, message_is_news, news_after, not, or-false, refl, round_of, size_by, subject_is_news, subst, sym, true, valid_votes, votes_in, ◌&&◌, ◌++◌, ◌||◌, ◌∙◌, ◌∷◌, ◌≡◌}
use Rattle.simplex_ballots.specs.Rounds.{HoldsRound}
use Rattle.simplex_detector.specs.Detector.{RecallsRound}
use Rattle.simplex_detector.specs.declared.round_state.RoundState.{RoundState}
use Rattle.simplex_evidence.specs.Activity.{contents_of, has_certificate}
use Rattle.simplex_evidence.specs.Contents.{ContentsValue, OneCertificate, contents_certificate, contents_votes}
use Rattle.simplex_evidence.specs.declared.types.activity.Activity.TheVariants as activity
use Rattle.simplex_detector.specs.Gathered.{GathersContents, votes_apart}
use Rattle.simplex_ballots.specs.Kept.{kept_from}
use Rattle.simplex_rules.specs.News.{certifies_news, kept_of, valid_votes_in, vote_message, votes_alone}
use Rattle.simplex_ballots.specs.declared.apart.Apart.{Apart}
use Rattle.simplex_rules.proofs.MessageLemmas.{IsHere}
use Rattle.simplex_detector.proofs.DetectorLemmas.{judges, no_vote, same_valid, subject_told}
use Rattle.simplex_detector.proofs.KnownLemmas.{RecordsAreValid, each_valid, records_are_valid}
use Rattle.simplex_ballots.proofs.ApartLemmas.{gathers_nothing, GathersMore}

-- ---- a certificate

-- what is wanted and not known to be is what is wanted and not to be left out
wanted_if : {X : Type 0} (wanted known : Bool) (xs : List X) →
    cond (wanted && not known) xs [] ≡ cond wanted (cond (not known) xs []) []
wanted_if true known xs = refl
wanted_if false known xs = refl

module _ {S D C P G : Type 0} (scheme : Scheme S D C P G) where
  -- a certificate of a subject, if what is recorded before it is valid
  pub gathers_certificate : (s : S) (x : SubjectValue D) (c : C) (given : List (Attestation S P G)) → given ≡ scheme.listed c →
      (certifies : Bool) (old : RoundState S D P G) (before after : Apart S D C P G) → after.wanted ≡ before.wanted →
      (RecordsAreValid scheme s old.votes →
      certifies ≡ (changes_firsts scheme.eq (firsts_of old.certified) old.certified.split x && scheme.certified s x c)) →
      (RecordsAreValid scheme s old.votes →
      GathersMore scheme.eq (length (scheme.keys s)) (scheme.good s) x given certifies old.votes before after) →
      GathersContents (judges scheme) s (OneCertificate x c) old before after
  gathers_certificate s x c given is_given certifies old before after wanted told votes =
      record {
        wanted = wanted;
        gathered = λ schedule is vs xs valid holds firsts.
            let known = records_are_valid scheme s (round_of x) schedule is vs valid _ old.votes holds in
            let listed = subst (λ listed. GathersMore scheme.eq (length (scheme.keys s)) (scheme.good s) x listed certifies
            old.votes before after) is_given (votes known) in
            let held = subst (λ n. HoldsRound scheme.eq n vs (round_of x) old.votes) (sym (ap (size_by scheme.keys) (sym is)))
            holds in
            let subject = subject_told scheme s x c certifies old (told known) schedule is xs firsts in
            listed.gathered vs held
            ∙ ap (λ zs. before.votes.items ++ zs) ((λ i. cond (before.wanted && not (subject i)) (map vote_message
            (news_after scheme.eq vs (same_valid scheme s x schedule is (scheme.listed c) i))) [])
            ∙ wanted_if before.wanted _ _);
      }

  -- what has no certificate
  pub gathers_none : (s : S) (held : ContentsValue D C G) (old : RoundState S D P G) (apart : Apart S D C P G) →
      contents_certificate held ≡ None → GathersContents (judges scheme) s held old apart apart
  gathers_none s held old apart none = record {
    wanted = refl;
    gathered = λ schedule is vs xs valid holds firsts.
        gathers_nothing apart.votes.items apart.wanted
        ∙ ap (λ zs. apart.votes.items ++ cond apart.wanted zs []) (λ i. cond (is_some (sym none i)
        && not (subject_is_news scheme.eq xs (if_certified (judges scheme schedule) (contents_certificate held))))
        (map vote_message (news_after scheme.eq vs (filter (is_valid (judges scheme schedule))
        (contents_votes scheme.listed held)))) []);
  }

  module _ (schedule : Schedule S) (messages : List (Activity S D C P G)) (m : Activity S D C P G) where
    abbrev judged : Rules S D C P G
    judged = judges scheme schedule

    -- of a message of a round with a state
    pub gathered_taken : (s : S) → committee_of schedule (activity_round m).epoch ≡ Some s → (old : RoundState S D P G)
        (before after : Apart S D C P G) → GathersContents (judges scheme) s (contents_of m) old before after →
        RecallsRound judged messages (activity_round m) old →
        after.votes.items ≡ before.votes.items ++ cond before.wanted (votes_apart judged (contents_of m)
        (valid_votes judged messages) (certified_subjects judged messages)) []
    gathered_taken s is old before after gathers recalls =
        gathers.gathered schedule is (valid_votes judged messages) (certified_subjects judged messages)
        (each_valid judged messages) recalls.votes recalls.subjects

    -- without a committee nothing is gathered
    pub none_gathered : All (IsHere (activity_round m)) (votes_in scheme.listed m) →
        None ≡ committee_of schedule (activity_round m).epoch → (apart : Apart S D C P G) →
        apart.votes.items ≡ apart.votes.items ++ cond apart.wanted (votes_apart judged (contents_of m)
        (valid_votes judged messages) (certified_subjects judged messages)) []
    none_gathered here none apart =
        let vs = valid_votes judged messages in
        gathers_nothing apart.votes.items apart.wanted
        ∙ ap (λ zs. apart.votes.items ++ cond apart.wanted zs [])
        (sym (either (is_some (contents_certificate (contents_of m))
        && not (subject_is_news scheme.eq (certified_subjects judged messages) (certified_in judged m))))
        ∙ (λ i. cond (is_some (contents_certificate (contents_of m))
        && not (subject_is_news scheme.eq (certified_subjects judged messages) (certified_in judged m)))
        (map vote_message (news_after scheme.eq vs (sym (no_vote scheme schedule messages m here none) i))) []))
      where
        either : (b : Bool) →
            cond b (map (vote_message {S = S} {C = C} {P = P}) (news_after scheme.eq (valid_votes judged messages) [])) [] ≡ []
        either true = refl
        either false = refl

-- ---- what is kept of a message

module _ {S D C P G : Type 0} (rules : Rules S D C P G) where
  -- a message has a certificate exactly if its contents are one
  contents_tell : (m : Activity S D C P G) → is_some (contents_certificate (contents_of m)) ≡ has_certificate m
  contents_tell (activity.Notarize v) = refl
  contents_tell (activity.Notarization n) = refl
  contents_tell (activity.Certification n) = refl
  contents_tell (activity.Nullify v) = refl
  contents_tell (activity.Nullification n) = refl
  contents_tell (activity.Finalize v) = refl
  contents_tell (activity.Finalization n) = refl
  contents_tell (activity.ConflictingNotarize c) = refl
  contents_tell (activity.ConflictingFinalize c) = refl
  contents_tell (activity.NullifyFinalize c) = refl

  -- votes that are no news are not among the news, and votes that are, are
  quiet_kept : (before vs : List (SignedVote D G)) (m : Activity S D C P G) →
      kept_from (have_news rules.eq before vs) (map vote_message (news_after rules.eq before vs)) m
      ≡ map vote_message (news_after rules.eq before vs)
  quiet_kept before [] m = refl
  quiet_kept before (v ∷ vs) m =
      let more = news_after rules.eq (before ++ v ∷ []) vs in
      elim (is_news rules.eq before v) as (λ b. kept_from (b || have_news rules.eq (before ++ v ∷ []) vs)
      (map vote_message (cond b (v ∷ []) [] ++ more)) m ≡ map vote_message (cond b (v ∷ []) [] ++ more))
      [ true ↦ refl | false ↦ quiet_kept (before ++ v ∷ []) vs m ]

  -- what is kept, by whether the message is news and by its votes
  kept_is : (messages : List (Activity S D C P G)) (m : Activity S D C P G) →
      kept_from (message_is_news rules messages m)
      (votes_apart rules (contents_of m) (valid_votes rules messages) (certified_subjects rules messages)) m
      ≡ kept_of rules messages m
  kept_is messages m =
      (λ i. kept_from (message_is_news rules messages m)
      (cond (contents_tell m i && not (certifies_news rules messages m)) (votes_alone rules messages m) []) m)
      ∙ by (has_certificate m) (certifies_news rules messages m)
    where
      vs : List (SignedVote D G)
      vs = valid_votes rules messages

      alone : (b : Bool) → kept_from b [] m ≡ cond b (m ∷ []) []
      alone true = refl
      alone false = refl

      votes : Bool
      votes = have_news rules.eq vs (valid_votes_in rules m)

      by : (has subject : Bool) → kept_from (votes || subject) (cond (has && not subject) (votes_alone rules messages m) []) m
          ≡ cond (has && not subject) (votes_alone rules messages m) (cond (votes || subject) (m ∷ []) [])
      by true true = alone (votes || true)
      by true false =
          ap (λ b. kept_from b (votes_alone rules messages m) m) (or-false votes)
          ∙ quiet_kept vs (valid_votes_in rules m) m
      by false subject = alone (votes || subject)

  -- what is kept, by whether the message is news and by what is gathered
  pub kept_told : (messages : List (Activity S D C P G)) (m : Activity S D C P G) (news : Bool)
      (before after : Apart S D C P G) → before.wanted ≡ true → before.votes.items ≡ [] →
      news ≡ message_is_news rules messages m →
      after.votes.items ≡ before.votes.items ++ cond before.wanted
      (votes_apart rules (contents_of m) (valid_votes rules messages) (certified_subjects rules messages)) [] →
      kept_from news after.votes.items m ≡ kept_of rules messages m
  kept_told messages m news before after wanted none told gathered =
      let votes = votes_apart rules (contents_of m) (valid_votes rules messages) (certified_subjects rules messages) in
      let all : after.votes.items ≡ votes = gathered ∙ (λ i. none i ++ cond (wanted i) votes []) in
      (λ i. kept_from (told i) (all i) m) ∙ kept_is messages m
