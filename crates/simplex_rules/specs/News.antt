-- Which messages are news: those that change the state when they come.
use Rattle.std.specs.Prelude.{◌≡◌, ◌*◌, ◌≤◌, All, Bool, Contains, false, not, ◌&&◌, ◌||◌, ◌⊎◌, ◌↔◌, List, [], ◌∷◌, ◌++◌, filter, map, length, if◌then◌else◌, Option, Some, None}
use Rattle.std.specs.List.{flat_map}
use Rattle.simplex_base.specs.Positions.{Round, same_round}
use Rattle.simplex_scheme.specs.Subject.{SubjectValue, Notarizes, Nullifies, Finalizes, round_of}
use Rattle.simplex_scheme.specs.declared.scheme.Attestation.{Attestation}
use Rattle.simplex_votes.specs.Votes.{SignedVote}
use Rattle.simplex_evidence.specs.Activity.{activity_round, has_certificate, votes_in}
use Rattle.simplex_evidence.specs.declared.types.activity.Activity.{Activity}
use Rattle.simplex_evidence.specs.declared.types.activity.Activity.TheVariants as activity
use Rattle.simplex_rules.specs.FirstCertified.{are_split, certified_subjects, changes_firsts, first_certified}
use Rattle.simplex_rules.specs.Interchange.{AreInterchangeable, HaveSameState}
use Rattle.simplex_rules.specs.Recorded.{is_news, news_after}
use Rattle.simplex_rules.specs.Rules.{Rules, is_valid, valid_votes}
use Rattle.simplex_rules.specs.Splits.{certified_in}

-- an attestation of a subject, as a message
abbrev pub message_on : {S D C P G : Type 0} → SubjectValue D → Attestation S P G → Activity S D C P G
message_on (Notarizes p) a = activity.Notarize (record { proposal = p; attestation = a })
message_on (Nullifies r) a = activity.Nullify (record { round = r; attestation = a })
message_on (Finalizes p) a = activity.Finalize (record { proposal = p; attestation = a })

-- a vote, as a message of its own
abbrev pub vote_message : {S D C P G : Type 0} → SignedVote D G → Activity S D C P G
vote_message v = message_on v.subject (record { signer = v.signer; signature = v.signature })

-- whether one of some votes is news when it comes, after the votes before it
abbrev pub have_news : {D G : Type 0} → (D → D → Bool) → List (SignedVote D G) → List (SignedVote D G) → Bool
have_news eq before [] = false
have_news eq before (v ∷ vs) = is_news eq before v || have_news eq (before ++ v ∷ []) vs

-- whether a certified subject, if there is one, is news after others: it changes what is recorded of its round
abbrev pub subject_is_news : {D : Type 0} → (D → D → Bool) → List (SubjectValue D) → Option (SubjectValue D) → Bool
subject_is_news eq before None = false
subject_is_news eq before (Some x) =
    changes_firsts eq (first_certified before (round_of x)) (are_split eq before (round_of x)) x

module _ {S D C P G : Type 0} (rules : Rules S D C P G) where
  -- whether what a message certifies, if anything, is news after other messages
  abbrev pub certifies_news : List (Activity S D C P G) → Activity S D C P G → Bool
  certifies_news before m = subject_is_news rules.eq (certified_subjects rules before) (certified_in rules m)

  -- the valid votes of a message, in their order
  abbrev pub valid_votes_in : Activity S D C P G → List (SignedVote D G)
  valid_votes_in m = filter (is_valid rules) (votes_in rules.listed m)

  -- whether a message is news after others: one of its valid votes is, or what it certifies
  abbrev pub message_is_news : List (Activity S D C P G) → Activity S D C P G → Bool
  message_is_news before m =
      have_news rules.eq (valid_votes rules before) (valid_votes_in m) || certifies_news before m

  -- a message, if it is news
  abbrev pub if_news : List (Activity S D C P G) → Activity S D C P G → List (Activity S D C P G)
  if_news before m = if message_is_news before m then m ∷ [] else []

  -- the votes of a message that are valid and news, each as a message of its own
  abbrev pub votes_alone : List (Activity S D C P G) → Activity S D C P G → List (Activity S D C P G)
  votes_alone before m = map vote_message (news_after rules.eq (valid_votes rules before) (valid_votes_in m))

  -- whether a message has a certificate whose subject is no news
  abbrev pub certifies_no_news : List (Activity S D C P G) → Activity S D C P G → Bool
  certifies_no_news before m = has_certificate m && not (certifies_news before m)

  -- What is kept of a message: of a certificate whose subject is no news its votes that are, and any other message as a whole,
  -- if it is news.
  abbrev pub kept_of : List (Activity S D C P G) → Activity S D C P G → List (Activity S D C P G)
  kept_of before m = if certifies_no_news before m then votes_alone before m else if_news before m

  -- what is kept of messages when they come, each after all messages before it
  abbrev pub messages_kept : List (Activity S D C P G) → List (Activity S D C P G) → List (Activity S D C P G)
  messages_kept before [] = []
  messages_kept before (m ∷ ms) = kept_of before m ++ messages_kept (before ++ m ∷ []) ms

  -- messages without what was no news when it came
  abbrev pub compacted : List (Activity S D C P G) → List (Activity S D C P G)
  compacted messages = messages_kept [] messages

  -- one of some messages, or a vote that one of them holds, as a message of its own
  abbrev pub IsTheirs : List (Activity S D C P G) → Activity S D C P G → Type 0
  IsTheirs messages k =
      Contains messages k ⊎ ((v : SignedVote D G) × Contains (valid_votes rules messages) v × (k ≡ vote_message v))

-- ---- laws

module _ {S D C P G : Type 0} (rules : Rules S D C P G) where
  -- a message is no news exactly if it leaves the state as it was
  abbrev pub NewsChangesState : Type 0
  NewsChangesState = (before : List (Activity S D C P G)) (m : Activity S D C P G) →
      (message_is_news rules before m ≡ false) ↔ HaveSameState rules (before ++ m ∷ []) before

  -- The compaction of messages is of these and of their votes. It has their state and can stand for them among any others.
  -- Compacting it again changes nothing.
  pub record IsCompaction (messages : List (Activity S D C P G)) : Type 0 where
    pub theirs : All (IsTheirs rules messages) (compacted rules messages)
    pub state : HaveSameState rules (compacted rules messages) messages
    pub interchangeable : AreInterchangeable rules (compacted rules messages) messages
    pub again : compacted rules (compacted rules messages) ≡ compacted rules messages

  -- the compaction of messages and of one more: what is kept of that one is appended
  abbrev pub CompactsNext : List (Activity S D C P G) → Activity S D C P G → Type 0
  CompactsNext messages m = compacted rules (messages ++ m ∷ []) ≡ compacted rules messages ++ kept_of rules messages m

  -- the compactions of several logs, joined, can stand for the joined logs, and so can the compaction of these compactions
  pub record LogsCompact (logs : List (List (Activity S D C P G))) : Type 0 where
    pub each : AreInterchangeable rules (flat_map (compacted rules) logs) (flat_map (λ log. log) logs)
    pub joined : AreInterchangeable rules (compacted rules (flat_map (compacted rules) logs)) (flat_map (λ log. log) logs)

  -- Of a round with n participants at most 5n messages without a certificate are kept, and three with one.
  pub record FewAreKept (messages : List (Activity S D C P G)) : Type 0 where
    pub votes : (round : Round) →
        length (filter (λ m. same_round (activity_round m) round && not (has_certificate m)) (compacted rules messages))
        ≤ 5 * rules.size round.epoch
    pub certificates : (round : Round) →
        length (filter (λ m. same_round (activity_round m) round && has_certificate m) (compacted rules messages)) ≤ 3

  -- If what a message certifies is no news, other messages can stand for it behind the messages before it: messages that
  -- certify nothing, and whose valid votes are those of its valid votes that are news.
  abbrev pub VotesCanStandAlone : Type 0
  VotesCanStandAlone = (before others : List (Activity S D C P G)) (m : Activity S D C P G) →
      certifies_news rules before m ≡ false → certified_subjects rules others ≡ [] →
      valid_votes rules others ≡ news_after rules.eq (valid_votes rules before) (valid_votes_in rules m) →
      HaveSameState rules (before ++ others) (before ++ m ∷ [])
