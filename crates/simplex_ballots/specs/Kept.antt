-- What is kept of a message that a detector observes, and how its votes are gathered.
use Rattle.std.specs.Prelude.{◌≡◌, ℕ, Bool, true, false, not, ◌&&◌, List, [], ◌∷◌, ◌++◌, map, if◌then◌else◌}
use Rattle.simplex_base.specs.Positions.{Round}
use Rattle.simplex_votes.specs.Votes.{SignedVote}
use Rattle.simplex_evidence.specs.declared.types.activity.Activity.{Activity}
use Rattle.simplex_rules.specs.News.{vote_message}
use Rattle.simplex_rules.specs.Recorded.{news_after}
use Rattle.simplex_ballots.specs.Rounds.{HoldsRound}
use Rattle.simplex_ballots.specs.declared.apart.Apart.{Apart}
use Rattle.simplex_ballots.specs.declared.kept.Kept.{Kept}
use Rattle.simplex_ballots.specs.declared.kept.Kept.TheVariants as kept
use Rattle.simplex_ballots.specs.declared.round_votes.RoundVotes.{RoundVotes}

-- what is kept of a message
abbrev pub kept_by : {S D C P G : Type 0} → Activity S D C P G → Kept S D C P G → List (Activity S D C P G)
kept_by m kept.Nothing = []
kept_by m kept.Whole = m ∷ []
kept_by m (kept.Votes vs) = vs.items

-- whether something is kept
abbrev pub is_kept : {S D C P G : Type 0} → Kept S D C P G → Bool
is_kept kept.Nothing = false
is_kept kept.Whole = true
is_kept (kept.Votes vs) = true

-- what is kept of a message, by whether it is news and by its votes that were gathered
abbrev pub kept_from : {S D C P G : Type 0} → Bool → List (Activity S D C P G) → Activity S D C P G → List (Activity S D C P G)
kept_from false votes m = []
kept_from true [] m = m ∷ []
kept_from true (v ∷ vs) m = v ∷ vs

-- of some votes of a round those that are news behind any others are gathered, if they are wanted and not known to be valid
pub record GathersVotes {S D C P G : Type 0} (eq : D → D → Bool) (n : ℕ) (round : Round) (votes : List (SignedVote D G))
    (known : Bool) (held : RoundVotes S D P G) (before after : Apart S D C P G) : Type 0 where
  pub gathered : (vs : List (SignedVote D G)) → HoldsRound eq n vs round held →
      after.votes.items ≡ before.votes.items
      ++ (if before.wanted && not known then map vote_message (news_after eq vs votes) else [])
