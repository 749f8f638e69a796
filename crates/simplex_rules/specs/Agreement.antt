-- Messages that agree on what suspects signed.
use Rattle.std.specs.Prelude.{◌≡◌, ℕ, ◌<◌, List, filter, map, IsTrue}
use Rattle.std.specs.List.{flat_map}
use Rattle.simplex_base.specs.Positions.{Round}
use Rattle.simplex_scheme.specs.Subject.{round_of}
use Rattle.simplex_votes.specs.Votes.{SignedVote}
use Rattle.simplex_evidence.specs.Activity.{votes_in}
use Rattle.simplex_evidence.specs.Contradiction.{Equivocation}
use Rattle.simplex_evidence.specs.declared.types.activity.Activity.{Activity}
use Rattle.simplex_rules.specs.Evidence.{IsEvidence}
use Rattle.simplex_rules.specs.FirstCertified.{certified_subjects}
use Rattle.simplex_rules.specs.Rules.{Rules, valid_votes}
use Rattle.simplex_rules.specs.Splits.{AreSplits}
use Rattle.simplex_rules.specs.Suspects.{is_suspect, is_suspect_round}
use Rattle.simplex_rules.specs.declared.split.Split.{Split}

-- a vote without its signature: what it says, and whose vote it claims to be
abbrev pub claim_of : {D G : Type 0} → SignedVote D G → SignedVote D Unit
claim_of v = record { subject = v.subject; signer = v.signer; signature = tt }

module _ {S D C P G : Type 0} (rules : Rules S D C P G) where
  -- all votes of messages, valid or not, without their signatures
  abbrev pub claims_of : List (Activity S D C P G) → List (SignedVote D Unit)
  claims_of messages = map claim_of (flat_map (votes_in rules.listed) messages)

  -- the others claim the same votes, have the same signatures in the votes of suspects, and certify the same subjects in
  -- suspect rounds
  pub record AgreeOnSuspects (messages others : List (Activity S D C P G)) : Type 0 where
    pub claims : claims_of others ≡ claims_of messages
    pub votes : filter (λ v. is_suspect rules messages (round_of v.subject) v.signer) (flat_map (votes_in rules.listed) others)
        ≡ filter (λ v. is_suspect rules messages (round_of v.subject) v.signer) (flat_map (votes_in rules.listed) messages)
    pub certificates : filter (λ x. is_suspect_round rules messages (round_of x)) (certified_subjects rules others)
        ≡ filter (λ x. is_suspect_round rules messages (round_of x)) (certified_subjects rules messages)

  -- Suspects are in the committee, and their rounds are suspect. Messages that claim the same votes have the same suspects. If
  -- they agree on these, too, they have the same evidence and the same splits.
  pub record SuspectsDecide : Type 0 where
    pub members : (messages : List (Activity S D C P G)) (round : Round) (signer : ℕ) →
        IsTrue (is_suspect rules messages round signer) →
        IsTrue (is_suspect_round rules messages round) × (signer < rules.size round.epoch)
    pub signers : (messages others : List (Activity S D C P G)) → claims_of others ≡ claims_of messages →
        (round : Round) (signer : ℕ) → is_suspect rules others round signer ≡ is_suspect rules messages round signer
    pub rounds : (messages others : List (Activity S D C P G)) → claims_of others ≡ claims_of messages → (round : Round) →
        is_suspect_round rules others round ≡ is_suspect_round rules messages round
    pub evidence : (messages others : List (Activity S D C P G)) → AgreeOnSuspects messages others →
        (es : List (Equivocation D G)) → IsEvidence rules.eq (valid_votes rules messages) es →
        IsEvidence rules.eq (valid_votes rules others) es
    pub splits : (messages others : List (Activity S D C P G)) → AgreeOnSuspects messages others →
        (splits : List Split) → AreSplits rules messages splits → AreSplits rules others splits
