-- What votes claim, before any signature is verified, and rules that judge suspects alone.
use Rattle.std.specs.Prelude.{◌≡◌, ℕ, Bool, false, List, [], map, nat_lt, All, IsTrue}
use Rattle.std.specs.BTreeSet.{contains}
use Rattle.std.specs.List.{list_any}
use Rattle.simplex_base.specs.Positions.{Round}
use Rattle.simplex_scheme.specs.Subject.{SubjectValue, round_of}
use Rattle.simplex_evidence.specs.Contradiction.{Equivocation}
use Rattle.simplex_evidence.specs.declared.types.activity.Activity.{Activity}
use Rattle.simplex_rules.specs.Evidence.{IsEvidence}
use Rattle.simplex_rules.specs.Accusation.{round_cmp, signer_cmp, signer_in}
use Rattle.simplex_rules.specs.Rules.{Rules, AreLawful, valid_votes}
use Rattle.simplex_rules.specs.Splits.{is_accused_in, AreSplits}
use Rattle.simplex_rules.specs.declared.evidence.SignerInRound.{SignerInRound}
use Rattle.simplex_rules.specs.declared.judging.Judging.{Judging}
use Rattle.simplex_rules.specs.declared.judging.Judging.TheVariants as judging
use Rattle.simplex_rules.specs.declared.judging.SuspectSigners.{SuspectSigners}
use Rattle.simplex_rules.specs.declared.split.Split.{Split}

-- which signers are suspect in a round, and which rounds are suspect
pub record Suspected : Type 0 where
  pub signers : Round → ℕ → Bool
  pub rounds : Round → Bool

-- the signer of an evidence in its round
abbrev pub suspect_of : {D G : Type 0} → Equivocation D G → SignerInRound
suspect_of e = signer_in (round_of e.first.subject) e.first.signer

-- ---- other judges of the same messages

module _ {S D C P G : Type 0} (rules : Rules S D C P G) where
  -- the same rules, except that these tests decide which votes are valid and which certificates certify
  abbrev pub judged_by : (SubjectValue D → ℕ → G → Bool) → (SubjectValue D → C → Bool) → Rules S D C P G
  judged_by good certified =
      record { eq = rules.eq; good = good; certified = certified; listed = rules.listed; size = rules.size }

  -- the same rules, except that every vote of a signer in the committee is valid, and no certificate certifies
  abbrev pub claimed : Rules S D C P G
  claimed = judged_by (λ x signer signature. nat_lt signer (rules.size (round_of x).epoch)) (λ x certificate. false)

-- ---- who is suspect, and that judging suspects suffices

module _ {S D C P G : Type 0} (rules : Rules S D C P G) (messages : List (Activity S D C P G)) where
  -- whether a signer is suspect in a round: the signer is in the committee, and two votes that claim to be that signer's
  -- contradict there
  abbrev pub is_suspect : Round → ℕ → Bool
  is_suspect round signer = is_accused_in rules.eq (valid_votes (claimed rules) messages) round signer

  -- whether a round is suspect: some signer is suspect there
  abbrev pub is_suspect_round : Round → Bool
  is_suspect_round round = list_any (λ v. is_suspect round v.signer) (valid_votes (claimed rules) messages)

  -- these tests judge the votes of suspects and the certificates of suspect rounds as the rules do, and are lawful
  pub record JudgeAlike (good : SubjectValue D → ℕ → G → Bool) (certified : SubjectValue D → C → Bool) : Type 0 where
    pub lawful : AreLawful (judged_by rules good certified)
    pub votes : (x : SubjectValue D) (signer : ℕ) (signature : G) → IsTrue (is_suspect (round_of x) signer) →
        good x signer signature ≡ rules.good x signer signature
    pub certificates : (x : SubjectValue D) (certificate : C) → IsTrue (is_suspect_round (round_of x)) →
        certified x certificate ≡ rules.certified x certificate

  -- No vote of a signer who is not suspect in its round, and no certificate of a round that is not suspect, has a part in the
  -- evidence and the splits: they are the same, no matter which of these are valid.
  pub record SuspectsSuffice : Type 0 where
    pub evidence : (good : SubjectValue D → ℕ → G → Bool) (certified : SubjectValue D → C → Bool) → JudgeAlike good certified →
        (es : List (Equivocation D G)) → IsEvidence rules.eq (valid_votes rules messages) es →
        IsEvidence rules.eq (valid_votes (judged_by rules good certified) messages) es
    pub splits : (good : SubjectValue D → ℕ → G → Bool) (certified : SubjectValue D → C → Bool) → JudgeAlike good certified →
        (splits : List Split) → AreSplits rules messages splits → AreSplits (judged_by rules good certified) messages splits

-- ---- what the two readings of a deferred audit give

-- `rules` verifies all, and `under` judges as strictly as its argument says
module _ {S D C P G : Type 0} (rules : Rules S D C P G) (under : Judging → Rules S D C P G) where
  -- where no votes are claimed to contradict, there is no evidence, and the splits are those without verification
  abbrev pub NobodyIsSuspect : Type 0
  NobodyIsSuspect =
      (messages : List (Activity S D C P G)) (splits : List Split) → AreLawful rules →
      IsEvidence rules.eq (valid_votes (under judging.Claimed) messages) [] →
      AreSplits (under judging.Claimed) messages splits →
      IsEvidence rules.eq (valid_votes rules messages) [] × AreSplits rules messages splits

  -- where all signers of the claims and their rounds are suspect, judging suspects alone yields the evidence and the splits
  abbrev pub SuspectsDetermineReports : Type 0
  SuspectsDetermineReports =
      (messages : List (Activity S D C P G)) (claims : List (Equivocation D G)) (suspects : SuspectSigners) → AreLawful rules →
      IsEvidence rules.eq (valid_votes (under judging.Claimed) messages) claims →
      All (λ round. IsTrue (contains round_cmp suspects.rounds round)) (map (λ e. round_of e.first.subject) claims) →
      All (λ suspect. IsTrue (contains signer_cmp suspects.signers suspect)) (map suspect_of claims) →
      (es : List (Equivocation D G)) (splits : List Split) →
      IsEvidence rules.eq (valid_votes (under (judging.Suspects suspects)) messages) es →
      AreSplits (under (judging.Suspects suspects)) messages splits →
      IsEvidence rules.eq (valid_votes rules messages) es × AreSplits rules messages splits
