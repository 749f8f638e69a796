-- What a light client holds, and what becomes of a finalization.
use Rattle.std.specs.Prelude.{◌≡◌, ⊤, ℕ, ◌+◌, ◌≤◌, ◌==◌, ◌&&◌, ◌||◌, Bool, true, false, List, [], ◌∷◌, length, map, nat_eq, nat_lt, All, Contains, Option, Some, MatchOption}
use Rattle.std.specs.List.{IsDistinct}
use Rattle.simplex_base.specs.Format.{Format}
use Rattle.simplex_base.specs.Positions.{Round}
use Rattle.simplex_scheme.specs.Committee.{faults_of}
use Rattle.simplex_scheme.specs.Subject.{SubjectValue, Finalizes}
use Rattle.simplex_votes.specs.Encodings.{IsFinalization}
use Rattle.simplex_votes.specs.declared.types.finalization.Finalization.{Finalization}
use Rattle.simplex_evidence.specs.Contradiction.{EquivocationKind, Equivocation}
use Rattle.simplex_evidence.specs.declared.types.activity.Activity.TheVariants as activity
use Rattle.simplex_rules.specs.Certificates.{subjects_contradict}
use Rattle.simplex_scheme.specs.Committees.{Schedule, bound_of, certified_by, committee_of}
use Rattle.simplex_rules.specs.Accusation.{accused_by}
use Rattle.simplex_rules.specs.Evidence.{IsEvidence}
use Rattle.simplex_rules.specs.Rules.{Rules, valid_votes}
use Rattle.simplex_rules.specs.Values.{evidence_value}
use Rattle.examples.specs.declared.light_client.Followed.{Followed}
use Rattle.examples.specs.declared.light_client.Followed.TheVariants as followed

-- the committees that judge, and the finalization of the latest round so far
pub record Following (S D C P G : Type 0) : Type 0 where
  pub committees : Schedule S
  pub latest : Option (Finalization S D C P G)

-- whether a round is later than another
abbrev pub is_later : Round → Round → Bool
is_later a b = nat_lt b.epoch a.epoch || ((b.epoch == a.epoch) && nat_lt b.view a.view)

-- whether a finalization certifies its proposal, under the committee of its epoch
abbrev pub is_final : {S D C P G : Type 0} → Rules S D C P G → Finalization S D C P G → Bool
is_final rules f = rules.certified (Finalizes f.proposal) f.certificate

-- whether two finalizations contradict: they are of one round, and their proposals differ. `eq` compares payloads
abbrev pub is_fork : {S D C P G : Type 0} → (D → D → Bool) → Finalization S D C P G → Finalization S D C P G → Bool
is_fork eq f g = subjects_contradict eq (Finalizes f.proposal) (Finalizes g.proposal)

-- a finalization under the bound of the greatest committee, which certifies its proposal under the committee of its epoch
pub record IsFollowed {S D C P G : Type 0} (payload : Format D) (fits : ℕ → C → Type 0) (keys : S → List P)
    (certified : S → SubjectValue D → C → Bool) (committees : Schedule S) (f : Finalization S D C P G) : Type 0 where
  pub value : IsFinalization payload (fits (bound_of keys committees)) f
  pub final : certified_by certified (committee_of committees f.proposal.round.epoch) (Finalizes f.proposal) f.certificate
      ≡ true

-- evidence accuses a signer in a round
abbrev pub IsBlamed : {D G : Type 0} → Round → List (Equivocation D G) → ℕ → Type 0
IsBlamed round es signer =
    (kind : EquivocationKind) × Contains (map accused_by es) (record { round = round; signer = signer; kind = kind })

-- in a round whose committee has n participants, evidence accuses more of them than may lie
pub record BlamesEnough {D G : Type 0} (n : ℕ) (round : Round) (es : List (Equivocation D G)) : Type 0 where
  pub signers : List ℕ
  pub distinct : IsDistinct nat_eq signers
  pub enough : faults_of n + 1 ≤ length signers
  pub blamed : All (IsBlamed round es) signers

-- the evidence of the valid votes that the certificates of two finalizations list: one for each accused signer, in order
abbrev pub IsEvidenceOfBoth : {S D C P G : Type 0} → Rules S D C P G → Finalization S D C P G → Finalization S D C P G →
    List (Equivocation D G) → Type 0
IsEvidenceOfBoth rules f g es =
    IsEvidence rules.eq (valid_votes rules (activity.Finalization f ∷ activity.Finalization g ∷ [])) es

-- What becomes of a finalization, given the latest one. One that does not certify its proposal is refused. One that contradicts
-- the latest is a fork, with the evidence of the votes of both, which accuses more participants than may lie. Any other is
-- taken if its round is later, or if there is no latest one, and else known.
abbrev pub Follows : {S D C P G : Type 0} → Rules S D C P G → Option (Finalization S D C P G) → Finalization S D C P G →
    Followed S D P G → Type 0
Follows rules latest f followed.Refused = is_final rules f ≡ false
Follows rules latest f followed.Taken =
    (is_final rules f ≡ true)
    × MatchOption latest ⊤ (λ l. (is_fork rules.eq l f ≡ false) × (is_later f.proposal.round l.proposal.round ≡ true))
Follows rules latest f followed.Known =
    (is_final rules f ≡ true)
    × MatchOption latest ⊥ (λ l. (is_fork rules.eq l f ≡ false) × (is_later f.proposal.round l.proposal.round ≡ false))
Follows rules latest f (followed.Fork evidence) =
    (is_final rules f ≡ true)
    × MatchOption latest ⊥ (λ l. (is_fork rules.eq l f ≡ true) × BlamesEnough (rules.size l.proposal.round.epoch)
    l.proposal.round (map evidence_value evidence.items) × IsEvidenceOfBoth rules l f (map evidence_value evidence.items))

-- the latest finalization afterwards
abbrev pub latest_after : {S D C P G : Type 0} → Option (Finalization S D C P G) → Finalization S D C P G → Followed S D P G →
    Option (Finalization S D C P G)
latest_after latest f followed.Taken = Some f
latest_after latest f _ = latest
