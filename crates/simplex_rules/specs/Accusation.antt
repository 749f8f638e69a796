-- Who is accused, by votes that contradict.
use Rattle.std.specs.Prelude.{ℕ, Bool, ◌&&◌, List, [], ◌∷◌}
use Rattle.std.specs.List.{list_any}
use Rattle.std.specs.Ordering.{ordering_then, nat_cmp}
use Rattle.std.specs.declared.cmp.Ordering.{Ordering}
use Rattle.simplex_base.specs.Positions.{Round}
use Rattle.simplex_scheme.specs.Subject.{round_of}
use Rattle.simplex_votes.specs.Votes.{SignedVote, is_of}
use Rattle.simplex_evidence.specs.Contradiction.{EquivocationKind, Conflicting_notarize, Conflicting_finalize, Nullify_finalize, contradicts, Equivocation}
use Rattle.simplex_rules.specs.declared.evidence.Accusation as declared
use Rattle.simplex_rules.specs.declared.evidence.EquivocationKind as declared_kind
use Rattle.simplex_rules.specs.declared.evidence.EquivocationKind.TheVariants as ways
use Rattle.simplex_rules.specs.declared.evidence.SignerInRound.{SignerInRound}

-- a signer, in a round, with a kind of contradiction
pub record Accusation : Type 0 where
  pub round : Round
  pub signer : ℕ
  pub kind : EquivocationKind

-- the accusations of a signer in a round, one for each kind, in the order of kinds
abbrev pub accusations_of : Round → ℕ → List Accusation
accusations_of round signer =
    record { round = round; signer = signer; kind = Conflicting_notarize }
    ∷ record { round = round; signer = signer; kind = Conflicting_finalize }
    ∷ record { round = round; signer = signer; kind = Nullify_finalize } ∷ []

-- whether two of the votes, both of this signer and round, contradict with this kind. `eq` compares payloads
abbrev pub is_accused : {D G : Type 0} → (D → D → Bool) → List (SignedVote D G) → Accusation → Bool
is_accused eq vs n = list_any (λ v. is_of n.round n.signer v && list_any (contradicts eq n.kind v) vs) vs

-- whom an evidence accuses
abbrev pub accused_by : {D G : Type 0} → Equivocation D G → Accusation
accused_by e = record { round = round_of e.first.subject; signer = e.first.signer; kind = e.kind }

-- ---- their order

-- rounds are ordered by epoch, and then by view
abbrev pub round_cmp : Round → Round → Ordering
round_cmp a b = ordering_then (nat_cmp a.epoch b.epoch) (nat_cmp a.view b.view)

-- a signer in a round
abbrev pub signer_in : Round → ℕ → SignerInRound
signer_in round signer = record { round = round; signer = signer }

-- signers in rounds are ordered by round and then by signer
abbrev pub signer_cmp : SignerInRound → SignerInRound → Ordering
signer_cmp a b = ordering_then (round_cmp a.round b.round) (nat_cmp a.signer b.signer)

-- the place of a kind in the order of kinds
abbrev pub kind_rank : EquivocationKind → ℕ
kind_rank Conflicting_notarize = 0
kind_rank Conflicting_finalize = 1
kind_rank Nullify_finalize = 2

-- accusations are ordered by round, signer and kind
abbrev pub accused_cmp : Accusation → Accusation → Ordering
accused_cmp a b =
    ordering_then (signer_cmp (signer_in a.round a.signer) (signer_in b.round b.signer))
    (nat_cmp (kind_rank a.kind) (kind_rank b.kind))

-- ---- as the code has them

-- a kind of contradiction
abbrev pub way_of : EquivocationKind → declared_kind.EquivocationKind
way_of Conflicting_notarize = ways.ConflictingNotarize
way_of Conflicting_finalize = ways.ConflictingFinalize
way_of Nullify_finalize = ways.NullifyFinalize

-- its place in the order of kinds
abbrev pub way_rank : declared_kind.EquivocationKind → ℕ
way_rank ways.ConflictingNotarize = 0
way_rank ways.ConflictingFinalize = 1
way_rank ways.NullifyFinalize = 2

-- an accusation
abbrev pub key_of : Accusation → declared.Accusation
key_of n = record { accused = signer_in n.round n.signer; kind = way_of n.kind }

-- accusations are ordered by round, signer and kind
abbrev pub key_cmp : declared.Accusation → declared.Accusation → Ordering
key_cmp a b = ordering_then (signer_cmp a.accused b.accused) (nat_cmp (way_rank a.kind) (way_rank b.kind))
