-- The votes of a message are of one round.
use Rattle.simplex_rules.proofs.Prelude.{All, All-from_recursion, All-map, Attestation, Bool, EquivocationKind, IsTrue, List, Round, SignedVote, [], and_parts, clash, contradicts, is_of, refl, round_of, vote_on, ◌∷◌, ◌≡◌}
use Rattle.simplex_rules.proofs.Places.{is_of-true}
use Rattle.simplex_evidence.specs.Contents.{ContentsValue, OneVote, OneCertificate, TwoVotes, AreInConflict, contents_round, contents_votes}

-- a vote is of a round
abbrev pub IsHere : {D G : Type 0} → Round → SignedVote D G → Type 0
IsHere round v = round_of v.subject ≡ round

-- two votes that contradict are of one round
pub one_round : {D G : Type 0} (eq : D → D → Bool) (kind : EquivocationKind) (v w : SignedVote D G) →
    IsTrue (contradicts eq kind v w) → round_of w.subject ≡ round_of v.subject
one_round eq kind v w h =
    (is_of-true (round_of v.subject) v.signer w
    (and_parts (is_of (round_of v.subject) v.signer w) (clash eq kind v.subject w.subject) h).0).0

-- so are the votes that a message holds
pub votes_here : {S D C P G : Type 0} (eq : D → D → Bool) (listed : C → List (Attestation S P G)) (held : ContentsValue D C G) →
    AreInConflict eq held → All (IsHere (contents_round held)) (contents_votes listed held)
votes_here eq listed (OneVote v) conflict = All-from_recursion (IsHere (round_of v.subject)) (v ∷ []) (refl, tt)
votes_here eq listed (OneCertificate x c) conflict = All-map (IsHere (round_of x)) (vote_on x) (listed c) (λ k e lt. refl)
votes_here eq listed (TwoVotes v w) (kind, clashes) =
    All-from_recursion (IsHere (round_of v.subject)) (v ∷ w ∷ []) (refl, (one_round eq kind v w clashes, tt))
