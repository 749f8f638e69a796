-- The rows of messages one after another.
use Rattle.std.specs.Prelude.{◌≡◌, ◌+◌, ℕ, List, [], ◌∷◌, ◌++◌, length}
use Rattle.std.specs.List.{flat_map}
use Rattle.simplex_base.specs.Positions.{Round}
use Rattle.simplex_scheme.specs.declared.scheme.Attestation.{Attestation}
use Rattle.simplex_evidence.specs.Activity.{activity_round, activity_tag, votes_in}
use Rattle.simplex_evidence.specs.declared.types.activity.Activity.{Activity}
use Rattle.simplex_shards.specs.declared.index.Row.{Row}
use Rattle.simplex_shards.specs.declared.index.Tabulator.{Tabulator}

-- the round of a row
abbrev pub row_round : Row → Round
row_round row = record { epoch = row.epoch; view = row.view }

-- a row has the round of a message that begins at a place, that place, and the message's number of bytes
pub record IsRow {M : Type 0} (round : M → Round) (encoding : M → List ℕ) (place : ℕ) (message : M) (row : Row) : Type 0 where
  pub round_is : row_round row ≡ round message
  pub place_is : row.place ≡ place
  pub length_is : row.length ≡ length (encoding message)

module _ {M : Type 0} (row_of : ℕ → M → Row) (encoding : M → List ℕ) where
  -- the rows of messages, one after another from a place on
  abbrev pub rows_from : ℕ → List M → List Row
  rows_from place [] = []
  rows_from place (m ∷ others) = row_of place m ∷ rows_from (place + length (encoding m)) others

  -- the rows of these messages were noted
  pub record Tabulates (messages : List M) (old new : Tabulator) : Type 0 where
    pub rows_are : new.rows.items ≡ old.rows.items ++ rows_from old.place messages
    pub place_is : new.place ≡ old.place + length (flat_map encoding messages)

-- ---- messages of consensus

-- the row of a message that begins at a place: `listed` gives the attestations that a certificate lists
abbrev pub message_row : {S D C P G : Type 0} → (Activity S D C P G → List ℕ) → (C → List (Attestation S P G)) → ℕ →
    Activity S D C P G → Row
message_row encoding listed place m = record {
  epoch = (activity_round m).epoch;
  view = (activity_round m).view;
  place = place;
  length = length (encoding m);
  attestations = length (votes_in listed m);
  kind = activity_tag m;
}
