-- The state of `audit_live` as bytes.
use Rattle.std.specs.Prelude.{◌≡◌, ◌≢◌, ℕ, ◌++◌, ◌≤◌, List, Option, None, Some, IfSome, String, map, string_bytes, codes, length, take, option_map}
use Rattle.std.specs.Borrow.{Bor}
use Rattle.std.specs.Global.{Global}
use Rattle.std.specs.List.{flat_map, last_or}
use Rattle.std.specs.Int.{to_le_bytes, w64}
use Rattle.simplex_cli.specs.Arguments.{StandsBeforeGroup}
use Rattle.sha2.specs.Sha256.{sha256}
use Rattle.simplex_base.specs.Positions.{Round}
use Rattle.simplex_live.specs.declared.state.Mark.{Mark}
use Rattle.simplex_live.specs.declared.state.Recovered.{Recovered}

-- the words of an option, if it is there
abbrev pub words_given : Option (Bor (List (String Global))) → Option (List (List ℕ))
words_given given = option_map (λ words. map string_bytes words.now) given

-- a number in 8 bytes, the least significant first
unfoldable pub number_bytes : ℕ → List ℕ
number_bytes number = to_le_bytes w64 number

-- a round: its epoch and its view
abbrev pub round_bytes : Round → List ℕ
round_bytes round = number_bytes round.epoch ++ number_bytes round.view

-- a mark: how far the input was taken, and the rounds of the window
abbrev pub mark_bytes : Mark → List ℕ
mark_bytes mark =
    number_bytes mark.covers ++ round_bytes mark.finalized ++ round_bytes mark.current ++ round_bytes mark.ended

-- words, each behind its length
abbrev pub words_bytes : List (List ℕ) → List ℕ
words_bytes words = flat_map (λ word. number_bytes (length word) ++ word) words

-- the body of a record behind its length and its digest
abbrev pub framed : List ℕ → List ℕ
framed body = number_bytes (length body) ++ sha256 body ++ body

-- a record: a mark and messages
abbrev pub record_bytes : Mark → List ℕ → List ℕ
record_bytes mark messages = framed (mark_bytes mark ++ messages)

-- what a state of the committees that these words name begins with
abbrev pub head_bytes : List (List ℕ) → List ℕ
head_bytes words = codes "simplex1" ++ number_bytes (length words) ++ sha256 (words_bytes words)

-- A head is of the committees that words name, or of those that the words in front of a further epoch's group name.
abbrev pub IsHeadOf : List (List ℕ) → List ℕ → Type 0
IsHeadOf words head =
    (front behind : List (List ℕ)) × (words ≡ front ++ behind) × StandsBeforeGroup behind × (head ≡ head_bytes front)

-- The bytes begin as a state does, and if the head is whole, it is of the committees that words name, or of any without words.
abbrev pub IsStateOf : Option (List (List ℕ)) → List ℕ → Type 0
IsStateOf words bytes =
    ((rest : List ℕ) × (codes "simplex1" ≡ take 8 bytes ++ rest))
    × (48 ≤ length bytes → IfSome words (λ given. IsHeadOf given (take 48 bytes)))

-- how many bytes of the input a state covers whose last record has this mark
abbrev pub covered_of : Option Mark → ℕ
covered_of None = 0
covered_of (Some mark) = mark.covers

-- some records, and behind them what begins with none
pub record AreRecords (bytes : List ℕ) (recovered : Recovered) : Type 0 where
  pub records : List (Mark × List ℕ)
  pub torn : List ℕ
  pub stand : bytes ≡ flat_map (λ r. record_bytes r.0 r.1) records ++ torn
  pub ended : (mark : Mark) (messages behind : List ℕ) → torn ≢ record_bytes mark messages ++ behind
  -- the last one's mark, and the messages of all
  pub marked : recovered.mark ≡ option_map (λ r. r.0) (last_or None records)
  pub joined : recovered.held.items ≡ flat_map (λ r. r.1) records
