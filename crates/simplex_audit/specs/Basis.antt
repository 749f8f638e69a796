-- The basis of an audit.
use Rattle.std.specs.Prelude.{ℕ}
use Rattle.simplex_base.specs.Format.{Format, Readable, format_under}
use Rattle.simplex_base.specs.Positions.{Round}
use Rattle.simplex_evidence.specs.declared.types.activity.Activity.{Activity}
use Rattle.simplex_scheme.specs.Committees.{Schedule, bound_of}
use Rattle.simplex_rules.specs.Scheme.{rules_of, Scheme}
use Rattle.simplex_rules.specs.Independence.{in_rounds, is_from}
use Rattle.simplex_rules.specs.Rules.{Rules}

-- How messages are read, and the rules by which they are judged. S, P and G are the types of the scheme, its keys and its
-- signatures, C that of its certificates, and D that of payloads.
pub record Basis (S D C P G : Type 0) : Type 1 where
  -- the number of participants of the greatest committee, under which certificates are read
  pub bound : ℕ
  -- how messages are encoded and read
  pub format : Format (Activity S D C P G)
  -- which votes are valid and which certificates certify, each judged by the committee of its round's epoch
  pub rules : Rules S D C P G

-- the basis of an audit under committees
abbrev pub basis_of : {S D C P G : Type 0} → Readable ℕ (Activity S D C P G) → Scheme S D C P G → Schedule S → Basis S D C P G
basis_of message scheme committees = record {
  bound = bound_of scheme.keys committees;
  format = format_under message (bound_of scheme.keys committees);
  rules = rules_of scheme committees;
}

-- the same basis, except that no vote and no certificate of a round below a floor is valid
abbrev pub basis_from : {S D C P G : Type 0} → Round → Basis S D C P G → Basis S D C P G
basis_from floor basis =
    record { bound = basis.bound; format = basis.format; rules = in_rounds (is_from floor) basis.rules }
