-- The report of a stream, from the reports of its parts.
use Rattle.std.specs.Prelude.{◌≡◌, ◌<◌, ◌-◌, ◌^◌, ℕ, List, length, min, slice_get, Option, Some}
use Rattle.std.specs.List.{flat_map, sum_by}
use Rattle.simplex_base.specs.Positions.{Round}
use Rattle.simplex_stream.specs.Fault.{IsFault}
use Rattle.simplex_stream.specs.Messages.{AreMessages}
use Rattle.simplex_stream.specs.declared.fault.Fault.{Fault}
use Rattle.simplex_scheme.specs.Committees.{Schedule}
use Rattle.simplex_evidence.specs.Activity.{activity_round}
use Rattle.simplex_evidence.specs.declared.types.activity.Activity.{Activity}
use Rattle.simplex_rules.specs.Accusation.{Accusation, signer_in, way_of, way_rank}
use Rattle.simplex_rules.specs.declared.evidence.SignerInRound.{SignerInRound}
use Rattle.simplex_audit.specs.Basis.{Basis}
use Rattle.simplex_audit.specs.Report.{IsReport}
use Rattle.simplex_audit.specs.declared.audit.Report.{Report}
use Rattle.simplex_shards.specs.Part.{IsPartReport, is_class}
use Rattle.simplex_shards.specs.Split.{IsSplit, bytes_of}
use Rattle.simplex_shards.specs.declared.split.Shards.{Shards}

-- the evidence and the splits of the parts, one part after another, and the sum of what was read, which stops at 2^64 - 1
pub record IsGathered {S D P G : Type 0} (parts : List (Report S D P G)) (report : Report S D P G) : Type 0 where
  pub evidence : report.evidence.items ≡ flat_map (λ part. part.evidence.items) parts
  pub splits : report.splits.items ≡ flat_map (λ part. part.splits.items) parts
  pub read : report.read ≡ min (sum_by (λ part. part.read) parts) (2 ^ 64 - 1)

-- by what evidence is sorted: the signer in its round, and the place of the kind
abbrev pub sort_key : Accusation → SignerInRound × ℕ
sort_key n = (signer_in n.round n.signer, way_rank (way_of n.kind))

module _ {S D C P G : Type 0} (basis : Schedule S → Basis S D C P G) (parts : List (Report S D P G)) (fault : Option Fault)
    (report : Report S D P G) where
  -- Each round is of one of the classes. If each part is the report of the stream's messages in its class, and the fault that
  -- of the stream, the report is that of the stream.
  abbrev pub MergesParts : Type 0
  MergesParts =
      (committees : Schedule S) (class : Round → ℕ) (stream rest : List ℕ) (messages : List (Activity S D C P G)) →
      length stream < 2 ^ 64 → ((round : Round) → class round < length parts) →
      AreMessages (basis committees).format stream messages rest →
      ((i : ℕ) (part : Report S D P G) → slice_get parts i ≡ Some part →
      IsPartReport (basis committees) (is_class class i) messages part) →
      IsFault (basis committees).format.reading (length (flat_map (basis committees).format.encoding messages)) rest fault →
      IsReport (basis committees) stream report

  -- The same, if each part is the report of the bytes into which the stream was cut.
  abbrev pub MergesShards : Type 0
  MergesShards =
      (committees : Schedule S) (class : Round → ℕ) (stream : List ℕ) (shards : Shards) →
      length stream < 2 ^ 64 → ((round : Round) → class round < length parts) →
      IsSplit (basis committees).format activity_round class (length parts) stream shards →
      ((i : ℕ) (bytes : List ℕ) (part : Report S D P G) → slice_get (bytes_of shards) i ≡ Some bytes →
      slice_get parts i ≡ Some part → IsReport (basis committees) bytes part) →
      fault ≡ shards.fault → IsReport (basis committees) stream report
