-- Evidence stays when more messages follow.
use Rattle.std.specs.Prelude.{List, ◌++◌, Contains}
use Rattle.simplex_evidence.specs.Contradiction.{Equivocation}
use Rattle.simplex_evidence.specs.declared.types.activity.Activity.{Activity}
use Rattle.simplex_rules.specs.Evidence.{IsEvidence}
use Rattle.simplex_rules.specs.Rules.{Rules, valid_votes}

-- each evidence of messages is evidence of them and any more behind them, too: the same two votes
abbrev pub EvidenceStays : {S D C P G : Type 0} → Rules S D C P G → List (Activity S D C P G) → List (Activity S D C P G) →
    Type 0
EvidenceStays {D = D} {G = G} rules messages more =
    (es later : List (Equivocation D G)) → IsEvidence rules.eq (valid_votes rules messages) es →
    IsEvidence rules.eq (valid_votes rules (messages ++ more)) later →
    (e : Equivocation D G) → Contains es e → Contains later e
