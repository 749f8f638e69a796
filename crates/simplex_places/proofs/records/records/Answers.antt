use Rattle.std.proofs.Common.{length, sym, ◌∙◌}
use Rattle.std.proofs.lemmas.Bool.{eqb-true}
use Rattle.std.proofs.lemmas.List.{nil_from_length}
use Rattle.simplex_rules.specs.Values.{evidence_value}
use Rattle.simplex_places.proofs.RecordLemmas.{no_records}
use Rattle.simplex_places.proofs.records.records.Goals as goal

pub returns-then-is_empty-clause-whose : goal.returns-then-is_empty-clause-whose
returns-then-is_empty-clause-whose g c =
    let len = eqb-true (length c.as_slice.result.now) 0 (sym c.is_empty.ensures ∙ c.if-is_empty.true) in
    let none = sym c.as_slice.ensures.value ∙ nil_from_length c.as_slice.result.now len in
    no_records _ evidence_value c.args.report.now.evidence.items c.new.result.items none c.new.ensures.items

pub returns-then-is_empty-clause-nowhere : goal.returns-then-is_empty-clause-nowhere
returns-then-is_empty-clause-nowhere g c messages rest are =
    let len = eqb-true (length c.as_slice.result.now) 0 (sym c.is_empty.ensures ∙ c.if-is_empty.true) in
    let none = sym c.as_slice.ensures.value ∙ nil_from_length c.as_slice.result.now len in
    no_records _ evidence_value c.args.report.now.evidence.items c.new.result.items none c.new.ensures.items

pub returns-then-is_empty-clause-records : goal.returns-then-is_empty-clause-records
returns-then-is_empty-clause-records g c audit messages rest are =
    let len = eqb-true (length c.as_slice.result.now) 0 (sym c.is_empty.ensures ∙ c.if-is_empty.true) in
    let none = sym c.as_slice.ensures.value ∙ nil_from_length c.as_slice.result.now len in
    no_records _ evidence_value c.args.report.now.evidence.items c.new.result.items none c.new.ensures.items
