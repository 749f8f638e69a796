use Rattle.std.proofs.Common.{◌≡◌, ◌<◌, ◌≤◌, ◌++◌, List, length, drop, refl, subst, arith, inl, inr}
use Rattle.simplex_places.specs.declared.records.Record.{Record}
use Rattle.simplex_ffi.proofs.EndedLemmas.{ended_below}
use Rattle.simplex_ffi.proofs.records.answer_records.Goals as goal

pub returns-then-put-clause-recorded : goal.returns-then-put-clause-recorded
returns-then-put-clause-recorded g c = λ _.
    let same = c.deref.ensures.value in
    record {
      report = c.in-Ok.report;
      audit_is = c.in-Ok.ensures.0;
      summary_is = c.summarize.ensures;
      found = c.in-Ok.found.items;
      found_are = c.in-Ok.ensures.2;
      records_are = inl (
        subst (λ (found : List Record). length found ≤ length c.args.buffer.now) same (c.put.ensures.fits c.if-put.true),
        c.ended.ensures,
        subst (λ (found : List Record). c.put.new.buffer ≡ found ++ drop (length found) c.args.buffer.now) same
            (c.put.ensures.there c.if-put.true),
      );
    }

pub returns-then-put-clause-memory : goal.returns-then-put-clause-memory
returns-then-put-clause-memory g c = λ is. absurd (omega (arith, is, c.ended.ensures, ended_below c.in-Ok.report.fault))

pub returns-then-put-clause-status : goal.returns-then-put-clause-status
returns-then-put-clause-status g c = λ is. omega (arith, is, c.ended.ensures, ended_below c.in-Ok.report.fault)

pub returns-clause-recorded : goal.returns-clause-recorded
returns-clause-recorded g c = λ _.
    let same = c.deref.ensures.value in
    record {
      report = c.in-Ok.report;
      audit_is = c.in-Ok.ensures.0;
      summary_is = c.summarize.ensures;
      found = c.in-Ok.found.items;
      found_are = c.in-Ok.ensures.2;
      records_are = inr (
        subst (λ (found : List Record). length c.args.buffer.now < length found) same (c.put.ensures.short c.if-put.false),
        refl,
        c.put.ensures.kept c.if-put.false,
      );
    }
