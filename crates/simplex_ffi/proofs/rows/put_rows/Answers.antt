use Rattle.std.proofs.Common.{◌≡◌, ◌<◌, ◌≤◌, ◌++◌, List, length, drop, refl, subst, inl, inr}
use Rattle.simplex_shards.specs.declared.index.Row.{Row}
use Rattle.simplex_ffi.proofs.rows.put_rows.Goals as goal

pub returns-then-put-clause-indexed : goal.returns-then-put-clause-indexed
returns-then-put-clause-indexed g c = λ _.
    let same = c.deref.ensures.value in
    record {
      table = c.in-Ok.table;
      table_is = c.in-Ok.ensures;
      summary_is = c.summarize_table.ensures;
      rows_are = inl (
        subst (λ (rows : List Row). length rows ≤ length c.args.buffer.now) same (c.put.ensures.fits c.if-put.true),
        c.ended.ensures,
        subst (λ (rows : List Row). c.put.new.buffer ≡ rows ++ drop (length rows) c.args.buffer.now) same
            (c.put.ensures.there c.if-put.true),
      );
    }

pub returns-clause-indexed : goal.returns-clause-indexed
returns-clause-indexed g c = λ _.
    let same = c.deref.ensures.value in
    record {
      table = c.in-Ok.table;
      table_is = c.in-Ok.ensures;
      summary_is = c.summarize_table.ensures;
      rows_are = inr (
        subst (λ (rows : List Row). length c.args.buffer.now < length rows) same (c.put.ensures.short c.if-put.false),
        refl,
        c.put.ensures.kept c.if-put.false,
      );
    }
