use Rattle.std.proofs.Common.{◌≡◌, ◌≤◌, ◌<◌, ◌++◌, List, length, drop, refl, sym, ap, subst, ◌∙◌, inl, inr, arith}
use Rattle.simplex_shards.specs.declared.ranges.Range.{Range}
use Rattle.simplex_ffi.proofs.ClassLemmas.{ends_count, found_as, found_laid_out}
use Rattle.simplex_ffi.proofs.EndedLemmas.{ended_below}
use Rattle.simplex_ffi.proofs.classes.put_classes.Goals as goal

pub summarize_classes-requires : goal.summarize_classes-requires
summarize_classes-requires g c =
    let laid = found_laid_out c.in-Ok.found _ c.deref.ensures.value _ _ c.in-Ok-lay_out.ensures in
    c.len.ensures ∙ (c.in-Ok-lay_out.ranges.ok.0 ∙ ap length laid.0)

pub returns-then-not-put-clause-given : goal.returns-then-not-put-clause-given
returns-then-not-put-clause-given g c = λ _ _.
    let laid = found_laid_out c.in-Ok.found _ c.deref.ensures.value _ _ c.in-Ok-lay_out.ensures in
    let same = c.deref-2.ensures.value ∙ laid.0 in
    record {
      found = c.in-Ok.found;
      found_are = found_as c.in-Some.ensures.some.1 c.in-Some.ensures.some.2 c.in-Ok.ensures;
      summary_is = c.summarize_classes.ensures;
      ranges_are = inr (
        subst (λ (l : List Range). length c.args.buffer.now < length l) same (c.put.ensures.short c.if-not-put.true),
        refl,
        c.put.ensures.kept c.if-not-put.true,
      );
      ends_are = λ other. absurd (other refl);
      ends_stay = λ _. refl;
    }

pub copy_from_slice-requires : goal.copy_from_slice-requires
copy_from_slice-requires g c =
    let laid = found_laid_out c.in-Ok.found _ c.deref.ensures.value _ _ c.in-Ok-lay_out.ensures in
    sym (ap length (c.deref-3.ensures.value ∙ laid.1) ∙ (ends_count 0 _ ∙ (c.in-Ok.ensures.count ∙ c.in-Some.ensures.some.2)))

pub returns-clause-given : goal.returns-clause-given
returns-clause-given g c = λ _ _.
    let laid = found_laid_out c.in-Ok.found _ c.deref.ensures.value _ _ c.in-Ok-lay_out.ensures in
    let same = c.deref-2.ensures.value ∙ laid.0 in
    record {
      found = c.in-Ok.found;
      found_are = found_as c.in-Some.ensures.some.1 c.in-Some.ensures.some.2 c.in-Ok.ensures;
      summary_is = c.summarize_classes.ensures;
      ranges_are = inl (
        subst (λ (l : List Range). length l ≤ length c.args.buffer.now) same (c.put.ensures.fits c.if-not-put.false),
        c.ended.ensures,
        subst (λ (l : List Range). c.put.new.buffer ≡ l ++ drop (length l) c.args.buffer.now) same
            (c.put.ensures.there c.if-not-put.false),
      );
      ends_are = λ _. c.copy_from_slice.ensures.after ∙ (c.deref-3.ensures.value ∙ laid.1);
      ends_stay = λ short. absurd (omega (arith, short, c.ended.ensures, ended_below c.in-Ok.found.fault));
    }
