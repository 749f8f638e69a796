use Rattle.std.proofs.Common.{◌∙◌, refl, sym, arith}
use Rattle.simplex_handle.proofs.replies.feed.Goals as goal

pub returns-in-Taken-clause-feeds : goal.returns-in-Taken-clause-feeds
returns-in-Taken-clause-feeds g c = λ floor committees stream h. record {
  taken = λ _. c.feed.ensures.taken c.in-Taken.is floor committees stream h;
  kept = λ not. absurd (not refl);
  over = λ one. absurd (omega (arith, one));
  long = λ five. absurd (omega (arith, five));
}

pub returns-in-Over-clause-feeds : goal.returns-in-Over-clause-feeds
returns-in-Over-clause-feeds g c = λ floor committees stream h. record {
  taken = λ none. absurd (omega (arith, none));
  kept = λ _. c.feed.ensures.kept (λ taken. let no = sym c.in-Over.is ∙ taken in cc) floor committees stream h;
  over = λ _. c.feed.ensures.over c.in-Over.is floor committees stream h;
  long = λ five. absurd (omega (arith, five));
}

pub returns-in-Long-clause-feeds : goal.returns-in-Long-clause-feeds
returns-in-Long-clause-feeds g c = λ floor committees stream h. record {
  taken = λ none. absurd (omega (arith, none));
  kept = λ _. c.feed.ensures.kept (λ taken. let no = sym c.in-Long.is ∙ taken in cc) floor committees stream h;
  over = λ one. absurd (omega (arith, one));
  long = λ _. c.feed.ensures.long c.in-Long.is floor committees stream h;
}

pub returns-in-OutOfMemory-clause-feeds : goal.returns-in-OutOfMemory-clause-feeds
returns-in-OutOfMemory-clause-feeds g c = λ floor committees stream h. record {
  taken = λ none. absurd (omega (arith, none));
  kept = λ _. c.feed.ensures.kept (λ taken. let no = sym c.in-OutOfMemory.is ∙ taken in cc) floor committees stream h;
  over = λ one. absurd (omega (arith, one));
  long = λ five. absurd (omega (arith, five));
}
