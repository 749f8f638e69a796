use Rattle.std.proofs.Common.{Ok, ap, inl, inr, refl, ◌∙◌}
use Rattle.simplex_ffi.specs.Decoding.{IsFront}
use Rattle.simplex_ffi.proofs.decoding.put_front.Goals as goal

pub returns-in-Ok-Some-clause-given : goal.returns-in-Ok-Some-clause-given
unfolding IsFront
returns-in-Ok-Some-clause-given g c = λ ok.
    let front = rw c.in-Ok-Some.field-0-is at c.in-Ok-Some.ensures.front in
    inl (record {
      message = c.in-Ok-Some.message;
      rest = front.0;
      is_front = front.1;
      is_given = c.put_message.ensures.given ok;
    })

pub returns-in-Ok-None-clause-given : goal.returns-in-Ok-None-clause-given
unfolding IsFront
returns-in-Ok-None-clause-given g c = λ _.
    inr (c.read_front.ensures.none (c.in-Ok-None.is ∙ ap Ok c.in-Ok-None.field-0-is), refl, refl, refl)
