use Rattle.std.proofs.Common.{◌≡◌, ◌<◌, ◌≤◌, ◌++◌, List, length, drop, refl, subst, inl, inr}
use Rattle.simplex_places.specs.declared.places.AttestationPlace.{AttestationPlace}
use Rattle.simplex_ffi.proofs.decoding.put_message.Goals as goal

pub returns-then-put-clause-given : goal.returns-then-put-clause-given
returns-then-put-clause-given g c = λ _.
    let same = c.deref.ensures.value in
    record {
      head_is = c.head_of.ensures;
      found = c.in-Ok.found.items;
      found_are = c.in-Ok.ensures.places;
      votes_are = c.in-Ok.ensures.votes;
      places_are = inl (
        subst (λ (l : List AttestationPlace). length l ≤ length c.args.buffer.now) same (c.put.ensures.fits c.if-put.true),
        refl,
        subst (λ (l : List AttestationPlace). c.put.new.buffer ≡ l ++ drop (length l) c.args.buffer.now) same
            (c.put.ensures.there c.if-put.true),
      );
    }

pub returns-clause-given : goal.returns-clause-given
returns-clause-given g c = λ _.
    let same = c.deref.ensures.value in
    record {
      head_is = c.head_of.ensures;
      found = c.in-Ok.found.items;
      found_are = c.in-Ok.ensures.places;
      votes_are = c.in-Ok.ensures.votes;
      places_are = inr (
        subst (λ (l : List AttestationPlace). length c.args.buffer.now < length l) same (c.put.ensures.short c.if-put.false),
        refl,
        c.put.ensures.kept c.if-put.false,
      );
    }
