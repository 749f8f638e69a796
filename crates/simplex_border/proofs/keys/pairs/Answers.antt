use Rattle.std.proofs.Common.{◌<◌, ◌≤◌, ◌+◌, ◌++◌, ℕ, List, Ok, Option, length, drop, ap, subst, sym, arith}
use Rattle.std.specs.Prelude.{All, IfSome}
use Rattle.std.proofs.lemmas.List.Elements.{All-get_or}
use Rattle.simplex_schemes.specs.Plain.{PlainScheme}
use Rattle.simplex_schemes.specs.PlainCommittee.{AreCommitteeKeys, IsPlainCommittee}
use Rattle.simplex_border.specs.Keys.{HasNoKeyTwice, keys_in, parts_of}
use Rattle.simplex_border.proofs.KeyLemmas.{AreCommittees, committees_more, committees_whole, distinct_more, epochs_more, next_keys, room_more}
use Rattle.simplex_border.proofs.keys.pairs.Goals as goal

pub returns-in-None-clause-none : goal.returns-in-None-clause-none
returns-in-None-clause-none c = λ _ all.
    let sizes = c.args.sizes.now in
    let i = c.epochs.i in
    let within : i < length sizes = omega (arith, c.requires.same, c.epochs-test.true) in
    c.in_ok-committee.ensures.none (ap Ok c.in-None.is)
    (subst (λ (own : List ℕ). AreCommitteeKeys (keys_in own)) (sym c.split_at.ensures.front)
    (next_keys sizes c.epochs.rest.now i within (All-get_or (λ n. 1 ≤ n) sizes i 0 within c.requires.members)
    (omega (arith, c.type_inv.sizes i)) c.epochs.invariant.room (c.epochs.invariant.distinct all)))

pub epochs-preserved : goal.epochs-preserved
epochs-preserved c =
    let namespace = c.args.namespace.now in
    let epochs = c.args.epochs.now in
    let sizes = c.args.sizes.now in
    let whole = parts_of sizes c.args.keys.now in
    let i = c.epochs.i in
    let rest = c.epochs.rest.now in
    let before = c.epochs.pairs.items in
    let within : i < length sizes = omega (arith, c.requires.same, c.epochs-test.true) in
    let found = subst (λ (o : Option PlainScheme). IfSome o (IsPlainCommittee namespace (keys_in c.split_at.result.0.now)))
    c.in-Some.is c.in_ok-committee.ensures.committee in
    let is = subst (λ (own : List ℕ). IsPlainCommittee namespace (keys_in own) c.in-Some.committee) c.split_at.ensures.front
    found in
    let p : ℕ × PlainScheme = (c.new.result, c.in-Some.committee) in
    record {
      room = rw c.split_at.ensures.back (room_more sizes rest i within c.epochs.invariant.room).1;
      epochs = rw c.in_ok-push-in-Some.ensures.items
          (epochs_more epochs i before p c.epochs-test.true c.epochs.invariant.epochs c.new.ensures);
      committees = λ more are.
          subst (λ (ps : List (ℕ × PlainScheme)). AreCommittees namespace whole (ps ++ more))
          (sym c.in_ok-push-in-Some.ensures.items)
          (committees_more namespace sizes rest i before p whole within is c.epochs.invariant.committees more
          (subst (λ (bytes : List ℕ). AreCommittees namespace (parts_of (drop (i + 1) sizes) bytes) more)
          c.split_at.ensures.back are));
      distinct = λ all.
          subst (λ (bytes : List ℕ). All HasNoKeyTwice (parts_of (drop (i + 1) sizes) bytes)) (sym c.split_at.ensures.back)
          (distinct_more sizes rest i within (c.epochs.invariant.distinct all));
    }

pub returns-clause-committees : goal.returns-clause-committees
returns-clause-committees c =
    committees_whole c.args.namespace.now c.args.sizes.now c.epochs.rest.now c.epochs.i c.epochs.pairs.items
    (parts_of c.args.sizes.now c.args.keys.now) (omega (arith, c.requires.same, c.epochs-test.false))
    c.epochs.invariant.committees
