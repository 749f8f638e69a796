use Rattle.std.proofs.Common.{ℕ, List, [], ap, arith, refl, ◌∙◌}
use Rattle.std.specs.Prelude.{replicate}
use Rattle.std.proofs.lemmas.Option.{MatchOption-at_none, MatchOption-at_some}
use Rattle.simplex_base.specs.Format.{Format}
use Rattle.simplex_stream.specs.Messages.{IsStuck}
use Rattle.simplex_stream.specs.StreamLaws.{fault_is}
use Rattle.simplex_shards.specs.Cut.{class_under, classes_of}
use Rattle.simplex_shards.specs.Peek.{IsPeeked}
use Rattle.simplex_shards.specs.declared.ranges.Range.{Range}
use Rattle.simplex_shards.proofs.ClassLemmas.{located_all, peeked_room, peeked_shorter, so_far_end, so_far_next, so_far_place, so_far_start, taken}
use Rattle.simplex_shards.proofs.CutLemmas.{class_below}
use Rattle.simplex_shards.proofs.classes.class_ranges.Given as given
use Rattle.simplex_shards.proofs.classes.class_ranges.Goals as goal

-- the format of messages under a bound
abbrev format : (g : given.Over) → ℕ → Format g.row.M.Denot
format g bound = record {
  is_value = g.M.Read.fits bound;
  encoding = g.M.Encoding.encoding;
  reading = g.M.Read.reading bound;
}

pub messages-init : goal.messages-init
messages-init g c =
    so_far_start (format g c.args.bound) g.M.Roundable.round_of g.M.Tabular.row_of g.met.M.Tabular.row_is
    (class_under c.args.cut.now) c.args.stream.now _

pub note-requires : goal.note-requires
note-requires g c =
    let peeked = MatchOption-at_some (IsStuck (format g c.args.bound) c.messages.rest.now)
    (IsPeeked (g.M.Read.fits c.args.bound) g.M.Encoding.encoding g.M.Roundable.round_of c.messages.rest.now)
    c.in-Some.message c.in-Some.is c.in_ok-message.ensures in
    let room = peeked_room (format g c.args.bound) g.M.Roundable.round_of g.M.Tabular.row_of g.met.M.Tabular.row_is
    (class_under c.args.cut.now) c.args.stream.now _ c.messages.locator c.messages.rest.now c.messages.read
    c.in-Some.message c.messages.invariant peeked refl in
    omega (arith, room)

pub messages-smaller : goal.messages-smaller
messages-smaller g c =
    let peeked = MatchOption-at_some (IsStuck (format g c.args.bound) c.messages.rest.now)
    (IsPeeked (g.M.Read.fits c.args.bound) g.M.Encoding.encoding g.M.Roundable.round_of c.messages.rest.now)
    c.in-Some.message c.in-Some.is c.in_ok-message.ensures in
    peeked_shorter (format g c.args.bound) g.M.Roundable.round_of g.M.Tabular.row_of g.met.M.Tabular.row_is
    (class_under c.args.cut.now) c.args.stream.now _ c.messages.locator c.messages.rest.now c.messages.read
    c.in-Some.message c.messages.invariant peeked _ g.met.M.Message.never_empty
    (taken c.in-Some.message.length c.messages.rest.now)

pub messages-preserved : goal.messages-preserved
messages-preserved g c =
    let peeked = MatchOption-at_some (IsStuck (format g c.args.bound) c.messages.rest.now)
    (IsPeeked (g.M.Read.fits c.args.bound) g.M.Encoding.encoding g.M.Roundable.round_of c.messages.rest.now)
    c.in-Some.message c.in-Some.is c.in_ok-message.ensures in
    so_far_next (format g c.args.bound) g.M.Roundable.round_of g.M.Tabular.row_of g.met.M.Tabular.row_is
    (class_under c.args.cut.now) c.args.stream.now _ c.messages.locator c.messages.rest.now c.messages.read
    c.in-Some.message c.messages.invariant peeked c.note.new.self _ g.met.M.Message.never_empty c.in_ok-note.ensures
    (taken c.in-Some.message.length c.messages.rest.now)

pub returns : goal.returns
returns g c =
    let far = c.messages.invariant in
    let stuck = MatchOption-at_none (IsStuck (format g c.args.bound) c.messages.rest.now)
    (IsPeeked (g.M.Read.fits c.args.bound) g.M.Encoding.encoding g.M.Roundable.round_of c.messages.rest.now)
    c.in_default.is c.in_ok-message.ensures in
    let stopped = c.in_ok-stop.ensures stuck in
    let progress = so_far_end (format g c.args.bound) g.M.Roundable.round_of g.M.Tabular.row_of g.met.M.Tabular.row_is
    (class_under c.args.cut.now) c.args.stream.now _ c.messages.locator c.messages.rest.now c.messages.read c.in_ok-stop.stop
    far
    stuck stopped in
    let place = so_far_place (format g c.args.bound) g.M.Roundable.round_of g.M.Tabular.row_of g.met.M.Tabular.row_is
    (class_under c.args.cut.now) c.args.stream.now _ c.messages.locator c.messages.rest.now c.messages.read refl far in
    located_all (format g c.args.bound) g.M.Roundable.round_of g.M.Tabular.row_of g.met.M.Tabular.row_is
    g.met.M.Message.never_empty (class_under c.args.cut.now) (classes_of c.args.cut.now) (class_below c.args.cut.now)
    c.args.stream.now c.messages.rest.now c.messages.read c.in_ok-stop.stop _ c.messages.locator _
    (c.in_ok-empty_parts.ensures ∙ ap (λ (k : ℕ). replicate {A = List Range} k []) c.classes.ensures.value) refl
    progress refl refl
    (fault_is (format g c.args.bound) c.args.stream.now c.messages.rest.now progress.messages c.messages.locator.place
    c.in_ok-stop.stop _ progress.are_messages place progress.stop_is c.fault_at-fault.ensures)
