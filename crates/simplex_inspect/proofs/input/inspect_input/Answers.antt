use Rattle.std.proofs.Common.{◌≡◌, ◌++◌, ℕ, List, [], Ok, take, refl, sym, ap, subst, ◌∙◌, arith, rules, length-append}
use Rattle.std.specs.Io.KnownBytes.{Consumes}
use Rattle.std.proofs.KnownBytes.{Consumes-nil, Consumes-trans, Consumes-kept}
use Rattle.simplex_stream.specs.Watched.{inner_of}
use Rattle.simplex_stream.specs.DeviceLaws.{front_of}
use Rattle.simplex_stream.specs.Tail.{bytes_held}
use Rattle.simplex_inspect.specs.Inspected.{IsWritten}
use Rattle.simplex_inspect.proofs.InspectedLemmas.{if_err, if_ok_then, if_ok_both, if_err_then, begun_now}
use Rattle.simplex_inspect.proofs.InputLemmas.{nothing_left, input_length, input_ended, input_begun, input_settled, part_of_begun, consumed_nothing}
use Rattle.simplex_inspect.proofs.input.inspect_input.Invariants.{lines}
use Rattle.simplex_inspect.proofs.input.inspect_input.Goals as goal

pub reads-init : goal.reads-init
reads-init g c = (
  search rules,
  search rules,
  search rules,
  (
    [],
    Consumes-nil _,
    record {
      written = nothing_left (lines g c.args.committees.now) _ _ _ c.nothing-left.ensures.offset c.nothing-left.ensures.held;
      over = λ over. absurd (search rules);
    },
  ),
)

pub returns-in_err-piece-clause-begun : goal.returns-in_err-piece-clause-begun
returns-in_err-piece-clause-begun g c =
    let bytes = g.R.Read.remaining (inner_of c.args.reader.now) in
    let start = g.W.Write.contents (inner_of c.args.writer.now) in
    let shown = lines g c.args.committees.now in
    if_err c.from_residual.result _ (input_begun shown bytes bytes [] start start (Consumes-nil bytes)
    (begun_now shown [] 0 [] start start (nothing_left shown 0 [] start refl refl)))

pub returns-in_err-piece-clause-taken : goal.returns-in_err-piece-clause-taken
returns-in_err-piece-clause-taken g c =
    let bytes = g.R.Read.remaining (inner_of c.args.reader.now) in
    let start = g.W.Write.contents (inner_of c.args.writer.now) in
    let shown = lines g c.args.committees.now in
    if_err c.from_residual.result _ (
      [],
      Consumes-nil bytes,
      part_of_begun shown [] start start (begun_now shown [] 0 [] start start (nothing_left shown 0 [] start refl refl)),
    )

pub returns-in_err-count-clause-begun : goal.returns-in_err-count-clause-begun
returns-in_err-count-clause-begun g c =
    let (input, consumed, far) = c.reads.invariant.3 in
    let shown = lines g c.args.committees.now in
    if_err c.from_residual-in_err-count.result _ (input_begun shown _ _ input _ _ (Consumes-kept _ _ _ _ consumed
    c.in_err-count.ensures.kept) (begun_now shown input c.reads.left.offset (bytes_held c.reads.left.tail) _ _ far.written))

pub returns-in_err-count-clause-taken : goal.returns-in_err-count-clause-taken
returns-in_err-count-clause-taken g c =
    let (input, consumed, far) = c.reads.invariant.3 in
    let shown = lines g c.args.committees.now in
    if_err c.from_residual-in_err-count.result _ (
      input,
      Consumes-kept _ _ _ _ consumed c.in_err-count.ensures.kept,
      part_of_begun shown input _ _ (begun_now shown input c.reads.left.offset (bytes_held c.reads.left.tail) _ _ far.written),
    )

pub returns-in_err-left-clause-begun : goal.returns-in_err-left-clause-begun
returns-in_err-left-clause-begun g c =
    let (input, consumed, far) = c.reads.invariant.3 in
    let shown = lines g c.args.committees.now in
    let within = c.in_ok-count.ensures.within in
    let long = c.as_mut_slice.ensures.len in
    let same : take c.in_ok-count.count c.deref.result.now ≡ take c.in_ok-count.count c.read_some.new.piece =
    ap (λ (xs : List ℕ). take c.in_ok-count.count xs) c.deref.ensures.value
    ∙ front_of c.read_some.new.piece _ c.in_ok-count.count _ within (omega arith) in
    let came =
    subst (Consumes (g.R.Read.remaining (inner_of c.reads.reader)) (g.R.Read.remaining (inner_of c.read_some.new.reader)))
    (sym same) c.in_ok-count.ensures.bytes in
    if_err c.from_residual-in_err-left.result _
    (input_begun shown _ _ (input ++ _) _ _ (Consumes-trans _ _ _ _ _ consumed came) (c.in_err-left.ensures.begun input _ far))

pub returns-in_err-left-clause-taken : goal.returns-in_err-left-clause-taken
returns-in_err-left-clause-taken g c =
    let (input, consumed, far) = c.reads.invariant.3 in
    let shown = lines g c.args.committees.now in
    let within = c.in_ok-count.ensures.within in
    let long = c.as_mut_slice.ensures.len in
    let same : take c.in_ok-count.count c.deref.result.now ≡ take c.in_ok-count.count c.read_some.new.piece =
    ap (λ (xs : List ℕ). take c.in_ok-count.count xs) c.deref.ensures.value
    ∙ front_of c.read_some.new.piece _ c.in_ok-count.count _ within (omega arith) in
    let came =
    subst (Consumes (g.R.Read.remaining (inner_of c.reads.reader)) (g.R.Read.remaining (inner_of c.read_some.new.reader)))
    (sym same) c.in_ok-count.ensures.bytes in
    if_err c.from_residual-in_err-left.result _ (
      input ++ _,
      Consumes-trans _ _ _ _ _ consumed came,
      part_of_begun shown (input ++ _) _ _ (c.in_err-left.ensures.begun input _ far),
    )

pub returns-in_err-left-clause-too_long : goal.returns-in_err-left-clause-too_long
returns-in_err-left-clause-too_long g c = λ e.
    let (input, consumed, far) = c.reads.invariant.3 in
    let seen = input_length (lines g c.args.committees.now) input c.reads.left.offset (bytes_held c.reads.left.tail) _ _
    far.written in
    let many = c.in_err-left.ensures.too_long (search rules) in
    let within = c.in_ok-count.ensures.within in
    let long = c.as_mut_slice.ensures.len in
    let same : take c.in_ok-count.count c.deref.result.now ≡ take c.in_ok-count.count c.read_some.new.piece =
    ap (λ (xs : List ℕ). take c.in_ok-count.count xs) c.deref.ensures.value
    ∙ front_of c.read_some.new.piece _ c.in_ok-count.count _ within (omega arith) in
    let came =
    subst (Consumes (g.R.Read.remaining (inner_of c.reads.reader)) (g.R.Read.remaining (inner_of c.read_some.new.reader)))
    (sym same) c.in_ok-count.ensures.bytes in
    (input ++ _, rw length-append (omega (arith, seen, many)), Consumes-trans _ _ _ _ _ consumed came)

pub reads-preserved : goal.reads-preserved
reads-preserved g c =
    let (input, consumed, far) = c.reads.invariant.3 in
    let within = c.in_ok-count.ensures.within in
    let long = c.as_mut_slice.ensures.len in
    let same : take c.in_ok-count.count c.deref.result.now ≡ take c.in_ok-count.count c.read_some.new.piece =
    ap (λ (xs : List ℕ). take c.in_ok-count.count xs) c.deref.ensures.value
    ∙ front_of c.read_some.new.piece _ c.in_ok-count.count _ within (omega arith) in
    let came =
    subst (Consumes (g.R.Read.remaining (inner_of c.reads.reader)) (g.R.Read.remaining (inner_of c.read_some.new.reader)))
    (sym same) c.in_ok-count.ensures.bytes in (
      search rules,
      search rules,
      search rules,
      (input ++ _, Consumes-trans _ _ _ _ _ consumed came, c.in_ok-left.ensures.written input _ far),
    )

pub returns-then-count-eq0-clause-whole : goal.returns-then-count-eq0-clause-whole
returns-then-count-eq0-clause-whole g c =
    let (input, consumed, far) = c.reads.invariant.3 in
    let start = g.W.Write.contents (inner_of c.args.writer.now) in
    let now = g.W.Write.contents (inner_of c.reads.writer) in
    let held = subst (λ (held : List ℕ). IsWritten (lines g c.args.committees.now) input c.reads.left.offset held start now)
    (sym c.bytes.ensures) far.written in
    let none : c.in_ok-count.count ≡ 0 = search rules in
    let ended = c.in_ok-count.ensures.end (ap Ok none) in
    if_ok_then c.finish.result _ _ (λ fault h. (
      input,
      input_ended _ _ input (consumed_nothing _ _ _ input _ _ none consumed c.in_ok-count.ensures.bytes) ended,
      h input start held,
    )) c.finish.ensures.whole

pub returns-then-count-eq0-clause-begun : goal.returns-then-count-eq0-clause-begun
returns-then-count-eq0-clause-begun g c =
    let (input, consumed, far) = c.reads.invariant.3 in
    let start = g.W.Write.contents (inner_of c.args.writer.now) in
    let now = g.W.Write.contents (inner_of c.reads.writer) in
    let held = subst (λ (held : List ℕ). IsWritten (lines g c.args.committees.now) input c.reads.left.offset held start now)
    (sym c.bytes.ensures) far.written in
    let none : c.in_ok-count.count ≡ 0 = search rules in
    let ended = c.in_ok-count.ensures.end (ap Ok none) in
    if_err_then c.finish.result _ _ (λ e h. (
      input,
      input_ended _ _ input (consumed_nothing _ _ _ input _ _ none consumed c.in_ok-count.ensures.bytes) ended,
      h input start held,
    )) c.finish.ensures.begun

pub returns-then-count-eq0-clause-taken : goal.returns-then-count-eq0-clause-taken
returns-then-count-eq0-clause-taken g c =
    let (input, consumed, far) = c.reads.invariant.3 in
    let start = g.W.Write.contents (inner_of c.args.writer.now) in
    let now = g.W.Write.contents (inner_of c.reads.writer) in
    let held = subst (λ (held : List ℕ). IsWritten (lines g c.args.committees.now) input c.reads.left.offset held start now)
    (sym c.bytes.ensures) far.written in
    let none : c.in_ok-count.count ≡ 0 = search rules in
    if_err_then c.finish.result _ _
    (λ e h. (input, consumed_nothing _ _ _ input _ _ none consumed c.in_ok-count.ensures.bytes, h input start held))
    c.finish.ensures.begun

pub returns-then-is_settled-clause-whole : goal.returns-then-is_settled-clause-whole
returns-then-is_settled-clause-whole g c =
    let (input, consumed, far) = c.reads.invariant.3 in
    let within = c.in_ok-count.ensures.within in
    let long = c.as_mut_slice.ensures.len in
    let same : take c.in_ok-count.count c.deref.result.now ≡ take c.in_ok-count.count c.read_some.new.piece =
    ap (λ (xs : List ℕ). take c.in_ok-count.count xs) c.deref.ensures.value
    ∙ front_of c.read_some.new.piece _ c.in_ok-count.count _ within (omega arith) in
    let came =
    subst (Consumes (g.R.Read.remaining (inner_of c.reads.reader)) (g.R.Read.remaining (inner_of c.read_some.new.reader)))
    (sym same) c.in_ok-count.ensures.bytes in
    let (more, dropped) = c.end_at_fault.ensures.bytes in
    if_ok_both c.end_at_fault.result _ _ _ (λ fault h ended. (
      (input ++ _) ++ more,
      input_ended _ _ _ (Consumes-trans _ _ _ _ _ (Consumes-trans _ _ _ _ _ consumed came) dropped) ended,
      h (input ++ _) more _ (c.in_ok-left.ensures.written input _ far),
    )) c.end_at_fault.ensures.whole c.end_at_fault.ensures.end

pub returns-then-is_settled-clause-begun : goal.returns-then-is_settled-clause-begun
returns-then-is_settled-clause-begun g c =
    let (input, consumed, far) = c.reads.invariant.3 in
    let within = c.in_ok-count.ensures.within in
    let long = c.as_mut_slice.ensures.len in
    let same : take c.in_ok-count.count c.deref.result.now ≡ take c.in_ok-count.count c.read_some.new.piece =
    ap (λ (xs : List ℕ). take c.in_ok-count.count xs) c.deref.ensures.value
    ∙ front_of c.read_some.new.piece _ c.in_ok-count.count _ within (omega arith) in
    let came =
    subst (Consumes (g.R.Read.remaining (inner_of c.reads.reader)) (g.R.Read.remaining (inner_of c.read_some.new.reader)))
    (sym same) c.in_ok-count.ensures.bytes in
    let (more, dropped) = c.end_at_fault.ensures.bytes in
    if_err_then c.end_at_fault.result _ _ (λ e h. input_settled (lines g c.args.committees.now) _ _ (input ++ _) more _ _
    (Consumes-trans _ _ _ _ _ (Consumes-trans _ _ _ _ _ consumed came) dropped)
    (λ further. h (input ++ _) further _ (c.in_ok-left.ensures.written input _ far))) c.end_at_fault.ensures.begun

pub returns-then-is_settled-clause-taken : goal.returns-then-is_settled-clause-taken
returns-then-is_settled-clause-taken g c =
    let (input, consumed, far) = c.reads.invariant.3 in
    let within = c.in_ok-count.ensures.within in
    let long = c.as_mut_slice.ensures.len in
    let same : take c.in_ok-count.count c.deref.result.now ≡ take c.in_ok-count.count c.read_some.new.piece =
    ap (λ (xs : List ℕ). take c.in_ok-count.count xs) c.deref.ensures.value
    ∙ front_of c.read_some.new.piece _ c.in_ok-count.count _ within (omega arith) in
    let came =
    subst (Consumes (g.R.Read.remaining (inner_of c.reads.reader)) (g.R.Read.remaining (inner_of c.read_some.new.reader)))
    (sym same) c.in_ok-count.ensures.bytes in
    let (more, dropped) = c.end_at_fault.ensures.bytes in
    if_err_then c.end_at_fault.result _ _ (λ e h. (
      (input ++ _) ++ more,
      Consumes-trans _ _ _ _ _ (Consumes-trans _ _ _ _ _ consumed came) dropped,
      h (input ++ _) more _ (c.in_ok-left.ensures.written input _ far),
    )) c.end_at_fault.ensures.begun

pub returns-then-is_settled-clause-too_long : goal.returns-then-is_settled-clause-too_long
returns-then-is_settled-clause-too_long g c = λ e.
    let (input, consumed, far) = c.reads.invariant.3 in
    let now = c.in_ok-left.ensures.written input _ far in
    let seen = input_length (lines g c.args.committees.now) _ c.in_ok-left.left.offset (bytes_held c.in_ok-left.left.tail) _ _
    now.written in
    let (more, many, dropped) = c.end_at_fault.ensures.too_long (search rules) in
    let within = c.in_ok-count.ensures.within in
    let long = c.as_mut_slice.ensures.len in
    let same : take c.in_ok-count.count c.deref.result.now ≡ take c.in_ok-count.count c.read_some.new.piece =
    ap (λ (xs : List ℕ). take c.in_ok-count.count xs) c.deref.ensures.value
    ∙ front_of c.read_some.new.piece _ c.in_ok-count.count _ within (omega arith) in
    let came =
    subst (Consumes (g.R.Read.remaining (inner_of c.reads.reader)) (g.R.Read.remaining (inner_of c.read_some.new.reader)))
    (sym same) c.in_ok-count.ensures.bytes in (
      (input ++ _) ++ more,
      rw length-append (omega (arith, seen, many)),
      Consumes-trans _ _ _ _ _ (Consumes-trans _ _ _ _ _ consumed came) dropped,
    )
