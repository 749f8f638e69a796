use Rattle.std.proofs.Common.{rules, arith, ℕ, List, [], ◌++◌, length, take, subst, sym, ap, ◌≡◌, ◌∙◌, length-append}
use Rattle.std.specs.Io.KnownBytes.{Consumes}
use Rattle.std.proofs.KnownBytes.{Consumes-nil, Consumes-trans}
use Rattle.std.proofs.lemmas.List.{length-take-le}
use Rattle.simplex_shards.specs.Cut.{class_under}
use Rattle.simplex_stream.specs.DeviceLaws.{front_of}
use Rattle.simplex_stream.specs.Watched.{inner_of}
use Rattle.simplex_splitting.proofs.CutLemmas.{begun_so_far, if_err, known, starts}
use Rattle.simplex_splitting.proofs.splitting.split_input.Invariants.{format}
use Rattle.simplex_splitting.proofs.splitting.split_input.Goals as goal

-- an error leaves what was cut at the head of the loop
pub returns-in_err-count-clause-begun : goal.returns-in_err-count-clause-begun
returns-in_err-count-clause-begun g c =
    let (input, consumed, all, h) = c.pieces.invariant.4 in
    if_err c.from_residual-in_err-count.result _ (known _ _ input _ consumed
    (begun_so_far (format g c.args.bound) g.M.Roundable.round_of (class_under c.args.cut.now) c.args.bound c.pieces.cutter input
    _ _ h (g.met.M.Read.lawful c.args.bound)))

pub returns-then-count-seen-clause-begun : goal.returns-then-count-seen-clause-begun
returns-then-count-seen-clause-begun g c =
    let (input, consumed, all, h) = c.pieces.invariant.4 in
    known _ _ input _ consumed
    (begun_so_far (format g c.args.bound) g.M.Roundable.round_of (class_under c.args.cut.now) c.args.bound c.pieces.cutter input
    _ _ h (g.met.M.Read.lawful c.args.bound))

pub returns-then-count-seen-clause-too_long : goal.returns-then-count-seen-clause-too_long
returns-then-count-seen-clause-too_long g c = λ e.
    let (input, consumed, all, h) = c.pieces.invariant.4 in
    let within = c.in_ok-count.ensures.within in
    let many = c.if-count-seen.true in
    let size = length-take-le c.in_ok-count.count c.fill.new.piece within in (
      input ++ take c.in_ok-count.count c.fill.new.piece,
      rw length-append (omega (arith, all, many, size)),
      Consumes-trans _ _ _ _ _ consumed c.in_ok-count.ensures.bytes,
    )

pub returns-in_err-take_piece-clause-begun : goal.returns-in_err-take_piece-clause-begun
returns-in_err-take_piece-clause-begun g c =
    let (input, consumed, all, h) = c.pieces.invariant.4 in
    let within = c.in_ok-count.ensures.within in
    let long = c.as_mut_slice.ensures.len in
    let same : take c.in_ok-count.count c.deref.result.now ≡ take c.in_ok-count.count c.fill.new.piece =
    ap (λ (xs : List ℕ). take c.in_ok-count.count xs) c.deref.ensures.value
    ∙ front_of c.fill.new.piece _ c.in_ok-count.count _ within (omega arith) in
    let came =
    subst (Consumes (g.R.Read.remaining (inner_of c.pieces.reader)) (g.R.Read.remaining (inner_of c.fill.new.reader)))
    (sym same) c.in_ok-count.ensures.bytes in
    if_err c.from_residual-in_err-take_piece.result _
    (known _ _ (input ++ _) _ (Consumes-trans _ _ _ _ _ consumed came)
    (λ more. c.in_err-take_piece.ensures.begun c.args.bound input more _ h))

pub returns-in_err-sum_up-clause-begun : goal.returns-in_err-sum_up-clause-begun
returns-in_err-sum_up-clause-begun g c =
    let (input, consumed, all, h) = c.pieces.invariant.4 in
    let within = c.in_ok-count.ensures.within in
    let long = c.as_mut_slice.ensures.len in
    let same : take c.in_ok-count.count c.deref.result.now ≡ take c.in_ok-count.count c.fill.new.piece =
    ap (λ (xs : List ℕ). take c.in_ok-count.count xs) c.deref.ensures.value
    ∙ front_of c.fill.new.piece _ c.in_ok-count.count _ within (omega arith) in
    let came =
    subst (Consumes (g.R.Read.remaining (inner_of c.pieces.reader)) (g.R.Read.remaining (inner_of c.fill.new.reader)))
    (sym same) c.in_ok-count.ensures.bytes in
    if_err c.from_residual-in_err-sum_up.result _
    (known _ _ (input ++ _) _ (Consumes-trans _ _ _ _ _ consumed came)
    (begun_so_far (format g c.args.bound) g.M.Roundable.round_of (class_under c.args.cut.now) c.args.bound
    c.take_piece.new.cutter (input ++ _) _ _ (c.in_ok-take_piece.ensures.parts c.args.bound input _ h)
    (g.met.M.Read.lawful c.args.bound)))

pub returns-then-count-len-clause-parts : goal.returns-then-count-len-clause-parts
returns-then-count-len-clause-parts g c =
    let (input, consumed, all, h) = c.pieces.invariant.4 in
    let within = c.in_ok-count.ensures.within in
    let long = c.as_mut_slice.ensures.len in
    let same : take c.in_ok-count.count c.deref.result.now ≡ take c.in_ok-count.count c.fill.new.piece =
    ap (λ (xs : List ℕ). take c.in_ok-count.count xs) c.deref.ensures.value
    ∙ front_of c.fill.new.piece _ c.in_ok-count.count _ within (omega arith) in
    let came =
    subst (Consumes (g.R.Read.remaining (inner_of c.pieces.reader)) (g.R.Read.remaining (inner_of c.fill.new.reader)))
    (sym same) c.in_ok-count.ensures.bytes in (
      input ++ _,
      Consumes-trans _ _ _ _ _ consumed came,
      c.in_ok-sum_up.ensures (class_under c.args.cut.now) c.args.bound (input ++ _) _ _
          (c.in_ok-take_piece.ensures.parts c.args.bound input _ h),
    )

pub pieces-init : goal.pieces-init
pieces-init g c =
    let fed = c.new-cutter.ensures.fed in (
      search rules,
      search rules,
      search rules,
      omega (arith, fed),
      (
        [],
        Consumes-nil _,
        search rules,
        starts (format g c.args.bound) g.M.Roundable.round_of (class_under c.args.cut.now) c.args.bound c.new-cutter.result _
            c.new-cutter.ensures.stands,
      ),
    )

pub pieces-preserved : goal.pieces-preserved
pieces-preserved g c =
    let (input, consumed, all, h) = c.pieces.invariant.4 in
    let fed = c.pieces.invariant.3 in
    let fed' = c.in_ok-take_piece.ensures.fed in
    let within = c.in_ok-count.ensures.within in
    let long = c.as_mut_slice.ensures.len in
    let same : take c.in_ok-count.count c.deref.result.now ≡ take c.in_ok-count.count c.fill.new.piece =
    ap (λ (xs : List ℕ). take c.in_ok-count.count xs) c.deref.ensures.value
    ∙ front_of c.fill.new.piece _ c.in_ok-count.count _ within (omega arith) in
    let came =
    subst (Consumes (g.R.Read.remaining (inner_of c.pieces.reader)) (g.R.Read.remaining (inner_of c.fill.new.reader)))
    (sym same) c.in_ok-count.ensures.bytes in
    let size : length (take c.in_ok-count.count c.deref.result.now) ≡ c.in_ok-count.count =
    ap length same ∙ length-take-le c.in_ok-count.count c.fill.new.piece within in (
      search rules,
      search rules,
      search rules,
      omega (arith, fed, fed', size),
      (
        input ++ _,
        Consumes-trans _ _ _ _ _ consumed came,
        rw length-append (omega (arith, all, size)),
        c.in_ok-take_piece.ensures.parts c.args.bound input _ h,
      ),
    )
