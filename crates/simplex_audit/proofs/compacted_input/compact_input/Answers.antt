use Rattle.std.proofs.Common.{rules, arith, ℕ, List, [], ◌++◌, length, take, subst, sym, ap, ◌≡◌, ◌∙◌, length-append}
use Rattle.std.specs.Io.KnownBytes.{Consumes}
use Rattle.std.proofs.KnownBytes.{Consumes-nil, Consumes-trans}
use Rattle.std.proofs.lemmas.List.{length-take-le}
use Rattle.simplex_stream.specs.DeviceLaws.{front_of}
use Rattle.simplex_stream.specs.Watched.{inner_of}
use Rattle.simplex_audit.specs.Basis.{Basis, basis_from}
use Rattle.simplex_audit.specs.CompactedInput.{WritesCompaction}
use Rattle.simplex_audit.proofs.CompactedInputLemmas.{begun_so_far, if_err, known}
use Rattle.simplex_audit.proofs.FloorLemmas.{from_first}
use Rattle.simplex_audit.proofs.compacted_input.compact_input.Invariants.{is_value, whole}
use Rattle.simplex_audit.proofs.compacted_input.compact_input.Goals as goal

-- before the first read nothing was written
pub returns-in_err-piece-clause-begun : goal.returns-in_err-piece-clause-begun
returns-in_err-piece-clause-begun g c =
    if_err c.from_residual.result _ (known _ _ [] _ (Consumes-nil _) (λ more.
    begun_so_far (is_value g) c.args.floor (whole g c.args.committees.now) c.new-state.result [] _ _
    (c.new-state.ensures.compacted _) more))

-- an error leaves a front of the compaction, as it was at the head of the loop
pub returns-in_err-count-clause-begun : goal.returns-in_err-count-clause-begun
returns-in_err-count-clause-begun g c =
    let (input, consumed, all, h) = c.pieces.invariant.4 in
    if_err c.from_residual-in_err-count.result _ (known _ _ input _ consumed (λ more.
    begun_so_far (is_value g) c.args.floor (whole g c.args.committees.now) c.pieces.state input _ _ h more))

pub returns-then-count-seen-clause-begun : goal.returns-then-count-seen-clause-begun
returns-then-count-seen-clause-begun g c =
    let (input, consumed, all, h) = c.pieces.invariant.4 in
    known _ _ input _ consumed (λ more.
    begun_so_far (is_value g) c.args.floor (whole g c.args.committees.now) c.pieces.state input _ _ h more)

pub returns-in_err-feed-clause-begun : goal.returns-in_err-feed-clause-begun
returns-in_err-feed-clause-begun g c =
    let (input, consumed, all, h) = c.pieces.invariant.4 in
    if_err c.from_residual-in_err-feed.result _ (known _ _ input _ consumed (λ more.
    begun_so_far (is_value g) c.args.floor (whole g c.args.committees.now) c.pieces.state input _ _ h more))

pub returns-then-count-seen-clause-too_long : goal.returns-then-count-seen-clause-too_long
returns-then-count-seen-clause-too_long g c = λ e.
    let (input, consumed, all, h) = c.pieces.invariant.4 in
    let within = c.in_ok-count.ensures.within in
    let many = c.if-count-seen.true in
    let size = length-take-le c.in_ok-count.count c.fill.new.piece within in (
      input ++ take c.in_ok-count.count c.fill.new.piece,
      rw length-append (omega (arith, all, many, size)),
      Consumes-trans _ _ _ _ _ consumed c.in_ok-count.ensures.bytes,
    )

pub returns-in_err-write-clause-begun : goal.returns-in_err-write-clause-begun
returns-in_err-write-clause-begun g c =
    let (input, consumed, all, h) = c.pieces.invariant.4 in
    let within = c.in_ok-count.ensures.within in
    let long = c.as_mut_slice.ensures.len in
    let same : take c.in_ok-count.count c.deref.result.now ≡ take c.in_ok-count.count c.fill.new.piece =
    ap (λ (xs : List ℕ). take c.in_ok-count.count xs) c.deref.ensures.value
    ∙ front_of c.fill.new.piece _ c.in_ok-count.count _ within (omega arith) in
    let came =
    subst (Consumes (g.R.Read.remaining (inner_of c.pieces.reader)) (g.R.Read.remaining (inner_of c.fill.new.reader)))
    (sym same) c.in_ok-count.ensures.bytes in
    if_err c.from_residual-in_err-write.result _ (known _ _ (input ++ _) _ (Consumes-trans _ _ _ _ _ consumed came)
    (λ more. c.in_err-write.ensures.begun c.args.floor c.args.committees.now (input ++ _) more _
    (c.in_ok-feed.ensures.compacted c.args.floor input _ _ h)))

pub returns-in_err-end-clause-begun : goal.returns-in_err-end-clause-begun
returns-in_err-end-clause-begun g c =
    let (input, consumed, all, h) = c.pieces.invariant.4 in
    let within = c.in_ok-count.ensures.within in
    let long = c.as_mut_slice.ensures.len in
    let same : take c.in_ok-count.count c.deref.result.now ≡ take c.in_ok-count.count c.fill.new.piece =
    ap (λ (xs : List ℕ). take c.in_ok-count.count xs) c.deref.ensures.value
    ∙ front_of c.fill.new.piece _ c.in_ok-count.count _ within (omega arith) in
    let came =
    subst (Consumes (g.R.Read.remaining (inner_of c.pieces.reader)) (g.R.Read.remaining (inner_of c.fill.new.reader)))
    (sym same) c.in_ok-count.ensures.bytes in
    let next = c.in_ok-write.ensures.written c.args.floor c.args.committees.now (input ++ _) _
    (c.in_ok-feed.ensures.compacted c.args.floor input _ _ h) in
    if_err c.from_residual-in_err-end.result _ (known _ _ (input ++ _) _ (Consumes-trans _ _ _ _ _ consumed came)
    (λ more. begun_so_far (is_value g) c.args.floor (whole g c.args.committees.now) c.write.new.self (input ++ _) _ _ next
    more))

pub returns-then-count-len-clause-part : goal.returns-then-count-len-clause-part
returns-then-count-len-clause-part g c =
    let (input, consumed, all, h) = c.pieces.invariant.4 in
    let within = c.in_ok-count.ensures.within in
    let long = c.as_mut_slice.ensures.len in
    let same : take c.in_ok-count.count c.deref.result.now ≡ take c.in_ok-count.count c.fill.new.piece =
    ap (λ (xs : List ℕ). take c.in_ok-count.count xs) c.deref.ensures.value
    ∙ front_of c.fill.new.piece _ c.in_ok-count.count _ within (omega arith) in
    let came =
    subst (Consumes (g.R.Read.remaining (inner_of c.pieces.reader)) (g.R.Read.remaining (inner_of c.fill.new.reader)))
    (sym same) c.in_ok-count.ensures.bytes in
    let next = c.in_ok-write.ensures.written c.args.floor c.args.committees.now (input ++ _) _
    (c.in_ok-feed.ensures.compacted c.args.floor input _ _ h) in (
      input ++ _,
      Consumes-trans _ _ _ _ _ consumed came,
      c.in_ok-end.ensures c.args.floor (input ++ _) _ _ c.in_ok-write.ensures.kept next,
    )

pub returns-then-count-len-clause-whole : goal.returns-then-count-len-clause-whole
returns-then-count-len-clause-whole g c = λ first.
    let (input, consumed, written) = returns-then-count-len-clause-part g c in
    let all = whole g c.args.committees.now in (
      input,
      consumed,
      subst (λ (b : Basis g.row.S.Denot g.row.D.Denot g.row.S-Certificate.Denot g.row.S-PublicKey.Denot
          g.row.S-Signature.Denot). WritesCompaction b input c.in_ok-end.field-0
          (g.W.Write.contents (inner_of c.args.writer.now)) (g.W.Write.contents (inner_of c.write.new.writer)))
          (ap (λ floor. basis_from floor all) first ∙ from_first all (c.floors_rise.ensures.rise all.rules)) written,
    )

pub pieces-init : goal.pieces-init
pieces-init g c =
    let fed = c.new-state.ensures.fed in (
      search rules,
      search rules,
      search rules,
      omega (arith, fed),
      (
        [],
        Consumes-nil _,
        search rules,
        c.new-state.ensures.compacted _,
      ),
    )

pub pieces-preserved : goal.pieces-preserved
pieces-preserved g c =
    let (input, consumed, all, h) = c.pieces.invariant.4 in
    let fed = c.pieces.invariant.3 in
    let fed' = c.in_ok-feed.ensures.fed in
    let fed'' = c.in_ok-write.ensures.fed in
    let within = c.in_ok-count.ensures.within in
    let long = c.as_mut_slice.ensures.len in
    let same : take c.in_ok-count.count c.deref.result.now ≡ take c.in_ok-count.count c.fill.new.piece =
    ap (λ (xs : List ℕ). take c.in_ok-count.count xs) c.deref.ensures.value
    ∙ front_of c.fill.new.piece _ c.in_ok-count.count _ within (omega arith) in
    let came =
    subst (Consumes (g.R.Read.remaining (inner_of c.pieces.reader)) (g.R.Read.remaining (inner_of c.fill.new.reader)))
    (sym same) c.in_ok-count.ensures.bytes in
    let size : length (take c.in_ok-count.count c.deref.result.now) ≡ c.in_ok-count.count =
    ap length same ∙ length-take-le c.in_ok-count.count c.fill.new.piece within in (
      search rules,
      search rules,
      search rules,
      omega (arith, fed, fed', fed'', size),
      (
        input ++ _,
        Consumes-trans _ _ _ _ _ consumed came,
        rw length-append (omega (arith, all, size)),
        c.in_ok-write.ensures.written c.args.floor c.args.committees.now (input ++ _) _
            (c.in_ok-feed.ensures.compacted c.args.floor input _ _ h),
      ),
    )
