use Rattle.std.proofs.Common.{length, inl, inr, ap, refl, arith}
use Rattle.simplex_evidence.proofs.GapLemmas.{IsPutAt, put, length_le, some_item}
use Rattle.simplex_evidence.proofs.FirstsLemmas.{firsts_added, firsts_kept}
use Rattle.simplex_evidence.proofs.types.attributable_map.AttributableMap.insert.Given.{Over}
use Rattle.simplex_evidence.proofs.types.attributable_map.AttributableMap.insert.Goals as goal

-- the signer is no participant
pub returns-then-get-self-clause-firsts : goal.returns-then-get-self-clause-firsts
returns-then-get-self-clause-firsts g c inserted firsts =
    firsts_kept g.T.Attributable.signer_of _ inserted _ c.args.item firsts
    (inl (rw (← ap (λ m. m.participants) c.self.view_is) (omega (arith, c.signer-signer.ensures))))

-- the signer has an item
pub returns-in_default-clause-taken : goal.returns-in_default-clause-taken
returns-in_default-clause-taken g c _ =
    inr (rw (← ap (λ m. m.items) c.self.view_is, ← c.signer-signer.ensures)
    (some_item g.T.Attributable.signer_of _ c.self.invariant.0 _ _ c.args.item (rw c.deref.ensures.value at
    c.in_default.ensures.found.0) (rw c.deref.ensures.value at (c.in_default.ensures.found.1 c.args.item))))

pub returns-in_default-clause-firsts : goal.returns-in_default-clause-firsts
returns-in_default-clause-firsts g c inserted firsts =
    firsts_kept g.T.Attributable.signer_of _ inserted _ c.args.item firsts
    (inr (rw (← ap (λ m. m.items) c.self.view_is, ← c.signer-signer.ensures)
    (some_item g.T.Attributable.signer_of _ c.self.invariant.0 _ _ c.args.item (rw c.deref.ensures.value at
    c.in_default.ensures.found.0) (rw c.deref.ensures.value at (c.in_default.ensures.found.1 c.args.item)))))

pub overflow_sub-self-inside : goal.overflow_sub-self-inside
overflow_sub-self-inside g c = omega (
  arith,
  length_le g.T.Attributable.signer_of _ _ c.self.invariant.0 c.self.invariant.1,
  c.deref.ensures.len,
  ap length c.deref.ensures.value,
)

-- the vector had the capacity, so its insert did not fail
pub returns-in_err-insert-clause-refused : goal.returns-in_err-insert-clause-refused
returns-in_err-insert-clause-refused g c =
    let is_put =
    put g.T.Attributable.signer_of _ _ _ _ _ _ _ c.args.item c.self.invariant.0 c.self.invariant.1 c.deref.ensures.value
    c.in_ok-try_reserve_exact.ensures.items c.signer-signer.ensures (omega arith) c.in-Err.ensures.gap refl in
    absurd (omega (
      arith,
      is_put.room,
      c.deref.ensures.len,
      ap length c.deref.ensures.value,
      c.in_err-insert.ensures.full,
      c.in_ok-try_reserve_exact.ensures.ok,
      c.in_ok-try_reserve_exact.ensures.len,
    ))

-- the item went into its gap
put_here : (g : Over) (c : goal.In_ok-insert g) → IsPutAt {X = g.row.T.Denot} g.T.Attributable.signer_of
    c.self.inside.participants c.self.inside.items.items c.insert.new.self.items c.args.item
put_here g c =
    put g.T.Attributable.signer_of _ _ _ _ _ _ _ _ c.self.invariant.0 c.self.invariant.1 c.deref.ensures.value
    c.in_ok-try_reserve_exact.ensures.items c.signer-signer.ensures (omega arith) c.in-Err.ensures.gap
    c.in_ok-insert.ensures.items

pub invariant_of-self-2 : goal.invariant_of-self-2
invariant_of-self-2 g c = (
  (put_here g c).ordered,
  (put_here g c).within,
  λ _. omega
      (arith, c.in_ok-try_reserve_exact.ensures.ok, c.in_ok-try_reserve_exact.ensures.len, c.in_ok-insert.ensures.capacity),
)

pub returns-clause-added : goal.returns-clause-added
returns-clause-added g c _ = rw (← ap (λ m. m.items) c.self.view_is) (put_here g c).adds

pub returns-clause-fresh : goal.returns-clause-fresh
returns-clause-fresh g c _ =
    rw (← ap (λ m. m.items) c.self.view_is, ← ap (λ m. m.participants) c.self.view_is) (omega arith, (put_here g c).fresh)

pub returns-clause-firsts : goal.returns-clause-firsts
returns-clause-firsts g c inserted firsts =
    let is_put = put_here g c in
    firsts_added g.T.Attributable.signer_of _ inserted _ _ c.args.item
    (rw (← ap (λ m. m.items) c.self.view_is, ← ap (λ m. m.participants) c.self.view_is) at firsts) (omega arith) is_put.fresh
    is_put.adds is_put.ordered is_put.within

pub returns-clause-more : goal.returns-clause-more
returns-clause-more g c _ = rw (← ap (λ m. m.items) c.self.view_is) (put_here g c).more

pub returns-clause-ordered : goal.returns-clause-ordered
returns-clause-ordered g c = (put_here g c).ordered

pub returns-clause-within : goal.returns-clause-within
returns-clause-within g c = (put_here g c).within
