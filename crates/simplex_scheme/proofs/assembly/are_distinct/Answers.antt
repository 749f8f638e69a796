use Rattle.std.proofs.Common.{subst, map, nat_eq, sym, ◌↔◌, IsTrue, IsOk}
use Rattle.std.specs.List.{IsDistinct}
use Rattle.simplex_scheme.proofs.assembly.are_distinct.Goals as goal

-- the sorted signers are a set
pub returns-then-are_members : goal.returns-then-are_members
returns-then-are_members g c =
    let apart =
    subst (λ xs. IsOk c.try_from_vec.result ↔ IsDistinct nat_eq xs) c.in-Ok.ensures c.try_from_vec.ensures.distinct in
    let test = subst (λ b. IsTrue b ↔ IsDistinct nat_eq (map g.T.Attributable.signer_of c.args.signed.now))
    (sym c.is_ok.ensures.value) apart in
    (λ is. (test.0 is, c.are_members.ensures.0 c.if-are_members.true), λ both. test.1 both.0)
