use Rattle.std.proofs.Common.{◌≡◌, ◌+◌, [], ◌∷◌, ◌++◌, take, drop, map, nat_eq, sym, ap, subst, ◌∙◌, arith}
use Rattle.std.specs.List.{IsDistinct, list_any}
use Rattle.std.proofs.lemmas.Bool.{false≢true}
use Rattle.std.proofs.lemmas.List.{take_more, drop_more, take-append-drop}
use Rattle.simplex_scheme.proofs.AssemblyLemmas.{AreDistinctBelow, none_distinct, distinct_above, distinct_below, not_distinct}
use Rattle.simplex_scheme.proofs.assembly.are_distinct_in_place.Goals as goal
use Rattle.simplex_scheme.proofs.assembly.are_distinct_in_place.Goals.{then-number-above, else-number-above+else-has_signer}

pub signed-init : goal.signed-init
signed-init g c = none_distinct g.T.Attributable.signer_of c.args.participants

-- one more that is above all of the others, or none of them
pub signed-preserved : goal.signed-preserved
signed-preserved g c =
    let number = g.T.Attributable.signer_of in
    let n = c.args.participants in
    let signed = c.args.signed.now in
    let i = c.signed.place in
    let one = c.index-signed-place.result in
    let here : c.get-number.result ≡ number one = c.get-number.ensures ∙ c.signer-signer.ensures in
    let one_more : take i signed ++ one ∷ [] ≡ take (i + 1) signed =
    ap (λ x. take i signed ++ x ∷ []) c.index-signed-place.is ∙ sym (take_more signed i one c.signed-test.true) in
    elim c.if-number-above.branch [
      | then-number-above w ↦
          subst (λ k. AreDistinctBelow number n k (take (i + 1) signed)) (sym (w.above-is ∙ ap (λ k. k + 1) here))
          (subst (AreDistinctBelow number n (number one + 1)) one_more (distinct_above number n c.signed.above (take i signed)
          one c.signed.invariant (omega (arith, here)) (omega (arith, here))))
      | else-number-above+else-has_signer w ↦
          let own = ap (λ k. list_any (λ x. nat_eq (number x) k) (take i signed)) (sym c.signer-signer.ensures)
          ∙ (sym w.has_signer.ensures ∙ w.if-has_signer.false) in
          subst (λ k. AreDistinctBelow number n k (take (i + 1) signed)) (sym w.above-is)
          (subst (AreDistinctBelow number n c.signed.above) one_more (distinct_below number n c.signed.above (take i signed) one
          c.signed.invariant (omega (arith, here)) (omega (arith, here)) own))
    ]

-- an earlier one has the signer
pub returns-then-has_signer : goal.returns-then-has_signer
returns-then-has_signer g c =
    let number = g.T.Attributable.signer_of in
    let signed = c.args.signed.now in
    let i = c.signed.place in
    let one = c.index-signed-place.result in
    let split : take i signed ++ one ∷ drop (i + 1) signed ≡ signed =
    ap (λ x. take i signed ++ x ∷ drop (i + 1) signed) c.index-signed-place.is
    ∙ (ap (λ xs. take i signed ++ xs) (sym (drop_more signed i one c.signed-test.true)) ∙ take-append-drop i signed) in
    let found = ap (λ k. list_any (λ x. nat_eq (number x) k) (take i signed)) (sym c.signer-signer.ensures)
    ∙ (sym c.has_signer.ensures ∙ c.if-has_signer.true) in (
      λ never. absurd (false≢true never),
      λ h. absurd (not_distinct number (take i signed) (drop (i + 1) signed) one found
          (subst (λ xs. IsDistinct nat_eq (map number xs)) (sym split) h.0)),
    )
