use Rattle.std.proofs.Common.{◌≡◌, map, [], ◌∷◌, ◌++◌, get_or, take, sym, ap, ◌∙◌}
use Rattle.std.specs.List.{filter}
use Rattle.std.proofs.lemmas.List.{map-append}
use Rattle.simplex_scheme.specs.Subject.{subject_value}
use Rattle.node_examples.proofs.ResolverLemmas.{one_more, none_more}
use Rattle.node_examples.proofs.resolver.resolve.Goals as goal
use Rattle.node_examples.proofs.resolver.resolve.Goals.{then-index+in_ok-push, else-index}

pub loop-place-preserved : goal.loop-place-preserved
loop-place-preserved g c =
    let items = c.args.items.now in
    let i = c.loop-place.place in
    let e = c.index.result.now in
    let told : e
    ≡ get_or (map (λ item. g.S.CertificateVerifier.certified c.args.scheme.now (subject_value item.0) item.1.now) items) i e =
    c.index.ensures ∙ ap (λ bs. get_or bs i e) c.in_ok-answers.ensures in
    elim c.if-index.branch [
      | then-index+in_ok-push w ↦
          let one = w.index-items-place.result in
          let before = c.loop-place.selected.items in
          ap (λ selected. map (λ item. item.now) selected.items) w.selected-is
          ∙ ap (map (λ item. item.now)) w.in_ok-push.ensures.items
          ∙ map-append (λ item. item.now) before _
          ∙ ap (λ xs. xs ++ one ∷ []) c.loop-place.invariant
          ∙ ap (λ x. filter (λ item. g.S.CertificateVerifier.certified c.args.scheme.now (subject_value item.0) item.1.now)
          (take i items) ++ x ∷ []) w.index-items-place.is
          ∙ sym (one_more _ items i e one c.loop-place-test.true (sym told ∙ w.if-index.true))
      | else-index w ↦ ap (λ selected. map (λ item. item.now) selected.items) w.selected-is ∙ c.loop-place.invariant
          ∙ sym (none_more _ items i e c.loop-place-test.true (sym told ∙ w.if-index.false))
    ]
