use Rattle.std.proofs.Common.{◌≡◌, ◌∙◌, ◌^◌, ◌<◌, ap, sym, subst, length, map, string_bytes, take, drop, arith, rules}
use Rattle.std.proofs.lemmas.Bool.{false≢true}
use Rattle.std.proofs.lemmas.List.{drop-map, length-map, take-append-drop, take-map}
use Rattle.std.proofs.lemmas.Slice.Eq.{bytes_eq-Decides}
use Rattle.simplex_cli.specs.Arguments.{StandsBeforeGroup}
use Rattle.simplex_live.specs.State.{head_bytes}
use Rattle.simplex_live.proofs.StateLemmas.{head_splits, no_group_first}
use Rattle.simplex_live.proofs.state.is_of.Goals as goal

pub returns-then-count-words : goal.returns-then-count-words
returns-then-count-words c =
    let words = map string_bytes c.args.words.now in
    let few : length c.args.words.now < 2 ^ 64 = search rules in
    let same : length words ≡ length c.args.words.now = grind (arith, length-map) in (
      λ yes. absurd (false≢true yes),
      λ of.
          let (front, behind, split, group, is) = of in
          let known = head_splits c.args.own.now words front behind c.number_at-count.result
          (c.number_at-count.ensures (omega (arith, c.requires))) c.number_at-count.type_inv (omega (
            arith,
            same,
            few,
          )) split is in
          absurd (omega (arith, same, known.3, c.if-count-words.true)),
    )

pub returns-then-count_keys-gt0 : goal.returns-then-count_keys-gt0
returns-then-count_keys-gt0 c =
    let words = map string_bytes c.args.words.now in
    let count = c.number_at-count.result in
    let few : length c.args.words.now < 2 ^ 64 = search rules in
    let same : length words ≡ length c.args.words.now = grind (arith, length-map) in
    let back : map string_bytes c.split_at.result.1.now ≡ drop count words =
    ap (map string_bytes) c.split_at.ensures.back ∙ sym (drop-map string_bytes count c.args.words.now) in (
      λ yes. absurd (false≢true yes),
      λ of.
          let (front, behind, split, group, is) = of in
          let known = head_splits c.args.own.now words front behind count
          (c.number_at-count.ensures (omega (arith, c.requires))) c.number_at-count.type_inv (omega (
            arith,
            same,
            few,
          )) split is in
          absurd (no_group_first (map string_bytes c.split_at.result.1.now) c.count_keys.result c.if-count_keys-gt0.true
          (grind (arith, length-map, c.count_keys.ensures.within)) c.count_keys.ensures.keys
          (subst StandsBeforeGroup (known.2 ∙ sym back) group)),
    )

pub returns : goal.returns
returns c =
    let words = map string_bytes c.args.words.now in
    let count = c.number_at-count.result in
    let few : length c.args.words.now < 2 ^ 64 = search rules in
    let same : length words ≡ length c.args.words.now = grind (arith, length-map) in
    let back : map string_bytes c.split_at.result.1.now ≡ drop count words =
    ap (map string_bytes) c.split_at.ensures.back ∙ sym (drop-map string_bytes count c.args.words.now) in
    let no_keys : c.count_keys.result ≡ 0 = omega (arith, c.if-count_keys-gt0.false) in
    let head : c.as_slice.result.now ≡ head_bytes (take count words) =
    c.as_slice.ensures.value ∙ c.in_ok-head.ensures
    ∙ ap head_bytes (ap (map string_bytes) c.split_at.ensures.front ∙ sym (take-map string_bytes count c.args.words.now)) in (
      λ yes. (
        take count words,
        drop count words,
        sym (take-append-drop count words),
        subst StandsBeforeGroup (ap (λ n. drop n (map string_bytes c.split_at.result.1.now)) no_keys
            ∙ back) c.count_keys.ensures.group,
        sym ((bytes_eq-Decides c.as_slice.result.now c.args.own.now).0 (sym c.eq.ensures ∙ yes)) ∙ head,
      ),
      λ of.
          let (front, behind, split, group, is) = of in
          let known = head_splits c.args.own.now words front behind count
          (c.number_at-count.ensures (omega (arith, c.requires))) c.number_at-count.type_inv (omega (
            arith,
            same,
            few,
          )) split is in
          c.eq.ensures
          ∙ (bytes_eq-Decides c.as_slice.result.now c.args.own.now).1 (head ∙ ap head_bytes (sym known.1) ∙ sym is),
    )
