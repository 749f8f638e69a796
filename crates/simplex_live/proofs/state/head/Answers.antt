use Rattle.std.proofs.Common.{◌≡◌, ◌∙◌, [], ◌∷◌, ap, append-nil, sym, take, string_bytes, map, length, arith}
use Rattle.std.proofs.lemmas.List.{length-map, map-append, take_all, take_more}
use Rattle.sha2.specs.Sha256.{sha256}
use Rattle.simplex_live.specs.State.{number_bytes, words_bytes}
use Rattle.simplex_live.proofs.StateLemmas.{number_is, words_more}
use Rattle.simplex_live.proofs.state.head.Goals as goal

-- the words so far and one more
pub words-preserved : goal.words-preserved
words-preserved c =
    let xs = c.args.words.now in
    let i = c.words.word-index in
    let x = c.word-item.result in
    let so_far = map string_bytes (take i xs) in
    let size : c.to_le_bytes.result ≡ number_bytes (length (string_bytes x)) =
    c.to_le_bytes.ensures ∙ number_is c.len.result ∙ ap number_bytes (c.len.ensures ∙ grind (
      arith,
      c.as_bytes.ensures.len,
      c.as_bytes.ensures.value,
    )) in
    rw (
      take_more xs i x c.words-test.true,
      sym c.word-item.is,
      map-append string_bytes (take i xs) (x ∷ []),
      words_more so_far (string_bytes x),
    )
    (grind (
      arith,
      c.words.invariant,
      c.in_ok-extend_from_slice.ensures.items,
      c.in_ok-extend_from_slice-2.ensures.items,
      c.as_bytes.ensures.value,
      size,
    ))

pub returns : goal.returns
returns c =
    let count : c.to_le_bytes-2.result ≡ number_bytes (length (map string_bytes c.args.words.now)) =
    c.to_le_bytes-2.ensures ∙ number_is (length c.args.words.now) ∙ ap number_bytes (grind (arith, length-map)) in
    let digest : c.as_bytes-2.result.now ≡ sha256 (words_bytes (map string_bytes c.args.words.now)) =
    c.as_bytes-2.ensures.value ∙ c.hash.ensures ∙ ap sha256 (append-nil _) ∙ ap sha256 (c.as_slice.ensures.value
    ∙ c.words.invariant
    ∙ ap (λ xs. words_bytes (map string_bytes xs)) (take_all c.words.word-index c.args.words.now c.words-test.false))
    in
    grind (
      arith,
      c.new-head.ensures.items,
      c.in_ok-extend_from_slice-3.ensures.items,
      c.in_ok-extend_from_slice-4.ensures.items,
      c.in_ok-extend_from_slice-5.ensures.items,
      count,
      digest,
    )
