use Rattle.std.proofs.Common.{rules, append-nil, arith, ◌≡◌, ◌∙◌, ap, length, take, drop, sym, ◌<◌, ◌^◌, ◌-◌, length-take, length-drop}
use Rattle.sha2.specs.Sha256.{sha256}
use Rattle.simplex_live.specs.State.{number_bytes}
use Rattle.std.proofs.lemmas.Grind.{common_steps}
use Rattle.simplex_live.proofs.StateLemmas.{in_parts, framed_read, other_bytes, same_bytes}
use Rattle.simplex_live.proofs.state.body.Goals as goal

pub returns-then-size-lt-MARK-clause-none : goal.returns-then-size-lt-MARK-clause-none
returns-then-size-lt-MARK-clause-none c _ body behind long is =
    let few : length c.args.bytes.now < 2 ^ 64 = search rules in
    let read = framed_read c.args.bytes.now body behind c.number_at-size.result few c.number_at-size.type_inv is
    (c.number_at-size.ensures (grind (arith, c.in-Some.ensures.lookup))) in
    omega (arith, c.then-size-lt-MARK.either, read.0, read.3, long)

pub returns-then-ne-clause-none : goal.returns-then-ne-clause-none
returns-then-ne-clause-none c _ body behind long is =
    let few : length c.args.bytes.now < 2 ^ 64 = search rules in
    let read = framed_read c.args.bytes.now body behind c.number_at-size.result few c.number_at-size.type_inv is
    (c.number_at-size.ensures (grind (arith, c.in-Some.ensures.lookup))) in
    let hashed : c.as_bytes.result.now ≡ sha256 (take c.number_at-size.result (take (length c.args.bytes.now - 40) (drop 40
    c.args.bytes.now))) =
    c.as_bytes.ensures.value ∙ c.hash.ensures
    ∙ ap sha256 (append-nil (take c.number_at-size.result (take (length c.args.bytes.now - 40) (drop 40
    c.args.bytes.now)))) in
    other_bytes c.as_bytes.result.now c.in-Some.digest.now c.ne.result c.ne.ensures c.if-ne.true
    (hashed ∙ ap sha256 (grind (arith, common_steps, c.if-size-behind.false) ∙ read.2) ∙ sym read.1
    ∙ sym c.in-Some.ensures.lookup.0.2)

pub returns-clause-there : goal.returns-clause-there
returns-clause-there c =
    let bytes = c.args.bytes.now in
    let size = c.number_at-size.result in
    let body : take size (take (length bytes - 40) (drop 40 bytes)) ≡ take size (drop 40 bytes) = grind (
      arith,
      common_steps,
      c.if-size-behind.false,
    ) in
    let long : length (take size (drop 40 bytes)) ≡ size = grind (
      arith,
      common_steps,
      length-take,
      length-drop,
      c.if-size-behind.false,
      c.in-Some.ensures.lookup,
    ) in
    let digest : sha256 (take size (drop 40 bytes)) ≡ take 32 (drop 8 bytes) =
    ap sha256 (sym body) ∙ sym (c.as_bytes.ensures.value ∙ c.hash.ensures
    ∙ ap sha256 (append-nil (take size (take (length bytes - 40) (drop 40 bytes)))))
    ∙ same_bytes c.as_bytes.result.now c.in-Some.digest.now c.ne.result c.ne.ensures c.if-ne.false
    ∙ c.in-Some.ensures.lookup.0.2 in
    let number : number_bytes size ≡ take 8 bytes = c.number_at-size.ensures (grind (arith, c.in-Some.ensures.lookup)) in
    rw (body, long, number, digest) (sym (in_parts bytes size))
