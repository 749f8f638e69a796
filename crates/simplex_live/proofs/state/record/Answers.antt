use Rattle.std.proofs.Common.{◌≡◌, ◌++◌, ◌∙◌, ap, append_assoc, append-nil, arith, length}
use Rattle.sha2.specs.Sha256.{sha256}
use Rattle.simplex_live.specs.State.{number_bytes, mark_bytes}
use Rattle.simplex_live.proofs.StateLemmas.{number_is}
use Rattle.simplex_live.proofs.state.record.Goals as goal

pub returns : goal.returns
returns c =
    let mark = c.args.mark.now in
    let covers : c.to_le_bytes.result ≡ number_bytes mark.covers = c.to_le_bytes.ensures ∙ number_is mark.covers in
    let body : c.extend_from_slice-2.new.self.items ≡ mark_bytes mark ++ c.args.messages.now =
    grind (
      arith,
      append_assoc,
      covers,
      c.new-body.ensures.items,
      c.in_ok-extend_from_slice.ensures.items,
      c.in_ok-push_round.ensures,
      c.in_ok-push_round-2.ensures,
      c.in_ok-push_round-3.ensures,
      c.in_ok-extend_from_slice-2.ensures.items,
    ) in
    let size : c.to_le_bytes-2.result ≡ number_bytes (length (mark_bytes mark ++ c.args.messages.now)) =
    c.to_le_bytes-2.ensures ∙ number_is c.len.result ∙ ap number_bytes (c.len.ensures ∙ grind (
      arith,
      c.as_slice.ensures.len,
      c.as_slice.ensures.value,
      body,
    )) in
    let digest : c.as_bytes.result.now ≡ sha256 (mark_bytes mark ++ c.args.messages.now) =
    c.as_bytes.ensures.value ∙ c.hash.ensures ∙ ap sha256 (append-nil _) ∙ ap sha256 (c.as_slice.ensures.value ∙ body) in
    grind (
      arith,
      body,
      size,
      digest,
      c.as_slice-2.ensures.value,
      c.new-record.ensures.items,
      c.in_ok-extend_from_slice-3.ensures.items,
      c.in_ok-extend_from_slice-4.ensures.items,
      c.in_ok-extend_from_slice-5.ensures.items,
    )
