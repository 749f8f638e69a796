use Rattle.std.proofs.Common.{◌≡◌, ◌∙◌, ap, length, refl, rules, subst}
use Rattle.simplex_border.specs.Answer.{IsPut}
use Rattle.simplex_handle.proofs.RepliesLemmas.{waits}
use Rattle.simplex_handle.proofs.replies.tell.Goals as goal

pub returns-in_default-clause-tells : goal.returns-in_default-clause-tells
returns-in_default-clause-tells g c = λ floor committees stream h. record {
  follows = h;
  told = λ not. absurd (not refl);
  waits = λ _. waits _ _ refl;
}

pub returns-clause-tells : goal.returns-clause-tells
returns-clause-tells g c = λ floor committees stream h.
    let text = c.as_bytes.ensures.value ∙ c.in-Ok.ensures in
    let zero : c.put_bytes.result ≡ 0 = search rules in
    record {
      follows = c.hand_over.ensures.follows floor committees stream h;
      told = λ _. record {
        size_is = c.put_bytes.ensures.size ∙ ap length text;
        text_is = subst (λ t. IsPut t c.args.buffer.now c.put_bytes.new.buffer 0 0) text
            (subst (λ n. IsPut c.as_bytes.result.now c.args.buffer.now c.put_bytes.new.buffer n 0) zero
            c.put_bytes.ensures.put);
        no_evidence_waits = λ _. c.hand_over.ensures.evidence;
        no_split_waits = λ _. c.hand_over.ensures.splits;
      };
      waits = λ not. absurd (not refl);
    }
