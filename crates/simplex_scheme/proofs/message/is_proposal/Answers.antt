use Rattle.std.proofs.Common.{◌≡◌, ◌≢◌, ◌++◌, ℕ, List, ap, subst, sym, ◌∙◌}
use Rattle.std.specs.Prelude.{◌↔◌, IsTrue}
use Rattle.std.specs.Str.{bytes_eq}
use Rattle.std.proofs.lemmas.Slice.Eq.{bytes_eq-Decides}
use Rattle.simplex_base.specs.Varint.{number_64}
use Rattle.simplex_base.specs.Positions.{round_format}
use Rattle.simplex_scheme.proofs.MessageLemmas.{whole_of_parts, not_second}
use Rattle.simplex_scheme.proofs.message.is_proposal.Goals as goal

pub returns-in-Some-after : goal.returns-in-Some-after
returns-in-Some-after g c =
    let proposal = c.args.proposal.now in
    let last = c.in-Some-after.rest.now in
    let payload = g.D.Fixed.bytes_of proposal.payload in
    let parent : c.as_slice.result.now ≡ number_64.encoding proposal.parent =
    c.as_slice.ensures ∙ c.new.ensures.wide ∙ ap number_64.encoding c.get.ensures in
    let same : c.eq.result ≡ bytes_eq last payload = c.eq.ensures ∙ ap (bytes_eq last) c.as_bytes.ensures.value in
    whole_of_parts c.args.bytes.now (round_format.encoding proposal.round) (number_64.encoding proposal.parent) payload
    c.in-Some.rest.now last c.eq.result c.in-Some.ensures (c.in-Some-after.ensures ∙ ap (λ p. p ++ last) parent)
    (subst (λ b. IsTrue b ↔ (last ≡ payload)) (sym same) (bytes_eq-Decides last payload))

pub returns-in-None : goal.returns-in-None
returns-in-None g c =
    let proposal = c.args.proposal.now in
    let rest = c.in-Some.rest.now in
    let parent : c.as_slice.result.now ≡ number_64.encoding proposal.parent =
    c.as_slice.ensures ∙ c.new.ensures.wide ∙ ap number_64.encoding c.get.ensures in
    not_second c.args.bytes.now (round_format.encoding proposal.round) (number_64.encoding proposal.parent)
    (g.D.Fixed.bytes_of proposal.payload) rest c.in-Some.ensures
    (subst (λ p. (x : List ℕ) → rest ≢ p ++ x) parent c.in-None.ensures)
