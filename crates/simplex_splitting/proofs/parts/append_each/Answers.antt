use Rattle.std.proofs.Common.{rules, arith, ◌<◌, ◌≤◌, ℕ, [], length, get_or, map, sym, ap, ◌∙◌}
use Rattle.std.proofs.lemmas.List.{length-map}
use Rattle.std.specs.Prelude.{Vec}
use Rattle.std.specs.Global.{Global}
use Rattle.simplex_splitting.proofs.PartLemmas.{all_appended, begun, bytes_there, each_begins, one_appended}
use Rattle.simplex_splitting.proofs.parts.append_each.Goals as goal

pub returns-in_err-append-clause-beginning : goal.returns-in_err-append-clause-beginning
returns-in_err-append-clause-beginning g c =
    let within : c.parts.bytes-index < length c.args.more.now = search rules in
    let there = bytes_there c.args.more.now c.parts.bytes-index c.bytes-item.result within c.bytes-item.is in
    begun _ (g.P.Parts.contents c.parts.parts) _ c.parts.class _ c.parts.invariant.2 c.in_err-append.ensures.others
    c.as_slice.result.now
    (ap (λ (n : ℕ). get_or (map (λ (part : Vec ℕ Global). part.items) c.args.more.now) n []) c.parts.invariant.0
    ∙ (there ∙ sym c.as_slice.ensures.value)) c.in_err-append.ensures.beginning

pub parts-preserved : goal.parts-preserved
parts-preserved g c =
    let within : c.parts.bytes-index < length c.args.more.now = search rules in
    let there = bytes_there c.args.more.now c.parts.bytes-index c.bytes-item.result within c.bytes-item.is in (
      search rules,
      search rules,
      one_appended _ (g.P.Parts.contents c.parts.parts) _ c.parts.class _ c.parts.invariant.2 c.in_ok-append.ensures.others
          c.as_slice.result.now
          (ap (λ (n : ℕ). get_or (map (λ (part : Vec ℕ Global). part.items) c.args.more.now) n []) c.parts.invariant.0
          ∙ (there ∙ sym c.as_slice.ensures.value)) c.in_ok-append.ensures.written,
    )

pub returns-clause-beginning : goal.returns-clause-beginning
returns-clause-beginning g c =
    let past : length c.args.more.now ≤ c.parts.bytes-index = search rules in
    let same = c.parts.invariant.0 in
    let len = length-map c.args.more.now (λ (part : Vec ℕ Global). part.items) in
    each_begins _ _ _ (all_appended _ (g.P.Parts.contents c.parts.parts) _ c.parts.class (omega (arith, past, same, len))
    c.parts.invariant.2)
