use Rattle.std.proofs.Common.{◌≡◌, ◌++◌, ◌∙◌, [], ◌∷◌, ap, append-nil, sym, refl, List, ℕ, drop}
use Rattle.std.specs.Prelude.{option_map}
use Rattle.std.specs.List.{flat_map}
use Rattle.std.proofs.lemmas.Grind.{flat_map-append}
use Rattle.std.proofs.lemmas.List.{take-append-drop}
use Rattle.simplex_live.specs.State.{framed, mark_bytes, record_bytes}
use Rattle.simplex_live.specs.declared.state.Mark.{Mark}
use Rattle.simplex_cli.specs.OptionLaws.{taken}
use Rattle.simplex_live.proofs.StateLemmas.{body_long, last_pushed, record_pushed}
use Rattle.simplex_live.proofs.state.records.Goals as goal

pub records-preserved : goal.records-preserved
records-preserved c =
    let (records, stand, marked, joined) = c.records.invariant in
    let mark = c.mark_of.result in
    let messages = drop 56 c.in-Some.body.now in
    let body : c.in-Some.body.now ≡ mark_bytes mark ++ messages =
    sym (take-append-drop 56 c.in-Some.body.now)
    ∙ ap (λ xs. xs ++ messages) (sym (c.mark_of.ensures c.in-Some.ensures.marked)) in (
      records ++ (mark, messages) ∷ [],
      record_pushed records mark messages c.records.rest.now _ c.args.bytes.now stand
          (c.in-Some.ensures.there ∙ ap (λ b. framed b ++ drop c.in-Some.size c.records.rest.now) body
          ∙ ap (λ ys. record_bytes mark messages ++ ys) (sym (taken c.in-Some.size c.records.rest.now))),
      ap (option_map (λ (r : Mark × List ℕ). r.0)) (sym (last_pushed records (mark, messages))),
      c.in_ok-extend_from_slice.ensures.items
          ∙ ap (λ ys. c.records.held.items ++ ys) (taken 56 c.in-Some.body.now)
          ∙ ap (λ ys. ys ++ messages) joined
          ∙ ap (λ ys. flat_map (λ (r : Mark × List ℕ). r.1) records ++ ys) (sym (append-nil messages))
          ∙ sym (flat_map-append (λ (r : Mark × List ℕ). r.1) records ((mark, messages) ∷ [])),
    )

pub returns : goal.returns
returns c =
    let (records, stand, marked, joined) = c.records.invariant in
    record {
      records = records;
      torn = c.records.rest.now;
      stand = stand;
      ended = λ mark messages behind. c.in_default.ensures.none refl (mark_bytes mark ++ messages) behind (body_long mark
          messages);
      marked = marked;
      joined = joined;
    }
