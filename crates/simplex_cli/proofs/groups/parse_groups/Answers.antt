use Rattle.std.proofs.Common.{rules, ◌≡◌, ◌<◌, ◌^◌, List, ℕ, [], ◌∷◌, ◌++◌, Err, map, string_bytes, sym, ap, subst, ◌∙◌, append_assoc, append-nil}
use Rattle.std.specs.Prelude.{All}
use Rattle.std.proofs.lemmas.Bool.{false≢true}
use Rattle.std.proofs.lemmas.List.{take-map, drop-map}
use Rattle.std.proofs.lemmas.Result.{err_from_is_err_and}
use Rattle.simplex_scheme.specs.Committees.{AreRising}
use Rattle.simplex_cli.specs.Arguments.{AreGroups, NameNone, StandsBeforeGroup}
use Rattle.simplex_cli.specs.declared.status.Failure.TheVariants as failures
use Rattle.simplex_cli.proofs.GroupLemmas.{AreRead, begun, next_group, no_texts, read_next, rising_push}
use Rattle.simplex_cli.proofs.NoGroups.{Continues, no_epoch, no_rise, no_committee, continues_next}
use Rattle.simplex_cli.proofs.groups.parse_groups.Goals as goal

pub groups-preserved : goal.groups-preserved
groups-preserved g c =
    let naming = g.S.Named.naming c.args.common.now in
    let law = g.S.Named.is_naming c.args.common.now in
    let texts = map string_bytes c.args.texts.now in
    let before = c.groups.pairs.items in
    let p : ℕ × g.row.S.Denot = (c.in_ok-epoch.epoch, c.in_ok-committee.committee) in
    let items : c.push.new.self.items ≡ before ++ p ∷ [] = search rules in
    let next = c.in-Some.ensures.cases.0 in
    let text_is = sym c.as_str.ensures.value ∙ c.in_ok-epoch.ensures.epoch in
    let small : c.in_ok-epoch.epoch < 2 ^ 64 = search rules in
    let above : All (λ (q : ℕ × g.row.S.Denot). q.0 < c.in_ok-epoch.epoch) before =
    subst (All (λ (q : ℕ × g.row.S.Denot). q.0 < c.in_ok-epoch.epoch)) c.as_slice.ensures.value
    (c.is_above.ensures.0 c.if-not-is_above.false) in
    let after =
    drop-map string_bytes c.count_keys.result c.in-Some.behind.now ∙ ap (map string_bytes) (sym c.split_at.ensures.back) in
    record {
      named = λ more others.
          subst (λ (ps : List (ℕ × g.row.S.Denot)). AreGroups naming texts ps)
          (sym (append_assoc before (p ∷ []) more) ∙ ap (λ (ps : List (ℕ × g.row.S.Denot)). ps ++ more) (sym items))
          (c.groups.invariant.named (p ∷ more)
          (next_group naming c.groups.rest.now c.in-Some.behind.now c.split_at.result.0.now c.split_at.result.1.now
          c.in-Some.first.now c.count_keys.result c.in_ok-epoch.epoch c.in_ok-committee.committee more
          next text_is small c.split_at.ensures.front c.split_at.ensures.back c.in_ok-committee.ensures.committee others));
      rising = subst (λ (ps : List (ℕ × g.row.S.Denot)). AreRising ps) (sym items)
          (rising_push before p c.groups.invariant.rising above);
      read =
          subst (λ (ps : List (ℕ × g.row.S.Denot)). AreRead naming texts (map string_bytes c.split_at.result.1.now) ps)
          (sym items)
          (read_next naming texts c.groups.rest.now c.in-Some.behind.now c.split_at.result.0.now c.split_at.result.1.now
          c.in-Some.first.now c.count_keys.result c.in_ok-epoch.epoch before c.in_ok-committee.committee
          c.groups.invariant.read next text_is small c.split_at.ensures.front c.split_at.ensures.back
          c.in_ok-committee.ensures.committee);
      only =
          subst (λ (ps : List (ℕ × g.row.S.Denot)). Continues naming texts (map string_bytes c.split_at.result.1.now) ps)
          (sym items)
          (subst (λ (ts : List (List ℕ)). Continues naming texts ts (before ++ p ∷ [])) after
          (continues_next naming law texts (map string_bytes c.groups.rest.now) (map string_bytes c.in-Some.behind.now) before
          (string_bytes c.in-Some.first.now) c.count_keys.result c.in_ok-epoch.epoch c.in_ok-committee.committee
          c.groups.invariant.only (ap (map string_bytes) next) text_is small c.count_keys.ensures.keys
          c.count_keys.ensures.group));
    }

pub returns-in_err-committee-clause-memory : goal.returns-in_err-committee-clause-memory
returns-in_err-committee-clause-memory g c = λ memory.
    let p = err_from_is_err_and c.from_residual-in_err-committee.result c.from_residual-in_err-committee.ensures.1 in
    let failed = sym (p.1 ∙ ap Err p.2) ∙ memory in
    let is : c.in_err-committee.field-0.0 ≡ failures.OutOfMemory = cc in
    let small : c.in_ok-epoch.epoch < 2 ^ 64 = search rules in
    begun (g.S.Named.naming c.args.common.now) (map string_bytes c.args.texts.now) c.groups.rest.now c.in-Some.behind.now
    c.split_at.result.0.now c.split_at.result.1.now c.in-Some.first.now c.count_keys.result c.in_ok-epoch.epoch
    c.groups.pairs.items
    c.groups.invariant.read c.groups.invariant.rising
    (subst (All (λ (q : ℕ × g.row.S.Denot). q.0 < c.in_ok-epoch.epoch)) c.as_slice.ensures.value
    (c.is_above.ensures.0 c.if-not-is_above.false))
    c.in-Some.ensures.cases.0 (sym c.as_str.ensures.value ∙ c.in_ok-epoch.ensures.epoch) small c.split_at.ensures.front
    c.split_at.ensures.back
    (subst StandsBeforeGroup (drop-map string_bytes c.count_keys.result c.in-Some.behind.now
    ∙ ap (map string_bytes) (sym c.split_at.ensures.back)) c.count_keys.ensures.group)
    (c.in_err-committee.ensures.memory (ap Err is))

pub returns-in_err-map_err-clause-memory : goal.returns-in_err-map_err-clause-memory
returns-in_err-map_err-clause-memory g c = λ memory.
    let small : c.in_ok-epoch.epoch < 2 ^ 64 = search rules in
    let is = c.in_ok-committee.ensures.committee in
    begun (g.S.Named.naming c.args.common.now) (map string_bytes c.args.texts.now) c.groups.rest.now c.in-Some.behind.now
    c.split_at.result.0.now c.split_at.result.1.now c.in-Some.first.now c.count_keys.result c.in_ok-epoch.epoch
    c.groups.pairs.items
    c.groups.invariant.read c.groups.invariant.rising
    (subst (All (λ (q : ℕ × g.row.S.Denot). q.0 < c.in_ok-epoch.epoch)) c.as_slice.ensures.value
    (c.is_above.ensures.0 c.if-not-is_above.false))
    c.in-Some.ensures.cases.0 (sym c.as_str.ensures.value ∙ c.in_ok-epoch.ensures.epoch) small c.split_at.ensures.front
    c.split_at.ensures.back
    (subst StandsBeforeGroup (drop-map string_bytes c.count_keys.result c.in-Some.behind.now
    ∙ ap (map string_bytes) (sym c.split_at.ensures.back)) c.count_keys.ensures.group)
    ((g.S.Named.is_naming c.args.common.now).may _ _ is)

pub returns-clause-groups : goal.returns-clause-groups
returns-clause-groups g c =
    subst
    (λ (ps : List (ℕ × g.row.S.Denot)). AreGroups (g.S.Named.naming c.args.common.now) (map string_bytes c.args.texts.now) ps)
    (append-nil c.groups.pairs.items)
    (c.groups.invariant.named [] (no_texts c.groups.rest.now c.in_default.ensures.cases))

pub returns-in_err-epoch-clause-usage : goal.returns-in_err-epoch-clause-usage
returns-in_err-epoch-clause-usage g c = λ usage pairs are rising.
    no_epoch (g.S.Named.naming c.args.common.now) (g.S.Named.is_naming c.args.common.now)
    (map string_bytes c.args.texts.now) (map string_bytes c.groups.rest.now)
    (map string_bytes c.in-Some.behind.now) c.groups.pairs.items (string_bytes c.in-Some.first.now)
    c.groups.invariant.only (ap (map string_bytes) c.in-Some.ensures.cases.0)
    (λ epoch small e. c.in_err-epoch.ensures.usage epoch small (c.as_str.ensures.value ∙ e)) pairs are

pub returns-then-not-is_above-clause-usage : goal.returns-then-not-is_above-clause-usage
returns-then-not-is_above-clause-usage g c = λ usage pairs are rising.
    let small : c.in_ok-epoch.epoch < 2 ^ 64 = search rules in
    no_rise (g.S.Named.naming c.args.common.now) (g.S.Named.is_naming c.args.common.now)
    (map string_bytes c.args.texts.now) (map string_bytes c.groups.rest.now)
    (map string_bytes c.in-Some.behind.now) c.groups.pairs.items (string_bytes c.in-Some.first.now) c.in_ok-epoch.epoch
    c.groups.invariant.only (ap (map string_bytes) c.in-Some.ensures.cases.0)
    (sym c.as_str.ensures.value ∙ c.in_ok-epoch.ensures.epoch) small
    (λ all. false≢true (sym c.if-not-is_above.true ∙ c.is_above.ensures.1
    (subst (All (λ (q : ℕ × g.row.S.Denot). q.0 < c.in_ok-epoch.epoch)) (sym c.as_slice.ensures.value) all))) pairs are rising

pub returns-in_err-committee-clause-usage : goal.returns-in_err-committee-clause-usage
returns-in_err-committee-clause-usage g c = λ usage pairs are rising.
    let p = err_from_is_err_and c.from_residual-in_err-committee.result c.from_residual-in_err-committee.ensures.1 in
    let failed = sym (p.1 ∙ ap Err p.2) ∙ usage in
    let is : c.in_err-committee.field-0.0 ≡ failures.Usage = cc in
    let keys =
    ap (map string_bytes) c.split_at.ensures.front ∙ sym (take-map string_bytes c.count_keys.result c.in-Some.behind.now) in
    no_committee (g.S.Named.naming c.args.common.now) (g.S.Named.is_naming c.args.common.now)
    (map string_bytes c.args.texts.now) (map string_bytes c.groups.rest.now)
    (map string_bytes c.in-Some.behind.now) c.groups.pairs.items (string_bytes c.in-Some.first.now) c.count_keys.result
    c.groups.invariant.only (ap (map string_bytes) c.in-Some.ensures.cases.0) c.count_keys.ensures.keys
    c.count_keys.ensures.group
    (subst (NameNone (g.S.Named.naming c.args.common.now)) keys (c.in_err-committee.ensures.usage (ap Err is))) pairs are
