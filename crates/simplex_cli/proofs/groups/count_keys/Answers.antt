use Rattle.std.proofs.Common.{◌∙◌, sym, subst, ap, string_bytes, String}
use Rattle.std.specs.Global.{Global}
use Rattle.std.proofs.lemmas.List.Elements.{All-more}
use Rattle.std.proofs.lemmas.Bool.{false≢true}
use Rattle.simplex_cli.specs.Arguments.{BeginsGroup}
use Rattle.simplex_cli.proofs.GroupLemmas.{stands_before, no_group_before, no_group}
use Rattle.simplex_cli.proofs.groups.count_keys.Goals as goal

pub returns-then-is_group-clause-keys : goal.returns-then-is_group-clause-keys
returns-then-is_group-clause-keys c = no_group_before c.args.texts.now c.texts.i c.texts.invariant

pub returns-then-is_group-clause-group : goal.returns-then-is_group-clause-group
returns-then-is_group-clause-group c =
    stands_before c.args.texts.now c.texts.i c.index-texts-i.result c.texts-test.true
    (subst BeginsGroup (c.as_str.ensures.value ∙ ap string_bytes c.index-texts-i.is) (c.is_group.ensures.0 c.if-is_group.true))

pub texts-preserved : goal.texts-preserved
texts-preserved c =
    All-more (λ (text : String Global). BeginsGroup (string_bytes text) → ⊥) c.args.texts.now c.texts.i c.index-texts-i.result
    c.texts-test.true c.texts.invariant
    (λ begins. false≢true (sym c.if-is_group.false
    ∙ c.is_group.ensures.1 (subst BeginsGroup (sym (c.as_str.ensures.value ∙ ap string_bytes c.index-texts-i.is)) begins)))

pub returns-clause-keys : goal.returns-clause-keys
returns-clause-keys c = no_group c.args.texts.now c.texts.i c.texts-test.false c.texts.invariant
