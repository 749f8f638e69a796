use Rattle.std.proofs.Common.{ℕ, List, Option, Ok, ap, subst, refl}
use Rattle.std.specs.Prelude.{IfSome}
use Rattle.simplex_schemes.specs.Plain.{PlainScheme}
use Rattle.simplex_schemes.specs.PlainCommittee.{IsPlainCommittee}
use Rattle.simplex_cli.proofs.KeyLemmas.{keys-named, no_keys-size, no_keys-unnamed, no_keys-named}
use Rattle.simplex_cli.proofs.keys.parse_committee.Goals as goal

pub returns-then-not-is_committee_size-clause-usage :
    goal.returns-then-not-is_committee_size-clause-usage
returns-then-not-is_committee_size-clause-usage c = λ e.
    no_keys-size _ (λ size. cc (c.if-not-is_committee_size.ensures.1 size))

pub returns-then-not-name_keys-clause-usage : goal.returns-then-not-name_keys-clause-usage
returns-then-not-name_keys-clause-usage c = λ e. no_keys-unnamed _ (c.if-not-name_keys.ensures.no refl)

pub returns-in_err-keys-clause-memory : goal.returns-in_err-keys-clause-memory
returns-in_err-keys-clause-memory c = λ e.
    let (keys, named) = c.if-not-name_keys.ensures.yes refl in
    keys-named c.args.texts.now keys named (c.if-not-is_committee_size.ensures.0 refl)

pub returns-in_err-committee-clause-memory : goal.returns-in_err-committee-clause-memory
returns-in_err-committee-clause-memory c = λ e.
    let (keys, named) = c.if-not-name_keys.ensures.yes refl in
    keys-named c.args.texts.now keys named (c.if-not-is_committee_size.ensures.0 refl)

pub returns-in-Some-clause-committee : goal.returns-in-Some-clause-committee
returns-in-Some-clause-committee c =
    let committee =
    subst (λ (name : List ℕ). IsPlainCommittee name c.in_ok-keys.keys.items c.in-Some.committee) c.as_bytes.ensures.value
    (subst (λ (o : Option PlainScheme). IfSome o (IsPlainCommittee c.as_bytes.result.now c.in_ok-keys.keys.items))
    c.in-Some.is c.in_ok-committee.ensures.committee) in
    record {
      keys = c.in_ok-keys.keys.items;
      named = record { named = c.in_ok-keys.ensures.keys; are_keys = committee.are_keys };
      committee = committee;
    }

pub returns-in-None-clause-usage : goal.returns-in-None-clause-usage
returns-in-None-clause-usage c = λ e.
    no_keys-named _ _ c.in_ok-keys.ensures.keys (c.in_ok-committee.ensures.none.0 (ap Ok c.in-None.is))
