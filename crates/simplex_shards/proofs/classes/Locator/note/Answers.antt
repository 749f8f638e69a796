use Rattle.std.proofs.Common.{inl, inr, ◌<◌, ℕ, length, refl, sym, subst}
use Rattle.std.proofs.lemmas.Bool.{cases_lt}
use Rattle.simplex_shards.specs.Cut.{class_under}
use Rattle.simplex_shards.proofs.ClassLemmas.{noted_one, noted_past}
use Rattle.simplex_shards.proofs.classes.Locator.note.Goals as goal

pub returns-in_ok-push_range : goal.returns-in_ok-push_range
returns-in_ok-push_range c =
    noted_one (class_under c.args.cut.now) c.args.message.now c.args.self.now _ c.class_of-class.result c.in-Some.ranges.now
    c.push_range.new.ranges c.class_of-class.ensures.value c.in-Some.ensures.value refl c.in_ok-push_range.ensures refl

pub returns-in_default : goal.returns-in_default
returns-in_default c =
    noted_past (class_under c.args.cut.now) c.args.message.now c.args.self.now _ c.class_of-class.result
    c.class_of-class.ensures.value
    (elim (cases_lt c.class_of-class.result (length c.args.self.now.ranges.items)) [
      | inl lt ↦
          let room = subst (λ (n : ℕ). c.class_of-class.result < n) (sym c.args.self.now.ranges.ok.0) lt in
          let some = c.in_default.ensures.variant.1 room in
          absurd cc
      | inr le ↦ le
    ]) refl refl
