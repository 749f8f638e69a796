use Rattle.std.proofs.Common.{◌≡◌, ℕ, List, [], Bool, Result, subst, sym}
use Rattle.std.specs.Prelude.{⊤}
use Rattle.simplex_base.specs.Format.{Format}
use Rattle.simplex_base.specs.Reading.{Gives, Reading}
use Rattle.simplex_base.specs.declared.codec.error.Error.{Error}
use Rattle.simplex_evidence.specs.Activity.{activity_branches}
use Rattle.simplex_evidence.proofs.types.activity.ActivityTagged.read_body.Goals as goal

-- what is given behind a tag is given behind an equal one
at_tag : {T : Type 0} (branches : ℕ → List ℕ → Reading T) (memory : Bool) (result : Result T Error) (old new : List ℕ)
    {tag known : ℕ} → tag ≡ known → Gives memory result old new (branches known old) →
    Gives memory result old new (branches tag old)
at_tag branches memory result old new is = subst (λ tag. Gives memory result old new (branches tag old)) (sym is)

-- a format of which only the reading counts
abbrev by : {T : Type 0} → (List ℕ → Reading T) → Format T
by reading = record { is_value = λ x. ⊤; encoding = λ x. []; reading = reading }

pub returns-in-0 : goal.returns-in-0
returns-in-0 g c =
    at_tag (activity_branches g.D.PartialEq.eq (by _) (by _) (by _)) _ _ _ _ c.in-0.is
    (c.read_notarize.ensures c.args.bound.now)

pub returns-in-3 : goal.returns-in-3
returns-in-3 g c =
    at_tag (activity_branches g.D.PartialEq.eq (by _) (by _) (by _)) _ _ _ _ c.in-3.is
    (c.read_nullify.ensures c.args.bound.now)

pub returns-in-5 : goal.returns-in-5
returns-in-5 g c =
    at_tag (activity_branches g.D.PartialEq.eq (by _) (by _) (by _)) _ _ _ _ c.in-5.is
    (c.read_finalize.ensures c.args.bound.now)
