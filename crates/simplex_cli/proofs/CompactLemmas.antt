-- Which words name a floor and committees, and how runs of `audit_compact` end.
use Rattle.std.proofs.Common.{◌≡◌, ◌⊎◌, ◌∙◌, Err, IsTrue, ap, codes, drop, inl, inr, length, length-drop, map, refl, take, ◌-◌, ℕ, List, [], ◌∷◌, sym, subst}
use Rattle.std.proofs.Math.Seq.{take-length}
use Rattle.std.proofs.lemmas.List.{drop-map}
use Rattle.std.specs.Io.KnownBytes.{Keeps}
use Rattle.simplex_base.specs.Positions.{Round}
use Rattle.simplex_stream.specs.declared.run_error.RunError.{RunError}
use Rattle.simplex_stream.specs.declared.run_error.RunError.TheVariants as errors
use Rattle.simplex_audit.specs.Outcome.{ReaderUse, WriterUse}
use Rattle.simplex_cli.specs.Answer.{Bases, GaveTooMuch}
use Rattle.simplex_cli.specs.Arguments.{AreArguments, AreNoArguments}
use Rattle.simplex_cli.specs.Compacting.{AreFromFloor, CompactEnds, IsCompactedInput, IsCompactionBegun, NameNoFloor}
use Rattle.simplex_cli.specs.Status.{failure_of}
use Rattle.simplex_cli.specs.declared.status.Failure.{Failure}
use Rattle.simplex_cli.specs.declared.status.Failure.TheVariants as failures
use Rattle.simplex_cli.proofs.WritingLemmas.{ends_given_up, ends_without}

-- no elements
pub none_left : {X : Type 0} (xs : List X) → length xs ≡ 0 → xs ≡ []
none_left [] e = refl
none_left (x ∷ xs) e = absurd cc

-- the words of the arguments behind the first ones
pub words_behind : {X Y : Type 0} (f : X → Y) (n : ℕ) (xs : List X) →
    map f (take (length xs - n) (drop n xs)) ≡ drop n (map f xs)
words_behind f n xs =
    ap (map f) (ap (λ k. take k (drop n xs)) (sym (length-drop n xs)) ∙ take-length (drop n xs)) ∙ sym (drop-map f n xs)

-- the option without an epoch
pub no_epoch : (words : List (List ℕ)) (first : List ℕ) → words ≡ first ∷ [] → first ≡ codes "--floor" → (floor : Round)
    (behind : List (List ℕ)) → ¬ AreFromFloor words floor behind
no_epoch words first is named floor behind (inl given) = let e = sym is ∙ given.0 in absurd cc
no_epoch words first is named floor behind (inr none) = none.0 ([], is ∙ ap (λ word. word ∷ []) named)

-- the option without a view
pub no_view : (words : List (List ℕ)) (first second : List ℕ) → words ≡ first ∷ second ∷ [] → first ≡ codes "--floor" →
    (floor : Round) (behind : List (List ℕ)) → ¬ AreFromFloor words floor behind
no_view words first second is named floor behind (inl given) = let e = sym is ∙ given.0 in absurd cc
no_view words first second is named floor behind (inr none) =
    none.0 (second ∷ [], is ∙ ap (λ word. word ∷ second ∷ []) named)

-- the same words stand behind a floor, whichever it is
behind_alone : (words behind others : List (List ℕ)) (floor another : Round) → AreFromFloor words floor behind →
    AreFromFloor words another others → behind ≡ others
behind_alone words behind others floor another (inl given) (inl again) = let same = sym given.0 ∙ again.0 in cc
behind_alone words behind others floor another (inl given) (inr none) = absurd (none.0 (_, given.0))
behind_alone words behind others floor another (inr none) (inl given) = absurd (none.0 (_, given.0))
behind_alone words behind others floor another (inr none) (inr again) = none.2 ∙ sym again.2

-- words that name no floor
pub no_floor : (words : List (List ℕ)) → ((floor : Round) (behind : List (List ℕ)) → ¬ AreFromFloor words floor behind) →
    NameNoFloor words
no_floor words none floor committees (behind, from, named) = none floor behind from

-- words that name no committees behind a floor
pub no_committees : (words behind : List (List ℕ)) (floor : Round) → AreFromFloor words floor behind →
    AreNoArguments behind → NameNoFloor words
no_committees words behind floor from none another committees (others, again, named) =
    none committees (subst (λ ws. AreArguments ws committees) (sym (behind_alone words behind others floor another from again))
    named)

module _ (basis : Bases) (words : List (List ℕ)) (reader : ReaderUse) (writer : WriterUse) where
  -- the arguments gave nothing
  pub compact_without : (failure : Failure) → (failure ≡ failures.Usage → NameNoFloor words) →
      (failure ≡ failures.Usage) ⊎ (failure ≡ failures.OutOfMemory) → Keeps writer.before writer.after →
      CompactEnds basis words reader writer (Err failure)
  compact_without =
      ends_without (NameNoFloor words) (IsCompactedInput basis words reader writer)
      (IsCompactionBegun basis words reader writer) reader writer

  -- the run failed
  pub compact_given_up : (error : RunError) → (error ≡ errors.Read → IsTrue reader.failed) →
      (error ≡ errors.TooLong → GaveTooMuch reader) → (error ≡ errors.Write → IsTrue writer.failed) →
      IsCompactionBegun basis words reader writer → CompactEnds basis words reader writer (Err (failure_of error))
  compact_given_up =
      ends_given_up (NameNoFloor words) (IsCompactedInput basis words reader writer)
      (IsCompactionBegun basis words reader writer) reader writer
