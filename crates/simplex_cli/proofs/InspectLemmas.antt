-- Which words give committees to `inspect`, and how its runs end.
use Rattle.std.proofs.Common.{◌≡◌, ◌⊎◌, ◌∙◌, ℕ, inl, inr, Ok, Err, IsTrue, List, [], Option, Some, None, Result, ap, drop, subst, sym}
use Rattle.std.specs.Io.KnownBytes.{Keeps}
use Rattle.std.specs.Prelude.{◌≢◌, IfOk, OnErr}
use Rattle.simplex_schemes.specs.Plain.{PlainScheme}
use Rattle.simplex_schemes.specs.Vouched.{VouchedScheme}
use Rattle.simplex_scheme.specs.Committees.{Schedule}
use Rattle.simplex_stream.specs.declared.fault.Fault.{Fault}
use Rattle.simplex_stream.specs.declared.run_error.RunError.{RunError}
use Rattle.simplex_stream.specs.declared.run_error.RunError.TheVariants as errors
use Rattle.simplex_audit.specs.Outcome.{ReaderUse, WriterUse}
use Rattle.simplex_cli.specs.Answer.{Ending, GaveTooMuch}
use Rattle.simplex_cli.specs.Arguments.{AreGiven, AreNoneOr, AreNotGiven}
use Rattle.simplex_cli.specs.Inspecting.{GiveNothing, GivePlain, GiveVerdicts, InspectEnds, IsBegun, IsBegunBy, IsShown, IsShownBy, LinesAs, LinesUnder, ShowEnds, with_verdicts}
use Rattle.simplex_cli.specs.Status.{failure_of}
use Rattle.simplex_cli.specs.Verdicts.{AreBehindVerdicts, AreCountsGiven, AreNoCountsGiven}
use Rattle.simplex_cli.specs.declared.status.Failure.{Failure}
use Rattle.simplex_cli.specs.declared.status.Failure.TheVariants as failures
use Rattle.simplex_cli.specs.declared.verdicts.SignatureSize.{SignatureSize}
use Rattle.simplex_cli.proofs.WritingLemmas.{ends_given_up, ends_mapped, ends_without}

-- words, at least one, that name no committees
pub not_given : {S : Type 0} (Name : List (List ℕ) → Schedule S → Type 0) (words : List (List ℕ)) → words ≢ [] →
    ((committees : Schedule S) → ¬ Name words committees) → (committees : Option (Schedule S)) →
    ¬ AreNoneOr Name words committees
not_given Name words some none None empty = some empty
not_given Name words some none (Some committees) named = none committees named

-- what is given holds of what was parsed
pub parsed : {A : Type 0} (Given : A → Type 0) (given : Result A Failure) (a : A) → IfOk given Given → given ≡ Ok a → Given a
parsed Given given a told e = subst (λ r. IfOk r Given) e told

-- nothing that was parsed is given, so there was an error
pub not_parsed : {A P : Type 0} (Given : A → Type 0) (given : Result A Failure) → IfOk given Given → ((a : A) → ¬ Given a) →
    OnErr given P → P
not_parsed Given (Ok a) told none touched = absurd (none a told)
not_parsed Given (Err e) told none touched = touched

-- what failed gave nothing
pub failed_apart : {A : Type 0} (given : Result A Failure) (e : Failure) (a : A) → given ≡ Err e → given ≡ Ok a → ⊥
failed_apart (Ok b) e a failed done = absurd cc
failed_apart (Err d) e a failed done = absurd cc

module _ {S D C P G : Type 0} (lines : LinesAs S D C P G) (Given : Option (Schedule S) → Type 0) (reader : ReaderUse)
    (writer : WriterUse) where
  -- nothing is given
  pub show_without : (failure : Failure) →
      (failure ≡ failures.Usage → (committees : Option (Schedule S)) → ¬ Given committees) →
      (failure ≡ failures.Usage) ⊎ (failure ≡ failures.OutOfMemory) → Keeps writer.before writer.after →
      ShowEnds lines Given reader writer (Err failure)
  show_without =
      ends_without ((committees : Option (Schedule S)) → ¬ Given committees) (IsShown lines Given reader writer)
      (IsBegun lines Given reader writer) reader writer

  -- the run failed
  pub show_given_up : (error : RunError) → (error ≡ errors.Read → IsTrue reader.failed) →
      (error ≡ errors.TooLong → GaveTooMuch reader) → (error ≡ errors.Write → IsTrue writer.failed) →
      IsBegun lines Given reader writer → ShowEnds lines Given reader writer (Err (failure_of error))
  show_given_up =
      ends_given_up ((committees : Option (Schedule S)) → ¬ Given committees) (IsShown lines Given reader writer)
      (IsBegun lines Given reader writer) reader writer

-- words that begin with the option and another thing than a size give nothing
pub gives_nothing : (words : List (List ℕ)) →
    ((size : Option SignatureSize) (behind : List (List ℕ)) → ¬ AreBehindVerdicts words size behind) → GiveNothing words
gives_nothing words none = record {
  plain = λ committees (behind, at, given). none None behind at;
  verdicts = λ size committees (behind, at, given). none (Some size) behind at;
}

-- words without the option that give no committees of plain keys
pub gives_no_plain : (words behind : List (List ℕ)) → AreBehindVerdicts words None behind → AreNotGiven behind →
    GiveNothing words
gives_no_plain words behind (without, same) none = record {
  plain = λ committees (others, at, given).
      none committees (subst (λ ws. AreGiven ws committees) (at.1 ∙ sym same) given);
  verdicts = λ size committees (others, at, given). without (_, at);
}

-- words with the option that give no committees behind it
pub gives_no_counts : (words behind : List (List ℕ)) (size : SignatureSize) → AreBehindVerdicts words (Some size) behind →
    AreNoCountsGiven behind → GiveNothing words
gives_no_counts words behind size is none = record {
  plain = λ committees (others, at, given). at.0 (_, is);
  verdicts = λ another committees (others, at, given).
      none committees (subst (λ ws. AreCountsGiven ws committees) (ap (drop 2) (sym at ∙ is)) given);
}

-- a whole input was shown by what gives more
shown_more : {S D C P G : Type 0} (lines : LinesAs S D C P G) (Given More : Option (Schedule S) → Type 0) (reader : ReaderUse)
    (writer : WriterUse) (fault : Option Fault) → ((committees : Option (Schedule S)) → Given committees → More committees)
    → IsShown lines Given reader writer fault → IsShown lines More reader writer fault
shown_more lines Given More reader writer fault more is = record {
  committees = is.committees;
  input = is.input;
  given = more is.committees is.given;
  input_is = is.input_is;
  ended = is.ended;
  written = is.written;
  flushed = is.flushed;
}

-- a prefix of it was
begun_more : {S D C P G : Type 0} (lines : LinesAs S D C P G) (Given More : Option (Schedule S) → Type 0) (reader : ReaderUse)
    (writer : WriterUse) → ((committees : Option (Schedule S)) → Given committees → More committees) →
    IsBegun lines Given reader writer → IsBegun lines More reader writer
begun_more lines Given More reader writer more is = record {
  committees = is.committees;
  input = is.input;
  given = more is.committees is.given;
  input_is = is.input_is;
  written = is.written;
}

-- a run by what was parsed
pub parsed_ends : {S D C P G : Type 0} (lines : LinesAs S D C P G) (Given : Option (Schedule S) → Type 0) (reader : ReaderUse)
    (writer : WriterUse) (ending : Ending) (given : Result (Option (Schedule S)) Failure) → IfOk given Given →
    (given ≡ Err failures.Usage → (committees : Option (Schedule S)) → ¬ Given committees) →
    (ending ≡ Err failures.Usage → given ≡ Err failures.Usage) →
    ShowEnds lines (λ committees. given ≡ Ok committees) reader writer ending → ShowEnds lines Given reader writer ending
parsed_ends {S} lines Given reader writer ending given told none usage =
    let Parsed : Option (Schedule S) → Type 0 = λ committees. given ≡ Ok committees in
    let more : (committees : Option (Schedule S)) → Parsed committees → Given committees =
    λ committees e. parsed Given given committees told e in
    ends_mapped ((committees : Option (Schedule S)) → ¬ Parsed committees) (IsShown lines Parsed reader writer)
    (IsBegun lines Parsed reader writer) ((committees : Option (Schedule S)) → ¬ Given committees)
    (IsShown lines Given reader writer) (IsBegun lines Given reader writer) reader writer ending
    (λ e _. none (usage e)) (λ fault h. shown_more lines Parsed Given reader writer fault more h)
    (λ h. begun_more lines Parsed Given reader writer more h)

-- the words give nothing
pub inspect_without : (lines : LinesUnder) (words : List (List ℕ)) (reader : ReaderUse) (writer : WriterUse)
    (failure : Failure) → (failure ≡ failures.Usage → GiveNothing words) →
    (failure ≡ failures.Usage) ⊎ (failure ≡ failures.OutOfMemory) → Keeps writer.before writer.after →
    InspectEnds lines words reader writer (Err failure)
inspect_without lines words reader writer =
    ends_without (GiveNothing words) (IsShownBy lines words reader writer) (IsBegunBy lines words reader writer) reader writer

module _ (lines : LinesUnder) (words behind : List (List ℕ)) (reader : ReaderUse) (writer : WriterUse) (ending : Ending) where
  -- a run by plain keys, or without committees
  pub plain_ends : AreBehindVerdicts words None behind → ShowEnds lines.plain (AreGiven behind) reader writer ending →
      InspectEnds lines words reader writer ending
  plain_ends at =
      let more : (committees : Option (Schedule PlainScheme)) → AreGiven behind committees → GivePlain words committees =
      λ committees given. (behind, at, given) in
      ends_mapped (AreNotGiven behind) (IsShown lines.plain (AreGiven behind) reader writer)
      (IsBegun lines.plain (AreGiven behind) reader writer) (GiveNothing words) (IsShownBy lines words reader writer)
      (IsBegunBy lines words reader writer) reader writer ending (λ e none. gives_no_plain words behind at none)
      (λ fault h. inl (shown_more lines.plain (AreGiven behind) (GivePlain words) reader writer fault more h))
      (λ h. inl (begun_more lines.plain (AreGiven behind) (GivePlain words) reader writer more h))

  -- a run by verdicts, with the numbers of participants of committees or without any
  pub verdicts_end : (size : SignatureSize) → AreBehindVerdicts words (Some size) behind →
      ShowEnds (with_verdicts lines size) (AreCountsGiven behind) reader writer ending →
      InspectEnds lines words reader writer ending
  verdicts_end size at =
      let more : (committees : Option (Schedule VouchedScheme)) → AreCountsGiven behind committees →
      GiveVerdicts words size committees = λ committees given. (behind, at, given) in
      ends_mapped (AreNoCountsGiven behind) (IsShown (with_verdicts lines size) (AreCountsGiven behind) reader writer)
      (IsBegun (with_verdicts lines size) (AreCountsGiven behind) reader writer) (GiveNothing words)
      (IsShownBy lines words reader writer) (IsBegunBy lines words reader writer) reader writer ending
      (λ e none. gives_no_counts words behind size at none)
      (λ fault h. inr (
        size,
        shown_more (with_verdicts lines size) (AreCountsGiven behind) (GiveVerdicts words size) reader
            writer fault more h,
      ))
      (λ h. inr (
        size,
        begun_more (with_verdicts lines size) (AreCountsGiven behind) (GiveVerdicts words size) reader writer
            more h,
      ))

-- words that give nothing give no committees of plain keys behind them, and none by verdicts
pub none_plain : (words behind : List (List ℕ)) → AreBehindVerdicts words None behind → GiveNothing words → AreNotGiven behind
none_plain words behind at nothing committees given = nothing.plain committees (behind, at, given)

pub none_counted : (words behind : List (List ℕ)) (size : SignatureSize) → AreBehindVerdicts words (Some size) behind →
    GiveNothing words → AreNoCountsGiven behind
none_counted words behind size at nothing committees given = nothing.verdicts size committees (behind, at, given)
