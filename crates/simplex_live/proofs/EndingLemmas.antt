-- How a run ends, from what was heard.
use Rattle.std.proofs.Common.{◌≡◌, ◌≢◌, ◌⊎◌, ◌-◌, ap, inl, inr, refl, Bool, List, None, Option, Some, Ok, Err, Result, ℕ, drop, length, map, subst, sym, take}
use Rattle.std.specs.Global.{Global}
use Rattle.std.specs.Io.KnownBytes.{Keeps}
use Rattle.std.specs.Prelude.{IfErr, IfOk, OnErr, String, is_some, string_bytes}
use Rattle.simplex_scheme.specs.Committees.{Schedule}
use Rattle.simplex_audit.specs.Basis.{Basis}
use Rattle.simplex_audit.specs.Outcome.{ReaderUse, WriterUse}
use Rattle.simplex_cli.specs.Arguments.{NameCommittees, Naming}
use Rattle.simplex_cli.specs.Status.{failure_of, status_after}
use Rattle.simplex_cli.specs.declared.status.Failure.TheVariants.{OutOfMemory}
use Rattle.simplex_cli.specs.declared.status.Status.TheVariants as statuses
use Rattle.simplex_stream.specs.declared.run_error.RunError.{RunError}
use Rattle.simplex_stream.specs.declared.run_error.RunError.TheVariants as errors
use Rattle.simplex_cli.specs.Verdicts.{AreBehindVerdicts}
use Rattle.simplex_cli.specs.declared.verdicts.SignatureSize.{SignatureSize}
use Rattle.simplex_cli.specs.OptionLaws.{words_behind}
use Rattle.simplex_live.specs.Ending.{HearingEnds, IsFailure, IsOfState, LiveBases, LiveEnding, LiveEnds, OptionsEnd, status_of_trouble}
use Rattle.simplex_live.specs.Options.{AreBehindOptions}
use Rattle.simplex_live.specs.Listening.{IsHeard, IsHeardInPart, IsReady}
use Rattle.simplex_live.specs.declared.complaints.Trouble.{Trouble}
use Rattle.simplex_live.specs.declared.complaints.Trouble.TheVariants.{KeyFile, OtherState, Run}
use Rattle.simplex_live.specs.declared.listening.Totals.{Totals}
use Rattle.simplex_live.specs.declared.options.Options.{Options}
use Rattle.simplex_monitor.specs.declared.monitor.Monitor.{Monitor}

module _ {S D C P G : Type 0} (basis : Schedule S → Basis S D C P G) (bytes_of : D → List ℕ) (naming : Naming S)
    (texts : List (List ℕ)) (options : Options) (reader : ReaderUse) (writer : WriterUse) where
  -- nothing was written, and the trouble is of the state that is given
  pub hearing_fails : (trouble : Trouble) (result : Result Totals Trouble) → result ≡ Err trouble →
      Keeps writer.before writer.after → options.state ≢ None → IsOfState trouble →
      HearingEnds basis bytes_of naming texts options reader writer result
  hearing_fails trouble result is keeps given (inl other) =
      subst (HearingEnds basis bytes_of naming texts options reader writer) (sym is) (inl keeps, inr (inl (other, given)))
  hearing_fails trouble result is keeps given (inr failure) =
      subst (HearingEnds basis bytes_of naming texts options reader writer) (sym is) (inl keeps, inr (inr failure))

  -- the input was heard by a monitor that was ready
  pub hearing_ends : (committees : Schedule S) (held : List ℕ) (first : Monitor S D P G) (kept : Bool)
      (skipped base : ℕ) → skipped ≡ length held → NameCommittees naming texts committees → is_some options.state ≡ kept →
      IsReady basis options.retained options.ahead kept held committees first → (options.state ≡ None → base ≡ 0) →
      (result : Result Totals Trouble) →
      IfOk result (IsHeard basis bytes_of reader writer first skipped base) →
      OnErr result (Keeps writer.before writer.after ⊎ IsHeardInPart basis bytes_of reader writer first) →
      IfErr result IsFailure → HearingEnds basis bytes_of naming texts options reader writer result
  hearing_ends committees held first kept skipped base same named is ready anew (Ok totals) heard part other = record {
    ready = record {
      committees = committees;
      held = held;
      first = first;
      named = named;
      ready = subst (λ k. IsReady basis options.retained options.ahead k held committees first) (sym is) ready;
    };
    base = base;
    heard = subst (λ n. IsHeard basis bytes_of reader writer first n base totals) same heard;
    anew = anew;
  }
  hearing_ends committees held first kept skipped base same named is ready anew (Err trouble) heard (inl keeps) other =
      (inl keeps, inr (inr other))
  hearing_ends committees held first kept skipped base same named is ready anew (Err trouble) heard (inr part) other = (
    inr (record {
      ready = record {
        committees = committees;
        held = held;
        first = first;
        named = named;
        ready = subst (λ k. IsReady basis options.retained options.ahead k held committees first) (sym is) ready;
      };
      heard = part;
    }),
    inr (inr other),
  )

-- a state is another's, or there is no memory for it
pub resume_fails : (trouble : Trouble) → (trouble ≡ OtherState) ⊎ (trouble ≡ Run OutOfMemory) → IsOfState trouble
resume_fails trouble (inl other) = inl other
resume_fails trouble (inr memory) = inr (ap status_of_trouble memory)

-- the file of keys cannot be read
pub keys_fail : (trouble : Trouble) (ending : Result Totals Trouble) → ending ≡ Err trouble →
    (trouble ≡ KeyFile) ⊎ (trouble ≡ Run OutOfMemory) → (ending ≡ Err KeyFile) ⊎ (ending ≡ Err (Run OutOfMemory))
keys_fail trouble ending is (inl file) = let whole : ending ≡ Err KeyFile = cc in inl whole
keys_fail trouble ending is (inr memory) = let whole : ending ≡ Err (Run OutOfMemory) = cc in inr whole

after_run : (error : RunError) → status_after (failure_of error) ≡ statuses.Failed
after_run errors.Read = refl
after_run errors.TooLong = refl
after_run errors.Write = refl
after_run errors.OutOfMemory = refl

-- the trouble is of a run
pub run_fails : (error : RunError) (result : Result Totals Trouble) → result ≡ Err (Run (failure_of error)) →
    IfErr result IsFailure
run_fails error result is = subst (λ (r : Result Totals Trouble). IfErr r IsFailure) (sym is) (after_run error)

-- the words behind the size of signatures, as a slice of the arguments
pub verdicts_behind : (count : ℕ) (arguments : List (String Global)) (given : Option SignatureSize) (size : SignatureSize) →
    given ≡ Some size →
    AreBehindVerdicts (map string_bytes arguments) given (drop count (map string_bytes arguments)) →
    AreBehindVerdicts (map string_bytes arguments) (Some size)
    (map string_bytes (take (length arguments - count) (drop count arguments)))
verdicts_behind count arguments given size is behind =
    subst (λ (texts : List (List ℕ)). AreBehindVerdicts (map string_bytes arguments) (Some size) texts)
    (sym (words_behind string_bytes count arguments))
    (subst (λ (g : Option SignatureSize). AreBehindVerdicts (map string_bytes arguments) g
    (drop count (map string_bytes arguments))) is behind)

-- the words behind the options, as a slice of the arguments
pub options_behind : (count : ℕ) (arguments : List (String Global)) (options : Options) →
    AreBehindOptions (map string_bytes arguments) options (drop count (map string_bytes arguments)) →
    AreBehindOptions (map string_bytes arguments) options
    (map string_bytes (take (length arguments - count) (drop count arguments)))
options_behind count arguments options =
    subst (AreBehindOptions (map string_bytes arguments) options) (sym (words_behind string_bytes count arguments))

module _ (bases : LiveBases) (reader : ReaderUse) (writer : WriterUse) where
  -- a run behind the options failed
  pub live_fails : (words : List (List ℕ)) (ending : LiveEnding) (trouble : Trouble) → ending ≡ Err trouble →
      OptionsEnd bases words reader writer (Err trouble) → LiveEnds bases words reader writer ending
  live_fails words ending trouble is ends =
      subst (λ (e : LiveEnding). LiveEnds bases words reader writer e) (sym is) (inr (inr (inr ends)))

  -- the same words by another name
  pub live_alike : (words others : List (List ℕ)) (ending : LiveEnding) → words ≡ others →
      LiveEnds bases words reader writer ending → LiveEnds bases others reader writer ending
  live_alike words others ending = subst (λ (ws : List (List ℕ)). LiveEnds bases ws reader writer ending)
