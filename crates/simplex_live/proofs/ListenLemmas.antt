-- What was heard, from what a monitor heard that kept its state before and behind.
use Rattle.std.proofs.Common.{◌≡◌, arith, false, true, refl, ℕ, ◌++◌, ◌∙◌, List, [], ◌∷◌, Option, Result, Ok, Err, append-nil, length, subst, sym}
use Rattle.std.proofs.Math.Seq.{take-length}
use Rattle.std.specs.Io.KnownBytes.{Appends, Consumes, IsAtEnd}
use Rattle.std.specs.List.{flat_map}
use Rattle.std.specs.Prelude.{IsTrue, OnErr, is_some}
use Rattle.simplex_scheme.specs.Committees.{Schedule}
use Rattle.simplex_alarm.specs.Alarm.{Told, nothing_told, told_then}
use Rattle.simplex_alarm.specs.declared.alarm.News.{News}
use Rattle.simplex_stream.specs.Text.{AppendsBeginning}
use Rattle.simplex_audit.specs.Basis.{Basis}
use Rattle.simplex_audit.specs.Outcome.{ReaderUse, WriterUse}
use Rattle.simplex_live.specs.Listening.{AddsUp, HasRead, IsHeard, IsHeardInPart, IsReady, behind_state}
use Rattle.simplex_live.specs.declared.listening.Totals.{Totals}
use Rattle.simplex_live.specs.Options.{lookahead_of, window_of}
use Rattle.simplex_monitor.specs.Hearing.{AllTold, Heard, Hears, HearsBeginning, news_text, told_by}
use Rattle.simplex_monitor.specs.Monitoring.{HoldsAsBefore, Listens, fed_of, held_of}
use Rattle.simplex_monitor.specs.declared.monitor.Monitor.{Monitor}
use Rattle.simplex_monitor.specs.declared.window.Window.{Window}

-- what holds whatever the result is
pub on_err : {X E : Type 0} (r : Result X E) (Q : Type 0) → Q → OnErr r Q
on_err (Ok x) Q q = tt
on_err (Err e) Q q = q

-- what was appended is a front of itself
pub begins_whole : (old new : Option (List ℕ)) (text : List ℕ) → Appends old new text → AppendsBeginning old new text
begins_whole old new text written = (length text, subst (Appends old new) (sym (take-length text)) written)

module _ {S D C P G : Type 0} (basis : Schedule S → Basis S D C P G) where
  -- a monitor whatever it listened to becomes another that listened to the same
  abbrev pub Stays : Monitor S D P G → Monitor S D P G → Type 0
  Stays first next =
      (start : Window) (committees : Schedule S) (told : Told D G) (stream : List ℕ) →
      Listens basis start committees told stream first → Listens basis start committees told stream next

  -- a window by another name
  pub ready_anew : (committees : Schedule S) (first : Monitor S D P G) (window : Window) (retained ahead : ℕ) →
      window ≡ window_of retained ahead → Listens basis window committees nothing_told [] first →
      is_some (held_of first) ≡ false → IsReady basis retained ahead false [] committees first
  ready_anew committees first window retained ahead same listens holds = record {
    start = window_of retained ahead;
    known = [];
    listens = subst (λ w. Listens basis w committees nothing_told [] first) same listens;
    retains = refl;
    looks = refl;
    anew = λ _. (refl, refl);
    told = λ e. absurd cc;
    holds = holds;
  }

  -- behind a state, whose messages it was fed, and whose news it told
  pub ready_again : (committees : Schedule S) (first : Monitor S D P G) (window : Window) (retained ahead : ℕ)
      (piece held : List ℕ) (news : News S D P G) → piece ≡ held → window.view_retention ≡ retained →
      window.lookahead ≡ lookahead_of ahead → Listens basis window committees (told_then nothing_told news) piece first →
      AllTold first → is_some (held_of first) ≡ true → IsReady basis retained ahead true held committees first
  ready_again committees first window retained ahead piece held news same retains looks listens told holds = record {
    start = window;
    known = news ∷ [];
    listens = subst (λ (t : List ℕ). Listens basis window committees (told_then nothing_told news) t first) same listens;
    retains = retains;
    looks = looks;
    anew = λ e. absurd cc;
    told = λ _. told;
    holds = holds;
  }

  -- what a monitor hears that kept its state before and behind
  pub hears_kept : (first kept heard next : Monitor S D P G) (input : List ℕ) (looks : List (News S D P G)) →
      fed_of kept ≡ fed_of first → HoldsAsBefore first kept → Stays first kept → Hears basis kept input looks heard →
      fed_of next ≡ fed_of heard → HoldsAsBefore heard next → Stays heard next → Hears basis first input looks next
  hears_kept first kept heard next input looks before holds stays hears behind holding again = record {
    fed = let fed = hears.fed in omega (arith, before, fed, behind);
    listens = λ start committees told stream listens.
        again start committees (told_by told looks) (stream ++ input)
        (hears.listens start committees told stream (stays start committees told stream listens));
    holds = λ start committees told stream listens.
        holding ∙ hears.holds start committees told stream (stays start committees told stream listens) ∙ holds;
  }

  module _ (bytes_of : D → List ℕ) (reader : ReaderUse) (writer : WriterUse) (first kept : Monitor S D P G)
      (before_is : fed_of kept ≡ fed_of first) (holds : HoldsAsBefore first kept) (stays : Stays first kept) where
    -- a part of the input
    pub heard_in_part : (input more : List ℕ) → Consumes reader.before reader.after (input ++ more) →
        HearsBeginning basis bytes_of kept input writer.before writer.after → IsHeardInPart basis bytes_of reader writer first
    heard_in_part input more consumed begun = record {
      input = input;
      more = more;
      consumed = consumed;
      begun = record {
        next = begun.next;
        looks = begun.looks;
        hears = hears_kept first kept begun.next begun.next input begun.looks before_is holds stays begun.hears
            (λ i. fed_of begun.next) refl (λ start committees told stream listens. listens);
        written = begun.written;
      };
    }

    -- all of it, which is a part too
    pub heard_as_part : (input : List ℕ) (next : Monitor S D P G) → Consumes reader.before reader.after input →
        Heard basis bytes_of kept input next writer.before writer.after → IsHeardInPart basis bytes_of reader writer first
    heard_as_part input next consumed heard =
        heard_in_part input [] (subst (Consumes reader.before reader.after) (sym (append-nil input)) consumed) (record {
          next = next;
          looks = heard.looks;
          hears = heard.hears;
          written = begins_whole writer.before writer.after (flat_map (news_text bytes_of) heard.looks) heard.written;
        })

    -- the whole input
    pub is_heard : (heard next : Monitor S D P G) (input : List ℕ) (skipped base before : ℕ) (all totals : Totals) →
        Consumes reader.before reader.after input → IsAtEnd reader.after →
        Heard basis bytes_of kept input heard writer.before writer.after → IsTrue writer.flushed →
        fed_of next ≡ fed_of heard → HoldsAsBefore heard next → Stays heard next → (AllTold heard → AllTold next) →
        HasRead basis first before →
        AddsUp basis next all → totals ≡ behind_state skipped before base all →
        IsHeard basis bytes_of reader writer first skipped base totals
    is_heard heard next input skipped base before all totals consumed ended hears flushed same holding again tells has_read
        adds_up is = record {
          input = input;
          next = next;
          consumed = consumed;
          ended = ended;
          heard = record {
            looks = hears.looks;
            hears = hears_kept first kept heard next input hears.looks before_is holds stays hears.hears same holding again;
            told = tells hears.told;
            written = hears.written;
          };
          flushed = flushed;
          before = before;
          has_read = has_read;
          all = all;
          adds_up = adds_up;
          totals_are = is;
        }
