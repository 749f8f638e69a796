-- A monitor that listens on, piece by piece and look by look.
use Rattle.std.proofs.Common.{◌≡◌, ◌⊎◌, IsTrue, inl, inr, ℕ, ◌+◌, ◌≤◌, List, [], ◌∷◌, ◌++◌, Option, Result, Ok, Err, drop, length, length-append, refl, sym, ap, subst, ◌∙◌, arith, append_assoc, append-nil, take}
use Rattle.std.specs.Prelude.{IfErr, OnErr}
use Rattle.std.specs.List.{flat_map}
use Rattle.std.specs.Io.KnownBytes.{Appends}
use Rattle.std.proofs.KnownBytes.{Appends-nil, Appends-trans}
use Rattle.std.proofs.Math.Seq.{take-append_seam}
use Rattle.std.proofs.lemmas.Grind.{flat_map-append}
use Rattle.std.proofs.lemmas.List.{take-append-drop}
use Rattle.simplex_scheme.specs.Committees.{Schedule}
use Rattle.simplex_alarm.specs.Alarm.{Told, told_then}
use Rattle.simplex_alarm.specs.declared.alarm.News.{News}
use Rattle.simplex_base.specs.declared.codec.error.Error.{Error}
use Rattle.simplex_stream.specs.Decoder.{bytes_fed, decoding_over, undecoded}
use Rattle.simplex_stream.specs.Fault.{IsFault, fault_of}
use Rattle.simplex_stream.specs.Messages.{AreMessages, IsStop, IsStuck}
use Rattle.simplex_stream.specs.StreamLaws.{fault_is, over_fault, over_messages}
use Rattle.simplex_stream.specs.Text.{AppendsBeginning}
use Rattle.simplex_stream.specs.declared.fault.Fault.{Fault}
use Rattle.simplex_audit.specs.Basis.{Basis}
use Rattle.simplex_monitor.specs.Hearing.{AllTold, Heard, Hears, HearsBeginning, news_text, told_by}
use Rattle.simplex_monitor.specs.Monitoring.{EndsAt, HoldsAsBefore, KeepsHolding, Listens, fed_of}
use Rattle.simplex_monitor.specs.declared.monitor.Monitor.{Monitor}
use Rattle.simplex_monitor.specs.declared.window.Window.{Window}

-- what holds for any error
pub if_err : {X E : Type 0} (r : Result X E) (Q : Type 0) → Q → IfErr r (λ e. Q)
if_err (Ok x) Q q = tt
if_err (Err e) Q q = q

-- what holds whatever the result is
pub on_err : {X E : Type 0} (r : Result X E) (Q : Type 0) → Q → OnErr r Q
on_err (Ok x) Q q = tt
on_err (Err e) Q q = q

-- what is told in some looks and more
told_by-append : {S D P G : Type 0} (told : Told D G) (xs ys : List (News S D P G)) →
    told_by told (xs ++ ys) ≡ told_by (told_by told xs) ys
told_by-append told [] ys = refl
told_by-append told (x ∷ xs) ys = told_by-append (told_then told x) xs ys

-- what was appended is a front of a longer text
begins : (old new : Option (List ℕ)) (front rest text : List ℕ) → text ≡ front ++ rest → Appends old new front →
    AppendsBeginning old new text
begins old new front rest text is written = (
  length front,
  subst (Appends old new) (sym (ap (take (length front)) is ∙ take-append_seam front rest)) written,
)

module _ {S D C P G : Type 0} (basis : Schedule S → Basis S D C P G) where
  -- nothing came
  pub hears_nothing : (monitor : Monitor S D P G) → Hears basis monitor [] [] monitor
  hears_nothing monitor = record {
    fed = omega arith;
    listens = λ start committees told stream h.
        subst (λ (t : List ℕ). Listens basis start committees told t monitor) (sym (append-nil stream)) h;
    holds = λ start committees told stream h. refl;
  }

  -- a look
  pub hears_look : (monitor next : Monitor S D P G) (news : News S D P G) → fed_of next ≡ fed_of monitor →
      ((start : Window) (committees : Schedule S) (told : Told D G) (stream : List ℕ) →
      Listens basis start committees told stream monitor →
      Listens basis start committees (told_then told news) stream next) → HoldsAsBefore monitor next →
      Hears basis monitor [] (news ∷ []) next
  hears_look monitor next news same listens holding = record {
    fed = omega (arith, same);
    listens = λ start committees told stream h.
        subst (λ (t : List ℕ). Listens basis start committees (told_then told news) t next) (sym (append-nil stream))
        (listens start committees told stream h);
    holds = λ start committees told stream h. holding;
  }

  -- one input and another
  pub hears_more : (a b c : Monitor S D P G) (input more : List ℕ) (looks further : List (News S D P G)) →
      Hears basis a input looks b → Hears basis b more further c → Hears basis a (input ++ more) (looks ++ further) c
  hears_more a b c input more looks further one next = record {
    fed = let first = one.fed in let second = next.fed in rw length-append (omega (arith, first, second));
    listens = λ start committees told stream h.
        subst (λ (t : List ℕ). Listens basis start committees (told_by told (looks ++ further)) t c)
        (append_assoc stream input more)
        (subst (λ (t : Told D G). Listens basis start committees t ((stream ++ input) ++ more) c)
        (sym (told_by-append told looks further))
        (next.listens start committees (told_by told looks) (stream ++ input) (one.listens start committees told stream h)));
    holds = λ start committees told stream h.
        next.holds start committees (told_by told looks) (stream ++ input) (one.listens start committees told stream h)
        ∙ one.holds start committees told stream h;
  }

  -- a piece, and a look behind it
  pub hears_piece : (monitor between next : Monitor S D P G) (piece : List ℕ) (news : News S D P G) →
      fed_of between ≤ fed_of monitor + length piece → fed_of next ≡ fed_of between →
      ((start : Window) (committees : Schedule S) (told : Told D G) (stream : List ℕ) →
      Listens basis start committees told stream monitor →
      Listens basis start committees told (stream ++ piece) between) →
      ((start : Window) (committees : Schedule S) (told : Told D G) (stream : List ℕ) →
      Listens basis start committees told stream between →
      Listens basis start committees (told_then told news) stream next) → KeepsHolding basis monitor between →
      HoldsAsBefore between next → Hears basis monitor piece (news ∷ []) next
  hears_piece monitor between next piece news fed same feeds looks holds holding = record {
    fed = omega (arith, fed, same);
    listens = λ start committees told stream h.
        looks start committees told (stream ++ piece) (feeds start committees told stream h);
    holds = λ start committees told stream h. holding ∙ holds start committees told stream h;
  }

  -- what a monitor holds was shortened behind a look
  pub hears_hooked : (monitor between next : Monitor S D P G) (input : List ℕ) (looks : List (News S D P G)) →
      Hears basis monitor input looks between → fed_of next ≡ fed_of between →
      ((start : Window) (committees : Schedule S) (told : Told D G) (stream : List ℕ) →
      Listens basis start committees told stream between → Listens basis start committees told stream next) →
      HoldsAsBefore between next → Hears basis monitor input looks next
  hears_hooked monitor between next input looks hears same stays holding = record {
    fed = let before = hears.fed in omega (arith, before, same);
    listens = λ start committees told stream h.
        stays start committees (told_by told looks) (stream ++ input) (hears.listens start committees told stream h);
    holds = λ start committees told stream h. holding ∙ hears.holds start committees told stream h;
  }

  module _ (bytes_of : D → List ℕ) where
    -- nothing was heard or written
    pub begun_nothing : (monitor : Monitor S D P G) (now : Option (List ℕ)) →
        HearsBeginning basis bytes_of monitor [] now now
    begun_nothing monitor now = record {
      next = monitor;
      looks = [];
      hears = hears_nothing monitor;
      written = (0, Appends-nil now);
    }

    -- a front of what one look tells was written
    pub begun_look : (monitor next : Monitor S D P G) (input : List ℕ) (news : News S D P G) (old now : Option (List ℕ)) →
        Hears basis monitor input (news ∷ []) next → AppendsBeginning old now (news_text bytes_of news) →
        HearsBeginning basis bytes_of monitor input old now
    begun_look monitor next input news old now hears written = record {
      next = next;
      looks = news ∷ [];
      hears = hears;
      written = subst (AppendsBeginning old now) (sym (append-nil (news_text bytes_of news))) written;
    }

    -- what one look tells was written
    pub heard_look : (monitor next : Monitor S D P G) (input : List ℕ) (news : News S D P G) (old now : Option (List ℕ)) →
        Hears basis monitor input (news ∷ []) next → AllTold next → Appends old now (news_text bytes_of news) →
        Heard basis bytes_of monitor input next old now
    heard_look monitor next input news old now hears told written = record {
      looks = news ∷ [];
      hears = hears;
      told = told;
      written = subst (Appends old now) (sym (append-nil (news_text bytes_of news))) written;
    }

  module _ (bytes_of : D → List ℕ) (first : Monitor S D P G) (input : List ℕ) (between : Monitor S D P G)
      (old now : Option (List ℕ)) (heard : Heard basis bytes_of first input between old now) where
    -- one piece more, with a look behind it
    pub heard_on : (piece : List ℕ) (news : News S D P G) (next : Monitor S D P G) (later : Option (List ℕ)) →
        Hears basis between piece (news ∷ []) next → Appends now later (news_text bytes_of news) → AllTold next →
        Heard basis bytes_of first (input ++ piece) next old later
    heard_on piece news next later hears written told = record {
      looks = heard.looks ++ news ∷ [];
      hears = hears_more first between next input piece heard.looks (news ∷ []) heard.hears hears;
      told = told;
      written = subst (Appends old later)
          (ap (λ (t : List ℕ). flat_map (news_text bytes_of) heard.looks ++ t) (sym (append-nil (news_text bytes_of news)))
          ∙ sym (flat_map-append (news_text bytes_of) heard.looks (news ∷ [])))
          (Appends-trans old now later (flat_map (news_text bytes_of) heard.looks) (news_text bytes_of news) heard.written
          written);
    }

    -- a front of what was told of a piece more was written
    pub begun_on : (piece : List ℕ) (later : Option (List ℕ)) → HearsBeginning basis bytes_of between piece now later →
        HearsBeginning basis bytes_of first (input ++ piece) old later
    begun_on piece later begun = let looks = begun.looks in let (count, some) = begun.written in record {
      next = begun.next;
      looks = heard.looks ++ looks;
      hears = hears_more first between begun.next input piece heard.looks looks heard.hears begun.hears;
      written =
          let before = flat_map (news_text bytes_of) heard.looks in
          let text = flat_map (news_text bytes_of) looks in
          begins old later (before ++ take count text) (drop count text) (flat_map (news_text bytes_of) (heard.looks ++ looks))
          (flat_map-append (news_text bytes_of) heard.looks looks
          ∙ ap (λ (t : List ℕ). before ++ t) (sym (take-append-drop count text))
          ∙ sym (append_assoc before (take count text) (drop count text)))
          (Appends-trans old now later before (take count text) heard.written some);
    }

    -- all that was written so far is such a front
    pub begun_here : HearsBeginning basis bytes_of first input old now
    begun_here = record {
      next = between;
      looks = heard.looks;
      hears = heard.hears;
      written =
          let before = flat_map (news_text bytes_of) heard.looks in
          begins old now before [] before (sym (append-nil before)) heard.written;
    }

  -- the fault behind the decoded messages is the stream's
  pub ends_at : (start : Window) (committees : Schedule S) (told : Told D G) (stream : List ℕ) (monitor : Monitor S D P G)
      (h : Listens basis start committees told stream monitor) (place : ℕ) (stop : Option Error) (fault : Option Fault) →
      fault ≡ fault_of place stop → place + length (undecoded monitor.decoder) ≡ bytes_fed monitor.decoder →
      (IsStuck (basis committees).format (undecoded monitor.decoder) →
      IsStop (basis committees).format.reading (undecoded monitor.decoder) stop) →
      EndsAt (basis committees).format stream h.messages fault
  ends_at start committees told stream monitor h place stop fault is at why =
      let format = (basis committees).format in
      let tail = undecoded monitor.decoder in
      let are = h.decoded.are_messages in
      let here = fault_is format h.front tail h.messages place stop fault are (at ∙ h.decoded.fed_is) (why are.stuck) is in
      subst (λ (t : List ℕ). EndsAt format t h.messages fault) (sym h.parts) (longer h.behind h.unread here)
    where
      longer : (behind : List ℕ) → (behind ≡ []) ⊎ IsTrue (decoding_over monitor.decoder) →
          IsFault (basis committees).format.reading (length (flat_map (basis committees).format.encoding h.messages))
          (undecoded monitor.decoder) fault → EndsAt (basis committees).format (h.front ++ behind) h.messages fault
      longer behind (inl none) here = (
        undecoded monitor.decoder,
        subst (λ (t : List ℕ). AreMessages (basis committees).format t h.messages (undecoded monitor.decoder))
            (sym (append-nil h.front) ∙ ap (λ (t : List ℕ). h.front ++ t) (sym none)) h.decoded.are_messages,
        here,
      )
      longer behind (inr over) here = (
        undecoded monitor.decoder ++ behind,
        over_messages (basis committees).format h.readable h.front (undecoded monitor.decoder) behind h.messages
            h.decoded.are_messages (h.decoded.over over),
        over_fault (basis committees).format.reading (length (flat_map (basis committees).format.encoding h.messages))
            (undecoded monitor.decoder) behind fault here (h.decoded.over over),
      )
