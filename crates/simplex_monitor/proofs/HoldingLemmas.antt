-- What is held of messages, when one more comes and when the floor rises.
use Rattle.std.proofs.Common.{◌≡◌, ℕ, Bool, true, false, ◌∙◌, List, [], ◌∷◌, ◌++◌, Option, Some, None, Result, Ok, Err, cond, ap, refl, subst, sym, append-nil}
use Rattle.std.specs.Prelude.{All, IfSome, IsTrue, OnOk, Vec, filter, is_some}
use Rattle.std.specs.Global.{Global}
use Rattle.std.specs.List.{flat_map}
use Rattle.std.specs.Bool.{then_some}
use Rattle.std.specs.Ordering.{ord_max}
use Rattle.std.proofs.lemmas.Grind.{flat_map-append}
use Rattle.std.proofs.lemmas.Option.{same_Some}
use Rattle.std.proofs.lemmas.List.Elements.{All-append, All-cons, All-filter, All-nil, All-pop, All-weaker}
use Rattle.simplex_base.specs.Format.{Format}
use Rattle.simplex_base.specs.Positions.{Round}
use Rattle.simplex_evidence.specs.Activity.{IsActivity, activity_round}
use Rattle.simplex_evidence.specs.declared.types.activity.Activity.{Activity}
use Rattle.simplex_rules.specs.Accusation.{round_cmp}
use Rattle.simplex_detector.specs.Detector.{Recalls}
use Rattle.simplex_rules.specs.Independence.{FloorsRise, IsOfOneRound, in_rounds, is_from, of_rounds}
use Rattle.simplex_rules.specs.Interchange.{HaveSameState, SameStateJoined}
use Rattle.simplex_detector.specs.Gathered.{TellsKept}
use Rattle.simplex_ballots.specs.Kept.{kept_by}
use Rattle.simplex_rules.specs.News.{CompactsNext, IsCompaction, compacted, kept_of}
use Rattle.simplex_rules.specs.Rules.{Rules}
use Rattle.simplex_detector.specs.declared.detector.Detector.{Detector}
use Rattle.simplex_ballots.specs.declared.kept.Kept.{Kept}
use Rattle.simplex_stream.specs.Messages.{AreMessages}
use Rattle.simplex_stream.specs.StreamLaws.{IsNeverEmpty, are_joined}
use Rattle.simplex_audit.specs.Basis.{Basis}
use Rattle.simplex_audit.specs.CompactingLaws.{kept_fits}
use Rattle.simplex_monitor.specs.Holding.{Holds, HoldsNoOther, StandsFor, StandsIfHeld}

-- ---- states

module _ {S D C P G : Type 0} (rules : Rules S D C P G) where
  -- messages have their own state
  pub same_itself : (ms : List (Activity S D C P G)) → HaveSameState rules ms ms
  same_itself ms = record {
    votes = λ kind round signer. refl;
    splits = λ round. refl;
    firsts = λ round whole kind. refl;
  }

  same_back : (ms ks : List (Activity S D C P G)) → HaveSameState rules ms ks → HaveSameState rules ks ms
  same_back ms ks h = record {
    votes = λ kind round signer. sym (h.votes kind round signer);
    splits = λ round. sym (h.splits round);
    firsts = λ round whole kind. sym (h.firsts round (h.splits round ∙ whole) kind);
  }

  pub same_then : (ms ks ls : List (Activity S D C P G)) → HaveSameState rules ms ks → HaveSameState rules ks ls →
      HaveSameState rules ms ls
  same_then ms ks ls h l = record {
    votes = λ kind round signer. h.votes kind round signer ∙ l.votes kind round signer;
    splits = λ round. h.splits round ∙ l.splits round;
    firsts = λ round whole kind. h.firsts round whole kind ∙ l.firsts round (sym (h.splits round) ∙ whole) kind;
  }

  -- with what is kept of one more message, messages have the state of those messages and that one
  kept_joined : SameStateJoined rules → ((ms : List (Activity S D C P G)) → IsCompaction rules ms) →
      ((ms : List (Activity S D C P G)) (m : Activity S D C P G) → CompactsNext rules ms m) →
      (ms taken : List (Activity S D C P G)) (m : Activity S D C P G) → HaveSameState rules ms taken →
      HaveSameState rules (ms ++ kept_of rules taken m) (taken ++ m ∷ [])
  kept_joined joined compaction next ms taken m same =
      let kept = kept_of rules taken m in
      let short = compacted rules taken in
      same_then (ms ++ kept) (short ++ kept) (taken ++ m ∷ [])
      (joined ms short kept kept (same_then ms taken short same (same_back short taken (compaction taken).state))
      (same_itself kept))
      (subst (λ ks. HaveSameState rules ks (taken ++ m ∷ [])) (next taken m) (compaction (taken ++ m ∷ [])).state)

-- ---- what is held

-- nothing is held at first, if anything is to be held
pub none_held : (holds : Bool) (bytes : Vec ℕ Global) → bytes.items ≡ [] →
    IfSome (then_some holds bytes) (λ held. held.items ≡ [])
none_held true bytes none = none
none_held false bytes none = tt

pub held_if : (holds : Bool) (bytes : Vec ℕ Global) → is_some (then_some holds bytes) ≡ holds
held_if true bytes = refl
held_if false bytes = refl

-- what is kept of a message that can be read can be read, if it can be encoded
pub fits_kept : {S D C P G : Type 0} (eq : D → D → Bool) (payload : Format D) (is_certificate fits : C → Type 0)
    (signature : Format G) (rules : Rules S D C P G) (m : Activity S D C P G) (kept : Kept S D C P G) →
    All (IsActivity eq payload is_certificate signature) (kept_by m kept) → (before : List (Activity S D C P G)) →
    IsActivity eq payload fits signature m → kept_by m kept ≡ kept_of rules before m →
    All (IsActivity eq payload fits signature) (kept_by m kept)
fits_kept eq payload is_certificate fits signature rules m kept values before is same =
    subst (All (IsActivity eq payload fits signature)) (sym same)
    (kept_fits eq payload is_certificate fits signature rules before m is
    (subst (All (IsActivity eq payload is_certificate signature)) same values))

-- what a filter leaves passes
passed : {X : Type 0} (p : X → Bool) (xs : List X) → All (λ x. IsTrue (p x)) (filter p xs)
passed p [] = All-nil (λ x. IsTrue (p x))
passed {X} p (x ∷ xs) = one (passed p xs) (p x) refl
  where
    one : All (λ y. IsTrue (p y)) (filter p xs) → (b : Bool) → p x ≡ b →
        All (λ y. IsTrue (p y)) (cond b (x ∷ filter p xs) (filter p xs))
    one rest true e = All-cons (λ y. IsTrue (p y)) x (filter p xs) e rest
    one rest false e = rest

-- two facts of a result that is no error, together
pub on_both : {T E A B X : Type 0} (r : Result T E) → (A → B → X) → OnOk r A → OnOk r B → OnOk r X
on_both (Ok t) both a b = both a b
on_both (Err e) both a b = a

-- messages with the same state have the same state of a part of the rounds
abbrev pub StatesOfParts : Type 0 → Type 0 → Type 0 → Type 0 → Type 0 → Type 0
StatesOfParts D C P G S = (rules : Rules S D C P G) (part : Round → Bool) (messages others : List (Activity S D C P G)) →
    HaveSameState rules messages others → HaveSameState (in_rounds part rules) messages others

module _ {S D C P G : Type 0} (basis : Basis S D C P G) where
  -- what is held stands for one message more, if what was held stood for those before it
  abbrev pub HoldsMore : Rules S D C P G → Activity S D C P G → Detector S D P G → Option (Vec ℕ Global) →
      Option (Vec ℕ Global) → Type 0
  HoldsMore judged m detector old new =
      (floor : Round) (taken : List (Activity S D C P G)) → judged ≡ in_rounds (is_from floor) basis.rules →
      Recalls judged taken detector → StandsIfHeld basis floor taken old → StandsIfHeld basis floor (taken ++ m ∷ []) new

  -- nothing is held of nothing
  pub stands_for_none : (floor : Round) (held : Option (Vec ℕ Global)) → IfSome held (λ bytes. bytes.items ≡ []) →
      StandsIfHeld basis floor [] held
  stands_for_none floor None none = tt
  stands_for_none floor (Some bytes) none = record {
    messages = [];
    encoded = none;
    values = λ each. each;
    state = same_itself (in_rounds (is_from floor) basis.rules) [];
  }

  -- one message more comes, and nothing was held
  pub holds_nothing : (judged : Rules S D C P G) (m : Activity S D C P G) (detector : Detector S D P G)
      (held : Option (Vec ℕ Global)) → held ≡ None → HoldsMore judged m detector held held
  holds_nothing judged m detector None is floor taken by recalls stands = tt
  holds_nothing judged m detector (Some bytes) is floor taken by recalls stands = absurd cc

  -- what is kept of the message is appended
  pub holds_kept : (judged : Rules S D C P G) (m : Activity S D C P G) (detector : Detector S D P G)
      (held : Option (Vec ℕ Global)) (old new : Vec ℕ Global) (kept : Kept S D C P G) → held ≡ Some old →
      SameStateJoined judged → ((ms : List (Activity S D C P G)) → IsCompaction judged ms) →
      ((ms : List (Activity S D C P G)) (k : Activity S D C P G) → CompactsNext judged ms k) →
      TellsKept judged m detector kept →
      new.items ≡ old.items ++ flat_map basis.format.encoding (kept_by m kept) →
      ((before : List (Activity S D C P G)) → basis.format.is_value m → kept_by m kept ≡ kept_of judged before m →
      All basis.format.is_value (kept_by m kept)) →
      HoldsMore judged m detector held (Some new)
  holds_kept judged m detector None old new kept is joined compaction next tells written fits floor taken by recalls stands =
      absurd cc
  holds_kept judged m detector (Some bytes) old new kept is joined compaction next tells written fits floor taken by recalls
      stands =
      let same : bytes ≡ old = same_Some bytes old is in
      let is_kept = tells taken recalls in
      record {
        messages = stands.messages ++ kept_by m kept;
        encoded = written
            ∙ ap (λ (v : Vec ℕ Global). v.items ++ flat_map basis.format.encoding (kept_by m kept)) (sym same)
            ∙ ap (λ xs. xs ++ flat_map basis.format.encoding (kept_by m kept)) stands.encoded
            ∙ sym (flat_map-append basis.format.encoding stands.messages (kept_by m kept));
        values = λ each.
            let (front, last) = All-pop basis.format.is_value (taken ++ m ∷ []) taken (Some m) refl each in
            All-append basis.format.is_value stands.messages (kept_by m kept) (stands.values front) (fits taken last is_kept);
        state = subst (λ rs. HaveSameState rs (stands.messages ++ kept_by m kept) (taken ++ m ∷ [])) by
            (subst (λ ks. HaveSameState judged (stands.messages ++ ks) (taken ++ m ∷ [])) (sym is_kept)
            (kept_joined judged joined compaction next stands.messages taken m
            (subst (λ rs. HaveSameState rs stands.messages taken) (sym by) stands.state)));
      }

  -- the floor rises
  pub stands_higher : StatesOfParts D C P G S → FloorsRise basis.rules → (low high : Round)
      (taken : List (Activity S D C P G)) (held : Option (Vec ℕ Global)) → StandsIfHeld basis low taken held →
      StandsIfHeld basis (ord_max round_cmp low high) taken held
  stands_higher parts rise low high taken None stands = tt
  stands_higher parts rise low high taken (Some bytes) stands = record {
    messages = stands.messages;
    encoded = stands.encoded;
    values = stands.values;
    state = subst (λ rs. HaveSameState rs stands.messages taken) (rise.higher low high)
        (parts (in_rounds (is_from low) basis.rules) (is_from high) stands.messages taken stands.state);
  }

  -- what is held are messages, if those that were taken can be read
  pub holds_here : (floor : Round) (taken : List (Activity S D C P G)) (held : Option (Vec ℕ Global)) (bytes : Vec ℕ Global) →
      held ≡ Some bytes → IsNeverEmpty basis.format → All basis.format.is_value taken → StandsIfHeld basis floor taken held →
      Holds basis floor taken bytes.items
  holds_here floor taken None bytes is some each stands = absurd cc
  holds_here floor taken (Some held) bytes is some each stands =
      let same : held ≡ bytes = same_Some held bytes is in
      record {
        messages = stands.messages;
        are_messages = subst (λ xs. AreMessages basis.format xs stands.messages [])
            (sym stands.encoded ∙ ap (λ (v : Vec ℕ Global). v.items) same)
            (are_joined basis.format some stands.messages (stands.values each));
        state = stands.state;
      }

  -- what is held stands for what was taken
  pub stands_if : (floor : Round) (taken : List (Activity S D C P G)) (held : Option (Vec ℕ Global)) (bytes : Vec ℕ Global) →
      held ≡ Some bytes → StandsIfHeld basis floor taken held → StandsFor basis floor taken bytes.items
  stands_if floor taken None bytes is stands = absurd cc
  stands_if floor taken (Some held) bytes is stands =
      subst (λ (v : Vec ℕ Global). StandsFor basis floor taken v.items) (same_Some held bytes is) stands

  -- messages that have the state of others stand for them
  pub stands_by : (floor : Round) (taken : List (Activity S D C P G)) (bytes : List ℕ) → Holds basis floor taken bytes →
      StandsFor basis floor taken bytes
  stands_by floor taken bytes holds = record {
    messages = holds.messages;
    encoded = holds.are_messages.whole ∙ append-nil (flat_map basis.format.encoding holds.messages);
    values = λ each. holds.are_messages.each;
    state = holds.state;
  }

  -- the messages from the floor on can stand for all that is held
  module _ (floor : Round) (taken : List (Activity S D C P G)) (bytes : List ℕ) (kept : Vec ℕ Global)
      (some : IsNeverEmpty basis.format) (each : All basis.format.is_value taken)
      (whole : (m : Activity S D C P G) → basis.format.is_value m → IsOfOneRound basis.rules.listed m)
      (alone : (messages : List (Activity S D C P G)) → All (IsOfOneRound basis.rules.listed) messages →
      HaveSameState (in_rounds (is_from floor) basis.rules) (of_rounds (is_from floor) messages) messages)
      (sieved : (messages : List (Activity S D C P G)) → AreMessages basis.format bytes messages [] →
      kept.items ≡ flat_map basis.format.encoding (of_rounds (is_from floor) messages))
      (stands : StandsFor basis floor taken bytes) where
    abbrev left : List (Activity S D C P G)
    left = of_rounds (is_from floor) stands.messages

    encoded_left : kept.items ≡ flat_map basis.format.encoding left
    encoded_left = sieved stands.messages (subst (λ xs. AreMessages basis.format xs stands.messages []) (sym stands.encoded)
        (are_joined basis.format some stands.messages (stands.values each)))

    values_left : All basis.format.is_value left
    values_left = All-filter (λ m. is_from floor (activity_round m)) basis.format.is_value stands.messages (stands.values each)

    state_left : HaveSameState (in_rounds (is_from floor) basis.rules) left taken
    state_left = same_then (in_rounds (is_from floor) basis.rules) left stands.messages taken
        (alone stands.messages (All-weaker basis.format.is_value (IsOfOneRound basis.rules.listed) whole stands.messages
        (stands.values each))) stands.state

    pub holds_short : HoldsNoOther basis floor taken kept.items
    holds_short = record {
      holds = record {
        messages = left;
        are_messages = subst (λ xs. AreMessages basis.format xs left []) (sym encoded_left)
            (are_joined basis.format some left values_left);
        state = state_left;
      };
      above = passed (λ m. is_from floor (activity_round m)) stands.messages;
    }
