-- A monitor from piece to piece.
use Rattle.std.proofs.Common.{◌≡◌, inl, inr, ℕ, ◌+◌, ◌*◌, ◌-◌, ◌^◌, ◌≤◌, Bool, true, false, IsTrue, Option, Some, None, cond, drop, get_or, length, map, min, List, [], ◌∷◌, ◌++◌, refl, sym, ap, subst, ◌∙◌, arith, append_assoc, append-nil}
use Rattle.std.proofs.Math.Seq.{drop-append_seam}
use Rattle.std.proofs.lemmas.Bool.{and_parts}
use Rattle.std.proofs.lemmas.List.Elements.{All-contains, All-contains_itself, All-head, All-tail, All-weaker, filter-append}
use Rattle.std.proofs.lemmas.Option.{same_Some}
use Rattle.std.specs.List.{find, flat_map}
use Rattle.std.specs.Global.{Global}
use Rattle.std.specs.Prelude.{All, Contains, Vec, filter, ◌&&◌, ◌==◌}
use Rattle.simplex_base.specs.Format.{Format, IsLawful}
use Rattle.simplex_base.specs.Positions.{Round, same_round}
use Rattle.simplex_evidence.specs.Activity.{votes_in}
use Rattle.simplex_evidence.specs.Contradiction.{first_kind, Equivocation}
use Rattle.simplex_scheme.specs.Kind.{kind_of, same_kind}
use Rattle.simplex_scheme.specs.Subject.{round_of}
use Rattle.simplex_votes.specs.Votes.{SignedVote, is_at, is_of}
use Rattle.simplex_rules.specs.Accusation.{Accusation, accused_by}
use Rattle.simplex_alarm.specs.declared.alerts.Alerts.{Alerts}
use Rattle.simplex_monitor.proofs.TakenLemmas.{same_round-true}
use Rattle.simplex_monitor.proofs.WatchingLemmas.{filter_twice}
use Rattle.simplex_evidence.specs.declared.types.activity.Activity.{Activity}
use Rattle.simplex_scheme.specs.Committees.{Schedule, size_by}
use Rattle.simplex_alarm.specs.Alarm.{Sounds, SoundsUntold, Told, nothing_told, told_from, told_then}
use Rattle.simplex_alarm.specs.Alerts.{IsEachOnce, Tells, untold}
use Rattle.simplex_detector.specs.Detector.{Recalls}
use Rattle.simplex_rules.specs.Evidence.{IsEvidence, evidence_of, with_first}
use Rattle.simplex_rules.specs.Independence.{IsOfOneRound, in_rounds, is_from, splits_within}
use Rattle.simplex_rules.specs.Recorded.{recorded_in, votes_recorded}
use Rattle.simplex_rules.specs.Rules.{HaveCommittees, Rules, is_valid, valid_votes}
use Rattle.simplex_rules.specs.Arising.{splits_arising}
use Rattle.simplex_rules.specs.Splits.{AreSplits}
use Rattle.simplex_rules.specs.Values.{evidence_value}
use Rattle.simplex_alarm.specs.declared.alarm.Alarm.{Alarm}
use Rattle.simplex_alarm.specs.declared.alarm.News.{News}
use Rattle.simplex_rules.specs.declared.split.Split.{Split}
use Rattle.simplex_stream.specs.Decoder.{HasDecoded, DecodesMore, decoding_over}
use Rattle.simplex_stream.specs.declared.decoder.Decoder.{Decoder}
use Rattle.simplex_audit.specs.Basis.{Basis}
use Rattle.simplex_monitor.specs.Monitoring.{AreFewVotes, HasEvidence, HasSplits, HasVotes, KeepsHolding, Listens, TellsRest, retained, watcher_of}
use Rattle.simplex_monitor.specs.Bounded.{views_of}
use Rattle.simplex_monitor.specs.Holding.{StandsIfHeld}
use Rattle.simplex_monitor.specs.Taken.{window_of}
use Rattle.simplex_monitor.proofs.RecordedLemmas.{few_recorded, taken_among}
use Rattle.simplex_monitor.specs.Watching.{Watches, WatchesMore}
use Rattle.simplex_monitor.specs.WatchingLaws.{taken_then}
use Rattle.simplex_monitor.specs.Window.{IsInOrder, floor_of}
use Rattle.simplex_monitor.specs.declared.monitor.Monitor.{Monitor}
use Rattle.simplex_monitor.specs.declared.watcher.Watcher.{Watcher}
use Rattle.simplex_monitor.specs.declared.window.Window.{Window}

-- a piece that is dropped changes nothing if nothing that follows can be read
pub listens_over : {S D C P G : Type 0} (basis : Schedule S → Basis S D C P G) (monitor : Monitor S D P G) (piece : List ℕ) →
    IsTrue (decoding_over monitor.decoder) → (start : Window) (committees : Schedule S) (told : Told D G)
    (stream : List ℕ) → Listens basis start committees told stream monitor →
    Listens basis start committees told (stream ++ piece) monitor
listens_over basis monitor piece over start committees told stream h = record {
  ordered = h.ordered;
  committees_are = h.committees_are;
  bound_is = h.bound_is;
  readable = h.readable;
  members = h.members;
  sizes = h.sizes;
  terms = h.terms;
  front = h.front;
  behind = h.behind ++ piece;
  parts = ap (λ (t : List ℕ). t ++ piece) h.parts ∙ append_assoc h.front h.behind piece;
  unread = inr over;
  messages = h.messages;
  decoded = h.decoded;
  taken = h.taken;
  below = h.below;
  above = h.above;
  are_taken = h.are_taken;
  watches = h.watches;
}

-- a monitor that decoded and watched the messages that a piece completes has listened to the stream with the piece appended
pub listens_on : {S D C P G : Type 0} (basis : Schedule S → Basis S D C P G) (format : ℕ → Format (Activity S D C P G))
    (old : Monitor S D P G) (decoder : Decoder) (watcher : Watcher S D P G) (piece : List ℕ) →
    ((s : Schedule S) → (basis s).format ≡ format (basis s).bound) → decoding_over old.decoder ≡ false →
    DecodesMore (format old.bound)
    (λ more. WatchesMore (basis old.committees.now) more (watcher_of old) watcher) piece old.decoder decoder →
    (start : Window) (committees : Schedule S) (told : Told D G) (stream : List ℕ) →
    Listens basis start committees told stream old →
    Listens basis start committees told (stream ++ piece) (record old { decoder = decoder; watcher = watcher })
listens_on {S} {D} {C} {P} {G} basis format old decoder watcher piece reads on decodes start committees told stream h =
    let same : (basis committees).format ≡ format old.bound = reads committees ∙ ap format (sym h.bound_is) in
    let whole : stream ≡ h.front = elim h.unread [
      | inl none ↦ h.parts ∙ (ap (λ (t : List ℕ). h.front ++ t) none ∙ append-nil h.front)
      | inr over ↦ absurd (let no = on in cc)
    ] in
    let Decoded : Format (Activity S D C P G) → Type 0 = λ f. HasDecoded f h.front h.messages old.decoder in
    let (more, decoded, watched) = decodes h.front h.messages (subst Decoded same h.decoded) in
    let rules = (basis committees).rules in
    let here : WatchesMore (basis committees) more (watcher_of old) watcher =
    subst (λ (c : Schedule S). WatchesMore (basis c) more (watcher_of old) watcher) h.committees_are watched in
    let w = here.1 start h.taken told h.below h.above h.ordered h.members h.watches in
    record {
      ordered = h.ordered;
      committees_are = h.committees_are;
      bound_is = h.bound_is;
      readable = h.readable;
      members = h.members;
      sizes = h.sizes;
      terms = h.terms;
      front = h.front ++ piece;
      behind = [];
      parts = ap (λ (t : List ℕ). t ++ piece) whole ∙ sym (append-nil (h.front ++ piece));
      unread = inl refl;
      messages = h.messages ++ more;
      decoded = subst (λ (f : Format (Activity S D C P G)). HasDecoded f (h.front ++ piece) (h.messages ++ more) decoder)
          (sym same) decoded;
      taken = h.taken ++ w.taken;
      below = h.below + w.lower;
      above = h.above + w.higher;
      are_taken = taken_then rules start [] h.messages more h.taken w.taken h.below h.above w.lower w.higher h.are_taken
          w.are_taken;
      watches = w.watches;
    }

-- whether messages are held is as it was
pub holds_on : {S D C P G : Type 0} (basis : Schedule S → Basis S D C P G) (format : ℕ → Format (Activity S D C P G))
    (old : Monitor S D P G) (decoder : Decoder) (watcher : Watcher S D P G) (piece : List ℕ) →
    ((s : Schedule S) → (basis s).format ≡ format (basis s).bound) →
    DecodesMore (format old.bound)
    (λ more. WatchesMore (basis old.committees.now) more (watcher_of old) watcher) piece old.decoder decoder →
    KeepsHolding basis old (record old { decoder = decoder; watcher = watcher })
holds_on {S} {D} {C} {P} {G} basis format old decoder watcher piece reads decodes start committees told stream h =
    let same : (basis committees).format ≡ format old.bound = reads committees ∙ ap format (sym h.bound_is) in
    let Decoded : Format (Activity S D C P G) → Type 0 = λ f. HasDecoded f h.front h.messages old.decoder in
    (decodes h.front h.messages (subst Decoded same h.decoded)).2.0

-- a window by another name
pub listens_as : {S D C P G : Type 0} (basis : Schedule S → Basis S D C P G) (monitor : Monitor S D P G) (window start : Window)
    (committees : Schedule S) (told : Told D G) (stream : List ℕ) → window ≡ start →
    Listens basis window committees told stream monitor → Listens basis start committees told stream monitor
listens_as basis monitor window start committees told stream same =
    subst (λ w. Listens basis w committees told stream monitor) same

-- what was taken can be read, as the messages that were decoded can
pub taken_values : {S D C P G : Type 0} (basis : Schedule S → Basis S D C P G) (monitor : Monitor S D P G) (start : Window)
    (committees : Schedule S) (told : Told D G) (stream : List ℕ) (h : Listens basis start committees told stream monitor) →
    All (basis committees).format.is_value h.taken
taken_values basis monitor start committees told stream h =
    All-weaker (Contains h.taken) (basis committees).format.is_value (λ m m_in.
    All-contains (basis committees).format.is_value h.messages m h.decoded.are_messages.each
    (taken_among (basis committees).rules start [] h.messages h.taken h.below h.above h.are_taken m m_in))
    h.taken (All-contains_itself h.taken)

-- a monitor holds other bytes that can stand for what it took
pub listens_held : {S D C P G : Type 0} (basis : Schedule S → Basis S D C P G) (old : Monitor S D P G)
    (held : Option (Vec ℕ Global)) →
    ((start : Window) (committees : Schedule S) (told : Told D G) (stream : List ℕ)
    (h : Listens basis start committees told stream old) →
    StandsIfHeld (basis committees) (floor_of (watcher_of old).window) h.taken held) →
    (start : Window) (committees : Schedule S) (told : Told D G) (stream : List ℕ) →
    Listens basis start committees told stream old →
    Listens basis start committees told stream (record old { watcher = record (watcher_of old) { held = held } })
listens_held basis old held stands start committees told stream h = record {
  ordered = h.ordered;
  committees_are = h.committees_are;
  bound_is = h.bound_is;
  readable = h.readable;
  members = h.members;
  sizes = h.sizes;
  terms = h.terms;
  front = h.front;
  behind = h.behind;
  parts = h.parts;
  unread = h.unread;
  messages = h.messages;
  decoded = h.decoded;
  taken = h.taken;
  below = h.below;
  above = h.above;
  are_taken = h.are_taken;
  watches = record {
    window_is = h.watches.window_is;
    holds = record {
      recalls = h.watches.holds.recalls;
      sounds = h.watches.holds.sounds;
      stands = stands start committees told stream h;
    };
    below_is = h.watches.below_is;
    above_is = h.watches.above_is;
  };
}

-- a monitor that was fed nothing
pub listens_to_nothing : {S D C P G : Type 0} (basis : Schedule S → Basis S D C P G) (monitor : Monitor S D P G)
    (start window : Window) (committees : Schedule S) → IsInOrder window → monitor.committees.now ≡ committees →
    monitor.bound ≡ (basis committees).bound → IsLawful (basis committees).format →
    HaveCommittees (basis committees).rules →
    ((epoch : ℕ) → (basis committees).rules.size epoch ≤ (basis committees).bound) → 1 ≤ start.lookahead.term_length →
    HasDecoded (basis committees).format [] [] monitor.decoder →
    Watches (basis committees) window [] nothing_told 0 0 (watcher_of monitor) → window ≡ start →
    Listens basis start committees nothing_told [] monitor
listens_to_nothing basis monitor start window committees ordered are bound readable members sizes terms decoded held
    is = record {
      ordered = subst IsInOrder is ordered;
      committees_are = are;
      bound_is = bound;
      readable = readable;
      members = members;
      sizes = sizes;
      terms = terms;
      front = [];
      behind = [];
      parts = refl;
      unread = inl refl;
      messages = [];
      decoded = decoded;
      taken = [];
      below = 0;
      above = 0;
      are_taken = (refl, refl, refl);
      watches = subst (λ w. Watches (basis committees) w [] nothing_told 0 0 (watcher_of monitor)) is held;
    }

module _ {S D C P G : Type 0} (rules : Rules S D C P G) where
  -- what was untold is told
  pub tells_rest : (taken : List (Activity S D C P G)) (told : Told D G) (news : News S D P G) (old new : Monitor S D P G) →
      (watcher_of new).window ≡ (watcher_of old).window →
      SoundsUntold C news (watcher_of old).alarm (watcher_of new).alarm →
      Sounds (retained rules taken old) taken (told_from (floor_of (watcher_of old).window) told) (watcher_of old).alarm →
      TellsRest rules taken told news old new
  tells_rest taken told news old new same takes sounds =
      let judged = retained rules taken old in
      let before = told_from (floor_of (watcher_of old).window) told in
      let all = told_then before news in
      let after = takes.sounds judged taken before sounds in
      record {
        evidence = subst (IsEachOnce rules.eq (valid_votes judged taken))
            (ap (λ us. all.evidence ++ us) takes.no_evidence_left ∙ append-nil all.evidence) after.evidence.all;
        splits = sym (ap (λ us. all.splits ++ us) takes.no_split_left ∙ append-nil all.splits) ∙ after.splits.all;
        window = same;
      }

  -- what a detector gives of the messages that were taken, under rules that are those from the floor on
  module _ (judged : Rules S D C P G) (taken : List (Activity S D C P G)) (monitor : Monitor S D P G) where
    pub evidence_retained : (es : List (Equivocation D G)) → judged ≡ retained rules taken monitor →
        (Recalls judged taken (watcher_of monitor).detector → IsEvidence judged.eq (valid_votes judged taken) es) →
        Recalls (retained rules taken monitor) taken (watcher_of monitor).detector → HasEvidence rules taken monitor es
    evidence_retained es same gives recalls =
        subst (λ (r : Rules S D C P G). IsEvidence r.eq (valid_votes r taken) es) same
        (gives (subst (λ (r : Rules S D C P G). Recalls r taken (watcher_of monitor).detector) (sym same) recalls))

    pub votes_retained : (count : ℕ) → judged ≡ retained rules taken monitor →
        (Recalls judged taken (watcher_of monitor).detector →
        count ≡ min (votes_recorded judged.eq (valid_votes judged taken)) (2 ^ 64 - 1)) →
        Recalls (retained rules taken monitor) taken (watcher_of monitor).detector → HasVotes rules taken monitor count
    votes_retained count same gives recalls =
        subst (λ (r : Rules S D C P G). count ≡ min (votes_recorded r.eq (valid_votes r taken)) (2 ^ 64 - 1)) same
        (gives (subst (λ (r : Rules S D C P G). Recalls r taken (watcher_of monitor).detector) (sym same) recalls))

-- the splits of the messages that were taken
pub splits_retained : {S D C P G : Type 0} (rules under : Schedule S → Rules S D C P G) (monitor : Monitor S D P G)
    (splits : List Split) {committees : Schedule S} → monitor.committees.now ≡ committees →
    ((schedule : Schedule S) →
    under schedule ≡ in_rounds (is_from (floor_of (watcher_of monitor).window)) (rules schedule)) →
    (taken : List (Activity S D C P G)) → HaveCommittees (retained (rules committees) taken monitor) →
    (HaveCommittees (under monitor.committees.now) →
    Recalls (under monitor.committees.now) taken (watcher_of monitor).detector →
    AreSplits (under monitor.committees.now) taken splits) →
    Recalls (retained (rules committees) taken monitor) taken (watcher_of monitor).detector →
    HasSplits (rules committees) taken monitor splits
splits_retained {S} {D} {C} {P} {G} rules under monitor splits {committees} are judged taken members gives recalls =
    let detector = (watcher_of monitor).detector in
    let Gives : Rules S D C P G → Type 0 =
    λ r. HaveCommittees r → Recalls r taken detector → AreSplits r taken splits in
    subst Gives (judged committees) (subst (λ (c : Schedule S). Gives (under c)) are gives) members recalls

-- ---- evidence from a floor on

-- what is found among selected elements is selected
found_selected : {X : Type 0} (p q : X → Bool) (xs : List X) (x : X) → find p (filter q xs) ≡ Some x →
    (p x ≡ true) × (q x ≡ true)
found_selected p q [] x h = absurd cc
found_selected {X} p q (y ∷ ys) x h = one (q y) refl (found_selected p q ys x) h
  where
    other : (b : Bool) → p y ≡ b → q y ≡ true → (find p (filter q ys) ≡ Some x → (p x ≡ true) × (q x ≡ true)) →
        cond b (Some y) (find p (filter q ys)) ≡ Some x → (p x ≡ true) × (q x ≡ true)
    other true at kept later is = subst (λ (z : X). (p z ≡ true) × (q z ≡ true)) (same_Some y x is) (at, kept)
    other false at kept later is = later is

    one : (b : Bool) → q y ≡ b → (find p (filter q ys) ≡ Some x → (p x ≡ true) × (q x ≡ true)) →
        find p (cond b (y ∷ filter q ys) (filter q ys)) ≡ Some x → (p x ≡ true) × (q x ≡ true)
    one true kept later is = other (p y) refl kept later is
    one false away later is = later is

All-behind : {A : Type 0} (P : A → Type 0) (xs ys : List A) → All P (xs ++ ys) → All P ys
All-behind P [] ys each = each
All-behind P (x ∷ xs) ys each = All-behind P xs ys (All-tail P x (xs ++ ys) each)

-- a list of which each element passes is its selection
all_selected : {X : Type 0} (p : X → Bool) (xs : List X) → All (λ x. p x ≡ true) xs → filter p xs ≡ xs
all_selected p [] each = refl
all_selected p (x ∷ xs) each =
    let first = All-head (λ y. p y ≡ true) x xs each in
    let rest = all_selected p xs (All-tail (λ y. p y ≡ true) x xs each) in
    ap (λ b. cond b (x ∷ filter p xs) (filter p xs)) first ∙ ap (λ ys. x ∷ ys) rest

module _ {S D C P G : Type 0} (rules : Rules S D C P G) (part : Round → Bool) (messages : List (Activity S D C P G)) where
  -- evidence of votes that are valid in a part of the rounds is of the part
  evidence_of_part : (n : Accusation) (e : Equivocation D G) →
      evidence_of rules.eq (valid_votes (in_rounds part rules) messages) n ≡ Some e → part n.round ≡ true
  evidence_of_part n e = go (find test votes) refl
    where
      votes : List (SignedVote D G)
      votes = valid_votes (in_rounds part rules) messages

      test : SignedVote D G → Bool
      test = is_at (first_kind n.kind) n.round n.signer

      go : (o : Option (SignedVote D G)) → find test votes ≡ o → with_first rules.eq votes n.kind o ≡ Some e →
          part n.round ≡ true
      go None found is = absurd cc
      go (Some v) found is =
          let at = found_selected test (is_valid (in_rounds part rules)) (flat_map (votes_in rules.listed) messages) v found in
          let here = and_parts (same_kind (kind_of v.subject) (first_kind n.kind)) (is_of n.round n.signer v) at.0 in
          let round = and_parts (same_round (round_of v.subject) n.round) (v.signer == n.signer) here.1 in
          sym (ap part (same_round-true (round_of v.subject) n.round round.0))
          ∙ (and_parts (part (round_of v.subject)) (rules.good v.subject v.signer v.signature) at.1).0

  -- so what was not told yet is of the part
  untold_of_part : (told : List (Equivocation D G)) (alerts : Alerts S D P G) →
      Tells rules.eq (valid_votes (in_rounds part rules) messages) told alerts →
      All (λ e. part (accused_by e).round ≡ true) (untold alerts)
  untold_of_part told alerts tells k d lt =
      let sound = All-behind (λ e. evidence_of rules.eq (valid_votes (in_rounds part rules) messages) (accused_by e) ≡ Some e)
      told (untold alerts) tells.all.sound in
      evidence_of_part (accused_by (get_or (untold alerts) k d)) (get_or (untold alerts) k d) (sound k d lt)

-- what stands behind the same front is the same
cancel : {X : Type 0} (front xs ys : List X) → front ++ xs ≡ front ++ ys → xs ≡ ys
cancel front xs ys e = sym (drop-append_seam front xs) ∙ ap (drop (length front)) e ∙ drop-append_seam front ys

-- a selection is its own selection
selected_again : {X : Type 0} (p : X → Bool) (xs : List X) → filter p (filter p xs) ≡ filter p xs
selected_again {X} p xs = filter_twice p p p (λ x. same (p x)) xs
  where
    same : (b : Bool) → (b && b) ≡ b
    same true = refl
    same false = refl

-- what is behind a selection, and with it is one, is one itself
selected_behind : {X : Type 0} (p : X → Bool) (told untold all : List X) → filter p told ++ untold ≡ filter p all →
    filter p untold ≡ untold
selected_behind p told untold all e =
    let front = filter p told in
    cancel front (filter p untold) untold
    (ap (λ xs. xs ++ filter p untold) (sym (selected_again p told)) ∙ sym (filter-append p front untold)
    ∙ ap (filter p) e ∙ selected_again p all ∙ sym e)

-- a monitor that told what was untold
pub listens_told : {S D C P G : Type 0} (basis : Schedule S → Basis S D C P G) (old : Monitor S D P G) (alarm : Alarm S D P G)
    (news : News S D P G) → SoundsUntold C news (watcher_of old).alarm alarm →
    ((rules : Rules S D C P G) (part : Round → Bool) (before messages : List (Activity S D C P G)) →
    splits_arising (in_rounds part rules) before messages ≡ splits_within part (splits_arising rules before messages)) →
    (start : Window) (committees : Schedule S) (told : Told D G) (stream : List ℕ) →
    Listens basis start committees told stream old →
    Listens basis start committees (told_then told news) stream
    (record old { watcher = record (watcher_of old) { alarm = alarm } })
listens_told {S} {D} {C} {P} {G} basis old alarm news takes arising start committees told stream h =
    let rules = (basis committees).rules in
    let floor = floor_of (watcher_of old).window in
    let judged = in_rounds (is_from floor) rules in
    let holds = h.watches.holds in
    let before = told_from floor told in
    let new = map evidence_value news.evidence.items in
    let test : Equivocation D G → Bool = λ e. is_from floor (accused_by e).round in
    let at : Split → Bool = λ s. is_from floor s.round in
    let own : filter test new ≡ new = all_selected test new
    (subst (All (λ e. test e ≡ true)) (sym takes.evidence_is)
    (untold_of_part rules (is_from floor) h.taken before.evidence (watcher_of old).alarm.evidence holds.sounds.evidence)) in
    let own_splits : filter at news.splits.items ≡ news.splits.items =
    selected_behind at told.splits news.splits.items (splits_arising rules [] h.taken)
    (ap (λ ss. before.splits ++ ss) takes.splits_are ∙ holds.sounds.splits.all
    ∙ arising rules (is_from floor) [] h.taken) in
    let same : told_then before news ≡ told_from floor (told_then told news) = λ i. record {
      evidence = sym (filter-append test told.evidence new ∙ ap (λ es. before.evidence ++ es) own) i;
      splits = sym (filter-append at told.splits news.splits.items ∙ ap (λ ss. before.splits ++ ss) own_splits) i;
    } in
    record {
      ordered = h.ordered;
      committees_are = h.committees_are;
      bound_is = h.bound_is;
      readable = h.readable;
      members = h.members;
      sizes = h.sizes;
      terms = h.terms;
      front = h.front;
      behind = h.behind;
      parts = h.parts;
      unread = h.unread;
      messages = h.messages;
      decoded = h.decoded;
      taken = h.taken;
      below = h.below;
      above = h.above;
      are_taken = h.are_taken;
      watches = record {
        window_is = h.watches.window_is;
        holds = record {
          recalls = holds.recalls;
          sounds = subst (λ t. Sounds judged h.taken t alarm) same (takes.sounds judged h.taken before holds.sounds);
          stands = holds.stands;
        };
        below_is = h.watches.below_is;
        above_is = h.watches.above_is;
      };
    }

-- the votes that a monitor records are few
pub few_votes : {S D C P G : Type 0} (basis : Schedule S → Basis S D C P G) (monitor : Monitor S D P G) (start : Window)
    (committees : Schedule S) (told : Told D G) (stream : List ℕ) (count : ℕ)
    (listens : Listens basis start committees told stream monitor) →
    HasVotes (basis committees).rules listens.taken monitor count →
    ((m : Activity S D C P G) → (basis committees).format.is_value m → IsOfOneRound (basis committees).rules.listed m) →
    ((rules : Rules S D C P G) (messages : List (Activity S D C P G)) → rules.eq ≡ (basis committees).rules.eq →
    HaveCommittees rules → (round : Round) →
    recorded_in rules.eq (valid_votes rules messages) round ≤ 5 * rules.size round.epoch) →
    ((part : Round → Bool) → HaveCommittees (in_rounds part (basis committees).rules)) →
    AreFewVotes (basis committees) monitor count
few_votes {S} {D} {C} {P} {G} basis monitor start committees told stream count listens number whole few parts =
    let rules = (basis committees).rules in
    let Few : Window → Type 0 = λ window.
    votes_recorded rules.eq (valid_votes (in_rounds (is_from (floor_of window)) rules) listens.taken)
    ≤ views_of window * (5 * (basis committees).bound) in
    let all = subst Few (sym listens.watches.window_is) (few_recorded rules start listens.ordered listens.terms
    listens.messages listens.taken listens.below listens.above (basis committees).bound listens.are_taken
    (λ m m_in. whole m (All-contains (basis committees).format.is_value listens.messages m
    listens.decoded.are_messages.each m_in))
    (few (in_rounds (is_from (floor_of (window_of rules start listens.taken))) rules) listens.taken refl
    (parts (is_from (floor_of (window_of rules start listens.taken)))))
    listens.sizes) in
    omega (arith, number, all)

-- the size of a committee that is none or not greater
pub size_at_most : {S K : Type 0} (keys : S → List K) (n : ℕ) (o : Option S) →
    ((committee : S) → o ≡ Some committee → length (keys committee) ≤ n) → size_by keys o ≤ n
size_at_most keys n None most = omega arith
size_at_most keys n (Some committee) most = most committee refl
