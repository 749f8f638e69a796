-- What an auditor holds of its stream and hands over, from piece to piece.
use Rattle.std.proofs.Common.{◌≡◌, inl, inr, ℕ, ◌+◌, ◌≤◌, ◌^◌, Bool, false, IsTrue, Option, Some, None, List, [], ◌∷◌, ◌++◌, length, map, drop, refl, sym, ap, subst, ◌∙◌, arith, append-nil, length-append}
use Rattle.std.proofs.Math.Seq.{drop-append_seam}
use Rattle.std.proofs.lemmas.Bool.{false≢true}
use Rattle.std.proofs.lemmas.List.{map-append}
use Rattle.std.proofs.lemmas.List.Elements.{All-tail, filter-append}
use Rattle.std.specs.List.{flat_map}
use Rattle.std.specs.Option.{is_some}
use Rattle.std.specs.Ordering.{is_eq, ord_max}
use Rattle.std.specs.Global.{Global}
use Rattle.std.specs.Prelude.{All, IfSome, Vec, filter}
use Rattle.simplex_base.specs.Format.{IsLawful}
use Rattle.simplex_base.specs.Positions.{Round}
use Rattle.simplex_scheme.specs.Committees.{Schedule}
use Rattle.simplex_votes.specs.Votes.{SignedVote}
use Rattle.simplex_evidence.specs.Contradiction.{Equivocation}
use Rattle.simplex_evidence.specs.declared.types.activity.Activity.{Activity}
use Rattle.simplex_rules.specs.Accusation.{Accusation, accused_by, accused_cmp, round_cmp}
use Rattle.simplex_alarm.specs.Alarm.{Told, told_from, told_then}
use Rattle.simplex_alarm.specs.Alerts.{IsEachOnce, times_accused}
use Rattle.simplex_rules.specs.Evidence.{evidence_of}
use Rattle.simplex_rules.specs.Independence.{FloorsRise, first_round, in_rounds, is_from}
use Rattle.simplex_rules.specs.Interchange.{HaveSameState, SameStateJoined}
use Rattle.simplex_rules.specs.News.{compacted}
use Rattle.simplex_rules.specs.Rules.{Rules, valid_votes}
use Rattle.simplex_rules.specs.Arising.{splits_arising}
use Rattle.simplex_rules.specs.Values.{evidence_value}
use Rattle.simplex_alarm.specs.declared.alarm.News.{News}
use Rattle.simplex_stream.specs.Decoder.{undecoded}
use Rattle.simplex_stream.specs.Fault.{IsFault}
use Rattle.simplex_stream.specs.Messages.{AreMessages}
use Rattle.simplex_stream.specs.StreamLaws.{messages_continue, messages_of_pieces, messages_once}
use Rattle.simplex_stream.specs.declared.fault.Fault.{Fault}
use Rattle.simplex_audit.specs.Basis.{Basis, basis_from}
use Rattle.simplex_audit.specs.Compaction.{IsCompacted}
use Rattle.simplex_tracker.specs.Live.{Advances, AreNews, ArisesBetween, CanStandFor, Follows, HasEnded, IsShort, IsTracked, LosesNothing, TakesPiece, TracksAll, WaitSame, evidence_waiting, held_by, splits_waiting}
use Rattle.simplex_tracker.specs.Tracking.{IsQuiet, Tracks, fed_of, tracking_over}
use Rattle.simplex_tracker.specs.declared.live.LiveAuditor.{LiveAuditor}
use Rattle.simplex_tracker.specs.declared.tracker.Tracker.{Tracker}

All-last : {A : Type 0} (P : A → Type 0) (xs ys : List A) → All P (xs ++ ys) → All P ys
All-last P [] ys each = each
All-last P (x ∷ xs) ys each = All-last P xs ys (All-tail P x (xs ++ ys) each)

-- an option that is none
pub none_if : {A : Type 0} (o : Option A) → is_some o ≡ false → o ≡ None
none_if None is = refl
none_if (Some a) is = absurd cc

-- ---- states

own_state : {S D C P G : Type 0} (rules : Rules S D C P G) (messages : List (Activity S D C P G)) →
    HaveSameState rules messages messages
own_state rules messages =
    record { votes = λ kind round signer. refl; splits = λ round. refl; firsts = λ round whole kind. refl }

state_on : {S D C P G : Type 0} (rules : Rules S D C P G) (a b c : List (Activity S D C P G)) → HaveSameState rules a b →
    HaveSameState rules b c → HaveSameState rules a c
state_on rules a b c first then = record {
  votes = λ kind round signer. first.votes kind round signer ∙ then.votes kind round signer;
  splits = λ round. first.splits round ∙ then.splits round;
  firsts = λ round whole kind.
      first.firsts round whole kind ∙ then.firsts round (sym (first.splits round) ∙ whole) kind;
}

-- ---- what can stand for a stream

module _ {S D C P G : Type 0} (basis : Basis S D C P G) where
  -- bytes can stand for themselves,
  pub stands_itself : (bytes rest : List ℕ) (messages : List (Activity S D C P G)) →
      AreMessages basis.format bytes messages rest → CanStandFor basis bytes bytes
  stands_itself bytes rest messages are = record {
    messages = messages;
    others = messages;
    rest = rest;
    bytes_are = are;
    stream_is = are;
    state = own_state basis.rules messages;
  }

  -- for all that what they stand for can stand for,
  pub stands_then : IsLawful basis.format → (a b c : List ℕ) → CanStandFor basis a b → CanStandFor basis b c →
      CanStandFor basis a c
  stands_then law a b c first then =
      let (same, tail) = messages_once basis.format law b first.rest then.rest first.others then.messages first.stream_is
      then.bytes_are in
      record {
        messages = first.messages;
        others = then.others;
        rest = then.rest;
        bytes_are = subst (AreMessages basis.format a first.messages) tail first.bytes_are;
        stream_is = then.stream_is;
        state = state_on basis.rules first.messages first.others then.others first.state
            (subst (λ (ms : List (Activity S D C P G)). HaveSameState basis.rules ms then.others) (sym same) then.state);
      }

  -- and, with a piece behind them, for the stream with the piece appended
  pub stands_longer : IsLawful basis.format → SameStateJoined basis.rules → (bytes stream piece left : List ℕ)
      (later : List (Activity S D C P G)) → CanStandFor basis bytes stream →
      AreMessages basis.format (stream ++ piece) later left → CanStandFor basis (bytes ++ piece) (stream ++ piece)
  stands_longer law joined bytes stream piece left later h are =
      let c = messages_continue basis.format law stream piece h.rest left h.others later h.stream_is are in
      let tail : AreMessages basis.format (h.rest ++ piece) c.further left = record {
        whole = c.after;
        each = All-last basis.format.is_value h.others c.further (subst (All basis.format.is_value) c.same are.each);
        stuck = are.stuck;
      } in
      record {
        messages = h.messages ++ c.further;
        others = h.others ++ c.further;
        rest = left;
        bytes_are = messages_of_pieces basis.format bytes piece h.rest left h.messages c.further h.bytes_are tail;
        stream_is = messages_of_pieces basis.format stream piece h.rest left h.others c.further h.stream_is tail;
        state = joined h.messages h.others c.further c.further h.state (own_state basis.rules c.further);
      }

  -- a compaction and the bytes behind the last message can stand for a stream, and are short
  module _ (stream bytes tail : List ℕ) (read : ℕ) (fault : Option Fault) (h : IsCompacted basis stream bytes read fault)
      (none : fault ≡ None → tail ≡ []) (some : IfSome fault (λ f. f.place ≤ length stream → tail ≡ drop f.place stream)) where
    abbrev encoded : List ℕ
    encoded = flat_map basis.format.encoding h.messages

    tail_is : (o : Option Fault) → (o ≡ None → tail ≡ []) →
        IfSome o (λ f. f.place ≤ length stream → tail ≡ drop f.place stream) →
        IsFault basis.format.reading (length encoded) h.rest o → tail ≡ h.rest
    tail_is None empty at ends = empty refl ∙ sym ends
    tail_is (Some f) empty at ends =
        let size = ap length h.are_messages.whole in
        let fits : f.place ≤ length stream =
        let place = ends.1 in omega (arith, place, size, length-append encoded h.rest) in
        at fits ∙ ap (λ n. drop n stream) ends.1 ∙ ap (drop (length encoded)) h.are_messages.whole
        ∙ drop-append_seam encoded h.rest

    are_kept : AreMessages basis.format (bytes ++ tail) (compacted basis.rules h.messages) h.rest
    are_kept = record {
      whole = ap (λ t. bytes ++ t) (tail_is fault none some h.fault_is)
          ∙ ap (λ bs. bs ++ h.rest)
          (h.kept.whole ∙ append-nil (flat_map basis.format.encoding (compacted basis.rules h.messages)));
      each = h.kept.each;
      stuck = h.are_messages.stuck;
    }

    pub compaction_stands : (both : List ℕ) → both ≡ bytes ++ tail → CanStandFor basis both stream
    compaction_stands both is = subst (λ bs. CanStandFor basis bs stream) (sym is) (record {
      messages = compacted basis.rules h.messages;
      others = h.messages;
      rest = h.rest;
      bytes_are = are_kept;
      stream_is = h.are_messages;
      state = h.can_stand.state;
    })

    pub compaction_short : (both : List ℕ) → both ≡ bytes ++ tail → IsShort basis both
    compaction_short both is = subst (IsShort basis) (sym is)
        (record { messages = h.messages; rest = h.rest; bytes_are = are_kept; few = h.few })

-- ---- what arises

-- how often some evidence and some more make an accusation
times_joined : {D G : Type 0} (es fs : List (Equivocation D G)) (n : Accusation) →
    times_accused (es ++ fs) n ≡ times_accused es n + times_accused fs n
times_joined es fs n =
    let test : Equivocation _ _ → Bool = λ e. is_eq (accused_cmp (accused_by e) n) in
    ap length (filter-append test es fs) ∙ length-append (filter test es) (filter test fs)

-- evidence that makes more votes' evidence of fewer votes' evidence arises between them
arises_between : {D G : Type 0} (eq : D → D → Bool) (before after : List (SignedVote D G)) (told es : List (Equivocation D G)) →
    IsEachOnce eq before told → IsEachOnce eq after (told ++ es) → ArisesBetween eq before after es
arises_between eq before after told es first then = record {
  sound = All-last (λ e. evidence_of eq after (accused_by e) ≡ Some e) told es then.sound;
  once = λ n.
      let was = first.once n in
      let is = then.once n in
      let sum = times_joined told es n in
      omega (arith, was, is, sum);
}

module _ {S D C P G : Type 0} (floor : Round) (basis : Basis S D C P G) where
  abbrev judged : Rules S D C P G
  judged = (basis_from floor basis).rules

  -- what a quiet tracker told is all that arose
  told_once : (told : Told D G) (stream : List ℕ) (tracker : Tracker S D P G) (h : Tracks floor basis told stream tracker) →
      IsQuiet tracker → IsEachOnce judged.eq (valid_votes judged h.messages) told.evidence
  told_once told stream tracker h quiet =
      subst (IsEachOnce judged.eq (valid_votes judged h.messages))
      (ap (λ us. told.evidence ++ us) quiet.evidence ∙ append-nil told.evidence) h.sounds.evidence.all

  told_splits : (told : Told D G) (stream : List ℕ) (tracker : Tracker S D P G) (h : Tracks floor basis told stream tracker) →
      IsQuiet tracker → told.splits ≡ splits_arising judged [] h.messages
  told_splits told stream tracker h quiet =
      sym (ap (λ us. told.splits ++ us) quiet.splits ∙ append-nil told.splits) ∙ h.sounds.splits.all

  -- what it is made to tell of a longer stream is the news of that
  pub news_of : (told : Told D G) (news : News S D P G) (stream longer : List ℕ) (old new : Tracker S D P G) →
      Tracks floor basis told stream old → IsQuiet old → Tracks floor basis (told_then told news) longer new → IsQuiet new →
      AreNews (basis_from floor basis) stream longer (map evidence_value news.evidence.items) news.splits.items
  news_of told news stream longer old new h quiet k still = record {
    messages = h.messages;
    rest = undecoded old.decoder;
    before_is = h.decoded.are_messages;
    later = k.messages;
    left = undecoded new.decoder;
    after_is = k.decoded.are_messages;
    evidence = arises_between judged.eq (valid_votes judged h.messages) (valid_votes judged k.messages) told.evidence
        (map evidence_value news.evidence.items) (told_once told stream old h quiet)
        (told_once (told_then told news) longer new k still);
    splits_are = ap (λ ss. ss ++ news.splits.items) (sym (told_splits told stream old h quiet))
        ∙ told_splits (told_then told news) longer new k still;
  }

  -- a piece is fed to a tracker, and what arises by it waits behind what waited
  pub advances_by : (stream piece : List ℕ) (old fed next : Tracker S D P G) (news before after : News S D P G) →
      ((told : Told D G) (s : List ℕ) → Tracks floor basis told s old → Tracks floor basis told (s ++ piece) fed) →
      ((told : Told D G) (s : List ℕ) → Tracks floor basis told s fed → Tracks floor basis (told_then told news) s next) →
      IsQuiet next → after.evidence.items ≡ before.evidence.items ++ news.evidence.items →
      after.splits.items ≡ before.splits.items ++ news.splits.items →
      TracksAll floor basis stream old → Advances floor basis stream piece next before after
  advances_by stream piece old fed next news before after feeds tells quiet evidence splits h =
      let k = tells h.told (stream ++ piece) (feeds h.told stream h.tracks) in
      record {
        tracks = record { told = told_then h.told news; tracks = k; quiet = quiet };
        evidence = map evidence_value news.evidence.items;
        splits = news.splits.items;
        are_news = news_of h.told news stream (stream ++ piece) old next h.tracks h.quiet k quiet;
        evidence_waits = ap (map evidence_value) evidence
            ∙ map-append evidence_value before.evidence.items news.evidence.items;
        splits_wait = splits;
      }

-- ---- what an auditor follows

module _ {S D C P G : Type 0} (basis : Schedule S → Basis S D C P G) where
  -- it goes by what it holds if nothing is known of the stream
  untracked : (floor : Round) (committees : Schedule S) (held stream : List ℕ) (o : Option (Tracker S D P G)) → o ≡ None →
      IsTracked floor (basis committees) held stream o → stream ≡ held
  untracked floor committees held stream None is h = h
  untracked floor committees held stream (Some tracker) is h = absurd cc

  all_tracked : (floor : Round) (committees : Schedule S) (held stream : List ℕ) (o : Option (Tracker S D P G))
      (tracker : Tracker S D P G) → o ≡ Some tracker → IsTracked floor (basis committees) held stream o →
      TracksAll floor (basis committees) stream tracker
  all_tracked floor committees held stream o tracker is h =
      subst (IsTracked floor (basis committees) held stream) is h

  -- what is known of a stream is known whatever is held
  still_tracked : (floor : Round) (committees : Schedule S) (held other stream : List ℕ) (o : Option (Tracker S D P G)) →
      IsTrue (is_some o) → IsTracked floor (basis committees) held stream o → IsTracked floor (basis committees) other stream o
  still_tracked floor committees held other stream None some h = absurd (false≢true some)
  still_tracked floor committees held other stream (Some tracker) some h = h

  -- reading is lawful where a stream is tracked
  lawful_tracked : (floor : Round) (committees : Schedule S) (held stream : List ℕ) (o : Option (Tracker S D P G)) →
      IsTrue (is_some o) → IsTracked floor (basis committees) held stream o → IsLawful (basis committees).format
  lawful_tracked floor committees held stream None some h = absurd (false≢true some)
  lawful_tracked floor committees held stream (Some tracker) some h = h.tracks.readable

  -- ---- from call to call

  -- what is known is made again of what is held
  pub recalled : (old : LiveAuditor S D P G) (tracker : Tracker S D P G) → old.tracker ≡ None →
      TracksAll old.floor (basis old.committees) (held_by old) tracker →
      (floor : Round) (committees : Schedule S) (stream : List ℕ) → Follows floor basis committees stream old →
      Follows floor basis committees stream (record old { tracker = Some tracker })
  recalled old tracker none tracks floor committees stream h =
      let is = untracked floor committees (held_by old) stream old.tracker none h.tracked in
      record {
        floor_is = h.floor_is;
        committees_are = h.committees_are;
        held = h.held;
        tracked = subst (λ s. TracksAll floor (basis committees) s tracker) (sym is)
            (subst (λ f. TracksAll f (basis committees) (held_by old) tracker) h.floor_is
            (subst (λ c. TracksAll old.floor (basis c) (held_by old) tracker) h.committees_are tracks));
      }

  -- what is held is shortened
  stands_at : (old : LiveAuditor S D P G) (bytes : List ℕ) (floor : Round) (committees : Schedule S) (stream : List ℕ) →
      Follows floor basis committees stream old → (Holds : Basis S D C P G → Type 0) →
      Holds (basis_from old.floor (basis old.committees)) → Holds (basis_from floor (basis committees))
  stands_at old bytes floor committees stream h Holds here =
      subst (λ f. Holds (basis_from f (basis committees))) h.floor_is
      (subst (λ c. Holds (basis_from old.floor (basis c))) h.committees_are here)

  pub shortens : (old : LiveAuditor S D P G) (log : Vec ℕ Global) (short : ℕ) →
      CanStandFor (basis_from old.floor (basis old.committees)) log.items (held_by old) → IsTrue (is_some old.tracker) →
      (floor : Round) (committees : Schedule S) (stream : List ℕ) → Follows floor basis committees stream old →
      Follows floor basis committees stream (record old { log = log; short = short })
  shortens old log short stands some floor committees stream h = record {
    floor_is = h.floor_is;
    committees_are = h.committees_are;
    held = stands_then (basis_from floor (basis committees))
        (lawful_tracked floor committees (held_by old) stream old.tracker some h.tracked) log.items (held_by old) stream
        (stands_at old log.items floor committees stream h (λ b. CanStandFor b log.items (held_by old)) stands) h.held;
    tracked = still_tracked floor committees (held_by old) log.items stream old.tracker some h.tracked;
  }

  pub short_at : (old : LiveAuditor S D P G) (bytes : List ℕ) → IsShort (basis_from old.floor (basis old.committees)) bytes →
      (floor : Round) (committees : Schedule S) (stream : List ℕ) → Follows floor basis committees stream old →
      IsShort (basis_from floor (basis committees)) bytes
  short_at old bytes short floor committees stream h =
      stands_at old bytes floor committees stream h (λ b. IsShort b bytes) short

  -- the floor rises
  pub prunes : (old : LiveAuditor S D P G) (floor highest : Round) (tracker : Option (Tracker S D P G)) →
      ((rules : Rules S D C P G) → FloorsRise rules) →
      ((rules : Rules S D C P G) (part : Round → Bool) (messages others : List (Activity S D C P G)) →
      HaveSameState rules messages others → HaveSameState (in_rounds part rules) messages others) →
      highest ≡ ord_max round_cmp old.floor floor →
      ((low : Round) (committees : Schedule S) (stream : List ℕ) →
      IsTracked low (basis committees) (held_by old) stream old.tracker →
      IsTracked (ord_max round_cmp low floor) (basis committees) (held_by old) stream tracker) →
      (low : Round) (committees : Schedule S) (stream : List ℕ) → Follows low basis committees stream old →
      Follows (ord_max round_cmp low floor) basis committees stream (record old { floor = highest; tracker = tracker })
  prunes old floor highest tracker rise parts top tracks low committees stream h =
      let rules = (basis committees).rules in
      record {
        floor_is = top ∙ ap (λ f. ord_max round_cmp f floor) h.floor_is;
        committees_are = h.committees_are;
        held = record {
          messages = h.held.messages;
          others = h.held.others;
          rest = h.held.rest;
          bytes_are = h.held.bytes_are;
          stream_is = h.held.stream_is;
          state = subst (λ (r : Rules S D C P G). HaveSameState r h.held.messages h.held.others)
              ((rise rules).higher low floor)
              (parts (in_rounds (is_from low) rules) (is_from floor) h.held.messages h.held.others h.held.state);
        };
        tracked = tracks low committees stream h.tracked;
      }

  -- what is known is pruned, and nothing is left to take of it
  pub prunes_known : (held : List ℕ) (o : Option (Tracker S D P G)) (tracker pruned last : Tracker S D P G)
      (news : News S D P G) (floor : Round) → o ≡ Some tracker →
      ((low : Round) (committees : Schedule S) (told : Told D G) (stream : List ℕ) →
      Tracks low (basis committees) told stream tracker →
      Tracks (ord_max round_cmp low floor) (basis committees) (told_from floor told) stream pruned) →
      ((f : Round) (committees : Schedule S) (told : Told D G) (stream : List ℕ) →
      Tracks f (basis committees) told stream pruned → Tracks f (basis committees) (told_then told news) stream last) →
      IsQuiet last → (low : Round) (committees : Schedule S) (stream : List ℕ) →
      IsTracked low (basis committees) held stream o →
      IsTracked (ord_max round_cmp low floor) (basis committees) held stream (Some last)
  prunes_known held o tracker pruned last news floor some prunes tells quiet low committees stream tracked =
      let h = all_tracked low committees held stream o tracker some tracked in
      let top = ord_max round_cmp low floor in
      record {
        told = told_then (told_from floor h.told) news;
        tracks = tells top committees (told_from floor h.told) stream (prunes low committees h.told stream h.tracks);
        quiet = quiet;
      }

  -- a piece is taken
  pub takes_piece : (old : LiveAuditor S D P G) (tracker next : Tracker S D P G) (log : Vec ℕ Global) (news : News S D P G)
      (piece : List ℕ) →
      ((floor : Round) (committees : Schedule S) → SameStateJoined (basis_from floor (basis committees)).rules) →
      old.tracker ≡ Some tracker → log.items ≡ held_by old ++ piece →
      ((floor : Round) (stream : List ℕ) → TracksAll floor (basis old.committees) stream tracker →
      Advances floor (basis old.committees) stream piece next old.news news) →
      (floor : Round) (committees : Schedule S) (stream : List ℕ) → Follows floor basis committees stream old →
      TakesPiece floor basis committees stream piece old (record old { log = log; news = news; tracker = Some next })
  takes_piece old tracker next log news piece joined some appended advances floor committees stream h =
      let judged = basis_from floor (basis committees) in
      let Moves : Schedule S → Type 0 = λ c. (f : Round) (s : List ℕ) → TracksAll f (basis c) s tracker →
      Advances f (basis c) s piece next old.news news in
      let known = all_tracked floor committees (held_by old) stream old.tracker tracker some h.tracked in
      let moved = subst Moves h.committees_are advances floor stream known in
      record {
        follows = record {
          floor_is = h.floor_is;
          committees_are = h.committees_are;
          held = subst (λ bytes. CanStandFor judged bytes (stream ++ piece)) (sym appended)
              (stands_longer judged known.tracks.readable (joined floor committees) (held_by old) stream piece
              moved.are_news.left moved.are_news.later h.held moved.are_news.after_is);
          tracked = moved.tracks;
        };
        evidence = moved.evidence;
        splits = moved.splits;
        are_news = moved.are_news;
        evidence_waits = moved.evidence_waits;
        splits_wait = moved.splits_wait;
      }

  -- nothing changed
  pub stays : (old new : LiveAuditor S D P G) → new ≡ old → (floor : Round) (committees : Schedule S) (stream : List ℕ) →
      Follows floor basis committees stream old → LosesNothing floor basis committees stream old new
  stays old new same floor committees stream h = record {
    follows = inl (subst (Follows floor basis committees stream) (sym same) h);
    evidence_waits = ap evidence_waiting same;
    splits_wait = ap splits_waiting same;
  }

  -- what is held are other bytes in memory, and the same
  pub stays_held : (old : LiveAuditor S D P G) (log : Vec ℕ Global) (tracker : Tracker S D P G) →
      log.items ≡ held_by old → old.tracker ≡ Some tracker →
      (floor : Round) (committees : Schedule S) (stream : List ℕ) → Follows floor basis committees stream old →
      LosesNothing floor basis committees stream old (record old { log = log; tracker = Some tracker })
  stays_held old log tracker same some floor committees stream h = record {
    follows = inl (record {
      floor_is = h.floor_is;
      committees_are = h.committees_are;
      held = subst (λ bytes. CanStandFor (basis_from floor (basis committees)) bytes stream) (sym same) h.held;
      tracked = all_tracked floor committees (held_by old) stream old.tracker tracker some h.tracked;
    });
    evidence_waits = refl;
    splits_wait = refl;
  }

  -- an allocation failed, and what is held is all that is left
  pub falls_back : (old : LiveAuditor S D P G) (log : Vec ℕ Global) (news : News S D P G) (tracker : Option (Tracker S D P G)) →
      tracker ≡ None → log.items ≡ held_by old → WaitSame old.news news → (floor : Round) (committees : Schedule S)
      (stream : List ℕ) → Follows floor basis committees stream old →
      LosesNothing floor basis committees stream old (record old { log = log; news = news; tracker = tracker })
  falls_back old log news tracker none same waits floor committees stream h =
      let judged = basis_from floor (basis committees) in
      record {
        follows = inr (
          subst (λ bytes. CanStandFor judged bytes stream) (sym same) h.held,
          record {
            floor_is = h.floor_is;
            committees_are = h.committees_are;
            held = stands_itself judged log.items h.held.rest h.held.messages
                (subst (λ bytes. AreMessages judged.format bytes h.held.messages h.held.rest) (sym same) h.held.bytes_are);
            tracked = subst (IsTracked floor (basis committees) log.items log.items) (sym none) refl;
          },
        );
        evidence_waits = ap (map evidence_value) waits.evidence;
        splits_wait = waits.splits;
      }

  -- where nothing that follows can be read
  pub has_ended : (old : LiveAuditor S D P G) (tracker : Tracker S D P G) → old.tracker ≡ Some tracker →
      IsTrue (tracking_over tracker) → (floor : Round) (committees : Schedule S) (stream : List ℕ) →
      Follows floor basis committees stream old → HasEnded (basis committees) stream
  has_ended old tracker some over floor committees stream h =
      let known = all_tracked floor committees (held_by old) stream old.tracker tracker some h.tracked in
      record {
        messages = known.tracks.messages;
        rest = undecoded tracker.decoder;
        are_messages = known.tracks.decoded.are_messages;
        over = known.tracks.decoded.over over;
      }

  -- where the stream would have 2^64 bytes
  pub is_long : (old : LiveAuditor S D P G) (tracker : Tracker S D P G) (size : ℕ) → old.tracker ≡ Some tracker →
      2 ^ 64 ≤ fed_of tracker + size → (floor : Round) (committees : Schedule S) (stream : List ℕ) →
      Follows floor basis committees stream old → 2 ^ 64 ≤ length stream + size
  is_long old tracker size some long floor committees stream h =
      let known = all_tracked floor committees (held_by old) stream old.tracker tracker some h.tracked in
      let fed : fed_of tracker ≡ length stream = known.tracks.decoded.fed_is in
      omega (arith, fed, long)

  -- what is said of a tracker from what it tracks is said of the auditor that has it
  pub says : (live : LiveAuditor S D P G) (tracker : Tracker S D P G) → live.tracker ≡ Some tracker →
      (Holds : Round → Basis S D C P G → List ℕ → Type 0) →
      ((floor : Round) (told : Told D G) (stream : List ℕ) → Tracks floor (basis live.committees) told stream tracker →
      Holds floor (basis live.committees) stream) →
      (floor : Round) (committees : Schedule S) (stream : List ℕ) → Follows floor basis committees stream live →
      Holds floor (basis committees) stream
  says live tracker some Holds known floor committees stream h =
      let all = all_tracked floor committees (held_by live) stream live.tracker tracker some h.tracked in
      subst (λ c. Holds floor (basis c) stream) h.committees_are
      (known floor all.told stream
      (subst (λ c. Tracks floor (basis c) all.told stream tracker) (sym h.committees_are) all.tracks))

  -- nothing was fed, and what is held is nothing
  pub begun : (live : LiveAuditor S D P G) (tracker : Tracker S D P G) → live.floor ≡ first_round → held_by live ≡ [] →
      live.tracker ≡ Some tracker → TracksAll live.floor (basis live.committees) [] tracker →
      Follows first_round basis live.committees [] live
  begun live tracker lowest empty some all =
      let judged = basis_from first_round (basis live.committees) in
      let are = all.tracks.decoded.are_messages in
      record {
        floor_is = lowest;
        committees_are = refl;
        held = subst (λ bytes. CanStandFor judged bytes []) (sym empty)
            (stands_itself judged [] (undecoded tracker.decoder) all.tracks.messages are);
        tracked = subst (IsTracked first_round (basis live.committees) (held_by live) []) (sym some)
            (subst (λ f. TracksAll f (basis live.committees) [] tracker) lowest all);
      }

  -- what was fed to it then is all that it follows, and what arose in that is all that waits
  pub begins : (old new : LiveAuditor S D P G) (committees : Schedule S) (held : List ℕ) → evidence_waiting old ≡ [] →
      splits_waiting old ≡ [] → TakesPiece first_round basis committees [] held old new →
      AreNews (basis_from first_round (basis committees)) [] held (evidence_waiting new) (splits_waiting new)
  begins old new committees held no_evidence no_split takes =
      let judged = basis_from first_round (basis committees) in
      subst (λ es. AreNews judged [] held es (splits_waiting new))
      (sym (takes.evidence_waits ∙ ap (λ es. es ++ takes.evidence) no_evidence))
      (subst (λ ss. AreNews judged [] held takes.evidence ss)
      (sym (takes.splits_wait ∙ ap (λ ss. ss ++ takes.splits) no_split)) takes.are_news)

  -- what is held can stand for the stream
  pub stands_held : (live : LiveAuditor S D P G) (bytes : List ℕ) → bytes ≡ held_by live → (floor : Round)
      (committees : Schedule S) (stream : List ℕ) → Follows floor basis committees stream live →
      CanStandFor (basis_from floor (basis committees)) bytes stream
  stands_held live bytes same floor committees stream h =
      subst (λ xs. CanStandFor (basis_from floor (basis committees)) xs stream) (sym same) h.held

  -- what waits is of no account for what is followed
  pub follows_still : (old : LiveAuditor S D P G) (news : News S D P G) (floor : Round) (committees : Schedule S)
      (stream : List ℕ) → Follows floor basis committees stream old →
      Follows floor basis committees stream (record old { news = news })
  follows_still old news floor committees stream h = record {
    floor_is = h.floor_is;
    committees_are = h.committees_are;
    held = h.held;
    tracked = h.tracked;
  }

  -- an auditor that follows the stream loses nothing
  pub keeps : (old new : LiveAuditor S D P G) → new.news ≡ old.news → (floor : Round) (committees : Schedule S)
      (stream : List ℕ) → Follows floor basis committees stream new → LosesNothing floor basis committees stream old new
  keeps old new same floor committees stream h = record {
    follows = inl h;
    evidence_waits = ap (λ n. map evidence_value n.evidence.items) same;
    splits_wait = ap (λ n. n.splits.items) same;
  }

  -- the tracker was taken out and put back, or there is none
  pub stays_with : (old : LiveAuditor S D P G) (tracker : Option (Tracker S D P G)) → tracker ≡ old.tracker →
      (floor : Round) (committees : Schedule S) (stream : List ℕ) → Follows floor basis committees stream old →
      LosesNothing floor basis committees stream old (record old { tracker = tracker })
  stays_with old tracker same floor committees stream h =
      stays old (record old { tracker = tracker }) (ap (λ o. record old { tracker = o }) same) floor committees stream h

  -- ---- one call after another

  -- what a call took, and what the calls before and behind it left
  pub takes_between : (first old new last : LiveAuditor S D P G) (floor : Round) (committees : Schedule S)
      (stream piece : List ℕ) → old.news ≡ first.news → last.news ≡ new.news →
      TakesPiece floor basis committees stream piece old new → Follows floor basis committees (stream ++ piece) last →
      TakesPiece floor basis committees stream piece first last
  takes_between first old new last floor committees stream piece before behind takes follows = record {
    follows = follows;
    evidence = takes.evidence;
    splits = takes.splits;
    are_news = takes.are_news;
    evidence_waits = ap (λ n. map evidence_value n.evidence.items) behind ∙ takes.evidence_waits
        ∙ ap (λ n. map evidence_value n.evidence.items ++ takes.evidence) before;
    splits_wait = ap (λ n. n.splits.items) behind ∙ takes.splits_wait ∙ ap (λ n. n.splits.items ++ takes.splits) before;
  }

  pub loses_between : (first old new : LiveAuditor S D P G) (floor : Round) (committees : Schedule S) (stream : List ℕ) →
      old.news ≡ first.news → LosesNothing floor basis committees stream old new →
      LosesNothing floor basis committees stream first new
  loses_between first old new floor committees stream before loses = record {
    follows = loses.follows;
    evidence_waits = loses.evidence_waits ∙ ap (λ n. map evidence_value n.evidence.items) before;
    splits_wait = loses.splits_wait ∙ ap (λ n. n.splits.items) before;
  }
