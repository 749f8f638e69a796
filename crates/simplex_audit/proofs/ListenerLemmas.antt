-- What a listener has heard and told from piece to piece.
use Rattle.std.proofs.Common.{Bool, ◌≡◌, ℕ, List, [], ◌++◌, sym, ap, subst, ◌∙◌, append-nil}
use Rattle.std.specs.Ordering.{ord_max}
use Rattle.std.proofs.lemmas.List.Elements.{All-nil}
use Rattle.simplex_base.specs.Format.{Format}
use Rattle.simplex_base.specs.Positions.{Round}
use Rattle.simplex_evidence.specs.declared.types.activity.Activity.{Activity}
use Rattle.simplex_scheme.specs.Committees.{Schedule}
use Rattle.simplex_rules.specs.Accusation.{round_cmp}
use Rattle.simplex_alarm.specs.Alarm.{Sounds, SoundsMore, SoundsUntold, Told, nothing_told, told_from, told_then}
use Rattle.simplex_alarm.specs.Alerts.{IsEachOnce}
use Rattle.simplex_detector.specs.Detector.{RecallsMore}
use Rattle.simplex_rules.specs.Independence.{FloorsRise, in_rounds, is_from}
use Rattle.simplex_rules.specs.Rules.{AreLawful, Rules, valid_votes}
use Rattle.simplex_alarm.specs.declared.alarm.Alarm.{Alarm}
use Rattle.simplex_alarm.specs.declared.alarm.News.{News}
use Rattle.simplex_detector.specs.declared.detector.Detector.{Detector}
use Rattle.simplex_stream.specs.Decoder.{HasDecoded, DecodesMore, undecoded}
use Rattle.simplex_stream.specs.Messages.{AreMessages}
use Rattle.simplex_stream.specs.StreamLaws.{IsNeverEmpty, are_joined, messages_once}
use Rattle.simplex_stream.specs.declared.decoder.Decoder.{Decoder}
use Rattle.simplex_audit.specs.Auditor.{StandsFrom}
use Rattle.simplex_audit.specs.Basis.{Basis, basis_from}
use Rattle.simplex_audit.specs.Listening.{HearsFrom, TellsRest, auditor_of}
use Rattle.simplex_audit.specs.declared.auditor.Auditor.{Auditor}
use Rattle.simplex_audit.specs.declared.listener.Listener.{Listener}
use Rattle.simplex_audit.proofs.AuditorLemmas.{stands_on}

-- a listener that was fed nothing
pub hears_nothing : {S D C P G : Type 0} (basis : Schedule S → Basis S D C P G) (listener : Listener S D P G) (floor : Round)
    (committees : Schedule S) → IsNeverEmpty (basis committees).format →
    StandsFrom floor basis committees (auditor_of listener) [] →
    Sounds (basis_from floor (basis committees)).rules [] nothing_told listener.alarm →
    HearsFrom floor basis committees listener [] nothing_told
hears_nothing {S} {D} {C} {P} {G} basis listener floor committees some stands sounds = record {
  stands = stands;
  sounds = λ messages rest are.
      let format = (basis committees).format in
      subst (λ (ms : List (Activity S D C P G)). Sounds (basis_from floor (basis committees)).rules ms nothing_told
      listener.alarm)
      (messages_once format stands.readable [] [] rest [] messages (are_joined format some [] (All-nil format.is_value)) are).0
      sounds;
}

-- what is recorded of more messages, and noted of them
abbrev pub RecordsAndSounds : {S D C P G : Type 0} → Rules S D C P G → Detector S D P G → Detector S D P G → Alarm S D P G →
    Alarm S D P G → List (Activity S D C P G) → Type 0
RecordsAndSounds rules old new alarm after more =
    RecallsMore rules more old new × SoundsMore rules more old alarm after

-- a listener that decoded, recorded and noted the messages that a piece completes has heard the stream with the piece appended
pub hears_on : {S D C P G : Type 0} (basis : Schedule S → Basis S D C P G) (format : ℕ → Format (Activity S D C P G))
    (old : Listener S D P G) (decoder : Decoder) (detector : Detector S D P G) (alarm : Alarm S D P G) (piece : List ℕ) →
    ((s : Schedule S) → (basis s).format ≡ format (basis s).bound) →
    ((rules : Rules S D C P G) (part : Round → Bool) → AreLawful rules → AreLawful (in_rounds part rules)) →
    DecodesMore (format old.auditor.bound)
    (RecordsAndSounds (basis_from old.auditor.floor (basis old.auditor.committees.now)).rules old.auditor.detector detector
    old.alarm alarm) piece old.auditor.decoder decoder →
    (floor : Round) (committees : Schedule S) (stream : List ℕ) (told : Told D G) →
    HearsFrom floor basis committees old stream told →
    HearsFrom floor basis committees
    (record { auditor = record (auditor_of old) { detector = detector; decoder = decoder }; alarm = alarm })
    (stream ++ piece) told
hears_on {S} {D} {C} {P} {G} basis format old decoder detector alarm piece reads parts decodes floor committees stream told h =
    let auditor = old.auditor in
    let s = h.stands in
    let same : (basis committees).format ≡ format auditor.bound = reads committees ∙ ap format (sym s.bound_is) in
    let Decoded : Format (Activity S D C P G) → Type 0 = λ f. HasDecoded f stream s.messages auditor.decoder in
    let (more, decoded, both) = decodes stream s.messages (subst Decoded same s.decoded) in
    let judged = (basis_from floor (basis committees)).rules in
    let lawful = parts (basis committees).rules (is_from floor) s.lawful in
    let sounding : Round → Schedule S → Type 0 =
    λ f c. SoundsMore (basis_from f (basis c)).rules more auditor.detector old.alarm alarm in
    let here : sounding floor committees = subst (λ (f : Round). sounding f committees) s.floor_is
    (subst (sounding auditor.floor) s.committees_are both.1) in
    let base = h.sounds s.messages (undecoded auditor.decoder) s.decoded.are_messages in
    let heard : Sounds judged (s.messages ++ more) told alarm =
    here s.messages told (record { members = lawful.members; someone = lawful.someone }) s.recorded base in
    let back : HasDecoded (basis committees).format (stream ++ piece) (s.messages ++ more) decoder =
    subst (λ (f : Format (Activity S D C P G)). HasDecoded f (stream ++ piece) (s.messages ++ more) decoder) (sym same)
    decoded in
    record {
      stands = stands_on basis format auditor decoder detector piece reads (λ bytes ms before.
          let d = decodes bytes ms before in (d.0, d.1, d.2.0)) floor committees stream s;
      sounds = λ messages rest are.
          subst (λ (ms : List (Activity S D C P G)). Sounds judged ms told alarm)
          (messages_once (basis committees).format s.readable (stream ++ piece) (undecoded decoder) rest (s.messages ++ more)
          messages back.are_messages are).0 heard;
    }

-- what was untold is told
pub hears_told : {S D C P G : Type 0} (basis : Schedule S → Basis S D C P G) (old : Listener S D P G) (alarm : Alarm S D P G)
    (news : News S D P G) → SoundsUntold C news old.alarm alarm →
    (floor : Round) (committees : Schedule S) (stream : List ℕ) (told : Told D G) →
    HearsFrom floor basis committees old stream told →
    TellsRest floor basis committees stream told news (record old { alarm = alarm })
hears_told {S} {D} {C} {P} {G} basis old alarm news takes floor committees stream told h =
    let judged = (basis_from floor (basis committees)).rules in
    let after : (messages : List (Activity S D C P G)) (rest : List ℕ) →
    AreMessages (basis committees).format stream messages rest → Sounds judged messages (told_then told news) alarm =
    λ messages rest are. takes.sounds judged messages told (h.sounds messages rest are) in
    record {
      hears = record { stands = h.stands; sounds = after };
      evidence = λ messages rest are.
          subst (IsEachOnce judged.eq (valid_votes judged messages))
          (ap (λ us. (told_then told news).evidence ++ us) takes.no_evidence_left ∙ append-nil (told_then told news).evidence)
          (after messages rest are).evidence.all;
      splits = λ messages rest are.
          sym (ap (λ us. (told_then told news).splits ++ us) takes.no_split_left ∙ append-nil (told_then told news).splits)
          ∙ (after messages rest are).splits.all;
    }

-- what is below a floor is given up
pub hears_pruned : {S D C P G : Type 0} (basis : Schedule S → Basis S D C P G) (old : Listener S D P G)
    (auditor : Auditor S D P G) (alarm : Alarm S D P G) (floor : Round) → ((rules : Rules S D C P G) → FloorsRise rules) →
    ((low : Round) (committees : Schedule S) (stream : List ℕ) → StandsFrom low basis committees (auditor_of old) stream →
    StandsFrom (ord_max round_cmp low floor) basis committees auditor stream) →
    ((rules : Rules S D C P G) (messages : List (Activity S D C P G)) (told : Told D G) → Sounds rules messages told old.alarm →
    Sounds (in_rounds (is_from floor) rules) messages (told_from floor told) alarm) →
    (low : Round) (committees : Schedule S) (stream : List ℕ) (told : Told D G) →
    HearsFrom low basis committees old stream told →
    HearsFrom (ord_max round_cmp low floor) basis committees (record { auditor = auditor; alarm = alarm }) stream
    (told_from floor told)
hears_pruned basis old auditor alarm floor rise stands prunes low committees stream told h =
    let rules = (basis committees).rules in
    record {
      stands = stands low committees stream h.stands;
      sounds = λ messages rest are.
          subst (λ r. Sounds r messages (told_from floor told) alarm) ((rise rules).higher low floor)
          (prunes (in_rounds (is_from low) rules) messages told (h.sounds messages rest are));
    }
