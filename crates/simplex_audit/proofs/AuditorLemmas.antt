-- What an auditor stands for from piece to piece.
use Rattle.std.proofs.Common.{Bool, false, IsTrue, ◌≡◌, ◌⊎◌, inl, inr, ℕ, ◌+◌, List, [], ◌++◌, length, Option, refl, sym, ap, subst, ◌∙◌, append_assoc, append-nil}
use Rattle.std.specs.Prelude.{All}
use Rattle.simplex_base.specs.Format.{Format, IsLawful}
use Rattle.simplex_base.specs.Positions.{Round}
use Rattle.simplex_base.specs.declared.codec.error.Error.{Error}
use Rattle.simplex_evidence.specs.declared.types.activity.Activity.{Activity}
use Rattle.simplex_scheme.specs.Committees.{Schedule}
use Rattle.simplex_rules.specs.Independence.{in_rounds, is_from}
use Rattle.simplex_rules.specs.Rules.{AreLawful, Rules, HaveCommittees}
use Rattle.simplex_detector.specs.Detector.{Recalls, RecallsMore}
use Rattle.simplex_detector.specs.declared.detector.Detector.{Detector}
use Rattle.simplex_rules.specs.declared.judging.Judging.{Judging}
use Rattle.simplex_audit.specs.Auditor.{AnswersFrom, StandsFrom, auditing_over}
use Rattle.simplex_audit.specs.Basis.{Basis, basis_from}
use Rattle.simplex_stream.specs.Decoder.{HasDecoded, DecodesMore, bytes_fed, undecoded, messages_read}
use Rattle.simplex_stream.specs.Messages.{AreMessages, IsStuck, IsOver, IsStop}
use Rattle.simplex_stream.specs.Progress.{IsProgress}
use Rattle.simplex_stream.specs.declared.decoder.Decoder.{Decoder}
use Rattle.simplex_audit.specs.Guarantees.{IsAudit}
use Rattle.simplex_audit.specs.Recording.{RecordsMore}
use Rattle.simplex_audit.specs.Report.{IsReport, as_messages}
use Rattle.simplex_audit.specs.declared.audit.Report.{Report}
use Rattle.simplex_audit.specs.declared.auditor.Auditor.{Auditor}
use Rattle.simplex_audit.specs.declared.reading.Recorder.{Recorder}
use Rattle.simplex_audit.proofs.AccusedLemmas.{audited}
use Rattle.simplex_audit.specs.MessageLaws.{MessageLaws}
use Rattle.simplex_stream.specs.StreamLaws.{IsNeverEmpty, messages_once, over_messages, over_fault}

-- what a recorder recorded, its detector recalls
pub recorded_recalls : {S D C P G : Type 0} (format : Format (Activity S D C P G)) (rules : Judging → Rules S D C P G)
    (old new : Recorder S D P G) (stream rest : List ℕ) (read : ℕ) (stop : Option Error) →
    IsProgress format (λ ms. RecordsMore rules ms old new) stream rest read stop →
    IsProgress format (λ ms. RecallsMore (rules old.judging) ms old.detector new.detector) stream rest read stop
recorded_recalls format rules old new stream rest read stop p = record {
  messages = p.messages;
  are_messages = p.are_messages;
  read_is = p.read_is;
  stop_is = p.stop_is;
  recorded = p.recorded.recalls;
}

-- the state of a stream read at once
pub read_at_once : {S D C P G : Type 0} (format : Format (Activity S D C P G)) (rules : Rules S D C P G) (stream left : List ℕ)
    (more : ℕ) (stop : Option Error) (old new : Detector S D P G) →
    Recalls rules [] old →
    IsProgress format (λ ms. RecallsMore rules ms old new) stream left more stop →
    IsProgress format (λ ms. Recalls rules ms new) stream left more stop
read_at_once format rules stream left more stop old new none after = record {
  messages = after.messages;
  are_messages = after.are_messages;
  read_is = after.read_is;
  stop_is = after.stop_is;
  recorded = after.recorded [] none;
}

-- an auditor that decoded and recorded the messages that a piece completes stands for the stream with the piece appended
pub stands_on : {S D C P G : Type 0} (basis : Schedule S → Basis S D C P G) (format : ℕ → Format (Activity S D C P G))
    (old : Auditor S D P G) (decoder : Decoder) (detector : Detector S D P G) (piece : List ℕ) →
    ((s : Schedule S) → (basis s).format ≡ format (basis s).bound) →
    DecodesMore (format old.bound)
    (λ more. RecallsMore (basis_from old.floor (basis old.committees.now)).rules more old.detector detector)
    piece old.decoder decoder →
    (floor : Round) (committees : Schedule S) (stream : List ℕ) → StandsFrom floor basis committees old stream →
    StandsFrom floor basis committees (record old { detector = detector; decoder = decoder }) (stream ++ piece)
stands_on {S} {D} {C} {P} {G} basis format old decoder detector piece reads decodes floor committees stream h =
    let same : (basis committees).format ≡ format old.bound = reads committees ∙ ap format (sym h.bound_is) in
    let (more, decoded, recalls) = decodes stream h.messages
    (subst (λ (f : Format (Activity S D C P G)). HasDecoded f stream h.messages old.decoder) same h.decoded) in
    let recalled : Round → Schedule S → Type 0 =
    λ f s. RecallsMore (basis_from f (basis s)).rules more old.detector detector in
    record {
      floor_is = h.floor_is;
      committees_are = h.committees_are;
      bound_is = h.bound_is;
      readable = h.readable;
      lawful = h.lawful;
      messages = h.messages ++ more;
      decoded = subst (λ (f : Format (Activity S D C P G)). HasDecoded f (stream ++ piece) (h.messages ++ more) decoder)
          (sym same) decoded;
      recorded = subst (λ (f : Round). recalled f committees) h.floor_is
          (subst (recalled old.floor) h.committees_are recalls) h.messages h.recorded;
    }

-- what the state makes is the report of each stream whose messages these are
abbrev pub MakesReport : {S D C P G : Type 0} → Basis S D C P G → Detector S D P G → ℕ → ℕ → Option Error →
    Report S D P G → Type 0
MakesReport basis detector place read stop report =
    (stream rest : List ℕ) → HaveCommittees basis.rules → place + length rest ≡ length stream →
    IsProgress basis.format (λ ms. Recalls basis.rules ms detector) stream rest read stop → IsReport basis stream report

-- what it makes under some rules it makes under rules that are the same
pub makes_same : {S D C P G : Type 0} (bound : ℕ) (format : Format (Activity S D C P G)) (rules judged : Rules S D C P G)
    (detector : Detector S D P G) (place read : ℕ) (stop : Option Error) (report : Report S D P G) → rules ≡ judged →
    MakesReport (record { bound = bound; format = format; rules = rules }) detector place read stop report →
    MakesReport (record { bound = bound; format = format; rules = judged }) detector place read stop report
makes_same bound format rules judged detector place read stop report same makes =
    subst (λ r. MakesReport (record { bound = bound; format = format; rules = r }) detector place read stop report)
    same makes

-- the report of the state is the report of each stream that the auditor stands for
pub stands_reported : {S D C P G : Type 0} (basis : Schedule S → Basis S D C P G) (auditor : Auditor S D P G)
    (place read : ℕ) (stop : Option Error) (report : Report S D P G) →
    place + length (undecoded auditor.decoder) ≡ bytes_fed auditor.decoder → read ≡ messages_read auditor.decoder →
    (auditor.bound ≡ (basis auditor.committees.now).bound →
    IsStuck (basis auditor.committees.now).format (undecoded auditor.decoder) →
    IsStop (basis auditor.committees.now).format.reading (undecoded auditor.decoder) stop) →
    MakesReport (basis_from auditor.floor (basis auditor.committees.now)) auditor.detector place read stop report →
    (floor : Round) (committees : Schedule S) (stream : List ℕ) → StandsFrom floor basis committees auditor stream →
    AreLawful (basis_from floor (basis committees)).rules → IsReport (basis_from floor (basis committees)) stream report
stands_reported {S} basis auditor place read stop report at count why is floor committees stream h lawful =
    let tail = undecoded auditor.decoder in
    let reported : Round → Schedule S → Type 0 = λ f s. let judged = basis_from f (basis s) in
    HaveCommittees judged.rules → IsProgress judged.format (λ ms. Recalls judged.rules ms auditor.detector) stream
    tail read stop → IsReport judged stream report in
    let stopped : Schedule S → Type 0 = λ s. auditor.bound ≡ (basis s).bound → IsStuck (basis s).format tail →
    IsStop (basis s).format.reading tail stop in
    let here : reported auditor.floor auditor.committees.now =
    λ some progress. is stream tail some (at ∙ h.decoded.fed_is) progress in
    subst (λ (f : Round). reported f committees) h.floor_is (subst (reported auditor.floor) h.committees_are here)
    (record { members = lawful.members; someone = lawful.someone })
    (record {
      messages = h.messages;
      are_messages = h.decoded.are_messages;
      read_is = count ∙ h.decoded.read_is;
      stop_is = subst stopped h.committees_are why h.bound_is h.decoded.are_messages.stuck;
      recorded = h.recorded;
    })

-- ---- an auditor that answers for a stream

-- it does if it stands for it,
pub stands_answers : {S D C P G : Type 0} (basis : Schedule S → Basis S D C P G) (auditor : Auditor S D P G) (floor : Round)
    (committees : Schedule S) (stream : List ℕ) → StandsFrom floor basis committees auditor stream →
    AnswersFrom floor basis committees auditor stream
stands_answers basis auditor floor committees stream h =
    record { front = stream; behind = []; parts = sym (append-nil stream); stands = h; unread = inl refl }

-- it stands for the stream with a piece appended, if it is not over and was fed the piece,
pub answers_fed : {S D C P G : Type 0} (basis : Schedule S → Basis S D C P G) (auditor next : Auditor S D P G)
    (piece : List ℕ) →
    ((floor : Round) (committees : Schedule S) (stream : List ℕ) → StandsFrom floor basis committees auditor stream →
    StandsFrom floor basis committees next (stream ++ piece)) → auditing_over auditor ≡ false →
    (floor : Round) (committees : Schedule S) (stream : List ℕ) → AnswersFrom floor basis committees auditor stream →
    AnswersFrom floor basis committees next (stream ++ piece)
answers_fed basis auditor next piece fed on floor committees stream h = go h.unread
  where
    go : (h.behind ≡ []) ⊎ IsTrue (auditing_over auditor) → AnswersFrom floor basis committees next (stream ++ piece)
    go (inl none) =
        let same : stream ≡ h.front = h.parts ∙ (ap (λ (t : List ℕ). h.front ++ t) none ∙ append-nil h.front) in
        stands_answers basis next floor committees (stream ++ piece)
        (fed floor committees stream (subst (StandsFrom floor basis committees auditor) (sym same) h.stands))
    go (inr over) = absurd (let no = on in cc)

-- and a piece that is dropped changes nothing if it is over
pub answers_over : {S D C P G : Type 0} (basis : Schedule S → Basis S D C P G) (auditor : Auditor S D P G)
    (piece : List ℕ) → IsTrue (auditing_over auditor) →
    (floor : Round) (committees : Schedule S) (stream : List ℕ) → AnswersFrom floor basis committees auditor stream →
    AnswersFrom floor basis committees auditor (stream ++ piece)
answers_over basis auditor piece over floor committees stream h = record {
  front = h.front;
  behind = h.behind ++ piece;
  parts = ap (λ (t : List ℕ). t ++ piece) h.parts ∙ append_assoc h.front h.behind piece;
  stands = h.stands;
  unread = inr over;
}

-- the report of a front is that of the stream if nothing can be read behind it
reported_behind : {S D C P G : Type 0} (basis : Basis S D C P G) (front behind rest : List ℕ)
    (messages : List (Activity S D C P G)) (report : Report S D P G) → IsLawful basis.format →
    AreMessages basis.format front messages rest → (behind ≡ []) ⊎ IsOver basis.format.reading rest →
    IsReport basis front report → IsReport basis (front ++ behind) report
reported_behind basis front behind rest messages report law are (inl none) r =
    subst (λ (s : List ℕ). IsReport basis s report)
    (sym (append-nil front) ∙ ap (λ (t : List ℕ). front ++ t) (sym none)) r
reported_behind basis front behind rest messages report law are (inr over) r =
    let same = (messages_once basis.format law front r.rest rest r.messages messages r.are_messages are).1 in
    let here = subst (IsOver basis.format.reading) (sym same) over in
    record {
      messages = r.messages;
      rest = r.rest ++ behind;
      are_messages = over_messages basis.format law front r.rest behind r.messages r.are_messages here;
      read_is = r.read_is;
      fault_is = over_fault basis.format.reading _ r.rest behind report.fault r.fault_is here;
      evidence_is = r.evidence_is;
      splits_are = r.splits_are;
    }

-- all that an audit states holds of the report, where its evidence can be encoded
pub answers_audited : {S D C P G : Type 0} (basis : Schedule S → Basis S D C P G) (auditor : Auditor S D P G)
    (report : Report S D P G) →
    ((committees : Schedule S) → IsNeverEmpty (basis committees).format) →
    ((floor : Round) (committees : Schedule S) → MessageLaws (basis_from floor (basis committees)).rules) →
    ((rules : Rules S D C P G) (part : Round → Bool) → AreLawful rules → AreLawful (in_rounds part rules)) →
    ((floor : Round) (committees : Schedule S) (stream : List ℕ) → StandsFrom floor basis committees auditor stream →
    AreLawful (basis_from floor (basis committees)).rules → IsReport (basis_from floor (basis committees)) stream report) →
    All (basis auditor.committees.now).format.is_value (as_messages report) →
    (floor : Round) (committees : Schedule S) (stream : List ℕ) → AnswersFrom floor basis committees auditor stream →
    IsAudit (basis_from floor (basis committees)) stream report
answers_audited {S} basis auditor report some laws parts is each floor committees stream h =
    let judged = basis_from floor (basis committees) in
    let decoded = h.stands.decoded in
    let lawful = parts (basis committees).rules (is_from floor) h.stands.lawful in
    let over : (h.behind ≡ []) ⊎ IsOver judged.format.reading (undecoded auditor.decoder) = elim h.unread [
      | inl none ↦ inl none
      | inr t ↦ inr (decoded.over t)
    ] in
    let longer = reported_behind judged h.front h.behind (undecoded auditor.decoder) h.stands.messages report h.stands.readable
    decoded.are_messages over (is floor committees h.front h.stands lawful) in
    audited judged h.stands.readable (some committees) lawful (laws floor committees) stream report
    (subst (λ (s : List ℕ). IsReport judged s report) (sym h.parts) longer)
    (subst (λ (s : Schedule S). All (basis s).format.is_value (as_messages report)) h.stands.committees_are each)
