-- What is compacted of an input from piece to piece, and what is written of it.
use Rattle.std.proofs.Common.{◌≡◌, ◌⊎◌, ℕ, ◌+◌, false, IsTrue, List, [], ◌++◌, Option, Some, None, Result, Ok, Err, inl, inr, length, take, drop, refl, sym, ap, subst, ◌∙◌, append_assoc, append-nil}
use Rattle.std.specs.Prelude.{All, IfErr, IfSome, OnOk}
use Rattle.std.specs.List.{flat_map}
use Rattle.std.specs.Io.KnownBytes.{Appends, Consumes}
use Rattle.std.proofs.KnownBytes.{Appends-nil, Appends-trans}
use Rattle.std.proofs.Math.Seq.{take-append_seam}
use Rattle.std.proofs.lemmas.Grind.{flat_map-append}
use Rattle.std.proofs.lemmas.List.{take-append-drop}
use Rattle.std.proofs.lemmas.List.Elements.{All-append, All-nil}
use Rattle.simplex_base.specs.Format.{IsLawful}
use Rattle.simplex_base.specs.Positions.{Round}
use Rattle.simplex_base.specs.declared.codec.error.Error.{Error}
use Rattle.simplex_evidence.specs.declared.types.activity.Activity.{Activity}
use Rattle.simplex_detector.specs.Detector.{Recalls, RecallsMore}
use Rattle.simplex_rules.specs.News.{compacted, messages_kept}
use Rattle.simplex_rules.specs.NewsLaws.{kept-append}
use Rattle.simplex_rules.specs.Rules.{Rules}
use Rattle.simplex_rules.specs.declared.judging.Judging.{Judging}
use Rattle.simplex_rules.specs.declared.judging.Judging.TheVariants.{From}
use Rattle.simplex_stream.specs.Decoder.{DecodesMore, HasDecoded, bytes_fed, decoding_over, messages_read, undecoded}
use Rattle.simplex_stream.specs.Fault.{IsFault, fault_of}
use Rattle.simplex_stream.specs.Messages.{AreMessages, IsStop, IsStuck}
use Rattle.simplex_stream.specs.StreamLaws.{fault_is, messages_continue, over_fault, over_messages}
use Rattle.simplex_stream.specs.Text.{AppendsBeginning}
use Rattle.simplex_audit.specs.Basis.{Basis, basis_from}
use Rattle.simplex_audit.specs.CompactedInput.{BeginsCompaction, HasCompacted, WritesCompaction, kept_bytes, unwritten}
use Rattle.simplex_audit.specs.Compacting.{CompactsMore, KeepsCompaction}
use Rattle.simplex_audit.specs.Compaction.{IsCompacted}
use Rattle.simplex_audit.specs.declared.compacted_input.Compacted.{Compacted}
use Rattle.simplex_audit.specs.declared.compacted_input.InputCompactor.{InputCompactor}

-- what follows of a fact of a result that is no error
pub when : {T E A X : Type 0} (r : Result T E) → (A → X) → OnOk r A → OnOk r X
when (Ok t) then a = then a
when (Err e) then a = a

-- what holds for any error
pub if_err : {X E : Type 0} (r : Result X E) (Q : Type 0) → Q → IfErr r (λ e. Q)
if_err (Ok x) Q q = tt
if_err (Err e) Q q = q

-- what was appended is a front of a longer text
pub begins : (old new : Option (List ℕ)) (front rest text : List ℕ) → text ≡ front ++ rest → Appends old new front →
    AppendsBeginning old new text
begins old new front rest text is written = (
  length front,
  subst (Appends old new) (sym (ap (take (length front)) is ∙ take-append_seam front rest)) written,
)

-- what holds of each longer input holds of all that a reader had left, if that is known
pub known : (before after : Option (List ℕ)) (input : List ℕ) (P : List ℕ → Type 0) → Consumes before after input →
    ((more : List ℕ) → P (input ++ more)) → IfSome before P
known None after input P consumed each = tt
known (Some bytes) None input P consumed each = absurd consumed
known (Some bytes) (Some more) input P consumed each = subst P (sym consumed) (each more)

module _ {S D C P G : Type 0} (is_value : Activity S D C P G → Type 0) (floor : Round) (whole : Basis S D C P G) where
  -- the basis from the floor on
  abbrev basis : Basis S D C P G
  basis = basis_from floor whole

  -- nothing came yet
  pub starts : (state : InputCompactor S D P G) (start : Option (List ℕ)) → IsLawful whole.format →
      state.compactor.recorder.judging ≡ From floor → Recalls basis.rules [] state.compactor.recorder.detector →
      unwritten state ≡ [] → HasDecoded whole.format [] [] state.decoder →
      HasCompacted is_value floor whole state [] start start
  starts state start law judging recalls empty decoded = record {
    readable = law;
    judging = judging;
    front = [];
    behind = [];
    parts = refl;
    unread = inl refl;
    messages = [];
    decoded = decoded;
    recalls = recalls;
    values = All-nil is_value;
    bytes = [];
    written = Appends-nil start;
    kept = sym empty;
  }

  module _ (state : InputCompactor S D P G) (input : List ℕ) (start now : Option (List ℕ))
      (h : HasCompacted is_value floor whole state input start now) where
    -- a piece behind which nothing can be read is dropped
    pub dropped : (piece : List ℕ) → IsTrue (decoding_over state.decoder) →
        HasCompacted is_value floor whole state (input ++ piece) start now
    dropped piece over = record {
      readable = h.readable;
      judging = h.judging;
      front = h.front;
      behind = h.behind ++ piece;
      parts = ap (λ (t : List ℕ). t ++ piece) h.parts ∙ append_assoc h.front h.behind piece;
      unread = inr over;
      messages = h.messages;
      decoded = h.decoded;
      recalls = h.recalls;
      values = h.values;
      bytes = h.bytes;
      written = h.written;
      kept = h.kept;
    }

    -- the input is its front if more can be read
    front_is : (behind : List ℕ) → input ≡ h.front ++ behind → (behind ≡ []) ⊎ IsTrue (decoding_over state.decoder) →
        decoding_over state.decoder ≡ false → h.front ≡ input
    front_is behind parts (inl none) on =
        sym (append-nil h.front) ∙ ap (λ (t : List ℕ). h.front ++ t) (sym none) ∙ sym parts
    front_is behind parts (inr over) on = absurd (let no = on in cc)

    -- the messages that a piece completes are compacted
    pub fed : (next : InputCompactor S D P G) (piece : List ℕ) (rules : Judging → Rules S D C P G) →
        decoding_over state.decoder ≡ false → rules (From floor) ≡ basis.rules →
        DecodesMore whole.format
        (λ more. CompactsMore is_value whole.format.encoding rules more state.compactor next.compactor)
        piece state.decoder next.decoder → HasCompacted is_value floor whole next (input ++ piece) start now
    fed next piece rules on judged decodes =
        let (more, decoded, c) = decodes h.front h.messages h.decoded in
        let same = ap rules h.judging ∙ judged in
        let ms = h.messages in
        let enc = flat_map whole.format.encoding in
        let (recalls, kept, values) = subst (λ (r : Rules S D C P G). RecallsMore r more state.compactor.recorder.detector
        next.compactor.recorder.detector
        × ((before : List (Activity S D C P G)) → Recalls r before state.compactor.recorder.detector →
        unwritten next ≡ unwritten state ++ enc (messages_kept r before more))
        × ((before : List (Activity S D C P G)) → Recalls r before state.compactor.recorder.detector →
        All is_value (messages_kept r before more))) same (c.records.recalls, c.kept, c.values) in
        let further = messages_kept basis.rules ms more in
        let all = kept-append basis.rules [] ms more in
        record {
          readable = h.readable;
          judging = c.records.judging ∙ h.judging;
          front = input ++ piece;
          behind = [];
          parts = sym (append-nil (input ++ piece));
          unread = inl refl;
          messages = ms ++ more;
          decoded = subst (λ (t : List ℕ). HasDecoded whole.format (t ++ piece) (ms ++ more) next.decoder)
              (front_is h.behind h.parts h.unread on) decoded;
          recalls = recalls ms h.recalls;
          values = subst (All is_value) (sym all)
              (All-append is_value (compacted basis.rules ms) further h.values (values ms h.recalls));
          bytes = h.bytes;
          written = h.written;
          kept = ap enc all
              ∙ flat_map-append whole.format.encoding (compacted basis.rules ms) further
              ∙ ap (λ (t : List ℕ). t ++ enc further) h.kept
              ∙ append_assoc h.bytes (unwritten state) (enc further)
              ∙ ap (λ (t : List ℕ). h.bytes ++ t) (sym (kept ms h.recalls));
        }

    -- what was not written yet is written
    pub written : (next : InputCompactor S D P G) (later : Option (List ℕ)) → next.decoder ≡ state.decoder →
        next.compactor.recorder ≡ state.compactor.recorder → unwritten next ≡ [] → Appends now later (unwritten state) →
        HasCompacted is_value floor whole next input start later
    written next later decoder recorder none more = record {
      readable = h.readable;
      judging = ap (λ r. r.judging) recorder ∙ h.judging;
      front = h.front;
      behind = h.behind;
      parts = h.parts;
      unread = subst (λ d. (h.behind ≡ []) ⊎ IsTrue (decoding_over d)) (sym decoder) h.unread;
      messages = h.messages;
      decoded = subst (HasDecoded whole.format h.front h.messages) (sym decoder) h.decoded;
      recalls = subst (λ r. Recalls basis.rules h.messages r.detector) (sym recorder) h.recalls;
      values = h.values;
      bytes = h.bytes ++ unwritten state;
      written = Appends-trans start now later h.bytes (unwritten state) h.written more;
      kept = h.kept ∙ (sym (append-nil (h.bytes ++ unwritten state))
          ∙ ap (λ (t : List ℕ). (h.bytes ++ unwritten state) ++ t) (sym none));
    }

    -- a front of what was not written yet is a front of the compaction of each longer input, behind what was written
    pub begun : (more : List ℕ) (later : Option (List ℕ)) → AppendsBeginning now later (unwritten state) →
        BeginsCompaction basis (input ++ more) start later
    begun more later (count, some) ms rest are =
        let c = messages_continue whole.format h.readable h.front (h.behind ++ more) (undecoded state.decoder) rest h.messages
        ms h.decoded.are_messages
        (subst (λ (t : List ℕ). AreMessages whole.format t ms rest)
        (ap (λ (t : List ℕ). t ++ more) h.parts ∙ append_assoc h.front h.behind more) are) in
        let enc = flat_map whole.format.encoding in
        let front = take count (unwritten state) in
        let left = drop count (unwritten state) in
        let further = enc (messages_kept basis.rules h.messages c.further) in
        let cut = ap (λ (t : List ℕ). h.bytes ++ t) (sym (take-append-drop count (unwritten state)))
        ∙ sym (append_assoc h.bytes front left) in
        begins start later (h.bytes ++ front) (left ++ further) (kept_bytes basis ms)
        (ap (kept_bytes basis) c.same
        ∙ ap enc (kept-append basis.rules [] h.messages c.further)
        ∙ flat_map-append whole.format.encoding (compacted basis.rules h.messages)
        (messages_kept basis.rules h.messages c.further)
        ∙ ap (λ (t : List ℕ). t ++ further) (h.kept ∙ cut)
        ∙ append_assoc (h.bytes ++ front) left further)
        (Appends-trans start now later h.bytes front h.written some)

    -- what was written so far is a front of the compaction of each longer input
    pub begun_so_far : (more : List ℕ) → BeginsCompaction basis (input ++ more) start now
    begun_so_far more = begun more now (0, Appends-nil now)

    -- if nothing is left to be written, the compaction of the input was written
    pub ended : (said : Compacted) (place : ℕ) (stop : Option Error) → KeepsCompaction is_value basis →
        unwritten state ≡ [] → said.read ≡ messages_read state.decoder → said.fault ≡ fault_of place stop →
        place + length (undecoded state.decoder) ≡ bytes_fed state.decoder →
        (IsStuck whole.format (undecoded state.decoder) →
        IsStop whole.format.reading (undecoded state.decoder) stop) → WritesCompaction basis input said start now
    ended said place stop keeps none read fault at why =
        let tail = undecoded state.decoder in
        let ms = h.messages in
        let are = h.decoded.are_messages in
        let here = fault_is whole.format h.front tail ms place stop said.fault are (at ∙ h.decoded.fed_is)
        (why are.stuck) fault in
        let (rest, all, last) = longer h.behind h.unread here in
        record {
          bytes = kept_bytes basis ms;
          compacted = subst (λ n. IsCompacted basis input (kept_bytes basis ms) n said.fault)
              (sym (read ∙ h.decoded.read_is))
              (subst (λ (t : List ℕ). IsCompacted basis t (kept_bytes basis ms) (length ms) said.fault) (sym h.parts)
              (keeps (h.front ++ h.behind) rest ms said.fault all h.values last));
          written = subst (Appends start now)
              (sym (h.kept ∙ (ap (λ (t : List ℕ). h.bytes ++ t) none ∙ append-nil h.bytes))) h.written;
        }
      where
        place_of : ℕ
        place_of = length (flat_map whole.format.encoding h.messages)

        longer : (behind : List ℕ) → (behind ≡ []) ⊎ IsTrue (decoding_over state.decoder) →
            IsFault whole.format.reading place_of (undecoded state.decoder) said.fault →
            (rest : List ℕ) × AreMessages whole.format (h.front ++ behind) h.messages rest
            × IsFault whole.format.reading place_of rest said.fault
        longer behind (inl none) here = (
          undecoded state.decoder,
          subst (λ (t : List ℕ). AreMessages whole.format t h.messages (undecoded state.decoder))
              (sym (append-nil h.front) ∙ ap (λ (t : List ℕ). h.front ++ t) (sym none)) h.decoded.are_messages,
          here,
        )
        longer behind (inr over) here = (
          undecoded state.decoder ++ behind,
          over_messages whole.format h.readable h.front (undecoded state.decoder) behind h.messages
              h.decoded.are_messages (h.decoded.over over),
          over_fault whole.format.reading place_of (undecoded state.decoder) behind said.fault here
              (h.decoded.over over),
        )
