-- What is kept of a stream that is compacted, and that it can stand for the stream's messages.
use Rattle.std.proofs.Common.{◌≡◌, ℕ, ◌+◌, Bool, Err, Ok, Option, Result, List, [], ◌∷◌, ◌++◌, get_or, inl, inr, length, refl, sym, ap, subst, ◌∙◌, append-nil}
use Rattle.std.specs.Prelude.{All, Contains, OnOk}
use Rattle.std.specs.List.{flat_map}
use Rattle.std.proofs.lemmas.List.Elements.{All-contains, All-contains_itself, All-weaker, Contains-append_right}
use Rattle.simplex_base.specs.Format.{Format, IsLawful}
use Rattle.simplex_base.specs.declared.codec.error.Error.{Error}
use Rattle.simplex_evidence.specs.Activity.{IsActivity, contents_of}
use Rattle.simplex_evidence.specs.Contents.{AreInConflict}
use Rattle.simplex_evidence.specs.Contradiction.{Conflicting_finalize, Conflicting_notarize, Equivocation, Nullify_finalize}
use Rattle.simplex_evidence.specs.declared.types.activity.Activity.{Activity}
use Rattle.simplex_evidence.specs.declared.types.activity.Activity.TheVariants as activity
use Rattle.simplex_detector.specs.Detector.{Recalls}
use Rattle.simplex_rules.specs.Evidence.{IsEvidence}
use Rattle.simplex_rules.specs.Interchange.{AreInterchangeable}
use Rattle.simplex_detector.specs.Gathered.{TellsKept}
use Rattle.simplex_ballots.specs.Kept.{kept_by}
use Rattle.simplex_rules.specs.Laws.{EvidenceIsUnique}
use Rattle.simplex_rules.specs.News.{FewAreKept, IsCompaction, IsTheirs, compacted, kept_of}
use Rattle.simplex_rules.specs.Rules.{Rules, valid_votes}
use Rattle.simplex_rules.specs.SplitLaws.{SplitsAreUnique}
use Rattle.simplex_rules.specs.Splits.{AreSplits}
use Rattle.simplex_rules.specs.declared.judging.Judging.{Judging}
use Rattle.simplex_ballots.specs.declared.kept.Kept.{Kept}
use Rattle.simplex_rules.specs.declared.split.Split.{Split}
use Rattle.simplex_stream.specs.Fault.{fault_of}
use Rattle.simplex_stream.specs.Messages.{AreMessages}
use Rattle.simplex_stream.specs.Progress.{IsProgress}
use Rattle.simplex_stream.specs.StreamLaws.{IsNeverEmpty, are_joined, fault_is, messages_continue, messages_once}
use Rattle.simplex_audit.specs.Basis.{Basis}
use Rattle.simplex_audit.specs.Compacting.{CompactsMore, KeepsCompaction}
use Rattle.simplex_audit.specs.CompactingLaws.{alone_is_value}
use Rattle.simplex_audit.specs.Compaction.{HaveSameReports, IsCompacted}
use Rattle.simplex_audit.specs.Recording.{RecordsMore}
use Rattle.simplex_audit.specs.Report.{evidence_in}
use Rattle.simplex_audit.specs.declared.compaction.Compactor.{Compactor}

-- the votes of evidence that can be encoded contradict
pub in_conflict : {S D C P G : Type 0} (eq : D → D → Bool) (payload : Format D) (is_certificate : C → Type 0)
    (signature : Format G) (m : Activity S D C P G) → IsActivity eq payload is_certificate signature m →
    AreInConflict eq (contents_of m)
in_conflict eq payload is_certificate signature (activity.ConflictingNotarize c) is = (Conflicting_notarize, is.1)
in_conflict eq payload is_certificate signature (activity.ConflictingFinalize c) is = (Conflicting_finalize, is.1)
in_conflict eq payload is_certificate signature (activity.NullifyFinalize c) is = (Nullify_finalize, is.1)
in_conflict eq payload is_certificate signature _ is = tt

-- what is kept of values are values
pub kept_are_values : {S D C P G : Type 0} (eq : D → D → Bool) (payload : Format D) (is_certificate fits : C → Type 0)
    (signature : Format G) (rules : Rules S D C P G) (ms ks : List (Activity S D C P G)) →
    All (IsActivity eq payload fits signature) ms → All (IsTheirs rules ms) ks →
    All (IsActivity eq payload is_certificate signature) ks → All (IsActivity eq payload fits signature) ks
kept_are_values {S} {D} {C} {P} {G} eq payload is_certificate fits signature rules ms ks each theirs values =
    λ k d lt. by (get_or ks k d) (theirs k d lt) (values k d lt)
  where
    by : (m : Activity S D C P G) → IsTheirs rules ms m → IsActivity eq payload is_certificate signature m →
        IsActivity eq payload fits signature m
    by m (inl m_in) is = All-contains (IsActivity eq payload fits signature) ms m each m_in
    by m (inr (v, v_in, same)) is =
        subst (IsActivity eq payload fits signature) (sym same) (alone_is_value eq payload is_certificate fits signature
        v.subject (record { signer = v.signer; signature = v.signature })
        (subst (IsActivity eq payload is_certificate signature) same is))

-- one message is recorded, and what is news of it is kept
pub compacts_one : {S D C P G : Type 0} (is_value : Activity S D C P G → Type 0) (encoding : Activity S D C P G → List ℕ)
    (rules : Judging → Rules S D C P G) (m : Activity S D C P G) (news : Kept S D C P G) (old new : Compactor S D P G) →
    RecordsMore rules (m ∷ []) old.recorder new.recorder →
    TellsKept (rules old.recorder.judging) m old.recorder.detector news →
    new.kept.items ≡ old.kept.items ++ flat_map encoding (kept_by m news) → All is_value (kept_by m news) →
    CompactsMore is_value encoding rules (m ∷ []) old new
compacts_one is_value encoding rules m news old new records tells kept values = record {
  records = records;
  kept = λ before held.
      kept ∙ (λ i. old.kept.items ++ flat_map encoding ((tells before held
      ∙ sym (append-nil (kept_of (rules old.recorder.judging) before m))) i));
  values = λ before held. subst (All is_value)
      (tells before held ∙ sym (append-nil (kept_of (rules old.recorder.judging) before m))) values;
}

-- two facts of a result that is no error, together
pub when_both : {T E A B X : Type 0} (r : Result T E) → (A → B → X) → OnOk r A → OnOk r B → OnOk r X
when_both (Ok t) both a b = both a b
when_both (Err e) both a b = a

-- some bytes are the compaction of messages, whose messages can be encoded
pub record AreKept {S D C P G : Type 0} (is_value : Activity S D C P G → Type 0) (encoding : Activity S D C P G → List ℕ)
    (rules : Rules S D C P G) (bytes : List ℕ) (messages : List (Activity S D C P G)) : Type 0 where
  pub kept : bytes ≡ flat_map encoding (compacted rules messages)
  pub values : All is_value (compacted rules messages)

-- what an empty compactor kept of messages is their compaction
pub compactor_keeps : {S D C P G : Type 0} (is_value : Activity S D C P G → Type 0) (format : Format (Activity S D C P G))
    (rules : Judging → Rules S D C P G) (judging : Judging) (judged : Rules S D C P G) (old new : Compactor S D P G)
    (stream rest : List ℕ) (read : ℕ) (stop : Option Error) → old.recorder.judging ≡ judging →
    Recalls (rules judging) [] old.recorder.detector → old.kept.items ≡ [] → rules judging ≡ judged →
    IsProgress format (λ ms. CompactsMore is_value format.encoding rules ms old new) stream rest read stop →
    IsProgress format (AreKept is_value format.encoding judged new.kept.items) stream rest read stop
compactor_keeps is_value format rules judging judged old new stream rest read stop strict nothing empty same p =
    let here = subst (λ j. Recalls (rules j) [] old.recorder.detector) (sym strict) nothing in record {
      messages = p.messages;
      are_messages = p.are_messages;
      read_is = p.read_is;
      stop_is = p.stop_is;
      recorded = subst (λ r. AreKept is_value format.encoding r new.kept.items p.messages) (ap rules strict ∙ same) (record {
        kept = p.recorded.kept [] here
            ∙ ap (λ xs. xs ++ flat_map format.encoding (compacted (rules old.recorder.judging) p.messages)) empty;
        values = p.recorded.values [] here;
      });
    }

-- the compaction of a stream, from what was read of it
pub is_compacted : {S D C P G : Type 0} (basis : Basis S D C P G) (is_value : Activity S D C P G → Type 0) →
    KeepsCompaction is_value basis → (stream rest bytes : List ℕ) (read place : ℕ) (stop : Option Error) →
    IsProgress basis.format (AreKept is_value basis.format.encoding basis.rules bytes) stream rest read stop →
    place + length rest ≡ length stream → IsCompacted basis stream bytes read (fault_of place stop)
is_compacted basis is_value keeps stream rest bytes read place stop p at =
    let ms = p.messages in
    let fault = fault_of place stop in
    subst (λ xs. IsCompacted basis stream xs read fault) (sym p.recorded.kept)
    (subst (λ n. IsCompacted basis stream (flat_map basis.format.encoding (compacted basis.rules ms)) n fault) (sym p.read_is)
    (keeps stream rest ms fault p.are_messages p.recorded.values
    (fault_is basis.format stream rest ms place stop fault p.are_messages at p.stop_is refl)))

-- the messages of a stream behind whole messages
pub record Behind {M : Type 0} (format : Format M) (front all : List M) (bytes rest : List ℕ) : Type 0 where
  pub further : List M
  pub same : all ≡ front ++ further
  pub are : AreMessages format bytes further rest

messages_behind : {M : Type 0} (format : Format M) → IsLawful format → (stream bytes rest : List ℕ) (front all : List M) →
    AreMessages format stream front [] → AreMessages format (stream ++ bytes) all rest → Behind format front all bytes rest
messages_behind {M} format law stream bytes rest front all before are =
    let c = messages_continue format law stream bytes [] rest front all before are in
    let value : (m : M) → Contains c.further m → format.is_value m = λ m m_in. All-contains format.is_value all m are.each
    (subst (λ (ms : List M). Contains ms m) (sym c.same) (Contains-append_right front c.further m m_in)) in
    record {
      further = c.further;
      same = c.same;
      are = record {
        whole = c.after;
        each = All-weaker (Contains c.further) format.is_value value c.further (All-contains_itself c.further);
        stuck = are.stuck;
      };
    }

module _ {S D C P G : Type 0} (basis : Basis S D C P G) (law : IsLawful basis.format)
    (only_evidence : (ms : List (Activity S D C P G)) (es : List (Equivocation D G)) →
    IsEvidence basis.rules.eq (valid_votes basis.rules ms) es →
    EvidenceIsUnique basis.rules.eq (valid_votes basis.rules ms) es)
    (only_splits : (ms : List (Activity S D C P G)) (splits : List Split) → AreSplits basis.rules ms splits →
    SplitsAreUnique basis.rules ms splits) where
  -- bytes of interchangeable messages can stand for each other
  same_reports : (bytes others : List ℕ) (ks ms : List (Activity S D C P G)) → AreMessages basis.format bytes ks [] →
      AreMessages basis.format others ms [] → AreInterchangeable basis.rules ks ms → HaveSameReports basis bytes others
  same_reports bytes others ks ms ks_are ms_are stand before more bs a b before_are is_a is_b =
      let x = messages_behind basis.format law before (bytes ++ more) is_a.rest bs is_a.messages before_are
      is_a.are_messages in
      let y = messages_behind basis.format law before (others ++ more) is_b.rest bs is_b.messages before_are
      is_b.are_messages in
      let x' = messages_behind basis.format law bytes more is_a.rest ks x.further ks_are x.are in
      let y' = messages_behind basis.format law others more is_b.rest ms y.further ms_are y.are in
      let same = (messages_once basis.format law more is_a.rest is_b.rest x'.further y'.further x'.are y'.are).0 in
      let a_is : is_a.messages ≡ bs ++ (ks ++ x'.further) = x.same ∙ ap (λ zs. bs ++ zs) x'.same in
      let b_is : bs ++ (ms ++ x'.further) ≡ is_b.messages =
      ap (λ zs. bs ++ (ms ++ zs)) same ∙ sym (y.same ∙ ap (λ zs. bs ++ zs) y'.same) in (
        only_evidence is_b.messages (evidence_in a)
            (subst (λ zs. IsEvidence basis.rules.eq (valid_votes basis.rules zs) (evidence_in a)) b_is
            ((stand.evidence bs x'.further (evidence_in a)).0
            (subst (λ zs. IsEvidence basis.rules.eq (valid_votes basis.rules zs) (evidence_in a)) a_is is_a.evidence_is)))
            (evidence_in b) is_b.evidence_is,
        only_splits is_b.messages a.splits.items
            (subst (λ zs. AreSplits basis.rules zs a.splits.items) b_is ((stand.splits bs x'.further a.splits.items).0
            (subst (λ zs. AreSplits basis.rules zs a.splits.items) a_is is_a.splits_are)))
            b.splits.items is_b.splits_are,
      )

  -- what is kept of a stream's messages is the stream's compaction
  pub keeps_compaction : IsNeverEmpty basis.format → ((ms : List (Activity S D C P G)) → IsCompaction basis.rules ms) →
      ((ms : List (Activity S D C P G)) → All basis.format.is_value ms → FewAreKept basis.rules ms) →
      (is_value : Activity S D C P G → Type 0) →
      ((ms ks : List (Activity S D C P G)) → All basis.format.is_value ms → All (IsTheirs basis.rules ms) ks →
      All is_value ks → All basis.format.is_value ks) → KeepsCompaction is_value basis
  keeps_compaction some compacts few is_value as_values stream rest ms fault are values at =
      let news = compacted basis.rules ms in
      let kept = are_joined basis.format some news (as_values ms news are.each (compacts ms).theirs values) in
      record {
        messages = ms;
        rest = rest;
        are_messages = are;
        read_is = refl;
        fault_is = at;
        kept = kept;
        can_stand = compacts ms;
        few = few ms are.each;
        same_reports = same_reports (flat_map basis.format.encoding news) (flat_map basis.format.encoding ms) news ms kept
            (are_joined basis.format some ms are.each) (compacts ms).interchangeable;
      }
