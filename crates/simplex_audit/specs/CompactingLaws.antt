-- Messages that are compacted one after another.
use Rattle.std.proofs.Common.{◌≡◌, ℕ, Bool, true, false, cond, List, [], ◌∷◌, ◌++◌, map, sym, ap, subst, ◌∙◌, append_assoc, append-nil}
use Rattle.std.specs.Prelude.{All}
use Rattle.std.specs.List.{flat_map}
use Rattle.std.proofs.lemmas.Grind.{flat_map-append}
use Rattle.std.proofs.lemmas.List.Elements.{All-append, All-cons, All-head, All-nil, All-tail}
use Rattle.simplex_base.specs.Format.{Format}
use Rattle.simplex_evidence.specs.Activity.{IsActivity}
use Rattle.simplex_evidence.specs.declared.types.activity.Activity.{Activity}
use Rattle.simplex_detector.specs.Detector.{Recalls}
use Rattle.simplex_rules.specs.News.{certifies_no_news, kept_of, message_is_news, message_on, messages_kept, valid_votes_in, vote_message, votes_alone}
use Rattle.simplex_rules.specs.NewsLaws.{kept_next}
use Rattle.simplex_rules.specs.Recorded.{news_after}
use Rattle.simplex_rules.specs.Rules.{Rules, valid_votes}
use Rattle.simplex_rules.specs.declared.judging.Judging.{Judging}
use Rattle.simplex_scheme.specs.Subject.{Finalizes, Notarizes, Nullifies, SubjectValue}
use Rattle.simplex_scheme.specs.declared.scheme.Attestation.{Attestation}
use Rattle.simplex_votes.specs.Votes.{SignedVote}
use Rattle.simplex_audit.specs.Compacting.{CompactsMore}
use Rattle.simplex_audit.specs.RecordingLaws.{records_none, records_more}
use Rattle.simplex_audit.specs.declared.compaction.Compactor.{Compactor}

-- a vote as a message is a value of the format under any bound, since it has no certificate
pub alone_is_value : {S D C P G : Type 0} (eq : D → D → Bool) (payload : Format D) (is_certificate fits : C → Type 0)
    (signature : Format G) (x : SubjectValue D) (a : Attestation S P G) →
    IsActivity eq payload is_certificate signature (message_on x a) → IsActivity eq payload fits signature (message_on x a)
alone_is_value eq payload is_certificate fits signature (Notarizes p) a is = is
alone_is_value eq payload is_certificate fits signature (Nullifies r) a is = is
alone_is_value eq payload is_certificate fits signature (Finalizes p) a is = is

-- what is kept of a message that is a value of the format under a bound is values of it, if it can be encoded
pub kept_fits : {S D C P G : Type 0} (eq : D → D → Bool) (payload : Format D) (is_certificate fits : C → Type 0)
    (signature : Format G) (rules : Rules S D C P G) (before : List (Activity S D C P G)) (m : Activity S D C P G) →
    IsActivity eq payload fits signature m → All (IsActivity eq payload is_certificate signature) (kept_of rules before m) →
    All (IsActivity eq payload fits signature) (kept_of rules before m)
kept_fits {S} {D} {C} {P} {G} eq payload is_certificate fits signature rules before m is =
    of_message (certifies_no_news rules before m) (message_is_news rules before m)
  where
    alone : SignedVote D G → Activity S D C P G
    alone v = vote_message v

    of_votes : (vs : List (SignedVote D G)) → All (IsActivity eq payload is_certificate signature) (map alone vs) →
        All (IsActivity eq payload fits signature) (map alone vs)
    of_votes [] values = All-nil (IsActivity eq payload fits signature)
    of_votes (v ∷ vs) values =
        let one = All-head (IsActivity eq payload is_certificate signature) (alone v) (map alone vs) values in
        let rest = All-tail (IsActivity eq payload is_certificate signature) (alone v) (map alone vs) values in
        All-cons (IsActivity eq payload fits signature) (alone v) (map alone vs)
        (alone_is_value eq payload is_certificate fits signature v.subject
        (record { signer = v.signer; signature = v.signature }) one) (of_votes vs rest)

    of_message : (apart news : Bool) → All (IsActivity eq payload is_certificate signature)
        (cond apart (votes_alone rules before m) (cond news (m ∷ []) [])) →
        All (IsActivity eq payload fits signature) (cond apart (votes_alone rules before m) (cond news (m ∷ []) []))
    of_message true news values =
        of_votes (news_after rules.eq (valid_votes rules before) (valid_votes_in rules m)) values
    of_message false true values = All-cons (IsActivity eq payload fits signature) m [] is (All-nil _)
    of_message false false values = All-nil _

module _ {S D C P G : Type 0} (is_value : Activity S D C P G → Type 0) (encoding : Activity S D C P G → List ℕ)
    (rules : Judging → Rules S D C P G) where
  -- no message was kept
  pub compacts_none : (state : Compactor S D P G) → CompactsMore is_value encoding rules [] state state
  compacts_none state = record {
    records = records_none rules state.recorder;
    kept = λ before held. sym (append-nil state.kept.items);
    values = λ before held. All-nil is_value;
  }

  -- one message more was recorded, and kept as far as it was news
  pub compacts_more : (ms : List (Activity S D C P G)) (m : Activity S D C P G) (a b c : Compactor S D P G) →
      CompactsMore is_value encoding rules ms a b → CompactsMore is_value encoding rules (m ∷ []) b c →
      CompactsMore is_value encoding rules (ms ++ m ∷ []) a c
  compacts_more ms m a b c first one =
      let judged = first.records.judging in
      let by = rules a.recorder.judging in
      let Keeps : Judging → Type 0 = λ judging. (before : List (Activity S D C P G)) →
      Recalls (rules judging) before b.recorder.detector →
      c.kept.items ≡ b.kept.items ++ flat_map encoding (messages_kept (rules judging) before (m ∷ [])) in
      let last = subst Keeps judged one.kept in
      let AreValues : Judging → Type 0 = λ judging. (before : List (Activity S D C P G)) →
      Recalls (rules judging) before b.recorder.detector →
      All is_value (messages_kept (rules judging) before (m ∷ [])) in
      let last_values = subst AreValues judged one.values in
      record {
        records = records_more rules ms m a.recorder b.recorder c.recorder first.records one.records;
        kept = λ before held.
            let so_far = messages_kept by before ms in
            let here = kept_of by (before ++ ms) m in
            last (before ++ ms) (first.records.recalls before held)
            ∙ (λ i. first.kept before held i ++ flat_map encoding (append-nil here i))
            ∙ append_assoc a.kept.items (flat_map encoding so_far) (flat_map encoding here)
            ∙ ap (λ xs. a.kept.items ++ xs) (sym (flat_map-append encoding so_far here)
            ∙ ap (flat_map encoding) (sym (kept_next by before ms m)));
        values = λ before held.
            let here = kept_of by (before ++ ms) m in
            subst (All is_value) (sym (kept_next by before ms m))
            (All-append is_value (messages_kept by before ms) here (first.values before held)
            (subst (All is_value) (append-nil here) (last_values (before ++ ms) (first.records.recalls before held))));
      }
