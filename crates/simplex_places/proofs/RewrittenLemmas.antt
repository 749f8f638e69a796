-- Streams with other verdicts: the same attestations have to be verified, and their verdicts determine the report.
use Rattle.std.proofs.Common.{◌≡◌, ℕ, ◌<◌, ◌≤◌, Bool, true, false, List, [], ◌∷◌, ◌++◌, length, map, get_or, inl, inr, set, true≢false, refl, sym, ap, subst, ◌∙◌, arith}
use Rattle.std.specs.Prelude.{◌⊎◌, ◌&&◌, if◌then◌else◌, All, Contains, nat_lt}
use Rattle.std.specs.List.{flat_map}
use Rattle.std.proofs.lemmas.Bool.{cases_eq, cases_lt, lt-ltb}
use Rattle.std.proofs.lemmas.List.{get_or_default, get_or_past, get_or-set_other, get_or-set_same, length-set, same_lists, set-get_or}
use Rattle.std.proofs.lemmas.List.Elements.{All-contains, All-map, Contains-append_right, Contains-get_or}
use Rattle.simplex_base.specs.Format.{Format, IsLawful}
use Rattle.simplex_base.specs.Reading.{Reading}
use Rattle.simplex_base.specs.Positions.{Round}
use Rattle.simplex_scheme.specs.Subject.{SubjectValue, round_of}
use Rattle.simplex_scheme.specs.declared.scheme.Attestation.{Attestation}
use Rattle.simplex_evidence.specs.declared.types.activity.Activity.{Activity}
use Rattle.simplex_evidence.specs.Activity.{votes_in}
use Rattle.simplex_rules.specs.Evidence.{IsEvidence}
use Rattle.simplex_rules.specs.Rules.{AreLawful, Rules, valid_votes}
use Rattle.simplex_rules.specs.Splits.{AreSplits}
use Rattle.simplex_rules.specs.Agreement.{AgreeOnSuspects, SuspectsDecide, claim_of}
use Rattle.simplex_rules.specs.Suspects.{is_suspect, is_suspect_round}
use Rattle.simplex_audit.specs.Basis.{Basis}
use Rattle.simplex_stream.specs.Messages.{AreMessages}
use Rattle.simplex_stream.specs.Fault.{IsFault}
use Rattle.simplex_audit.specs.Report.{IsReport, evidence_in}
use Rattle.simplex_audit.specs.declared.audit.Report.{Report}
use Rattle.simplex_stream.specs.StreamLaws.{messages_once}
use Rattle.simplex_places.specs.Places.{places_along}
use Rattle.simplex_places.specs.Suspects.{HaveToBeVerified, is_sought, round_at, sought_of, suspected_in}
use Rattle.simplex_places.specs.Verdicts.{DetermineTheReport, DiffersInVerdicts, HaveSameVerdicts}
use Rattle.simplex_places.specs.declared.places.Placed.{Placed}
use Rattle.simplex_places.specs.declared.places.AttestationPlace.{AttestationPlace}
use Rattle.simplex_places.proofs.SuspectLemmas.{AreAlike, each_passing, one_alike, sought_alike}
use Rattle.simplex_places.proofs.VerdictLemmas.{AreChanged, as_set, before_tail, first_or_later, format, messages_changed, places_in, same_size}

-- ---- one verdict after another

-- where the verdict of an attestation stands
abbrev pub verdict_of : Placed → ℕ
verdict_of q = q.attestation.verdict_place

-- `Holds` of a stream stays when a verdict of it becomes that of the other stream; those of attestations that pass `must` are
-- the other stream's already
module _ (Holds : List ℕ → Type 0) (must : Placed → Bool) (places : List Placed) (other : List ℕ)
    (step : (bytes : List ℕ) (q : Placed) → Contains places q → (must q ≡ true → get_or other (verdict_of q) 0
    ≡ get_or bytes (verdict_of q) 0) → Holds bytes → Holds (set bytes (verdict_of q) (get_or other (verdict_of q) 0))) where
  -- the byte that was set is the other stream's
  set_is : (bytes : List ℕ) (v : ℕ) → length other ≡ length bytes →
      get_or other v 0 ≡ get_or (set bytes v (get_or other v 0)) v 0
  set_is bytes v size =
      elim (cases_lt v (length bytes)) [
        | inl within ↦ sym (get_or-set_same bytes v (get_or other v 0) 0 within)
        | inr past ↦ get_or_past other v 0 (omega (arith, size, past)) ∙ sym
            (get_or_past (set bytes v (get_or other v 0)) v 0 (omega (arith, past, length-set bytes v (get_or other v 0))))
      ]

  -- other bytes that are the other stream's stay so
  set_keeps : (bytes : List ℕ) (v i : ℕ) → length other ≡ length bytes → get_or other i 0 ≡ get_or bytes i 0 →
      get_or other i 0 ≡ get_or (set bytes v (get_or other v 0)) i 0
  set_keeps bytes v i size same =
      elim (cases_eq i v) [
        | inl is ↦
            subst (λ (j : ℕ). get_or other j 0 ≡ get_or (set bytes v (get_or other v 0)) j 0) (sym is) (set_is bytes v size)
        | inr differs ↦ same ∙ sym (get_or-set_other bytes v i (get_or other v 0) 0 differs)
      ]

  -- so it holds of the other stream, if no byte differs but verdicts
  walk : (qs : List Placed) → ((q : Placed) → Contains qs q → Contains places q) → (bytes : List ℕ) →
      length other ≡ length bytes →
      ((i : ℕ) → (get_or other i 0 ≡ get_or bytes i 0) ⊎ Contains (map verdict_of qs) i) →
      ((q : Placed) → Contains places q → must q ≡ true → get_or other (verdict_of q) 0 ≡ get_or bytes (verdict_of q) 0) →
      Holds bytes → Holds other
  walk [] among bytes size differ same holds =
      subst Holds (same_lists bytes other (sym size) (λ i d within.
      get_or_default bytes i d 0 within
      ∙ (elim (differ i) [ inl e ↦ sym e | inr (k, lt, is) ↦ absurd (omega (arith, lt)) ]
      ∙ get_or_default other i 0 d (omega (arith, size, within))))) holds
  walk (q ∷ qs) among bytes size differ same holds =
      let v = verdict_of q in
      let next = set bytes v (get_or other v 0) in
      let here = among q (Contains-get_or (q ∷ qs) 0 q (omega arith)) in
      walk qs (λ p p_in. among p (Contains-append_right (q ∷ []) qs p p_in)) next
      (size ∙ sym (length-set bytes v (get_or other v 0)))
      (λ i. elim (differ i) [
        | inl e ↦ inl (set_keeps bytes v i size e)
        | inr c ↦ elim (first_or_later v (map verdict_of qs) i c) [
          | inl is ↦ inl (subst (λ (j : ℕ). get_or other j 0 ≡ get_or next j 0) is (set_is bytes v size))
          | inr further ↦ inr further
        ]
      ])
      (λ p p_in passes. set_keeps bytes v (verdict_of p) size (same p p_in passes))
      (step bytes q here (same q here) holds)

  pub walk_all : (bytes : List ℕ) → length other ≡ length bytes →
      ((i : ℕ) → (get_or other i 0 ≡ get_or bytes i 0) ⊎ Contains (map verdict_of places) i) →
      ((q : Placed) → Contains places q → must q ≡ true → get_or other (verdict_of q) 0 ≡ get_or bytes (verdict_of q) 0) →
      Holds bytes → Holds other
  walk_all = walk places (λ q c. c)

-- ---- the rules

module _ (S D P : Type 0) (n : ℕ) (some : 1 ≤ n) (eq : D → D → Bool) (payload : Format D) (bound : ℕ)
    (reading : List ℕ → Reading (List (Attestation S P (List ℕ))))
    (good : SubjectValue D → ℕ → List ℕ → Bool) (certified : SubjectValue D → List (Attestation S P (List ℕ)) → Bool)
    (size : ℕ → ℕ) where
  abbrev Vote : Type 0
  Vote = Attestation S P (List ℕ)

  abbrev Messages : Type 0
  Messages = List (Activity S D (List Vote) P (List ℕ))

  abbrev zero_byte : 0 < 256
  zero_byte = omega arith

  abbrev rules : Rules S D (List Vote) P (List ℕ)
  rules = record { eq = eq; good = good; certified = certified; listed = λ c. c; size = size }

  abbrev messages_format : Format (Activity S D (List Vote) P (List ℕ))
  messages_format = format S D P n some 0 zero_byte eq payload bound reading

  abbrev basis : Basis S D (List Vote) P (List ℕ)
  basis = record { bound = bound; format = messages_format; rules = rules }

  abbrev places_of : Messages → List Placed
  places_of ms = places_along (places_in S D P n some 0 zero_byte eq payload bound reading) messages_format.encoding 0 ms

  module _ (lawful : AreLawful rules) (law : IsLawful messages_format) (decide : SuspectsDecide rules) where
    -- ---- one verdict is overwritten

    module _ (b : ℕ) (byte : b < 256) (q : Placed) (ks ls : Messages)
        (o : AreChanged S D P n some b byte eq payload bound reading 0 q ks ls) where
      -- an attestation that is not sought
      abbrev IsLeft : Type 0
      IsLeft = is_sought (suspected_in rules ks) size q ≡ false

      -- its signer is not suspect
      not_suspect : IsLeft → is_suspect rules ks (round_at q.attestation) q.attestation.signer ≡ false
      not_suspect left =
          let round = round_at q.attestation in
          let signer = q.attestation.signer in
          (elim (is_suspect rules ks round signer) as (λ t. is_suspect rules ks round signer ≡ t → t ≡ false) [
            | true ↦ λ e.
                let (suspect, member) = decide.members ks round signer e in
                let sought : is_sought (suspected_in rules ks) size q ≡ true =
                (elim q.is_listed as (λ l. (if l then is_suspect_round rules ks round && nat_lt signer (size round.epoch)
                else is_suspect rules ks round signer) ≡ true) [
                  | true ↦
                      ap (λ (t : Bool). t && nat_lt signer (size round.epoch)) suspect ∙ lt-ltb signer (size round.epoch) member
                  | false ↦ e
                ]) in
                absurd (true≢false (sym sought ∙ left))
            | false ↦ λ e. refl
          ]) refl

      -- a certificate of a suspect round that lists it does not certify
      not_certified : IsLeft → (c : List Vote) → is_suspect_round rules ks (round_of o.subject) ≡ true → q.is_listed ≡ true →
          Contains (map (λ a. a.signer) c) q.attestation.signer → certified o.subject c ≡ false
      not_certified left c suspect is_listed signed =
          let round = round_at q.attestation in
          let signer = q.attestation.signer in
          let here : is_suspect_round rules ks round ≡ true = ap (is_suspect_round rules ks) (sym o.round) ∙ suspect in
          (elim (certified o.subject c) as (λ t. certified o.subject c ≡ t → t ≡ false) [
            | true ↦ λ e.
                let quorum = lawful.quorums o.subject c e in
                let members : All (λ (s : ℕ). s < size (round_of o.subject).epoch) (map (λ (a : Vote). a.signer) c) =
                All-map (λ (s : ℕ). s < size (round_of o.subject).epoch) (λ (a : Vote). a.signer) c (λ k d within.
                lawful.members o.subject (get_or c k d).signer (get_or c k d).signature (quorum.each_good k d within)) in
                let member : signer < size (round_of o.subject).epoch = All-contains
                (λ (s : ℕ). s < size (round_of o.subject).epoch) (map (λ (a : Vote). a.signer) c) signer members signed in
                let within : signer < size round.epoch = subst (λ (r : Round). signer < size r.epoch) o.round member in
                let sought : is_sought (suspected_in rules ks) size q ≡ true =
                ap (λ (l : Bool). if l then is_suspect_round rules ks round && nat_lt signer (size round.epoch)
                else is_suspect rules ks round signer) is_listed
                ∙ (ap (λ (t : Bool). t && nat_lt signer (size round.epoch)) here ∙ lt-ltb signer (size round.epoch) within) in
                absurd (true≢false (sym sought ∙ left))
            | false ↦ λ e. refl
          ]) refl

      agree : IsLeft → AgreeOnSuspects rules ks ls
      agree left = record {
        claims = o.claims;
        votes = o.votes (λ v. is_suspect rules ks (round_of v.subject) v.signer)
            (λ g. ap (λ (r : Round). is_suspect rules ks r q.attestation.signer) o.round ∙ not_suspect left);
        certificates = o.certified (λ x. is_suspect_round rules ks (round_of x)) rules
            (λ suspect is_listed c signed. not_certified left c suspect is_listed signed);
      }

    -- the stream with one byte overwritten
    overwritten : (b : ℕ) (byte : b < 256) (q : Placed) (bytes rest : List ℕ) (ks : Messages) →
        AreMessages messages_format bytes ks rest → Contains (places_of ks) q →
        (ls : Messages) × AreChanged S D P n some b byte eq payload bound reading 0 q ks ls
        × AreMessages messages_format (set bytes (verdict_of q) b) ls rest
    overwritten b byte q bytes rest ks are q_in =
        let (ls, o) = messages_changed S D P n some b byte eq payload bound reading 0 q ks are.each q_in in
        let was = flat_map messages_format.encoding ks in
        let now = flat_map messages_format.encoding ls in (
          ls,
          o,
          record {
            whole = ap (λ (l : List ℕ). set l (verdict_of q) b) are.whole ∙ sym
                (as_set b (verdict_of q) (was ++ rest) (now ++ rest) (before_tail b 0 (verdict_of q) rest was now o.bytes));
            each = o.each;
            stuck = are.stuck;
          },
        )

    -- its report is the same, if the attestation is not sought
    reported : (b : ℕ) (byte : b < 256) (q : Placed) (bytes rest : List ℕ) (ks ls : Messages) →
        AreMessages messages_format bytes ks rest →
        (o : AreChanged S D P n some b byte eq payload bound reading 0 q ks ls) →
        AreMessages messages_format (set bytes (verdict_of q) b) ls rest →
        is_sought (suspected_in rules ks) size q ≡ false → (report : Report S D P (List ℕ)) → IsReport basis bytes report →
        IsReport basis (set bytes (verdict_of q) b) report
    reported b byte q bytes rest ks ls are o now left report is =
        let (once, tail) = messages_once messages_format law bytes is.rest rest is.messages ks is.are_messages are in
        let agreed = agree b byte q ks ls o left in
        let end =
        same_size b 0 (verdict_of q) (flat_map messages_format.encoding ks) (flat_map messages_format.encoding ls) o.bytes in
        record {
          messages = ls;
          rest = rest;
          are_messages = now;
          read_is = is.read_is ∙ (ap length once ∙ sym o.count);
          fault_is = subst (λ (k : ℕ). IsFault messages_format.reading k rest report.fault)
              (ap (λ (ms : Messages). length (flat_map messages_format.encoding ms)) once ∙ sym end)
              (subst (λ (l : List ℕ). IsFault messages_format.reading (length (flat_map messages_format.encoding is.messages)) l
              report.fault) tail is.fault_is);
          evidence_is = decide.evidence ks ls agreed (evidence_in report)
              (subst (λ (ms : Messages). IsEvidence eq (valid_votes rules ms) (evidence_in report)) once is.evidence_is);
          splits_are = decide.splits ks ls agreed report.splits.items
              (subst (λ (ms : Messages). AreSplits rules ms report.splits.items) once is.splits_are);
        }

    -- ---- the verdicts of a stream are overwritten

    module _ (stream rest : List ℕ) (ms : Messages) (are : AreMessages messages_format stream ms rest) where
      -- these bytes are the stream with any verdicts
      pub record IsRewritten (bytes : List ℕ) : Type 0 where
        pub messages : Messages
        pub are_messages : AreMessages messages_format bytes messages rest
        pub same_places : places_of messages ≡ places_of ms
        pub claims : map claim_of (flat_map (votes_in (λ c. c)) messages) ≡ map claim_of (flat_map (votes_in (λ c. c)) ms)

      abbrev must : Placed → Bool
      must = is_sought (suspected_in rules ms) size

      alike : (bytes : List ℕ) (k : IsRewritten bytes) → AreAlike (suspected_in rules k.messages) (suspected_in rules ms)
      alike bytes k = record { signers = decide.signers ms k.messages k.claims; rounds = decide.rounds ms k.messages k.claims }

      rewritten_once : (b : ℕ) → b < 256 → (q : Placed) → Contains (places_of ms) q → (bytes : List ℕ) → IsRewritten bytes →
          IsRewritten (set bytes (verdict_of q) b)
      rewritten_once b byte q q_in bytes k =
          let (ls, o, now) = overwritten b byte q bytes rest k.messages k.are_messages
          (subst (λ (l : List Placed). Contains l q) (sym k.same_places) q_in) in
          record {
            messages = ls;
            are_messages = now;
            same_places = o.same_places 0 ∙ k.same_places;
            claims = o.claims ∙ k.claims;
          }

      rewritten : (other : List ℕ) → DiffersInVerdicts (places_of ms) stream other → IsRewritten other
      rewritten other differs =
          walk_all IsRewritten (λ q. false) (places_of ms) other
          (λ bytes q q_in same k. rewritten_once (get_or other (verdict_of q) 0) (differs.fit (verdict_of q)) q q_in bytes k)
          stream differs.length_is differs.bytes (λ q q_in never. absurd (true≢false (sym never)))
          (record { messages = ms; are_messages = are; same_places = refl; claims = refl })

      abbrev IsReported : Report S D P (List ℕ) → List ℕ → Type 0
      IsReported report bytes = IsRewritten bytes × IsReport basis bytes report

      reported_once : (report : Report S D P (List ℕ)) (b : ℕ) → b < 256 → (q : Placed) → Contains (places_of ms) q →
          (bytes : List ℕ) → (must q ≡ true → b ≡ get_or bytes (verdict_of q) 0) → IsReported report bytes →
          IsReported report (set bytes (verdict_of q) b)
      reported_once report b byte q q_in bytes same (k, is) =
          (elim (must q) as (λ t. must q ≡ t → IsReported report (set bytes (verdict_of q) b)) [
            | true ↦ λ e. subst (IsReported report)
                (sym (ap (set bytes (verdict_of q)) (same e) ∙ set-get_or bytes (verdict_of q) 0)) (k, is)
            | false ↦ λ e.
                let (ls, o, now) = overwritten b byte q bytes rest k.messages k.are_messages
                (subst (λ (l : List Placed). Contains l q) (sym k.same_places) q_in) in (
                  rewritten_once b byte q q_in bytes k,
                  reported b byte q bytes rest k.messages ls k.are_messages o now
                      (one_alike (suspected_in rules k.messages) (suspected_in rules ms) size (alike bytes k) q ∙ e) report is,
                )
          ]) refl

      module _ (found : List AttestationPlace) (found_are : found ≡ sought_of (suspected_in rules ms) size (places_of ms)) where
        pub same_list : (other : List ℕ) → DiffersInVerdicts (places_of ms) stream other →
            HaveToBeVerified basis (places_in S D P n some 0 zero_byte eq payload bound reading) other found
        same_list other differs =
            let k = rewritten other differs in
            record {
              messages = k.messages;
              rest = rest;
              are_messages = k.are_messages;
              found_are = found_are ∙ (ap (sought_of (suspected_in rules ms) size) (sym k.same_places) ∙ sym (sought_alike
                  (suspected_in rules k.messages) (suspected_in rules ms) size (alike other k) (places_of k.messages)));
            }

        pub same_report : (one other : List ℕ) → DiffersInVerdicts (places_of ms) stream one →
            DiffersInVerdicts (places_of ms) stream other → HaveSameVerdicts found one other →
            (report : Report S D P (List ℕ)) → IsReport basis one report → IsReport basis other report
        same_report one other first second same report is =
            let all = places_of ms in
            (walk_all (IsReported report) must all other (λ bytes q q_in alike k.
            reported_once report (get_or other (verdict_of q) 0) (second.fit (verdict_of q)) q q_in bytes alike k)
            one (second.length_is ∙ sym first.length_is)
            (λ i. elim (second.bytes i) [
              | inl e ↦ elim (first.bytes i) [ inl d ↦ inl (e ∙ sym d) | inr c ↦ inr c ]
              | inr c ↦ inr c
            ])
            (λ q q_in passes. sym
            (All-contains (λ (p : Placed). must p ≡ true → get_or one (verdict_of p) 0 ≡ get_or other (verdict_of p) 0) all q
            (each_passing (λ s. get_or one s.verdict_place 0 ≡ get_or other s.verdict_place 0) must all
            (subst (λ l. HaveSameVerdicts l one other) found_are same)) q_in passes))
            (rewritten one first, is)).1

    -- the verdicts of the attestations that have to be verified determine the report
    pub determined : (stream : List ℕ) (found : List AttestationPlace) →
        HaveToBeVerified basis (places_in S D P n some 0 zero_byte eq payload bound reading) stream found →
        DetermineTheReport basis (places_in S D P n some 0 zero_byte eq payload bound reading) stream found
    determined stream found sought =
        let found_in : (ms : Messages) (rest : List ℕ) → AreMessages messages_format stream ms rest →
        found ≡ sought_of (suspected_in rules ms) size (places_of ms) =
        λ ms rest are.
        subst (λ (ks : Messages). found ≡ sought_of (suspected_in rules ks) size (places_of ks)) (messages_once messages_format
        law stream sought.rest rest sought.messages ms sought.are_messages are).0 sought.found_are in
        record {
          same_list = λ ms rest are. same_list stream rest ms are found (found_in ms rest are);
          same_report = λ ms rest are. same_report stream rest ms are found (found_in ms rest are);
        }
