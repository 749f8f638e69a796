-- The reports of all parts make up the report of the whole.
use Rattle.std.proofs.Common.{◌≡◌, ◌+◌, ◌<◌, ◌^◌, ℕ, zero, suc, Bool, true, false, Option, Some, List, [], ◌∷◌, ◌++◌, length, length-append, get_or, map, None, Ordering, refl, sym, ap, subst, ◌∙◌, arith}
use Rattle.std.specs.Prelude.{All, IsPermutation, slice_get, if◌then◌else◌}
use Rattle.std.specs.List.{flat_map}
use Rattle.std.specs.List.Sorted.{IsSortedByKey, IsStrictlySortedBy}
use Rattle.std.specs.Ordering.{is_lt, nat_cmp, ordering_then}
use Rattle.std.proofs.lemmas.Bool.{eqb-true}
use Rattle.std.proofs.lemmas.List.{length-map, map-append}
use Rattle.std.proofs.lemmas.List.Elements.{All-map, All-weaker}
use Rattle.std.proofs.lemmas.List.Sorted.{IsPermutation-map}
use Rattle.std.proofs.lemmas.Option.{same_Some, slice_get-get_or, slice_get_within}
use Rattle.std.proofs.lemmas.Simd.{map-map}
use Rattle.simplex_base.specs.Format.{IsLawful}
use Rattle.simplex_base.specs.Positions.{Round}
use Rattle.simplex_stream.specs.Fault.{IsFault}
use Rattle.simplex_stream.specs.Messages.{AreMessages}
use Rattle.simplex_stream.specs.StreamLaws.{IsNeverEmpty, messages_once}
use Rattle.simplex_stream.specs.declared.fault.Fault.{Fault}
use Rattle.simplex_votes.specs.Votes.{SignedVote}
use Rattle.simplex_evidence.specs.Activity.{activity_round}
use Rattle.simplex_evidence.specs.Contradiction.{Conflicting_finalize, Conflicting_notarize, Equivocation, EquivocationKind, Nullify_finalize}
use Rattle.simplex_evidence.specs.declared.types.activity.Activity.{Activity}
use Rattle.simplex_rules.specs.Accusation.{Accusation, accused_by, accused_cmp, kind_rank, round_cmp, signer_cmp, signer_in, way_of, way_rank}
use Rattle.simplex_rules.specs.Evidence.{IsEquivocation, IsEvidence}
use Rattle.simplex_rules.specs.Independence.{IsOfOneRound, PartsAddUp, in_rounds, of_rounds}
use Rattle.simplex_rules.specs.Rules.{valid_votes}
use Rattle.simplex_rules.specs.Splits.{AreSplits, split_of}
use Rattle.simplex_rules.specs.Values.{evidence_value}
use Rattle.simplex_rules.specs.declared.evidence.Evidence.{Evidence}
use Rattle.simplex_rules.specs.declared.evidence.SignerInRound.{SignerInRound}
use Rattle.simplex_rules.specs.declared.split.Split.{Split}
use Rattle.simplex_audit.specs.Basis.{Basis}
use Rattle.simplex_audit.specs.Report.{IsReport, evidence_in}
use Rattle.simplex_audit.specs.declared.audit.Report.{Report}
use Rattle.simplex_shards.specs.Merge.{IsGathered, sort_key}
use Rattle.simplex_shards.specs.Part.{IsPartReport, is_class}
use Rattle.simplex_shards.specs.Split.{IsSplit, bytes_of, of_class}
use Rattle.simplex_shards.specs.declared.split.Shards.{Shards}
use Rattle.simplex_shards.proofs.AloneLemmas.{accused_within, split_round, splits_alike, votes_alike}
use Rattle.simplex_shards.proofs.CountLemmas.{all_counted, few_messages, reads_add_up}
use Rattle.simplex_shards.proofs.OrderLemmas.{merged_strictly}
use Rattle.simplex_shards.proofs.RoundOrder.{accused_total, exact_round, round_total, tied_round}

-- ---- parts

module _ {X Y : Type 0} (view : X → Y) where
  -- a part of what the reports hold is that of a report
  at_part : (P : Y → Type 0) (xs : List X) (i : ℕ) (y : Y) → ((x : X) → slice_get xs i ≡ Some x → P (view x)) →
      slice_get (map view xs) i ≡ Some y → P y
  at_part P [] i y each e = absurd cc
  at_part P (x ∷ xs) zero y each e = subst P (same_Some (view x) y e) (each x refl)
  at_part P (x ∷ xs) (suc i) y each e = at_part P xs i y each e

-- what the reports hold, one report after another
flat_parts : {X Y Z : Type 0} (items : X → List Y) (view : Y → Z) (xs : List X) →
    map view (flat_map items xs) ≡ flat_map (λ zs. zs) (map (λ x. map view (items x)) xs)
flat_parts items view [] = refl
flat_parts {Z = Z} items view (x ∷ xs) =
    map-append view (items x) (flat_map items xs) ∙ ap (λ (l : List Z). map view (items x) ++ l) (flat_parts items view xs)

flat_lists : {X Y : Type 0} (items : X → List Y) (xs : List X) → flat_map items xs ≡ flat_map (λ ys. ys) (map items xs)
flat_lists items [] = refl
flat_lists {Y = Y} items (x ∷ xs) = ap (λ (l : List Y). items x ++ l) (flat_lists items xs)

-- ---- how the code compares accusations

abbrev pub sort_cmp : SignerInRound × ℕ → SignerInRound × ℕ → Ordering
sort_cmp a b = ordering_then (signer_cmp a.0 b.0) (nat_cmp a.1 b.1)

keys_alike : (a b : Accusation) → accused_cmp a b ≡ sort_cmp (sort_key a) (sort_key b)
keys_alike a b =
    let first = signer_cmp (signer_in a.round a.signer) (signer_in b.round b.signer) in
    ap (λ (n : ℕ). ordering_then first (nat_cmp n (kind_rank b.kind))) (rank_is a.kind)
    ∙ ap (λ (n : ℕ). ordering_then first (nat_cmp (way_rank (way_of a.kind)) n)) (rank_is b.kind)
  where
    rank_is : (kind : EquivocationKind) → kind_rank kind ≡ way_rank (way_of kind)
    rank_is Conflicting_notarize = refl
    rank_is Conflicting_finalize = refl
    rank_is Nullify_finalize = refl

pub sorted_by_accusation : {S D P G : Type 0} (es : List (Evidence S D P G)) →
    IsSortedByKey (λ e. sort_key (accused_by (evidence_value e))) sort_cmp es →
    IsSortedByKey (λ e. accused_by (evidence_value e)) accused_cmp es
sorted_by_accusation es sorted k d low high =
    ap is_lt (keys_alike (accused_by (evidence_value (get_or es (k + 1) d))) (accused_by (evidence_value (get_or es k d))))
    ∙ sorted k d low high

-- what is split has a split
is_some_split : (b : Bool) (s t : Split) → (if b then Some s else None) ≡ Some t → b ≡ true
is_some_split true s t e = refl
is_some_split false s t e = absurd cc

module _ {S D C P G : Type 0} (basis : Basis S D C P G) (law : IsLawful basis.format)
    (one_round : (m : Activity S D C P G) → basis.format.is_value m → IsOfOneRound basis.rules.listed m) where
  -- a report of the part alone is a report of the messages in the part
  pub part_alone : (class : Round → ℕ) (i : ℕ) (bytes : List ℕ) (messages : List (Activity S D C P G)) (part : Report S D P G) →
      All basis.format.is_value messages → AreMessages basis.format bytes (of_class activity_round class i messages) [] →
      IsReport basis bytes part → IsPartReport basis (is_class class i) messages part
  part_alone class i bytes messages part each are is =
      let ks = of_class activity_round class i messages in
      let same : is.messages ≡ ks =
      (messages_once basis.format law bytes is.rest [] is.messages ks is.are_messages are).0 in
      let one = All-weaker basis.format.is_value (IsOfOneRound basis.rules.listed) one_round messages each in
      record {
        read_is = is.read_is ∙ ap length same;
        evidence_is = subst (λ vs. IsEvidence basis.rules.eq vs (evidence_in part))
            (ap (valid_votes basis.rules) same ∙ votes_alike basis.rules (is_class class i) messages one) is.evidence_is;
        splits_are = splits_alike basis.rules (is_class class i) messages one part.splits.items
            (subst (λ ms. AreSplits basis.rules ms part.splits.items) same is.splits_are);
      }

  -- ---- all parts

  module _ (class : Round → ℕ) (messages : List (Activity S D C P G)) (parts : List (Report S D P G))
      (each : (i : ℕ) (part : Report S D P G) → slice_get parts i ≡ Some part →
      IsPartReport basis (is_class class i) messages part)
      (sound : (vs : List (SignedVote D G)) (es : List (Equivocation D G)) → IsEvidence basis.rules.eq vs es →
      All (IsEquivocation basis.rules.eq vs) es) where
    abbrev accused : Evidence S D P G → Accusation
    accused e = accused_by (evidence_value e)

    abbrev evidence_items : Report S D P G → List (Evidence S D P G)
    evidence_items part = part.evidence.items

    abbrev split_items : Report S D P G → List Split
    split_items part = part.splits.items

    -- evidence of all parts in order is in strict order
    evidence_ordered : (ys : List (Evidence S D P G)) → IsPermutation (flat_map evidence_items parts) ys →
        IsSortedByKey accused accused_cmp ys → IsStrictlySortedBy accused_cmp (map accused_by (map evidence_value ys))
    evidence_ordered ys moved sorted =
        subst (IsStrictlySortedBy accused_cmp) (sym (map-map accused_by evidence_value ys))
        (merged_strictly accused accused_cmp accused_total (λ n. class n.round) (λ a b h. ap class (tied_round a b h))
        (map evidence_items parts) ys
        (λ i xs e. at_part evidence_items (λ l. IsStrictlySortedBy accused_cmp (map accused l)) parts i xs
        (λ part at. subst (IsStrictlySortedBy accused_cmp) (map-map accused_by evidence_value part.evidence.items)
        (each i part at).evidence_is.ordered) e)
        (λ i xs e. at_part evidence_items (λ l. All (λ n. class n.round ≡ i) (map accused l)) parts i xs
        (λ part at. subst (All (λ n. class n.round ≡ i)) (map-map accused_by evidence_value part.evidence.items)
        (All-weaker (λ n. is_class class i n.round ≡ true) (λ n. class n.round ≡ i)
        (λ n t. eqb-true (class n.round) i t) (map accused_by (evidence_in part))
        (accused_within basis.rules (is_class class i) messages (evidence_in part)
        (sound _ (evidence_in part) (each i part at).evidence_is)))) e)
        (subst (λ (l : List (Evidence S D P G)). IsPermutation l ys) (flat_lists evidence_items parts) moved) sorted)

    splits_ordered : (ys : List Split) → IsPermutation (flat_map split_items parts) ys →
        IsSortedByKey (λ s. s.round) round_cmp ys → IsStrictlySortedBy round_cmp (map (λ s. s.round) ys)
    splits_ordered ys moved sorted =
        merged_strictly (λ (s : Split). s.round) round_cmp round_total class (λ a b h. ap class (exact_round a b h))
        (map split_items parts) ys
        (λ i xs e. at_part split_items (λ l. IsStrictlySortedBy round_cmp (map (λ s. s.round) l)) parts i xs
        (λ part at. (each i part at).splits_are.ordered) e)
        (λ i xs e. at_part split_items (λ l. All (λ r. class r ≡ i) (map (λ s. s.round) l)) parts i xs
        (λ part at. All-map (λ r. class r ≡ i) (λ (s : Split). s.round) part.splits.items
        (All-weaker (λ s. split_of (in_rounds (is_class class i) basis.rules) messages s.round ≡ Some s)
        (λ s. class s.round ≡ i) (λ s is. eqb-true (class s.round) i
        (split_round basis.rules (is_class class i) messages s.round (is_some_split _ _ s is)))
        part.splits.items (each i part at).splits_are.sound)) e)
        (subst (λ (l : List Split). IsPermutation l ys) (flat_lists split_items parts) moved) sorted

    -- sorted, they are the report of all messages
    pub merges : (stream rest : List ℕ) (fault : Option Fault) (gathered report : Report S D P G) →
        IsNeverEmpty basis.format → PartsAddUp basis.rules messages class → length stream < 2 ^ 64 →
        ((round : Round) → class round < length parts) → AreMessages basis.format stream messages rest →
        IsFault basis.format.reading (length (flat_map basis.format.encoding messages)) rest fault →
        IsGathered parts gathered → IsPermutation gathered.evidence.items report.evidence.items →
        IsSortedByKey accused accused_cmp report.evidence.items →
        IsPermutation gathered.splits.items report.splits.items →
        IsSortedByKey (λ s. s.round) round_cmp report.splits.items → report.read ≡ gathered.read →
        report.fault ≡ fault → IsReport basis stream report
    merges stream rest fault gathered report some add_up short within are here all moved sorted shifted ordered read same =
        let evidence_moved =
        subst (λ (l : List (Evidence S D P G)). IsPermutation l report.evidence.items) all.evidence moved in
        let splits_moved = subst (λ (l : List Split). IsPermutation l report.splits.items) all.splits shifted in
        record {
          messages = messages;
          rest = rest;
          are_messages = are;
          read_is =
              let sum = reads_add_up (λ (part : Report S D P G). part.read)
              (λ i. length (of_rounds (is_class class i) messages)) 0 parts
              (λ i part e. (each i part e).read_is
              ∙ ap (λ (n : ℕ). length (of_rounds (is_class class n) messages)) (omega arith)) in
              let counted = all_counted (λ m. class (activity_round m)) (length parts) messages
              (λ m. within (activity_round m)) in
              let few = few_messages basis.format.encoding some messages in
              let len = ap length are.whole in
              let total = all.read in
              omega (
                arith,
                sum,
                counted,
                few,
                len,
                total,
                read,
                short,
                length-append (flat_map basis.format.encoding messages) rest,
              );
          fault_is = subst (λ (f : Option Fault). IsFault basis.format.reading
              (length (flat_map basis.format.encoding messages)) rest f) (sym same) here;
          evidence_is = add_up.evidence (map evidence_in parts)
              (λ round. subst (λ (n : ℕ). class round < n) (sym (length-map parts evidence_in)) (within round))
              (λ i es e. at_part evidence_in (IsEvidence basis.rules.eq
              (valid_votes (in_rounds (is_class class i) basis.rules) messages)) parts i es
              (λ part at. (each i part at).evidence_is) e)
              (evidence_in report)
              (subst (λ (l : List (Equivocation D G)). IsPermutation l (evidence_in report))
              (flat_parts evidence_items evidence_value parts)
              (IsPermutation-map evidence_value (flat_map evidence_items parts) report.evidence.items evidence_moved))
              (evidence_ordered report.evidence.items evidence_moved sorted);
          splits_are = add_up.splits (map split_items parts)
              (λ round. subst (λ (n : ℕ). class round < n) (sym (length-map parts split_items)) (within round))
              (λ i ss e. at_part split_items (AreSplits (in_rounds (is_class class i) basis.rules) messages) parts i ss
              (λ part at. (each i part at).splits_are) e)
              report.splits.items
              (subst (λ (l : List Split). IsPermutation l report.splits.items) (flat_lists split_items parts) splits_moved)
              (splits_ordered report.splits.items splits_moved ordered);
        }

  -- ---- parts that were cut

  -- each report of a part that was cut is the report of the stream's messages in its class
  pub merges_shards : (class : Round → ℕ) (classes : ℕ) (stream : List ℕ) (shards : Shards) (parts : List (Report S D P G)) →
      length parts ≡ classes → (cut : IsSplit basis.format activity_round class classes stream shards) →
      ((i : ℕ) (bytes : List ℕ) (part : Report S D P G) → slice_get (bytes_of shards) i ≡ Some bytes →
      slice_get parts i ≡ Some part → IsReport basis bytes part) →
      (i : ℕ) (part : Report S D P G) → slice_get parts i ≡ Some part →
      IsPartReport basis (is_class class i) cut.messages part
  merges_shards class classes stream shards parts count cut reports i part at =
      let within = slice_get_within parts i part at in
      let whole = cut.parts_are.count in
      let here : i < length (bytes_of shards) = omega (arith, within, whole, count) in
      let some = slice_get-get_or (bytes_of shards) i [] here in
      let bytes = get_or (bytes_of shards) i [] in
      part_alone class i bytes cut.messages part cut.are_messages.each (cut.parts_are.each i bytes some)
      (reports i bytes part some at)
