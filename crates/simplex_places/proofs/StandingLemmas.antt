-- The votes of a message stand where the places of its attestations say.
use Rattle.std.proofs.Common.{◌≡◌, ℕ, ◌+◌, ◌-◌, ◌<◌, ◌≤◌, Bool, true, false, List, [], ◌∷◌, ◌++◌, length, map, take, drop, refl, sym, ap, subst, ◌∙◌, arith, append_assoc, length-append}
use Rattle.std.specs.List.{AllZip, flat_map}
use Rattle.std.proofs.lemmas.Grind.{flat_map-append}
use Rattle.std.proofs.lemmas.List.{take_at, drop_at}
use Rattle.simplex_base.specs.Format.{Format}
use Rattle.simplex_base.specs.Varint.{number_32}
use Rattle.simplex_base.specs.VarintLaws.{groups_some}
use Rattle.simplex_scheme.specs.Attestation.{attestation_format}
use Rattle.simplex_scheme.specs.Subject.{SubjectValue, Notarizes, Nullifies, Finalizes, message_of}
use Rattle.simplex_scheme.specs.declared.scheme.Attestation.{Attestation}
use Rattle.simplex_schemes.specs.Listed.{listed_encoding}
use Rattle.simplex_votes.specs.Votes.{SignedVote, vote_on}
use Rattle.simplex_evidence.specs.Activity.{activity_body, activity_encoding, activity_tag, votes_in}
use Rattle.simplex_evidence.specs.declared.types.activity.Activity.{Activity}
use Rattle.simplex_evidence.specs.declared.types.activity.Activity.TheVariants as activity
use Rattle.simplex_places.specs.Bytes.{IsVoteAt}
use Rattle.simplex_places.specs.Places.{behind, certificate_places, message_places, pair_places, placed_at, places_from, signed_at, vote_places}
use Rattle.simplex_places.specs.declared.places.Placed.{Placed}

-- the vote as it stands in the stream, its subject from one place on, and its signature behind that and before another place
pub record Stands {D G : Type 0} (payload : Format D) (signature : Format G) (stream : List ℕ) (from to : ℕ)
    (v : SignedVote D G) (p : Placed) : Type 0 where
  pub vote_is : IsVoteAt payload signature stream v p.attestation
  pub begins : from ≤ p.attestation.subject_place
  pub before : p.attestation.subject_place + p.attestation.subject_length ≤ p.attestation.verdict_place
  pub ends : p.attestation.verdict_place < to

-- Certificates are encoded as the attestations that they list.
module _ {S D C P G : Type 0} (eq : D → D → Bool) (payload : Format D) (certificate : C → List ℕ) (signature : Format G)
    (listed : C → List (Attestation S P G))
    (counted : (c : C) → certificate c ≡ listed_encoding signature (listed c)) (stream : List ℕ) (from to : ℕ) where
  -- an attestation
  abbrev pub bytes_of : Attestation S P G → List ℕ
  bytes_of a = (attestation_format signature).encoding a

  abbrev pub IsStanding : SignedVote D G → Placed → Type 0
  IsStanding = Stands payload signature stream from to

  -- one attestation, behind its subject and some bytes
  one_stands : (front between tail : List ℕ) (place next : ℕ) (x : SubjectValue D) (is_listed : Bool)
      (a : Attestation S P G) → from ≤ place → next + length (bytes_of a) ≤ to →
      place ≡ length front → next ≡ length front + length (message_of payload x) + length between →
      stream ≡ front ++ (message_of payload x ++ (between ++ (bytes_of a ++ tail))) →
      IsStanding (vote_on x a) (placed_at (signed_at payload place x is_listed) a.signer (behind signature next a - 1))
  one_stands front between tail place next x is_listed a begins ends at after whole =
      let subject = message_of payload x in
      let number = number_32.encoding a.signer in
      let signed = signature.encoding a.signature in
      let before = ((front ++ subject) ++ between) ++ number in
      let some = groups_some 4 a.signer in
      let size : length (bytes_of a) ≡ length number + length signed = length-append number signed in
      let all : stream ≡ (before ++ signed) ++ tail =
      whole
      ∙ (sym (append_assoc front subject (between ++ (bytes_of a ++ tail)))
      ∙ (sym (append_assoc (front ++ subject) between (bytes_of a ++ tail))
      ∙ (sym (append_assoc ((front ++ subject) ++ between) (number ++ signed) tail)
      ∙ ap (λ (l : List ℕ). l ++ tail) (sym (append_assoc ((front ++ subject) ++ between) number signed))))) in
      let begun : length (before ++ signed) ≡ length front + length subject + length between + (length number + length signed) =
      omega (
        arith,
        length-append before signed,
        length-append ((front ++ subject) ++ between) number,
        length-append (front ++ subject) between,
        length-append front subject,
      ) in
      let long : length (before ++ signed) ≡ ((next + length (bytes_of a)) - 1) + 1 = omega (arith, begun, after, size, some) in
      let most : (next + length (bytes_of a)) - 1 < length stream =
      omega (arith, long, ap length all, length-append (before ++ signed) tail) in
      record {
        vote_is = record {
          epoch_is = refl;
          view_is = refl;
          kind_is = refl;
          signer_is = refl;
          subject_is = ap (λ (n : ℕ). take (length subject) (drop n stream)) at
              ∙ (ap (λ (l : List ℕ). take (length subject) (drop (length front) l)) whole
              ∙ (ap (take (length subject)) (drop_at front (subject ++ (between ++ (bytes_of a ++ tail))) (length front) refl)
              ∙ take_at subject (between ++ (bytes_of a ++ tail)) (length subject) refl));
          within = most;
          before = before;
          signature_is = ap (take (((next + length (bytes_of a)) - 1) + 1)) all
              ∙ take_at (before ++ signed) tail (((next + length (bytes_of a)) - 1) + 1) long;
        };
        begins = begins;
        before = omega (arith, at, after, size, some);
        ends = omega (arith, ends, size, some);
      }

  -- attestations one after another
  from_stands : (front between tail : List ℕ) (place next : ℕ) (x : SubjectValue D) (is_listed : Bool)
      (xs : List (Attestation S P G)) → from ≤ place → next + length (flat_map bytes_of xs) ≤ to →
      place ≡ length front → next ≡ length front + length (message_of payload x) + length between →
      stream ≡ front ++ (message_of payload x ++ (between ++ (flat_map bytes_of xs ++ tail))) →
      AllZip IsStanding (map (vote_on x) xs) (places_from signature (signed_at payload place x is_listed) next xs)
  from_stands front between tail place next x is_listed [] begins ends at after whole = tt
  from_stands front between tail place next x is_listed (a ∷ xs) begins ends at after whole =
      let subject = message_of payload x in
      let others = flat_map bytes_of xs in
      let size : length (bytes_of a ++ others) ≡ length (bytes_of a) + length others = length-append (bytes_of a) others in
      let here : stream ≡ front ++ (subject ++ (between ++ (bytes_of a ++ (others ++ tail)))) =
      whole ∙ ap (λ (l : List ℕ). front ++ (subject ++ (between ++ l))) (append_assoc (bytes_of a) others tail) in
      let there : stream ≡ front ++ (subject ++ ((between ++ bytes_of a) ++ (others ++ tail))) =
      here ∙ ap (λ (l : List ℕ). front ++ (subject ++ l)) (sym (append_assoc between (bytes_of a) (others ++ tail))) in
      let further : next + length (bytes_of a) ≡ length front + length subject + length (between ++ bytes_of a) =
      omega (arith, after, length-append between (bytes_of a)) in (
        one_stands front between (others ++ tail) place next x is_listed a begins (omega (arith, ends, size)) at after here,
        from_stands front (between ++ bytes_of a) tail place (behind signature next a) x is_listed xs begins
            (omega (arith, ends, size)) at further there,
      )

  -- a vote: its subject, and then its attestation
  vote_stands : (front tail : List ℕ) (place : ℕ) (x : SubjectValue D) (a : Attestation S P G) → from ≤ place →
      place + length (message_of payload x ++ bytes_of a) ≤ to → place ≡ length front →
      stream ≡ front ++ ((message_of payload x ++ bytes_of a) ++ tail) →
      AllZip IsStanding (vote_on x a ∷ []) (vote_places payload signature place x a)
  vote_stands front tail place x a begins ends at whole =
      let subject = message_of payload x in
      let size = length-append subject (bytes_of a) in
      let after : place + length subject ≡ length front + length subject + 0 = omega (arith, at) in (
        one_stands front [] tail place (place + length subject) x false a begins (omega (arith, ends, size)) at after
            (whole ∙ ap (λ (l : List ℕ). front ++ l) (append_assoc subject (bytes_of a) tail)),
        tt,
      )

  -- two votes one after the other
  pair_stands : (front tail : List ℕ) (place : ℕ) (x : SubjectValue D) (a : Attestation S P G)
      (y : SubjectValue D) (b : Attestation S P G) → from ≤ place →
      place + length ((message_of payload x ++ bytes_of a) ++ (message_of payload y ++ bytes_of b)) ≤ to →
      place ≡ length front →
      stream ≡ front ++ (((message_of payload x ++ bytes_of a) ++ (message_of payload y ++ bytes_of b)) ++ tail) →
      AllZip IsStanding (vote_on x a ∷ vote_on y b ∷ []) (pair_places payload signature place x a y b)
  pair_stands front tail place x a y b begins ends at whole =
      let first = message_of payload x ++ bytes_of a in
      let second = message_of payload y ++ bytes_of b in
      let size = length-append first second in
      let here : stream ≡ front ++ (first ++ (second ++ tail)) =
      whole ∙ ap (λ (l : List ℕ). front ++ l) (append_assoc first second tail) in
      let next : place + length first ≡ length (front ++ first) = omega (arith, at, length-append front first) in (
        (vote_stands front (second ++ tail) place x a begins (omega (arith, ends, size)) at here).0,
        vote_stands (front ++ first) tail (place + length first) y b (omega (arith, begins)) (omega (arith, ends, size)) next
            (here ∙ sym (append_assoc front first (second ++ tail))),
      )

  -- a certificate: its subject, how many attestations it lists, and then they
  certificate_stands : (front tail : List ℕ) (place : ℕ) (x : SubjectValue D) (c : C) → from ≤ place →
      place + length (message_of payload x ++ certificate c) ≤ to → place ≡ length front →
      stream ≡ front ++ ((message_of payload x ++ certificate c) ++ tail) →
      AllZip IsStanding (map (vote_on x) (listed c)) (certificate_places payload signature place x (listed c))
  certificate_stands front tail place x c begins ends at whole =
      let subject = message_of payload x in
      let count = number_32.encoding (length (listed c)) in
      let all = flat_map bytes_of (listed c) in
      let size = length-append subject (certificate c) in
      let parts : length (certificate c) ≡ length count + length all = ap length (counted c) ∙ length-append count all in
      let after : place + length subject + length count ≡ length front + length subject + length count = omega (arith, at) in
      from_stands front count tail place (place + length subject + length count) x true (listed c) begins
      (omega (arith, ends, size, parts)) at after
      (whole
      ∙ (ap (λ (l : List ℕ). front ++ ((subject ++ l) ++ tail)) (counted c)
      ∙ (ap (λ (l : List ℕ). front ++ l) (append_assoc subject (count ++ all) tail)
      ∙ ap (λ (l : List ℕ). front ++ (subject ++ l)) (append_assoc count all tail))))

  -- the votes of a message, behind its tag
  body_stands : (front tail : List ℕ) (place : ℕ) (m : Activity S D C P G) → from ≤ place + 1 →
      place + 1 + length (activity_body eq payload certificate signature m) ≤ to → place + 1 ≡ length front →
      stream ≡ front ++ (activity_body eq payload certificate signature m ++ tail) →
      AllZip IsStanding (votes_in listed m) (message_places payload signature listed place m)
  body_stands front tail place (activity.Notarize v) begins ends at whole =
      vote_stands front tail (place + 1) (Notarizes v.proposal) v.attestation begins ends at whole
  body_stands front tail place (activity.Notarization n) begins ends at whole =
      certificate_stands front tail (place + 1) (Notarizes n.proposal) n.certificate begins ends at whole
  body_stands front tail place (activity.Certification n) begins ends at whole =
      certificate_stands front tail (place + 1) (Notarizes n.proposal) n.certificate begins ends at whole
  body_stands front tail place (activity.Nullify v) begins ends at whole =
      vote_stands front tail (place + 1) (Nullifies v.round) v.attestation begins ends at whole
  body_stands front tail place (activity.Nullification n) begins ends at whole =
      certificate_stands front tail (place + 1) (Nullifies n.round) n.certificate begins ends at whole
  body_stands front tail place (activity.Finalize v) begins ends at whole =
      vote_stands front tail (place + 1) (Finalizes v.proposal) v.attestation begins ends at whole
  body_stands front tail place (activity.Finalization n) begins ends at whole =
      certificate_stands front tail (place + 1) (Finalizes n.proposal) n.certificate begins ends at whole
  body_stands front tail place (activity.ConflictingNotarize c) begins ends at whole =
      pair_stands front tail (place + 1) (Notarizes c.first.proposal) c.first.attestation (Notarizes c.second.proposal)
      c.second.attestation begins ends at whole
  body_stands front tail place (activity.ConflictingFinalize c) begins ends at whole =
      pair_stands front tail (place + 1) (Finalizes c.first.proposal) c.first.attestation (Finalizes c.second.proposal)
      c.second.attestation begins ends at whole
  body_stands front tail place (activity.NullifyFinalize c) begins ends at whole =
      pair_stands front tail (place + 1) (Nullifies c.first.round) c.first.attestation (Finalizes c.second.proposal)
      c.second.attestation begins ends at whole

module _ {S D C P G : Type 0} (eq : D → D → Bool) (payload : Format D) (certificate : C → List ℕ) (signature : Format G)
    (listed : C → List (Attestation S P G))
    (counted : (c : C) → certificate c ≡ listed_encoding signature (listed c)) (stream : List ℕ) where
  abbrev pub bytes_in : Activity S D C P G → List ℕ
  bytes_in m = activity_encoding eq payload certificate signature m

  -- a vote of a message that begins at a place
  abbrev pub StandsIn : ℕ → Activity S D C P G → SignedVote D G → Placed → Type 0
  StandsIn place m = Stands payload signature stream (place + 1) (place + length (bytes_in m))

  -- the votes of a message, behind some bytes
  pub message_stands : (front tail : List ℕ) (m : Activity S D C P G) → stream ≡ front ++ (bytes_in m ++ tail) →
      AllZip (StandsIn (length front) m) (votes_in listed m) (message_places payload signature listed (length front) m)
  message_stands front tail m whole =
      let tag = activity_tag m ∷ [] in
      let body = activity_body eq payload certificate signature m in
      let place = length front in
      let inside : place + 1 ≡ length (front ++ tag) = omega (arith, length-append front tag) in
      body_stands eq payload certificate signature listed counted stream (place + 1) (place + length (bytes_in m))
      (front ++ tag) tail place m (omega arith) (omega arith) inside (whole ∙ sym (append_assoc front tag (body ++ tail)))

  -- the votes of one of some messages
  pub message_within : (messages : List (Activity S D C P G)) (rest : List ℕ) → stream ≡ flat_map bytes_in messages ++ rest →
      (before : List (Activity S D C P G)) (m : Activity S D C P G) (others : List (Activity S D C P G)) →
      messages ≡ before ++ m ∷ others → (place : ℕ) → place ≡ length (flat_map bytes_in before) →
      AllZip (StandsIn place m) (votes_in listed m) (message_places payload signature listed place m)
  message_within messages rest whole before m others are place at =
      let front = flat_map bytes_in before in
      let behind = flat_map bytes_in others in
      let all : stream ≡ front ++ (bytes_in m ++ (behind ++ rest)) =
      whole
      ∙ (ap (λ (ms : List (Activity S D C P G)). flat_map bytes_in ms ++ rest) are
      ∙ (ap (λ (l : List ℕ). l ++ rest) (flat_map-append bytes_in before (m ∷ others))
      ∙ (append_assoc front (bytes_in m ++ behind) rest
      ∙ ap (λ (l : List ℕ). front ++ l) (append_assoc (bytes_in m) behind rest)))) in
      subst (λ (n : ℕ). AllZip (StandsIn n m) (votes_in listed m) (message_places payload signature listed n m)) (sym at)
      (message_stands front (behind ++ rest) m all)
