-- The verdict of one attestation is overwritten: what becomes of the messages.
use Rattle.std.proofs.Common.{◌≡◌, ℕ, zero, suc, ◌+◌, ◌-◌, ◌<◌, ◌≤◌, Bool, true, false, cond, Option, Some, None, List, [], ◌∷◌, ◌++◌, length, map, get_or, inl, inr, set, take, refl, sym, ap, subst, ◌∙◌, arith, append_assoc, length-append}
use Rattle.std.specs.Prelude.{◌⊎◌, All, Contains, filter}
use Rattle.std.specs.List.{cons_option, flat_map}
use Rattle.std.proofs.lemmas.List.{map-append, set_at, take_all, take_more, length-take-le}
use Rattle.std.proofs.lemmas.List.Elements.{All-cons, All-head, All-tail, Contains-append_cases, Contains-append_right, Contains-get_or, filter-append}
use Rattle.simplex_base.specs.Format.{Format, fixed}
use Rattle.simplex_base.specs.Reading.{IsBytes, Reading}
use Rattle.simplex_base.specs.Varint.{number_32}
use Rattle.simplex_scheme.specs.Attestation.{attestation_format}
use Rattle.simplex_scheme.specs.Subject.{SubjectValue, Notarizes, Nullifies, Finalizes, message_of, round_of}
use Rattle.simplex_scheme.specs.declared.scheme.Attestation.{Attestation}
use Rattle.simplex_schemes.specs.Listed.{ListedFits, listed_encoding}
use Rattle.simplex_votes.specs.Votes.{SignedVote, vote_on}
use Rattle.simplex_votes.specs.declared.types.finalize.Finalize.{Finalize}
use Rattle.simplex_votes.specs.declared.types.notarize.Notarize.{Notarize}
use Rattle.simplex_votes.specs.declared.types.nullify.Nullify.{Nullify}
use Rattle.simplex_evidence.specs.Activity.{activity_format, subject_and_certificate, votes_in}
use Rattle.simplex_evidence.specs.declared.types.activity.Activity.{Activity}
use Rattle.simplex_evidence.specs.declared.types.activity.Activity.TheVariants as activity
use Rattle.simplex_rules.specs.FirstCertified.{certified_subjects}
use Rattle.simplex_rules.specs.Rules.{Rules}
use Rattle.simplex_rules.specs.Splits.{certified_in, if_certified}
use Rattle.simplex_rules.specs.Agreement.{claim_of}
use Rattle.simplex_places.specs.Places.{behind, certificate_places, message_places, pair_places, placed_at, places_along, places_from, signed_at, vote_places}
use Rattle.simplex_places.specs.Suspects.{round_at}
use Rattle.simplex_places.specs.declared.places.Placed.{Placed}
use Rattle.simplex_places.specs.declared.places.Signed.{Signed}

-- ---- bytes

-- `others` are the bytes, which begin at a place, with the byte at the place `verdict` overwritten
pub record IsOverwritten (b place verdict : ℕ) (bytes others : List ℕ) : Type 0 where
  pub before : List ℕ
  pub old : ℕ
  pub after : List ℕ
  pub bytes_are : bytes ≡ before ++ old ∷ after
  pub others_are : others ≡ before ++ b ∷ after
  pub at : verdict ≡ place + length before

module _ (b place verdict : ℕ) where
  -- behind other bytes
  pub behind_front : (next : ℕ) (front bytes others : List ℕ) → next ≡ place + length front →
      IsOverwritten b next verdict bytes others → IsOverwritten b place verdict (front ++ bytes) (front ++ others)
  behind_front next front bytes others is o =
      let at = o.at in
      record {
        before = front ++ o.before;
        old = o.old;
        after = o.after;
        bytes_are = ap (λ (l : List ℕ). front ++ l) o.bytes_are ∙ sym (append_assoc front o.before (o.old ∷ o.after));
        others_are = ap (λ (l : List ℕ). front ++ l) o.others_are ∙ sym (append_assoc front o.before (b ∷ o.after));
        at = omega (arith, at, is, length-append front o.before);
      }

  -- before other bytes
  pub before_tail : (tail bytes others : List ℕ) → IsOverwritten b place verdict bytes others →
      IsOverwritten b place verdict (bytes ++ tail) (others ++ tail)
  before_tail tail bytes others o = record {
    before = o.before;
    old = o.old;
    after = o.after ++ tail;
    bytes_are = ap (λ (l : List ℕ). l ++ tail) o.bytes_are ∙ append_assoc o.before (o.old ∷ o.after) tail;
    others_are = ap (λ (l : List ℕ). l ++ tail) o.others_are ∙ append_assoc o.before (b ∷ o.after) tail;
    at = o.at;
  }

  -- as many bytes
  pub same_size : (bytes others : List ℕ) → IsOverwritten b place verdict bytes others → length others ≡ length bytes
  same_size bytes others o =
      let one : length (o.before ++ b ∷ o.after) ≡ length (o.before ++ o.old ∷ o.after) =
      omega (arith, length-append o.before (b ∷ o.after), length-append o.before (o.old ∷ o.after)) in
      ap length o.others_are ∙ (one ∙ sym (ap length o.bytes_are))

-- one byte is set
pub as_set : (b verdict : ℕ) (bytes others : List ℕ) → IsOverwritten b 0 verdict bytes others → others ≡ set bytes verdict b
as_set b verdict bytes others o =
    let at = o.at in
    o.others_are
    ∙ sym (ap (λ (l : List ℕ). set l verdict b) o.bytes_are ∙ set_at o.before o.old o.after b verdict (omega (arith, at)))

-- bytes with another last byte
bytes_with : (b : ℕ) → b < 256 → (k : ℕ) (xs : List ℕ) → IsBytes xs → IsBytes (take k xs ++ b ∷ [])
bytes_with b byte zero xs fit zero = byte
bytes_with b byte zero xs fit (suc i) = omega arith
bytes_with b byte (suc k) [] fit zero = byte
bytes_with b byte (suc k) [] fit (suc i) = omega arith
bytes_with b byte (suc k) (x ∷ xs) fit zero = fit zero
bytes_with b byte (suc k) (x ∷ xs) fit (suc i) = bytes_with b byte k xs (λ e. fit (suc e)) i

-- ---- lists

pub first_or_later : {X : Type 0} (x : X) (xs : List X) (y : X) → Contains (x ∷ xs) y → (x ≡ y) ⊎ Contains xs y
first_or_later x xs y (k, within, is) =
    (elim k as (λ n. n < length (x ∷ xs) → get_or (x ∷ xs) n y ≡ y → (x ≡ y) ⊎ Contains xs y) [
      | zero ↦ λ w e. inl e
      | suc j ↦ λ w e. inr (j, omega (arith, w), e)
    ]) within is

pub none_contained : {X : Type 0} (y : X) → Contains [] y → ⊥
none_contained y (k, within, is) = omega (arith, within)

pub only_one : {X : Type 0} (x y : X) → Contains (x ∷ []) y → x ≡ y
only_one x y c = elim (first_or_later x [] y c) [ inl e ↦ e | inr n ↦ absurd (none_contained y n) ]

-- an item, if there is one
abbrev items_of : {X : Type 0} → Option X → List X
items_of o = cons_option o []

filter_option : {X : Type 0} (p : X → Bool) (o : Option X) (xs : List X) →
    filter p (cons_option o xs) ≡ filter p (items_of o) ++ filter p xs
filter_option p None xs = refl
filter_option p (Some x) xs =
    elim (p x) as (λ b. cond b (x ∷ filter p xs) (filter p xs) ≡ cond b (x ∷ []) [] ++ filter p xs)
    [ true ↦ refl | false ↦ refl ]

-- ---- signatures of n bytes

module _ (S D P : Type 0) (n : ℕ) (some : 1 ≤ n) (b : ℕ) (byte : b < 256) where
  abbrev pub Voted : Type 0
  Voted = Attestation S P (List ℕ)

  abbrev pub signature : Format (List ℕ)
  signature = fixed n (λ bytes. bytes) (λ bytes. bytes)

  abbrev pub bytes_of : Voted → List ℕ
  bytes_of a = (attestation_format signature).encoding a

  abbrev pub IsVoted : Voted → Type 0
  IsVoted a = (attestation_format {S = S} {P = P} signature).is_value a

  -- the attestation with the verdict b
  abbrev pub with_verdict : Voted → Voted
  with_verdict a = record { signer = a.signer; signature = take (n - 1) a.signature ++ b ∷ [] }

  one_short : (a : Voted) → IsVoted a → length (take (n - 1) a.signature) ≡ n - 1
  one_short a fits = let len = fits.1.len in length-take-le (n - 1) a.signature (omega (arith, len, some))

  one_fits : (a : Voted) → IsVoted a → IsVoted (with_verdict a)
  one_fits a fits =
      let short = one_short a fits in (
        fits.0,
        record {
          len = omega (arith, short, some, length-append (take (n - 1) a.signature) (b ∷ []));
          fit = bytes_with b byte (n - 1) a.signature fits.1.fit;
        },
      )

  one_overwritten : (place : ℕ) (a : Voted) → IsVoted a →
      IsOverwritten b place (behind signature place a - 1) (bytes_of a) (bytes_of (with_verdict a))
  one_overwritten place a fits =
      let number = number_32.encoding a.signer in
      let signed = a.signature in
      let front = take (n - 1) signed in
      let last = get_or signed (n - 1) 0 in
      let len : length signed ≡ n = fits.1.len in
      let short = one_short a fits in
      let whole : n ≡ n - 1 + 1 = omega (arith, some) in
      let cut : signed ≡ front ++ last ∷ [] =
      sym (take_all n signed (omega (arith, len)))
      ∙ (ap (λ (k : ℕ). take k signed) whole ∙ take_more signed (n - 1) 0 (omega (arith, len, some))) in
      record {
        before = number ++ front;
        old = last;
        after = [];
        bytes_are = ap (λ (l : List ℕ). number ++ l) cut ∙ sym (append_assoc number front (last ∷ []));
        others_are = sym (append_assoc number front (b ∷ []));
        at = omega (arith, length-append number front, length-append number signed, len, short, some);
      }

  -- the attestation ends where it did
  same_end : (place : ℕ) (a : Voted) → IsVoted a → behind signature place (with_verdict a) ≡ behind signature place a
  same_end place a fits =
      ap (λ (k : ℕ). place + k)
      (same_size b place (behind signature place a - 1) (bytes_of a) (bytes_of (with_verdict a)) (one_overwritten place a fits))

  -- votes that do not pass, whatever is their signature
  one_filtered : (x : SubjectValue D) (a : Voted) (test : SignedVote D (List ℕ) → Bool) →
      ((g : List ℕ) → test (record { subject = x; signer = a.signer; signature = g }) ≡ false) →
      (vs : List (SignedVote D (List ℕ))) → filter test (vote_on x (with_verdict a) ∷ vs) ≡ filter test (vote_on x a ∷ vs)
  one_filtered x a test none vs =
      ap (λ (t : Bool). cond t (vote_on x (with_verdict a) ∷ filter test vs) (filter test vs)) (none (with_verdict a).signature)
      ∙ sym (ap (λ (t : Bool). cond t (vote_on x a ∷ filter test vs) (filter test vs)) (none a.signature))

  -- ---- attestations one after another

  -- `ys` are the attestations `xs` of what was signed, from a place on, with the verdict of `q` overwritten
  pub record AreOverwritten (signed : Signed) (place : ℕ) (q : Placed) (xs ys : List Voted) : Type 0 where
    pub is_listed : q.is_listed ≡ signed.is_listed
    pub round : signed.round ≡ round_at q.attestation
    pub bytes : IsOverwritten b place q.attestation.verdict_place (flat_map bytes_of xs) (flat_map bytes_of ys)
    pub each : All IsVoted ys
    pub size : length ys ≡ length xs
    pub signers : (k : ℕ) (d : Voted) → (get_or ys k d).signer ≡ (get_or xs k d).signer
    pub signed_then : Contains (map (λ a. a.signer) xs) q.attestation.signer
    pub signed_now : Contains (map (λ a. a.signer) ys) q.attestation.signer
    pub places : (s : Signed) (p : ℕ) → places_from signature s p ys ≡ places_from signature s p xs
    pub claims : (x : SubjectValue D) → map claim_of (map (vote_on x) ys) ≡ map claim_of (map (vote_on x) xs)
    pub votes : (x : SubjectValue D) (test : SignedVote D (List ℕ) → Bool) →
        ((g : List ℕ) → test (record { subject = x; signer = q.attestation.signer; signature = g }) ≡ false) →
        filter test (map (vote_on x) ys) ≡ filter test (map (vote_on x) xs)

  here : (signed : Signed) (place : ℕ) (a : Voted) (xs : List Voted) → All IsVoted (a ∷ xs) →
      AreOverwritten signed place (placed_at signed a.signer (behind signature place a - 1)) (a ∷ xs) (with_verdict a ∷ xs)
  here signed place a xs fits =
      let fit = All-head IsVoted a xs fits in
      let signers : List Voted → List ℕ = map (λ (c : Voted). c.signer) in
      record {
        is_listed = refl;
        round = refl;
        bytes = before_tail b place (behind signature place a - 1) (flat_map bytes_of xs) (bytes_of a)
            (bytes_of (with_verdict a)) (one_overwritten place a fit);
        each = All-cons IsVoted (with_verdict a) xs (one_fits a fit) (All-tail IsVoted a xs fits);
        size = refl;
        signers = λ k d. elim k as (λ e. (get_or (with_verdict a ∷ xs) e d).signer ≡ (get_or (a ∷ xs) e d).signer)
            [ zero ↦ refl | suc j ↦ refl ];
        signed_then = Contains-get_or (a.signer ∷ signers xs) 0 a.signer (omega arith);
        signed_now = Contains-get_or (a.signer ∷ signers xs) 0 a.signer (omega arith);
        places = λ s p. ap (λ (e : ℕ). placed_at s a.signer (e - 1) ∷ places_from signature s e xs) (same_end p a fit);
        claims = λ x. refl;
        votes = λ x test none. one_filtered x a test none (map (vote_on x) xs);
      }

  later : (signed : Signed) (place : ℕ) (a : Voted) (xs ys : List Voted) (q : Placed) → IsVoted a →
      AreOverwritten signed (behind signature place a) q xs ys → AreOverwritten signed place q (a ∷ xs) (a ∷ ys)
  later signed place a xs ys q fit o =
      let size = o.size in
      record {
        is_listed = o.is_listed;
        round = o.round;
        bytes = behind_front b place q.attestation.verdict_place (behind signature place a) (bytes_of a) (flat_map bytes_of xs)
            (flat_map bytes_of ys) refl o.bytes;
        each = All-cons IsVoted a ys fit o.each;
        size = omega (arith, size);
        signers = λ k d. elim k as (λ e. (get_or (a ∷ ys) e d).signer ≡ (get_or (a ∷ xs) e d).signer)
            [ zero ↦ refl | suc j ↦ o.signers j d ];
        signed_then = Contains-append_right (a.signer ∷ []) (map (λ c. c.signer) xs) q.attestation.signer o.signed_then;
        signed_now = Contains-append_right (a.signer ∷ []) (map (λ c. c.signer) ys) q.attestation.signer o.signed_now;
        places = λ s p.
            ap (λ (l : List Placed). placed_at s a.signer (behind signature p a - 1) ∷ l) (o.places s (behind signature p a));
        claims = λ x. ap (λ (l : List (SignedVote D Unit)). claim_of (vote_on x a) ∷ l) (o.claims x);
        votes = λ x test none.
            ap (λ (l : List (SignedVote D (List ℕ))). cond (test (vote_on x a)) (vote_on x a ∷ l) l) (o.votes x test none);
      }

  -- one of them is overwritten
  from_overwritten : (signed : Signed) (place : ℕ) (xs : List Voted) (q : Placed) → All IsVoted xs →
      Contains (places_from signature signed place xs) q → (ys : List Voted) × AreOverwritten signed place q xs ys
  from_overwritten signed place [] q fits c = absurd (none_contained q c)
  from_overwritten signed place (a ∷ xs) q fits c =
      elim (first_or_later (placed_at signed a.signer (behind signature place a - 1))
      (places_from signature signed (behind signature place a) xs) q c) [
        | inl e ↦ (
          with_verdict a ∷ xs,
          subst (λ (p : Placed). AreOverwritten signed place p (a ∷ xs) (with_verdict a ∷ xs)) e (here signed place a xs fits),
        )
        | inr others ↦
            let (ys, o) = from_overwritten signed (behind signature place a) xs q (All-tail IsVoted a xs fits) others in
            (a ∷ ys, later signed place a xs ys q (All-head IsVoted a xs fits) o)
      ]

  -- ---- messages

  module _ (eq : D → D → Bool) (payload : Format D) (bound : ℕ) (reading : List ℕ → Reading (List Voted)) where
    abbrev pub Message : Type 0
    Message = Activity S D (List Voted) P (List ℕ)

    abbrev pub certificates : Format (List Voted)
    certificates = record { is_value = ListedFits signature bound; encoding = listed_encoding signature; reading = reading }

    abbrev pub format : Format Message
    format = activity_format eq payload certificates signature

    abbrev pub listed : List Voted → List Voted
    listed c = c

    abbrev pub places_in : ℕ → Message → List Placed
    places_in = message_places payload signature listed

    -- no vote of this signer on the subject passes
    abbrev pub NonePasses : SubjectValue D → ℕ → (SignedVote D (List ℕ) → Bool) → Type 0
    NonePasses x signer test = (g : List ℕ) → test (record { subject = x; signer = signer; signature = g }) ≡ false

    -- the subject does not pass, or no certificate of it certifies that lists this signer
    abbrev pub NoneCertifies : SubjectValue D → Placed → (SubjectValue D → Bool) → Rules S D (List Voted) P (List ℕ) → Type 0
    NoneCertifies x q p rules =
        p x ≡ true → q.is_listed ≡ true → (c : List Voted) → Contains (map (λ a. a.signer) c) q.attestation.signer →
        rules.certified x c ≡ false

    -- A message becomes another when the verdict of `q` is overwritten: their encodings, from a place on, the places of their
    -- attestations, their votes and their certificates. `Value` is that the other is a value.
    pub record BecomesAnother (place : ℕ) (q : Placed) (Value : Type 0) (was are : List ℕ) (placed places : ℕ → List Placed)
        (vs ws : List (SignedVote D (List ℕ))) (c d : Option (SubjectValue D × List Voted)) : Type 0 where
      pub subject : SubjectValue D
      pub round : round_of subject ≡ round_at q.attestation
      pub value : Value
      pub bytes : IsOverwritten b place q.attestation.verdict_place was are
      pub same_places : (p : ℕ) → places p ≡ placed p
      pub claims : map claim_of ws ≡ map claim_of vs
      pub votes : (test : SignedVote D (List ℕ) → Bool) → NonePasses subject q.attestation.signer test →
          filter test ws ≡ filter test vs
      pub certified : (p : SubjectValue D → Bool) (rules : Rules S D (List Voted) P (List ℕ)) →
          NoneCertifies subject q p rules →
          filter p (items_of (if_certified rules d)) ≡ filter p (items_of (if_certified rules c))

    -- `k` is the message `m`, which begins at a place, with the verdict of `q` overwritten
    abbrev pub IsChanged : ℕ → Placed → Message → Message → Type 0
    IsChanged place q m k =
        BecomesAnother place q (format.is_value k) (format.encoding m) (format.encoding k) (λ p. places_in p m)
        (λ p. places_in p k) (votes_in listed m) (votes_in listed k) (subject_and_certificate m) (subject_and_certificate k)

    -- a vote: its subject, and then its attestation
    vote_overwritten : (place : ℕ) (x : SubjectValue D) (a : Voted) → IsVoted a →
        IsOverwritten b place (behind signature (place + length (message_of payload x)) a - 1)
        (message_of payload x ++ bytes_of a) (message_of payload x ++ bytes_of (with_verdict a))
    vote_overwritten place x a fit =
        behind_front b place (behind signature (place + length (message_of payload x)) a - 1)
        (place + length (message_of payload x)) (message_of payload x) (bytes_of a) (bytes_of (with_verdict a)) refl
        (one_overwritten (place + length (message_of payload x)) a fit)

    vote_placed : (place : ℕ) (x : SubjectValue D) (a : Voted) → IsVoted a →
        vote_places payload signature place x (with_verdict a) ≡ vote_places payload signature place x a
    vote_placed place x a fit =
        ap (λ (e : ℕ). placed_at (signed_at payload place x false) a.signer (e - 1) ∷ [])
        (same_end (place + length (message_of payload x)) a fit)

    vote_size : (x : SubjectValue D) (a : Voted) → IsVoted a →
        length (message_of payload x ++ bytes_of (with_verdict a)) ≡ length (message_of payload x ++ bytes_of a)
    vote_size x a fit =
        same_size b 0 (behind signature (0 + length (message_of payload x)) a - 1) (message_of payload x ++ bytes_of a)
        (message_of payload x ++ bytes_of (with_verdict a)) (vote_overwritten 0 x a fit)

    -- behind a tag
    tagged : (tag place verdict : ℕ) (body others : List ℕ) → IsOverwritten b (place + 1) verdict body others →
        IsOverwritten b place verdict (tag ∷ body) (tag ∷ others)
    tagged tag place verdict body others o = behind_front b place verdict (place + 1) (tag ∷ []) body others (omega arith) o

    -- a vote
    abbrev VoteBecomes : ℕ → Placed → ℕ → Type 0 → SubjectValue D → Voted → Type 0
    VoteBecomes place q tag Value x a =
        BecomesAnother place q (Value × IsVoted (with_verdict a)) (tag ∷ (message_of payload x ++ bytes_of a))
        (tag ∷ (message_of payload x ++ bytes_of (with_verdict a)))
        (λ p. vote_places payload signature (p + 1) x a) (λ p. vote_places payload signature (p + 1) x (with_verdict a))
        (vote_on x a ∷ []) (vote_on x (with_verdict a) ∷ []) None None

    vote_becomes : (place : ℕ) (q : Placed) (tag : ℕ) (Value : Type 0) (x : SubjectValue D) (a : Voted) → Value × IsVoted a →
        Contains (vote_places payload signature (place + 1) x a) q → VoteBecomes place q tag Value x a
    vote_becomes place q tag Value x a value c =
        let verdict = behind signature (place + 1 + length (message_of payload x)) a - 1 in
        subst (λ (p : Placed). VoteBecomes place p tag Value x a)
        (only_one (placed_at (signed_at payload (place + 1) x false) a.signer verdict) q c) (record {
          subject = x;
          round = refl;
          value = (value.0, one_fits a value.1);
          bytes = tagged tag place verdict (message_of payload x ++ bytes_of a)
              (message_of payload x ++ bytes_of (with_verdict a)) (vote_overwritten (place + 1) x a value.1);
          same_places = λ p. vote_placed (p + 1) x a value.1;
          claims = refl;
          votes = λ test none. one_filtered x a test none [];
          certified = λ p rules none. refl;
        })

    -- two votes, of which the first or the second is overwritten
    abbrev pair_bytes : ℕ → SubjectValue D → Voted → SubjectValue D → Voted → List ℕ
    pair_bytes tag x a y d = tag ∷ ((message_of payload x ++ bytes_of a) ++ (message_of payload y ++ bytes_of d))

    abbrev PairBecomes : ℕ → Placed → ℕ → Type 0 → SubjectValue D → Voted → SubjectValue D → Voted → Voted → Voted → Type 0
    PairBecomes place q tag Value x a y d a' d' =
        BecomesAnother place q Value (pair_bytes tag x a y d) (pair_bytes tag x a' y d')
        (λ p. pair_places payload signature (p + 1) x a y d) (λ p. pair_places payload signature (p + 1) x a' y d')
        (vote_on x a ∷ vote_on y d ∷ []) (vote_on x a' ∷ vote_on y d' ∷ []) None None

    first_becomes : (place : ℕ) (q : Placed) (tag : ℕ) (Value : Type 0) (x : SubjectValue D) (a : Voted) (y : SubjectValue D)
        (d : Voted) → Value → IsVoted a → Contains (vote_places payload signature (place + 1) x a) q →
        PairBecomes place q tag Value x a y d (with_verdict a) d
    first_becomes place q tag Value x a y d value fit c =
        let verdict = behind signature (place + 1 + length (message_of payload x)) a - 1 in
        let first = message_of payload x ++ bytes_of a in
        let changed = message_of payload x ++ bytes_of (with_verdict a) in
        let second = message_of payload y ++ bytes_of d in
        subst (λ (p : Placed). PairBecomes place p tag Value x a y d (with_verdict a) d)
        (only_one (placed_at (signed_at payload (place + 1) x false) a.signer verdict) q c) (record {
          subject = x;
          round = refl;
          value = value;
          bytes = tagged tag place verdict (first ++ second) (changed ++ second)
              (before_tail b (place + 1) verdict second first changed (vote_overwritten (place + 1) x a fit));
          same_places = λ p.
              ap (λ (l : List Placed). l ++ vote_places payload signature (p + 1 + length changed) y d)
              (vote_placed (p + 1) x a fit)
              ∙ ap (λ (k : ℕ). vote_places payload signature (p + 1) x a ++ vote_places payload signature (p + 1 + k) y d)
              (vote_size x a fit);
          claims = refl;
          votes = λ test none. one_filtered x a test none (vote_on y d ∷ []);
          certified = λ p rules none. refl;
        })

    second_becomes : (place : ℕ) (q : Placed) (tag : ℕ) (Value : Type 0) (x : SubjectValue D) (a : Voted) (y : SubjectValue D)
        (d : Voted) → Value → IsVoted d →
        Contains (vote_places payload signature (place + 1 + length (message_of payload x ++ bytes_of a)) y d) q →
        PairBecomes place q tag Value x a y d a (with_verdict d)
    second_becomes place q tag Value x a y d value fit c =
        let first = message_of payload x ++ bytes_of a in
        let next = place + 1 + length first in
        let verdict = behind signature (next + length (message_of payload y)) d - 1 in
        let second = message_of payload y ++ bytes_of d in
        let changed = message_of payload y ++ bytes_of (with_verdict d) in
        subst (λ (p : Placed). PairBecomes place p tag Value x a y d a (with_verdict d))
        (only_one (placed_at (signed_at payload next y false) d.signer verdict) q c) (record {
          subject = y;
          round = refl;
          value = value;
          bytes = tagged tag place verdict (first ++ second) (first ++ changed)
              (behind_front b (place + 1) verdict next first second changed refl (vote_overwritten next y d fit));
          same_places = λ p. ap (λ (l : List Placed). vote_places payload signature (p + 1) x a ++ l)
              (vote_placed (p + 1 + length first) y d fit);
          claims = refl;
          votes = λ test none. ap (λ (l : List (SignedVote D (List ℕ))). cond (test (vote_on x a)) (vote_on x a ∷ l) l)
              (one_filtered y d test none []);
          certified = λ p rules none. refl;
        })

    -- one of two votes is overwritten: X and Y say that their subjects are values, and Z what else makes them evidence
    abbrev PairChanged : Type 0 → Type 0 → Type 0 → ℕ → Placed → ℕ → SubjectValue D → Voted → SubjectValue D → Voted → Type 0
    PairChanged X Y Z place q tag x a y d =
        PairBecomes place q tag (((X × IsVoted (with_verdict a)) × (Y × IsVoted d)) × Z) x a y d (with_verdict a) d
        ⊎ PairBecomes place q tag (((X × IsVoted a) × (Y × IsVoted (with_verdict d))) × Z) x a y d a (with_verdict d)

    pair_changed : {X Y Z : Type 0} (place : ℕ) (q : Placed) (tag : ℕ) (x : SubjectValue D) (a : Voted) (y : SubjectValue D)
        (d : Voted) → ((X × IsVoted a) × (Y × IsVoted d)) × Z → Contains (pair_places payload signature (place + 1) x a y d) q →
        PairChanged X Y Z place q tag x a y d
    pair_changed place q tag x a y d value c =
        let first = value.0.0 in
        let second = value.0.1 in
        elim (Contains-append_cases (vote_places payload signature (place + 1) x a)
        (vote_places payload signature (place + 1 + length (message_of payload x ++ bytes_of a)) y d) q c) [
          | inl one ↦ inl (first_becomes place q tag _ x a y d (((first.0, one_fits a first.1), second), value.1) first.1 one)
          | inr other ↦
              inr (second_becomes place q tag _ x a y d ((first, (second.0, one_fits d second.1)), value.1) second.1 other)
        ]

    -- ---- certificates

    fits_changed : (signed : Signed) (place : ℕ) (q : Placed) (xs ys : List Voted) → ListedFits signature bound xs →
        AreOverwritten signed place q xs ys → ListedFits signature bound ys
    fits_changed signed place q xs ys fits o =
        let size = o.size in
        let few = fits.listed.few in
        let any = fits.listed.some in
        let count = fits.count in
        record {
          listed = record {
            some = omega (arith, size, any);
            few = omega (arith, size, few);
            ascending = λ i j d lt within.
                let first = o.signers i d in
                let second = o.signers j d in
                let was = fits.listed.ascending i j d lt (omega (arith, size, within)) in
                omega (arith, first, second, was);
          };
          count = omega (arith, size, count);
          below = λ k d within.
              let same = o.signers k d in
              let was = fits.below k d (omega (arith, size, within)) in
              omega (arith, same, was);
          each = o.each;
        }

    -- nothing is certified that passes
    none_certified : (p : SubjectValue D → Bool) (rules : Rules S D (List Voted) P (List ℕ)) (x : SubjectValue D)
        (c : List Voted) → (p x ≡ true → rules.certified x c ≡ false) →
        filter p (items_of (if_certified rules (Some (x, c)))) ≡ []
    none_certified p rules x c none =
        (elim (p x) as (λ t. p x ≡ t → filter p (items_of (if_certified rules (Some (x, c)))) ≡ []) [
          | true ↦ λ e. ap (λ (t : Bool). filter p (items_of (cond t (Some x) None))) (none e)
          | false ↦ λ e. elim (rules.certified x c) as (λ t. filter p (items_of (cond t (Some x) None)) ≡ [])
              [ true ↦ ap (λ (t : Bool). cond t (x ∷ []) []) e | false ↦ refl ]
        ]) refl

    module _ (place : ℕ) (q : Placed) (x : SubjectValue D) (xs : List Voted) where
      abbrev start : ℕ
      start = place + 1 + length (message_of payload x) + length (number_32.encoding (length xs))

      abbrev Listed : List Voted → Type 0
      Listed ys = AreOverwritten (signed_at payload (place + 1) x true) start q xs ys

      listed_overwritten : (ys : List Voted) → Listed ys → IsOverwritten b (place + 1) q.attestation.verdict_place
          (message_of payload x ++ listed_encoding signature xs) (message_of payload x ++ listed_encoding signature ys)
      listed_overwritten ys o =
          let subject = message_of payload x in
          let number = number_32.encoding (length xs) in
          let next = place + 1 + length subject in
          let behind_number =
          behind_front b next q.attestation.verdict_place start number (flat_map bytes_of xs) (flat_map bytes_of ys) refl
          o.bytes in
          behind_front b (place + 1) q.attestation.verdict_place next subject (listed_encoding signature xs)
          (listed_encoding signature ys) refl
          (subst (λ (k : ℕ). IsOverwritten b next q.attestation.verdict_place (listed_encoding signature xs)
          (number_32.encoding k ++ flat_map bytes_of ys)) (sym o.size) behind_number)

      listed_placed : (ys : List Voted) → Listed ys → (p : ℕ) →
          certificate_places payload signature p x ys ≡ certificate_places payload signature p x xs
      listed_placed ys o p =
          ap (λ (k : ℕ). places_from signature (signed_at payload p x true)
          (p + length (message_of payload x) + length (number_32.encoding k)) ys) o.size
          ∙ o.places (signed_at payload p x true) (p + length (message_of payload x) + length (number_32.encoding (length xs)))

      listed_certified : (ys : List Voted) → Listed ys →
          (p : SubjectValue D → Bool) (rules : Rules S D (List Voted) P (List ℕ)) → NoneCertifies x q p rules →
          filter p (items_of (if_certified rules (Some (x, ys)))) ≡ filter p (items_of (if_certified rules (Some (x, xs))))
      listed_certified ys o p rules none =
          none_certified p rules x ys (λ e. none e o.is_listed ys o.signed_now)
          ∙ sym (none_certified p rules x xs (λ e. none e o.is_listed xs o.signed_then))

      -- a certificate
      listed_becomes : (tag : ℕ) (Value : Type 0) (ys : List Voted) → Listed ys → Value →
          BecomesAnother place q Value (tag ∷ (message_of payload x ++ listed_encoding signature xs))
          (tag ∷ (message_of payload x ++ listed_encoding signature ys))
          (λ p. certificate_places payload signature (p + 1) x xs) (λ p. certificate_places payload signature (p + 1) x ys)
          (map (vote_on x) xs) (map (vote_on x) ys) (Some (x, xs)) (Some (x, ys))
      listed_becomes tag Value ys o value = record {
        subject = x;
        round = o.round;
        value = value;
        bytes = tagged tag place q.attestation.verdict_place (message_of payload x ++ listed_encoding signature xs)
            (message_of payload x ++ listed_encoding signature ys) (listed_overwritten ys o);
        same_places = λ p. listed_placed ys o (p + 1);
        claims = o.claims x;
        votes = o.votes x;
        certified = listed_certified ys o;
      }

      -- the certificate with the verdict overwritten
      pub certificate_changed : ListedFits signature bound xs →
          Contains (certificate_places payload signature (place + 1) x xs) q →
          (ys : List Voted) × Listed ys × ListedFits signature bound ys
      certificate_changed fits c =
          let (ys, o) = from_overwritten (signed_at payload (place + 1) x true) start xs q fits.each c in
          (ys, o, fits_changed (signed_at payload (place + 1) x true) start q xs ys fits o)

    -- ---- each message

    -- a vote with the verdict overwritten
    abbrev notarized : Notarize S D P (List ℕ) → Notarize S D P (List ℕ)
    notarized v = record { proposal = v.proposal; attestation = with_verdict v.attestation }

    abbrev nullified : Nullify S P (List ℕ) → Nullify S P (List ℕ)
    nullified v = record { round = v.round; attestation = with_verdict v.attestation }

    abbrev finalized : Finalize S D P (List ℕ) → Finalize S D P (List ℕ)
    finalized v = record { proposal = v.proposal; attestation = with_verdict v.attestation }

    message_changed : (place : ℕ) (q : Placed) (m : Message) → format.is_value m → Contains (places_in place m) q →
        (k : Message) × IsChanged place q m k
    message_changed place q (activity.Notarize v) value c =
        (activity.Notarize (notarized v), vote_becomes place q 0 _ (Notarizes v.proposal) v.attestation value c)
    message_changed place q (activity.Nullify v) value c =
        (activity.Nullify (nullified v), vote_becomes place q 3 _ (Nullifies v.round) v.attestation value c)
    message_changed place q (activity.Finalize v) value c =
        (activity.Finalize (finalized v), vote_becomes place q 5 _ (Finalizes v.proposal) v.attestation value c)
    message_changed place q (activity.Notarization n') value c =
        let (ys, o, fits) = certificate_changed place q (Notarizes n'.proposal) n'.certificate value.1 c in (
          activity.Notarization (record { proposal = n'.proposal; certificate = ys }),
          listed_becomes place q (Notarizes n'.proposal) n'.certificate 1 _ ys o (value.0, fits),
        )
    message_changed place q (activity.Certification n') value c =
        let (ys, o, fits) = certificate_changed place q (Notarizes n'.proposal) n'.certificate value.1 c in (
          activity.Certification (record { proposal = n'.proposal; certificate = ys }),
          listed_becomes place q (Notarizes n'.proposal) n'.certificate 2 _ ys o (value.0, fits),
        )
    message_changed place q (activity.Nullification n') value c =
        let (ys, o, fits) = certificate_changed place q (Nullifies n'.round) n'.certificate value.1 c in (
          activity.Nullification (record { round = n'.round; certificate = ys }),
          listed_becomes place q (Nullifies n'.round) n'.certificate 4 _ ys o (value.0, fits),
        )
    message_changed place q (activity.Finalization n') value c =
        let (ys, o, fits) = certificate_changed place q (Finalizes n'.proposal) n'.certificate value.1 c in (
          activity.Finalization (record { proposal = n'.proposal; certificate = ys }),
          listed_becomes place q (Finalizes n'.proposal) n'.certificate 6 _ ys o (value.0, fits),
        )
    message_changed place q (activity.ConflictingNotarize e) value c =
        elim (pair_changed place q 7 (Notarizes e.first.proposal) e.first.attestation (Notarizes e.second.proposal)
        e.second.attestation value c) [
          | inl first ↦ (activity.ConflictingNotarize (record { first = notarized e.first; second = e.second }), first)
          | inr second ↦ (activity.ConflictingNotarize (record { first = e.first; second = notarized e.second }), second)
        ]
    message_changed place q (activity.ConflictingFinalize e) value c =
        elim (pair_changed place q 8 (Finalizes e.first.proposal) e.first.attestation (Finalizes e.second.proposal)
        e.second.attestation value c) [
          | inl first ↦ (activity.ConflictingFinalize (record { first = finalized e.first; second = e.second }), first)
          | inr second ↦ (activity.ConflictingFinalize (record { first = e.first; second = finalized e.second }), second)
        ]
    message_changed place q (activity.NullifyFinalize e) value c =
        elim (pair_changed place q 9 (Nullifies e.first.round) e.first.attestation (Finalizes e.second.proposal)
        e.second.attestation value c) [
          | inl first ↦ (activity.NullifyFinalize (record { first = nullified e.first; second = e.second }), first)
          | inr second ↦ (activity.NullifyFinalize (record { first = e.first; second = finalized e.second }), second)
        ]

    -- ---- messages one after another

    abbrev pub encoded : List Message → List ℕ
    encoded ms = flat_map format.encoding ms

    abbrev pub votes_of : List Message → List (SignedVote D (List ℕ))
    votes_of ms = flat_map (votes_in listed) ms

    -- `ks` are the messages `ms`, from a place on, with the verdict of `q` overwritten
    pub record AreChanged (place : ℕ) (q : Placed) (ms ks : List Message) : Type 0 where
      pub subject : SubjectValue D
      pub round : round_of subject ≡ round_at q.attestation
      pub each : All format.is_value ks
      pub count : length ks ≡ length ms
      pub bytes : IsOverwritten b place q.attestation.verdict_place (encoded ms) (encoded ks)
      pub same_places : (p : ℕ) → places_along places_in format.encoding p ks ≡ places_along places_in format.encoding p ms
      pub claims : map claim_of (votes_of ks) ≡ map claim_of (votes_of ms)
      pub votes : (test : SignedVote D (List ℕ) → Bool) → NonePasses subject q.attestation.signer test →
          filter test (votes_of ks) ≡ filter test (votes_of ms)
      pub certified : (p : SubjectValue D → Bool) (rules : Rules S D (List Voted) P (List ℕ)) →
          NoneCertifies subject q p rules → filter p (certified_subjects rules ks) ≡ filter p (certified_subjects rules ms)

    -- the first of them
    first_changed : (place : ℕ) (q : Placed) (m k : Message) (ms : List Message) → All format.is_value ms →
        IsChanged place q m k → AreChanged place q (m ∷ ms) (k ∷ ms)
    first_changed place q m k ms fits o =
        let size = same_size b place q.attestation.verdict_place (format.encoding m) (format.encoding k) o.bytes in
        let others = votes_of ms in
        record {
          subject = o.subject;
          round = o.round;
          each = All-cons format.is_value k ms o.value fits;
          count = refl;
          bytes = before_tail b place q.attestation.verdict_place (encoded ms) (format.encoding m) (format.encoding k) o.bytes;
          same_places = λ p.
              ap (λ (l : List Placed). l ++ places_along places_in format.encoding (p + length (format.encoding k)) ms)
              (o.same_places p)
              ∙ ap (λ (e : ℕ). places_in p m ++ places_along places_in format.encoding (p + e) ms) size;
          claims =
              map-append claim_of (votes_in listed k) others ∙ (ap (λ (l : List (SignedVote D Unit)). l ++ map claim_of others)
              o.claims ∙ sym (map-append claim_of (votes_in listed m) others));
          votes = λ test none.
              filter-append test (votes_in listed k) others
              ∙ (ap (λ (l : List (SignedVote D (List ℕ))). l ++ filter test others) (o.votes test none)
              ∙ sym (filter-append test (votes_in listed m) others));
          certified = λ p rules none.
              let further = certified_subjects rules ms in
              filter_option p (certified_in rules k) further ∙ (ap (λ (l : List (SubjectValue D)). l ++ filter p further)
              (o.certified p rules none) ∙ sym (filter_option p (certified_in rules m) further));
        }

    -- one behind the first
    later_changed : (place : ℕ) (q : Placed) (m : Message) (ms ks : List Message) → format.is_value m →
        AreChanged (place + length (format.encoding m)) q ms ks → AreChanged place q (m ∷ ms) (m ∷ ks)
    later_changed place q m ms ks fits o =
        let count = o.count in
        record {
          subject = o.subject;
          round = o.round;
          each = All-cons format.is_value m ks fits o.each;
          count = omega (arith, count);
          bytes = behind_front b place q.attestation.verdict_place (place + length (format.encoding m)) (format.encoding m)
              (encoded ms) (encoded ks) refl o.bytes;
          same_places = λ p. ap (λ (l : List Placed). places_in p m ++ l) (o.same_places (p + length (format.encoding m)));
          claims = map-append claim_of (votes_in listed m) (votes_of ks)
              ∙ (ap (λ (l : List (SignedVote D Unit)). map claim_of (votes_in listed m) ++ l) o.claims
              ∙ sym (map-append claim_of (votes_in listed m) (votes_of ms)));
          votes = λ test none.
              filter-append test (votes_in listed m) (votes_of ks)
              ∙ (ap (λ (l : List (SignedVote D (List ℕ))). filter test (votes_in listed m) ++ l) (o.votes test none)
              ∙ sym (filter-append test (votes_in listed m) (votes_of ms)));
          certified = λ p rules none.
              let one = certified_in rules m in
              filter_option p one (certified_subjects rules ks)
              ∙ (ap (λ (l : List (SubjectValue D)). filter p (items_of one) ++ l) (o.certified p rules none)
              ∙ sym (filter_option p one (certified_subjects rules ms)));
        }

    pub messages_changed : (place : ℕ) (q : Placed) (ms : List Message) → All format.is_value ms →
        Contains (places_along places_in format.encoding place ms) q → (ks : List Message) × AreChanged place q ms ks
    messages_changed place q [] fits c = absurd (none_contained q c)
    messages_changed place q (m ∷ ms) fits c =
        let fit = All-head format.is_value m ms fits in
        let others = All-tail format.is_value m ms fits in
        let next = place + length (format.encoding m) in
        elim (Contains-append_cases (places_in place m) (places_along places_in format.encoding next ms) q c) [
          | inl one ↦ let (k, o) = message_changed place q m fit one in (k ∷ ms, first_changed place q m k ms others o)
          | inr other ↦ let (ks, o) = messages_changed next q ms others other in (m ∷ ks, later_changed place q m ms ks fit o)
        ]
