-- How long a certificate is at least of which some attestations are known.
use Rattle.std.proofs.Common.{◌≡◌, ◌⊎◌, inl, inr, ℕ, ◌+◌, ◌-◌, ◌*◌, ◌<◌, ◌≤◌, ◌^◌, List, [], ◌∷◌, ◌++◌, length, drop, false, Ok, get_or, refl, ap, sym, subst, ◌∙◌, append_assoc, append-nil, arith, length-append}
use Rattle.std.specs.Prelude.{All}
use Rattle.std.specs.List.{flat_map}
use Rattle.std.proofs.lemmas.Grind.{flat_map-append}
use Rattle.std.proofs.lemmas.Bool.{le-ltb, lt-leb}
use Rattle.std.proofs.lemmas.List.{get_or_append_left, get_or-append-add}
use Rattle.std.proofs.lemmas.List.Elements.{All-head, All-tail, All-nil, All-push}
use Rattle.std.proofs.Math.Seq.{get_or-append_seam}
use Rattle.simplex_base.specs.Format.{Format, IsLawful}
use Rattle.simplex_base.specs.FormatLaws.{IsBytes-after, one_encoding}
use Rattle.simplex_base.specs.LeastSize.{NoneShorter}
use Rattle.simplex_base.specs.LeastSizeLaws.{front_in}
use Rattle.simplex_base.specs.Reading.{IsBytes, Fails}
use Rattle.simplex_base.specs.Varint.{number_32}
use Rattle.simplex_base.specs.VarintLaws.{number_32_lawful, groups_len_32, groups_some}
use Rattle.simplex_base.specs.declared.codec.error.Error.{Error}
use Rattle.simplex_base.specs.declared.codec.error.Error.TheVariants as errors
use Rattle.simplex_scheme.specs.Attestation.{attestation_format}
use Rattle.simplex_scheme.specs.AttestationLaws.{attestation_lawful}
use Rattle.simplex_scheme.specs.declared.scheme.Attestation.{Attestation}
use Rattle.simplex_schemes.specs.Listed.{ListedFits, listed_encoding, attestation_at}
use Rattle.simplex_schemes.specs.ListedLaws.{attestation_takes}
use Rattle.simplex_schemes.specs.Skimmed.{IsSkimmed, IsRefused}

module _ {S P G : Type 0} (signature : Format G) (law : IsLawful signature) where
  -- nothing was read yet
  pub skimmed_none : (bytes : List ℕ) → IsSkimmed S P signature bytes bytes 0 0
  skimmed_none bytes = record {
    front = [];
    each = All-nil _;
    parts = refl;
    number_is = refl;
    above = λ signer all. omega arith;
  }

  -- one attestation more was read
  pub skimmed_more : (bound : ℕ) (bytes rest rest' : List ℕ) (number least : ℕ) (a : Attestation S P G) → IsBytes bytes →
      IsSkimmed S P signature bytes rest number least → attestation_at signature bound least rest ≡ Ok (a, rest') →
      IsSkimmed S P signature bytes rest' (number + 1) (a.signer + 1)
  skimmed_more bound bytes rest rest' number least a fit far e =
      let encoding : Attestation S P G → List ℕ = (attestation_format signature).encoding in
      let before = flat_map encoding far.front in
      let one = attestation_takes signature law bound least rest a rest'
      (IsBytes-after before rest (subst IsBytes far.parts fit)) e in
      let joined : flat_map encoding (far.front ++ a ∷ []) ≡ before ++ encoding a =
      flat_map-append encoding far.front (a ∷ []) ∙ ap (λ (t : List ℕ). before ++ t) (append-nil (encoding a)) in
      record {
        front = far.front ++ a ∷ [];
        each = All-push (attestation_format signature).is_value far.front a far.each one.encoded.value;
        parts = far.parts ∙ (ap (λ (t : List ℕ). before ++ t) one.encoded.parts ∙ (sym (append_assoc before (encoding a) rest')
            ∙ ap (λ (t : List ℕ). t ++ rest') (sym joined)));
        number_is = length-append far.front (a ∷ []) ∙ ap (λ (n : ℕ). n + 1) far.number_is;
        above = λ signer all.
            let last = subst (λ (x : Attestation S P G). x.signer < signer) (get_or-append_seam far.front a [] a)
            (all (length far.front) a (omega (arith, length-append far.front (a ∷ [])))) in
            omega (arith, last);
      }

  -- what is refused is no attestation
  pub refused_none : (bound least : ℕ) (rest : List ℕ) (e : Error) →
      Fails false e (attestation_at {S = S} {P = P} signature bound least rest) → (a : Attestation S P G) (after : List ℕ) →
      attestation_at signature bound least rest ≡ Ok (a, after) → ⊥
  refused_none bound least rest errors.EndOfBuffer h a after e = absurd cc
  refused_none bound least rest errors.InvalidVarint h a after e = absurd cc
  refused_none bound least rest errors.InvalidBool h a after e = absurd cc
  refused_none bound least rest (errors.Invalid subject reason) h a after e = absurd cc
  refused_none bound least rest errors.ExtraData h a after e = absurd cc
  refused_none bound least rest errors.OutOfMemory h a after e = absurd cc

  -- the next attestation was refused
  pub skim_refused : (bound count : ℕ) (known bytes rest rest' : List ℕ) (number least : ℕ) (e : Error) → known ≡ bytes →
      rest' ≡ rest → number < count → IsSkimmed S P signature known rest number least →
      Fails false e (attestation_at {S = S} {P = P} signature bound least rest) →
      IsRefused S P signature bound count bytes rest' (count - number)
  skim_refused bound count known bytes rest rest' number least e same kept lt far fails =
      subst (λ (b : List ℕ). IsRefused S P signature bound count b rest' (count - number)) same
      (subst (λ (r : List ℕ). IsRefused S P signature bound count known r (count - number)) (sym kept)
      (record {
        number = number;
        least = least;
        skimmed = far;
        count_is = omega arith;
        refused = λ some. refused_none bound least rest e fails;
      }))

  -- the attestations that begin some bytes are the first of those whose encodings the bytes begin
  record Common (front xs : List (Attestation S P G)) (rest : List ℕ) : Type 0 where
    others : List (Attestation S P G)
    same : xs ≡ front ++ others
    after : rest ≡ flat_map (attestation_format signature).encoding others

  common_front : (front xs : List (Attestation S P G)) (rest : List ℕ) →
      All (attestation_format signature).is_value front → All (attestation_format signature).is_value xs →
      length front ≤ length xs → flat_map (attestation_format signature).encoding front ++ rest
      ≡ flat_map (attestation_format signature).encoding xs → Common front xs rest
  common_front [] xs rest each each' few e = record { others = xs; same = refl; after = e }
  common_front (a ∷ front) [] rest each each' few e = absurd (omega arith)
  common_front (a ∷ front) (b ∷ xs) rest each each' few e =
      let form = attestation_format {S = S} {P = P} signature in
      let one = one_encoding (attestation_lawful signature law) a b (flat_map form.encoding front ++ rest)
      (flat_map form.encoding xs) (All-head form.is_value a front each) (All-head form.is_value b xs each')
      (sym (append_assoc (form.encoding a) (flat_map form.encoding front) rest) ∙ e) in
      let c = common_front front xs rest (All-tail form.is_value a front each) (All-tail form.is_value b xs each')
      (omega arith) one.1 in
      record {
        others = c.others;
        same = ap (λ (x : Attestation S P G). x ∷ xs) (sym one.0) ∙ ap (λ (ys : List (Attestation S P G)). a ∷ ys) c.same;
        after = c.after;
      }

  module _ (size : ℕ) (exact : (g : G) → signature.is_value g → length (signature.encoding g) ≡ size) where
    -- each attestation has a byte at least and its signature
    at_least : (xs : List (Attestation S P G)) → All (attestation_format signature).is_value xs →
        length xs * (1 + size) ≤ length (flat_map (attestation_format signature).encoding xs)
    at_least [] each = omega arith
    at_least (a ∷ xs) each =
        let form = attestation_format {S = S} {P = P} signature in
        let first = (All-head form.is_value a xs each).1 in
        let more = at_least xs (All-tail form.is_value a xs each) in
        omega (
          arith,
          length-append (form.encoding a) (flat_map form.encoding xs),
          length-append (number_32.encoding a.signer) (signature.encoding a.signature),
          groups_some 4 a.signer,
          exact a.signature first,
          more,
        )

    -- what is refused though it is as long as any attestation begins no attestation with a signer from least on
    none_begins : (bound least : ℕ) (rest more back : List ℕ) (b : Attestation S P G) →
        ((a : Attestation S P G) (after : List ℕ) → attestation_at signature bound least rest ≡ Ok (a, after) → ⊥) →
        5 + size ≤ length rest → (attestation_format signature).is_value b → least ≤ b.signer → b.signer < bound →
        rest ++ more ≡ (attestation_format signature).encoding b ++ back → ⊥
    none_begins bound least rest more back b refused long value low high e =
        let form = attestation_format {S = S} {P = P} signature in
        let short : length (form.encoding b) ≤ length rest =
        omega (
          arith,
          length-append (number_32.encoding b.signer) (signature.encoding b.signature),
          groups_len_32 b.signer,
          exact b.signature value.1,
        ) in
        let behind = drop (length (form.encoding b)) rest in
        let parts = front_in (form.encoding b) back rest more (sym e) short in
        let first = le-ltb b.signer least low in
        let last = lt-leb bound b.signer high in
        let again : attestation_at signature bound least (form.encoding b ++ behind) ≡ Ok (b, behind) =
        rw ((attestation_lawful signature law).again b behind value, first, last) refl in
        refused b behind (ap (attestation_at signature bound least) parts ∙ again)

    -- a certificate whose encoding begins with the count and these bytes
    pub skimmed_least : (bound count left total : ℕ) (whole bytes rest : List ℕ) →
        whole ≡ number_32.encoding count ++ bytes → count < 2 ^ 32 → IsRefused S P signature bound count bytes rest left →
        (total + length rest ≤ length whole + left * (1 + size)) ⊎ ((0 < left) × (5 + size ≤ length rest)) →
        NoneShorter (ListedFits {S = S} {P = P} signature bound) (listed_encoding signature) whole total
    skimmed_least bound count left total whole bytes rest is few far bounds xs more fits e =
        let form = attestation_format {S = S} {P = P} signature in
        let encoded : List (Attestation S P G) → List ℕ = flat_map form.encoding in
        let front = far.skimmed.front in
        let one = one_encoding number_32_lawful (length xs) count (encoded xs) (bytes ++ more) fits.listed.few few
        (e ∙ (ap (λ (t : List ℕ). t ++ more) is ∙ append_assoc (number_32.encoding count) bytes more)) in
        let number = far.skimmed.number_is in
        let counted = far.count_is in
        let size_is = one.0 in
        let c = common_front front xs (rest ++ more) far.skimmed.each fits.each (omega arith)
        (sym (append_assoc (encoded front) rest more) ∙ (ap (λ (t : List ℕ). t ++ more) (sym far.skimmed.parts) ∙ sym one.1)) in
        let all = ap length c.same in
        let many : length c.others ≡ left = omega (arith, all, length-append front c.others) in
        let values : All form.is_value c.others = λ k d lt. subst form.is_value (behind_front front c.others xs c.same k d)
        (fits.each (length front + k) d (omega (arith, all, length-append front c.others))) in
        elim bounds [
          | inl h ↦
              let enough = subst (λ (n : ℕ). n * (1 + size) ≤ length (encoded c.others)) many (at_least c.others values) in
              let rests = ap length c.after in
              let wholes = ap length e in
              omega (arith, enough, rests, wholes, h, length-append rest more, length-append whole more)
          | inr h ↦ absurd (none c.others values many c.same c.after h.0 h.1)
        ]
      where
        behind_front : (front others xs : List (Attestation S P G)) → xs ≡ front ++ others → (k : ℕ) (d : Attestation S P G) →
            get_or xs (length front + k) d ≡ get_or others k d
        behind_front front others xs same k d =
            ap (λ (ys : List (Attestation S P G)). get_or ys (length front + k) d) same ∙ get_or-append-add front others k d

        none : (others : List (Attestation S P G)) → All (attestation_format signature).is_value others →
            length others ≡ left → xs ≡ far.skimmed.front ++ others →
            rest ++ more ≡ flat_map (attestation_format signature).encoding others → 0 < left → 5 + size ≤ length rest → ⊥
        none [] values many same after some long = omega arith
        none (b ∷ others) values many same after some long =
            let form = attestation_format {S = S} {P = P} signature in
            let front = far.skimmed.front in
            let all = ap length same in
            let here : get_or xs (length front) b ≡ b =
            ap (λ (ys : List (Attestation S P G)). get_or ys (length front) b) same ∙ get_or-append_seam front b others b in
            let below = subst (λ (x : Attestation S P G). x.signer < bound) here
            (fits.below (length front) b (omega (arith, all, length-append front (b ∷ others)))) in
            let ascends : All (λ a. a.signer < b.signer) front = λ k d lt.
            subst (λ (x : Attestation S P G). x.signer < b.signer)
            (ap (λ (ys : List (Attestation S P G)). get_or ys k d) same ∙ get_or_append_left front (b ∷ others) d k lt)
            (subst (λ (x : Attestation S P G). (get_or xs k d).signer < x.signer)
            (ap (λ (ys : List (Attestation S P G)). get_or ys (length front) d) same ∙ get_or-append_seam front b others d)
            (fits.listed.ascending k (length front) d lt (omega (arith, all, length-append front (b ∷ others))))) in
            none_begins bound far.least rest more (flat_map form.encoding others) b (far.refused some) long
            (All-head form.is_value b others values) (far.skimmed.above b.signer ascends) below after
