-- How deep the JSON of messages nests.
use Rattle.std.proofs.Common.{ℕ, ◌+◌, ◌≤◌, List, [], ◌∷◌, ◌++◌, Option, Some, None, arith, map}
use Rattle.json.specs.Json.{Json, max_depth}
use Rattle.json.specs.Tree.{depth, items_depth, members_depth}
use Rattle.std.specs.Prelude.{codes, option_map}
use Rattle.simplex_scheme.specs.Subject.{SubjectValue, Notarizes, Nullifies, Finalizes}
use Rattle.simplex_votes.specs.Votes.{SignedVote, vote_on}
use Rattle.simplex_evidence.specs.Activity.{activity_round, contents_of}
use Rattle.simplex_evidence.specs.Contents.{ContentsValue, OneVote, OneCertificate, TwoVotes}
use Rattle.simplex_evidence.specs.declared.types.activity.Activity.{Activity}
use Rattle.simplex_inspect.specs.Json.{validity_members, signature_json, head_members, listing_json}
use Rattle.simplex_inspect.specs.Line.{subject_members, signed_json, attestation_json, vote_json, certificate_json, statements_json, message_word, message_json}
use Rattle.simplex_inspect.specs.Shown.{Shown, signature_validity, certificate_validity}
use Rattle.simplex_inspect.specs.Values.{items_of, members_of, array_of}
use Rattle.simplex_inspect.specs.declared.validity.Validity.{Validity}
use Rattle.simplex_inspect.specs.declared.validity.Validity.TheVariants.{Valid, NoCommittee, OutsideSigner, WrongSignature, TooFew, WrongAttestation}

-- a validity does not nest
pub validity_flat : (validity : Option Validity) → members_depth (members_of (validity_members validity)) ≤ 0
validity_flat None = omega arith
validity_flat (Some Valid) = omega arith
validity_flat (Some NoCommittee) = omega arith
validity_flat (Some OutsideSigner) = omega arith
validity_flat (Some WrongSignature) = omega arith
validity_flat (Some TooFew) = omega arith
validity_flat (Some WrongAttestation) = omega arith

-- the members of both
pub members_within : (ms ns : List (List ℕ × Json)) (n : ℕ) → members_depth (members_of ms) ≤ n →
    members_depth (members_of ns) ≤ n → members_depth (members_of (ms ++ ns)) ≤ n
members_within [] ns n p q = q
members_within (m ∷ ms) ns n p q = let rest = members_within ms ns n (omega (arith, p)) q in omega (arith, p, rest)

-- values that are made alike
pub each_within : {A : Type 0} (f : A → Json) (n : ℕ) → ((a : A) → depth (f a) ≤ n) → (xs : List A) →
    items_depth (items_of (map f xs)) ≤ n
each_within f n h [] = omega arith
each_within f n h (x ∷ xs) = let first = h x in let rest = each_within f n h xs in omega (arith, first, rest)

-- a listing of flat members nests two deeper than its values
pub listing_within : (ms : List (List ℕ × Json)) (name : List ℕ) (js : List Json) (validity : Option Validity) (n : ℕ) →
    members_depth (members_of ms) ≤ 0 → items_depth (items_of js) ≤ n → depth (listing_json ms name js validity) ≤ 2 + n
listing_within ms name js validity n flat within =
    let last = validity_flat validity in
    let inside = members_within ms ((name, array_of js) ∷ validity_members validity) (1 + n) (omega (arith, flat))
    (omega (arith, within, last)) in
    omega (arith, inside)

-- a signature nests no value
pub signature_within : (signer : ℕ) (signature : List ℕ) (validity : Option Validity) →
    depth (signature_json signer signature validity) ≤ 1
signature_within signer signature validity = let last = validity_flat validity in omega (arith, last)

-- a subject does not nest
subject_flat : {D : Type 0} (bytes_of : D → List ℕ) (x : SubjectValue D) →
    members_depth (members_of (subject_members bytes_of x)) ≤ 0
subject_flat bytes_of (Notarizes p) = omega arith
subject_flat bytes_of (Nullifies r) = omega arith
subject_flat bytes_of (Finalizes p) = omega arith

module _ {S D C P G : Type 0} (shown : Shown S D C P G) where
  signed_within : (v : SignedVote D G) → depth (signed_json shown v) ≤ 1
  signed_within v =
      signature_within v.signer (shown.signature_bytes v.signature)
      (option_map (λ rules. signature_validity rules v) shown.rules)

  vote_within : (v : SignedVote D G) → depth (vote_json shown v) ≤ 3
  vote_within v =
      let one = signed_within v in
      listing_within (subject_members shown.payload_bytes v.subject) (codes "signatures") (signed_json shown v ∷ []) None 1
      (subject_flat shown.payload_bytes v.subject) (omega (arith, one))

  certificate_within : (x : SubjectValue D) (certificate : C) → depth (certificate_json shown x certificate) ≤ 3
  certificate_within x certificate =
      listing_within (subject_members shown.payload_bytes x) (codes "signatures")
      (map (attestation_json shown x) (shown.listed certificate))
      (option_map (λ rules. certificate_validity rules x certificate) shown.rules) 1 (subject_flat shown.payload_bytes x)
      (each_within (attestation_json shown x) 1 (λ a. signed_within (vote_on x a)) (shown.listed certificate))

  statements_within : (contents : ContentsValue D C G) → items_depth (items_of (statements_json shown contents)) ≤ 3
  statements_within (OneVote v) = let one = vote_within v in omega (arith, one)
  statements_within (OneCertificate x certificate) = let one = certificate_within x certificate in omega (arith, one)
  statements_within (TwoVotes v w) = let p = vote_within v in let q = vote_within w in omega (arith, p, q)

  -- a message nests five deep at most
  pub message_within : (offset len : ℕ) (m : Activity S D C P G) → depth (message_json shown offset len m) ≤ max_depth
  message_within offset len m =
      let whole = listing_within
      (head_members offset len (message_word m) (activity_round m).epoch (activity_round m).view) (codes "statements")
      (statements_json shown (contents_of m)) None 3 (omega arith) (statements_within (contents_of m)) in
      omega (arith, whole)
