use Rattle.std.proofs.Common.{ℕ, List, length, refl}
use Rattle.simplex_base.specs.Format.{Format, fixed}
use Rattle.simplex_base.specs.FormatLaws.{fixed_lawful}
use Rattle.simplex_scheme.specs.Committee.{is_quorum}
use Rattle.simplex_schemes.specs.Listed.{ListedFits, listed_at, listed_encoding}
use Rattle.simplex_schemes.specs.ListedLaws.{listed_lawful}
use Rattle.simplex_schemes.specs.Vouched.{VouchedScheme, vouched_valid}
use Rattle.simplex_evidence.specs.ActivityLaws.{activity_lawful}
use Rattle.simplex_scheme.specs.Committees.{bound_of}
use Rattle.simplex_rules.specs.Scheme.{rules_of, scheme_of}
use Rattle.simplex_places.proofs.RewrittenLemmas.{determined}
use Rattle.simplex_places.proofs.suspects.suspects_are_enough.Goals as goal

pub returns : goal.returns
returns g c stream found are =
    let eq = g.D.PartialEq.eq in
    let committees = c.args.committees.now in
    let payload = fixed g.D.Fixed.SIZE g.D.Fixed.bytes_of g.D.Fixed.of_bytes in
    let signature : Format (List ℕ) = fixed g.row.N (λ bytes. bytes) (λ bytes. bytes) in
    let signatures =
    fixed_lawful g.row.N (λ (bytes : List ℕ). bytes) (λ bytes. bytes) (λ bytes fits. refl) (λ bytes fits. refl) in
    let keys : VouchedScheme → List (List ℕ) = λ s. s.keys in
    let bound = bound_of keys committees in
    let law = activity_lawful {S = VouchedScheme} {P = List ℕ} eq payload (record {
      is_value = ListedFits signature bound;
      encoding = listed_encoding signature;
      reading = listed_at signature bound;
    }) signature g.met.D.Fixed.lawful (listed_lawful signature bound signatures) signatures in
    let scheme = scheme_of {C = List _} eq keys (λ s. vouched_valid s.keys)
    (λ s x. is_quorum (length s.keys) (vouched_valid s.keys x)) (λ certificate. certificate) in
    let rules = rules_of scheme committees in
    let lawful = c.reading_bound.ensures.lawful in
    determined VouchedScheme g.row.D.Denot (List ℕ) g.row.N g.R.Role.sized.0 eq payload bound (listed_at signature bound)
    rules.good rules.certified rules.size lawful law (c.suspects_decide.ensures rules lawful) stream found are
