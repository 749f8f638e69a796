use Rattle.std.proofs.Common.{◌≡◌, ℕ, true, map, sym, ap, subst, ◌∙◌}
use Rattle.std.specs.Prelude.{All}
use Rattle.std.specs.List.{AllZip}
use Rattle.std.proofs.lemmas.Result.{IfOk-weaker}
use Rattle.simplex_base.specs.Format.{Format, fixed}
use Rattle.simplex_evidence.specs.Activity.{activity_format, votes_in}
use Rattle.simplex_evidence.specs.ActivityLaws.{activity_lawful}
use Rattle.simplex_evidence.specs.declared.types.activity.Activity.{Activity}
use Rattle.simplex_scheme.specs.Committees.{bound_of}
use Rattle.simplex_rules.specs.Scheme.{rules_of, scheme_of}
use Rattle.simplex_rules.specs.Rules.{is_valid}
use Rattle.simplex_rules.specs.Values.{evidence_value}
use Rattle.simplex_votes.specs.Votes.{SignedVote}
use Rattle.simplex_stream.specs.Messages.{AreMessages}
use Rattle.simplex_stream.specs.StreamLaws.{messages_once}
use Rattle.simplex_places.specs.Bytes.{IsVoteAt}
use Rattle.simplex_places.specs.FirstPlaces.{AreSought, NotesAlong, votes_placed}
use Rattle.simplex_places.specs.Places.{message_places}
use Rattle.simplex_places.specs.Records.{HasNowhere, IsOfEvidence, IsRecord}
use Rattle.simplex_places.specs.Votes.{carries, same_signed_vote}
use Rattle.simplex_places.proofs.RecordLemmas.{all_of_evidence, records_nowhere, records_stand}
use Rattle.simplex_places.proofs.StandingLemmas.{message_within}
use Rattle.simplex_places.proofs.records.records_by.Given as given
use Rattle.simplex_places.proofs.records.records_by.Goals as goal

-- the messages of a scheme
abbrev Message : given.Over → Type 0
Message g = Activity g.row.S.Denot g.row.D.Denot g.row.S-Certificate.Denot g.row.S-PublicKey.Denot g.row.S-Signature.Denot

-- the formats of payloads and of signatures
abbrev payload : (g : given.Over) → Format g.row.D.Denot
payload g = fixed g.D.Fixed.SIZE g.D.Fixed.bytes_of g.D.Fixed.of_bytes

abbrev signature : (g : given.Over) → Format g.row.S-Signature.Denot
signature g = fixed g.S.Signature.Fixed.SIZE g.S.Signature.Fixed.bytes_of g.S.Signature.Fixed.of_bytes

-- the format of messages under a bound
abbrev format : (g : given.Over) → ℕ → Format (Message g)
format g bound =
    activity_format g.D.PartialEq.eq (payload g)
    (record {
      is_value = g.S.Certificate.Read.fits bound;
      encoding = g.S.Certificate.Encoding.encoding;
      reading = g.S.Certificate.Read.reading bound;
    })
    (signature g)

pub returns-clause-whose : goal.returns-clause-whose
returns-clause-whose g c =
    let es = c.args.report.now.evidence.items in
    IfOk-weaker c.listed.result _ _
    (λ found is. subst (AllZip IsOfEvidence (map evidence_value es)) (sym (is ∙ ap (map _) c.as_slice-evidence.ensures.value))
    (all_of_evidence g.K.Ord.cmp g.K.Key.key_of c.in_ok-places.places evidence_value es))
    c.listed.ensures

pub returns-clause-records : goal.returns-clause-records
returns-clause-records g c = IfOk-weaker c.listed.result _ _ (λ found is audit messages rest are.
    let cmp = g.K.Ord.cmp in
    let eq = g.K.PartialEq.eq in
    let key_of = g.K.Key.key_of in
    let payload_eq = g.D.PartialEq.eq in
    let signature_eq = g.S.Signature.PartialEq.eq in
    let listed = g.S.Listing.listed in
    let rules = rules_of (scheme_of payload_eq g.S.CertificateScheme.keys g.S.Scheme.good
    g.S.CertificateVerifier.certified listed) c.args.committees.now in
    let alike : (v w : SignedVote g.row.D.Denot g.row.S-Signature.Denot) →
    eq (key_of v) (key_of w) ≡ same_signed_vote payload_eq signature_eq v w =
    g.met.K.Key.alike in
    let itself : (v : SignedVote g.row.D.Denot g.row.S-Signature.Denot) → same_signed_vote payload_eq signature_eq v v ≡ true =
    λ v. sym (alike v v) ∙ g.met.K.Eq.laws.refl (key_of v) in
    let payload_is : (x y : g.row.D.Denot) → payload_eq x y ≡ true → (payload g).encoding x ≡ (payload g).encoding y =
    λ x y. (g.met.D.Fixed.equal x y).0 in
    let signature_is : (x y : g.row.S-Signature.Denot) → signature_eq x y ≡ true →
    (signature g).encoding x ≡ (signature g).encoding y =
    λ x y. (g.met.S.Signature.Fixed.equal x y).0 in
    let es = c.args.report.now.evidence.items in
    let before = c.in_ok-keys.keys in
    let after = c.in_ok-places.places in
    let noted = c.in_ok-places.ensures in
    let bounded = subst (λ b. AreMessages (format g b) c.args.stream.now noted.messages noted.rest) c.bound.ensures.value
    noted.are_messages in
    let same = (audit.single messages noted.messages rest noted.rest are bounded).0 in
    let encoding = (format g c.bound.result).encoding in
    let places = message_places (payload g) (signature g) listed in
    let noted_all = subst (NotesAlong cmp eq key_of (votes_placed (votes_in listed) places) encoding 0 before after) (sym same)
    noted.found in
    let sought = subst (All (λ e. AreSought cmp key_of before (evidence_value e))) c.as_slice-evidence.ensures.value
    c.in_ok-keys.ensures in
    let stand = records_stand cmp eq key_of (payload g) (signature g) payload_eq signature_eq payload_is signature_is alike
    itself (votes_in listed) places (is_valid rules) encoding c.args.stream.now messages
    (message_within payload_eq (payload g) g.S.Certificate.Encoding.encoding (signature g) listed g.met.S.Counted.counted
    c.args.stream.now messages rest are.whole) before after noted_all evidence_value es (audit.sound messages rest are) sought
    in
    subst (AllZip (IsRecord (carries payload_eq signature_eq listed) (IsVoteAt (payload g) (signature g) c.args.stream.now)
    encoding messages) (map evidence_value es)) (sym (is ∙ ap (map _) c.as_slice-evidence.ensures.value)) stand)
    c.listed.ensures

pub returns-clause-nowhere : goal.returns-clause-nowhere
returns-clause-nowhere g c = IfOk-weaker c.listed.result _ _ (λ found is messages rest are.
    let cmp = g.K.Ord.cmp in
    let eq = g.K.PartialEq.eq in
    let key_of = g.K.Key.key_of in
    let payload_eq = g.D.PartialEq.eq in
    let signature_eq = g.S.Signature.PartialEq.eq in
    let listed = g.S.Listing.listed in
    let es = c.args.report.now.evidence.items in
    let before = c.in_ok-keys.keys in
    let after = c.in_ok-places.places in
    let noted = c.in_ok-places.ensures in
    let bound = bound_of g.S.CertificateScheme.keys c.args.committees.now in
    let law = activity_lawful payload_eq (payload g) (record {
      is_value = g.S.Certificate.Read.fits bound;
      encoding = g.S.Certificate.Encoding.encoding;
      reading = g.S.Certificate.Read.reading bound;
    }) (signature g) g.met.D.Fixed.lawful (g.met.S.Certificate.Read.lawful bound) g.met.S.Signature.Fixed.lawful in
    let bounded = subst (λ b. AreMessages (format g b) c.args.stream.now noted.messages noted.rest) c.bound.ensures.value
    noted.are_messages in
    let same = (messages_once (format g bound) law c.args.stream.now rest noted.rest messages noted.messages are bounded).0 in
    let encoding = (format g bound).encoding in
    let places = message_places (payload g) (signature g) listed in
    let noted_all = subst (NotesAlong cmp eq key_of (votes_placed (votes_in listed) places) encoding 0 before after) (sym same)
    noted.found in
    let sought = subst (All (λ e. AreSought cmp key_of before (evidence_value e))) c.as_slice-evidence.ensures.value
    c.in_ok-keys.ensures in
    let nowhere = records_nowhere cmp eq key_of (same_signed_vote payload_eq signature_eq) g.met.K.Key.alike (votes_in listed)
    places encoding messages before after noted_all evidence_value es sought in
    subst (AllZip (HasNowhere (carries payload_eq signature_eq listed) messages) (map evidence_value es))
    (sym (is ∙ ap (map _) c.as_slice-evidence.ensures.value)) nowhere)
    c.listed.ensures
