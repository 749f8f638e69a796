-- Messages of each tag whose parts behind the round are skipped.
use Rattle.std.proofs.Common.{◌≡◌, ◌⊎◌, inl, inr, ℕ, Bool, List, Ok, refl, subst, sym}
use Rattle.simplex_base.specs.Format.{Format, both, both_at}
use Rattle.simplex_base.specs.Positions.{Round, round_format}
use Rattle.simplex_base.specs.Varint.{number_64}
use Rattle.simplex_scheme.specs.Attestation.{attestation_format}
use Rattle.simplex_scheme.specs.Proposal.{proposal_format}
use Rattle.simplex_scheme.specs.declared.proposal.Proposal.{Proposal}
use Rattle.simplex_votes.specs.Encodings.{notarize_format, nullify_format, finalize_format, notarization_format, nullification_format, finalization_format}
use Rattle.simplex_evidence.specs.Activity.{activity_format, activity_round}
use Rattle.simplex_evidence.specs.declared.types.activity.Activity.TheVariants as activity
use Rattle.simplex_shards.specs.Skips.{Skips, SkipsBehind, SkipsBoth}
use Rattle.simplex_shards.proofs.SkipLemmas.{both_ok, made_ok}

module _ (S P : Type 0) {D C G : Type 0} (eq : D → D → Bool) (payload : Format D) (certificate : Format C)
    (signature : Format G) (bytes rest : List ℕ) where
  -- what is known of the bytes
  abbrev pub Behind : ℕ → Type 0
  Behind tag = SkipsBehind (activity_format {S = S} {P = P} eq payload certificate signature).reading
      (λ m. activity_round m) tag bytes rest

  abbrev pub Signed : Type 0
  Signed = SkipsBoth (both number_64 payload).reading (attestation_format {S = S} {P = P} signature).reading bytes rest

  abbrev pub Certified : Type 0
  Certified = SkipsBoth (both number_64 payload).reading certificate.reading bytes rest

  -- the proposal that is read of a round and what stands behind it
  proposal_read : (body middle : List ℕ) (round : Round) (behind : ℕ × D) → round_format.reading body ≡ Ok (round, bytes) →
      (both number_64 payload).reading bytes ≡ Ok (behind, middle) →
      (proposal_format payload).reading body ≡ Ok (record { round = round; parent = behind.0; payload = behind.1 }, middle)
  proposal_read body middle round behind head e =
      made_ok (λ p. record { round = p.0; parent = p.1.0; payload = p.1.1 })
      (both round_format (both number_64 payload)).reading
      body middle (round, behind)
      (both_ok round_format.reading (both number_64 payload).reading body bytes middle round behind head e)

  -- votes and certificates for a proposal
  pub notarize_behind : Signed → Behind 0
  notarize_behind s body round head =
      let proposal : Proposal D = record { round = round; parent = s.1.0.0; payload = s.1.0.1 } in
      let read = made_ok (λ p. record { proposal = p.0; attestation = p.1 })
      (both_at (proposal_format payload).reading (attestation_format {S = S} {P = P} signature).reading) body rest
      (proposal, s.2.0) (both_ok (proposal_format payload).reading (attestation_format {S = S} {P = P} signature).reading body
      s.0
      rest proposal s.2.0 (proposal_read body s.0 round s.1.0 head s.1.1) s.2.1) in (
        activity.Notarize (record { proposal = proposal; attestation = s.2.0 }),
        refl,
        made_ok (λ v. activity.Notarize v) (notarize_format {S = S} {P = P} payload signature).reading body rest _ read,
      )

  pub finalize_behind : Signed → Behind 5
  finalize_behind s body round head =
      let proposal : Proposal D = record { round = round; parent = s.1.0.0; payload = s.1.0.1 } in
      let read = made_ok (λ p. record { proposal = p.0; attestation = p.1 })
      (both_at (proposal_format payload).reading (attestation_format {S = S} {P = P} signature).reading) body rest
      (proposal, s.2.0) (both_ok (proposal_format payload).reading (attestation_format {S = S} {P = P} signature).reading body
      s.0
      rest proposal s.2.0 (proposal_read body s.0 round s.1.0 head s.1.1) s.2.1) in (
        activity.Finalize (record { proposal = proposal; attestation = s.2.0 }),
        refl,
        made_ok (λ v. activity.Finalize v) (finalize_format {S = S} {P = P} payload signature).reading body rest _ read,
      )

  -- what is read of a certificate message for a proposal
  certified_read : (body : List ℕ) (round : Round) → round_format.reading body ≡ Ok (round, bytes) → (s : Certified) →
      both_at (proposal_format payload).reading certificate.reading body
      ≡ Ok ((record { round = round; parent = s.1.0.0; payload = s.1.0.1 }, s.2.0), rest)
  certified_read body round head s =
      both_ok (proposal_format payload).reading certificate.reading body s.0 rest
      (record { round = round; parent = s.1.0.0; payload = s.1.0.1 }) s.2.0 (proposal_read body s.0 round s.1.0 head s.1.1)
      s.2.1

  pub notarization_behind : Certified → Behind 1
  notarization_behind s body round head =
      let proposal : Proposal D = record { round = round; parent = s.1.0.0; payload = s.1.0.1 } in (
        activity.Notarization (record { proposal = proposal; certificate = s.2.0 }),
        refl,
        made_ok (λ n. activity.Notarization n) (notarization_format {S = S} {P = P} {G = G} payload certificate).reading body
            rest _
            (made_ok (λ p. record { proposal = p.0; certificate = p.1 })
            (both_at (proposal_format payload).reading certificate.reading)
            body rest (proposal, s.2.0) (certified_read body round head s)),
      )

  pub certification_behind : Certified → Behind 2
  certification_behind s body round head =
      let proposal : Proposal D = record { round = round; parent = s.1.0.0; payload = s.1.0.1 } in (
        activity.Certification (record { proposal = proposal; certificate = s.2.0 }),
        refl,
        made_ok (λ n. activity.Certification n) (notarization_format {S = S} {P = P} {G = G} payload certificate).reading body
            rest
            _ (made_ok (λ p. record { proposal = p.0; certificate = p.1 })
            (both_at (proposal_format payload).reading certificate.reading) body rest (proposal, s.2.0)
            (certified_read body round head s)),
      )

  pub finalization_behind : Certified → Behind 6
  finalization_behind s body round head =
      let proposal : Proposal D = record { round = round; parent = s.1.0.0; payload = s.1.0.1 } in (
        activity.Finalization (record { proposal = proposal; certificate = s.2.0 }),
        refl,
        made_ok (λ n. activity.Finalization n) (finalization_format {S = S} {P = P} {G = G} payload certificate).reading body
            rest _
            (made_ok (λ p. record { proposal = p.0; certificate = p.1 })
            (both_at (proposal_format payload).reading certificate.reading)
            body rest (proposal, s.2.0) (certified_read body round head s)),
      )

  pub certified_behind : (tag : ℕ) → (tag ≡ 1) ⊎ (tag ≡ 6) → Certified → Behind tag
  certified_behind tag (inl is) s = subst Behind (sym is) (notarization_behind s)
  certified_behind tag (inr is) s = subst Behind (sym is) (finalization_behind s)

  pub signed_behind : (tag : ℕ) → (tag ≡ 0) ⊎ (tag ≡ 5) → Signed → Behind tag
  signed_behind tag (inl is) s = subst Behind (sym is) (notarize_behind s)
  signed_behind tag (inr is) s = subst Behind (sym is) (finalize_behind s)

  -- those for a round
  pub nullify_behind : Skips (attestation_format {S = S} {P = P} signature).reading bytes rest → Behind 3
  nullify_behind s body round head = (
    activity.Nullify (record { round = round; attestation = s.0 }),
    refl,
    made_ok (λ v. activity.Nullify v) (nullify_format {S = S} {P = P} signature).reading body rest _
        (made_ok (λ p. record { round = p.0; attestation = p.1 })
        (both_at round_format.reading (attestation_format {S = S} {P = P} signature).reading) body rest (round, s.0)
        (both_ok round_format.reading (attestation_format {S = S} {P = P} signature).reading body bytes rest round s.0 head
        s.1)),
  )

  pub nullification_behind : Skips certificate.reading bytes rest → Behind 4
  nullification_behind s body round head = (
    activity.Nullification (record { round = round; certificate = s.0 }),
    refl,
    made_ok (λ n. activity.Nullification n) (nullification_format {S = S} {P = P} {G = G} certificate).reading body rest _
        (made_ok (λ p. record { round = p.0; certificate = p.1 }) (both_at round_format.reading certificate.reading) body rest
        (round, s.0) (both_ok round_format.reading certificate.reading body bytes rest round s.0 head s.1)),
  )
