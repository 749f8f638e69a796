use Rattle.simplex_rules.proofs.Prelude.{append-nil, refl, subject_value, subst, sym, take_all, take_more, true, valid_under, ◌∙◌, ◌≡◌}
use Rattle.simplex_ballots.proofs.ApartLemmas.{gathers_nothing, gathers_one_more}
use Rattle.simplex_ballots.proofs.HeldLemmas.{records_one_more}
use Rattle.simplex_ballots.proofs.round_votes.RoundVotes.observe_all.Goals as goal

pub listed-init : goal.listed-init
listed-init g c = record {
  wanted = refl;
  told = λ known. (
    record { held = λ vs holds. rw (append-nil vs) holds; tells = λ vs holds. refl },
    record { gathered = λ vs holds. gathers_nothing c.args.apart.now.votes.items _ },
  );
}

-- the signature of each is known to be valid where all are
pub listed-preserved : goal.listed-preserved
listed-preserved g c = record {
  wanted = c.in_ok-add_if.ensures.wanted ∙ c.listed.invariant.wanted;
  told = λ known.
      let good = valid_under g.S.CertificateScheme.keys g.S.Scheme.good c.args.judge.now.judging.now
      c.args.judge.now.committee.now in
      let before = c.listed.invariant.told known in
      let one = c.in_ok-recorded.ensures (λ verified.
      subst (λ a. g.S.Scheme.good c.args.judge.now.committee.now (subject_value c.args.subject.now) a.signer a.signature ≡ true)
      (sym c.attestation-item.is)
      (known verified c.listed.attestation-index c.attestation-item.result c.listed-test.true)) in
      rw (
        c.either-news.ensures,
        take_more c.args.attestations.now c.listed.attestation-index c.attestation-item.result c.listed-test.true,
        sym c.attestation-item.is,
      ) (
        records_one_more g.D.PartialEq.eq _ good (subject_value c.args.subject.now) _ c.attestation-item.result c.listed.news _
            c.args.self.now c.listed.self c.observe.new.self before.0 one,
        gathers_one_more g.D.PartialEq.eq _ good (subject_value c.args.subject.now) _ c.attestation-item.result _ c.listed.news
            _ c.args.self.now c.listed.self c.observe.new.self c.args.apart.now c.listed.apart c.add_if.new.self before.0 one
            c.listed.invariant.wanted before.1 c.in_ok-add_if.ensures.votes,
      );
}

pub returns : goal.returns
returns g c =
    let all = rw (take_all c.listed.attestation-index c.args.attestations.now c.listed-test.false) at c.listed.invariant.told in
    record { records = λ known. (all known).0; wanted = c.listed.invariant.wanted; gathers = λ known. (all known).1 }
