use Rattle.simplex_rules.proofs.Prelude.{are_known, length, subject_value, take, valid_under, ◌≡◌}
use Rattle.simplex_rules.specs.Judging.{HoldsOf}
use Rattle.simplex_ballots.proofs.ApartLemmas.{GathersMore}
use Rattle.simplex_ballots.proofs.HeldLemmas.{RecordsMore}
use Rattle.simplex_ballots.proofs.round_votes.RoundVotes.observe_all.Given as goal

abbrev pub invariant-listed : goal.invariant-listed
invariant-listed g l =
    let n = length (g.S.CertificateScheme.keys l.fn.judge.committee.now) in
    let good = valid_under g.S.CertificateScheme.keys g.S.Scheme.good l.fn.judge.judging.now l.fn.judge.committee.now in
    let given = take l.attestation-index l.fn.attestations in record {
      wanted : l.apart.wanted ≡ l.fn.apart.wanted;
      told : HoldsOf l.fn.signatures (g.S.Scheme.good l.fn.judge.committee.now (subject_value l.fn.subject)) l.fn.attestations →
          RecordsMore g.D.PartialEq.eq n good (subject_value l.fn.subject) given l.news l.fn.self l.self
          × GathersMore g.D.PartialEq.eq n good (subject_value l.fn.subject) given (are_known l.fn.signatures) l.fn.self
          l.fn.apart l.apart;
    }
