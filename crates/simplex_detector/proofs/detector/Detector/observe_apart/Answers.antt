use Rattle.simplex_rules.proofs.Prelude.{rules_under, scheme_of, ◌∙◌}
use Rattle.simplex_detector.proofs.GatherLemmas.{kept_told}
use Rattle.simplex_detector.proofs.detector.Detector.observe_apart.Goals as goal

pub returns : goal.returns
returns g c =
    let rules = rules_under (scheme_of g.D.PartialEq.eq g.S.CertificateScheme.keys g.S.Scheme.good
    g.S.CertificateVerifier.certified g.S.Listing.listed) c.args.judging.now c.args.committees.now in
    let m = c.args.message.now in
    record {
      records = c.in_ok-is_news.ensures.records;
      news = λ messages holds. c.news.ensures.is_news ∙ c.in_ok-is_news.ensures.news messages holds;
      kept = λ messages holds.
          c.news.ensures.kept m ∙ kept_told rules messages m c.in_ok-is_news.is_news c.new-apart.result c.record.new.apart
          c.new-apart.ensures.wanted c.new-apart.ensures.votes (c.in_ok-is_news.ensures.news messages holds)
          (c.in_ok-is_news.ensures.gathers messages holds);
    }
