use Rattle.std.proofs.Common.{refl}
use Rattle.simplex_base.specs.Format.{fixed}
use Rattle.simplex_evidence.specs.Activity.{IsActivity, activity_encoding}
use Rattle.simplex_rules.specs.Judging.{rules_under}
use Rattle.simplex_rules.specs.Scheme.{scheme_of}
use Rattle.simplex_audit.proofs.CompactionLemmas.{compacts_one, when_both}
use Rattle.simplex_audit.proofs.compaction.CompactorVisitorActivity.take.Goals as goal

pub returns : goal.returns
returns g c =
    let payload = fixed g.D.Fixed.SIZE g.D.Fixed.bytes_of g.D.Fixed.of_bytes in
    let signature = fixed g.S.Signature.Fixed.SIZE g.S.Signature.Fixed.bytes_of g.S.Signature.Fixed.of_bytes in
    when_both c.append_news.result
    (compacts_one (IsActivity g.D.PartialEq.eq payload g.S.Certificate.Encoding.is_value signature)
    (activity_encoding g.D.PartialEq.eq payload g.S.Certificate.Encoding.encoding signature)
    (λ judging. rules_under (scheme_of g.D.PartialEq.eq g.S.CertificateScheme.keys g.S.Scheme.good
    g.S.CertificateVerifier.certified g.S.Listing.listed) judging c.args.committees.now)
    c.args.message.now c.in_ok-news.news c.args.self.now _
    (record { judging = refl; recalls = c.in_ok-news.ensures.records }) c.in_ok-news.ensures.kept)
    c.append_news.ensures.written c.append_news.ensures.values
