use Rattle.std.proofs.Common.{refl, ap, ◌∙◌}
use Rattle.simplex_rules.specs.Judging.{rules_under}
use Rattle.simplex_rules.specs.Scheme.{scheme_of}
use Rattle.simplex_rules.specs.declared.judging.Judging.TheVariants.{Verified}
use Rattle.simplex_shards.specs.Cut.{class_under}
use Rattle.simplex_shards.proofs.PartLemmas.{part_elsewhere, part_here}
use Rattle.simplex_shards.proofs.part.PartRecorderVisitorActivity.take.Goals as goal

pub returns-then-class_of-self : goal.returns-then-class_of-self
returns-then-class_of-self g c =
    part_elsewhere (rules_under (scheme_of g.D.PartialEq.eq g.S.CertificateScheme.keys g.S.Scheme.good
    g.S.CertificateVerifier.certified g.S.Listing.listed) Verified c.args.committees.now) c.args.message.now c.args.self.now
    c.class_of.result (c.class_of.ensures.value ∙ ap (class_under c.args.self.now.cut) c.round.ensures)
    c.if-class_of-self.true

pub returns : goal.returns
returns g c =
    part_here (rules_under (scheme_of g.D.PartialEq.eq g.S.CertificateScheme.keys g.S.Scheme.good
    g.S.CertificateVerifier.certified g.S.Listing.listed) Verified c.args.committees.now) c.args.message.now c.args.self.now _
    c.class_of.result (c.class_of.ensures.value ∙ ap (class_under c.args.self.now.cut) c.round.ensures)
    c.if-class_of-self.false refl refl refl c.in_ok-observe.ensures.records
