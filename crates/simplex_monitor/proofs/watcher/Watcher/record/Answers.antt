use Rattle.std.proofs.Common.{Some, ap, is_some, refl, sym}
use Rattle.simplex_base.specs.Format.{fixed}
use Rattle.simplex_scheme.specs.Committees.{bound_of}
use Rattle.simplex_rules.specs.Judging.{rules_under}
use Rattle.simplex_rules.specs.Scheme.{scheme_of}
use Rattle.simplex_rules.specs.declared.judging.Judging.TheVariants.{From}
use Rattle.simplex_monitor.proofs.HoldingLemmas.{fits_kept, holds_kept, holds_nothing, on_both}
use Rattle.simplex_monitor.proofs.WatchingLemmas.{records_one}
use Rattle.simplex_monitor.proofs.watcher.Watcher.record.Goals as goal

-- nothing is held
pub returns-in-None : goal.returns-in-None
returns-in-None g c =
    records_one _ _ c.floor.result c.args.message.now c.args.self.now c.observe.new.detector c.observe.new.self
    c.args.self.now.held (c.rounds_are_independent.ensures.committees _) c.floor.ensures
    (c.floors_rise.ensures.judged c.args.committees.now c.floor.result)
    c.in_ok-observe-in-None.ensures.records c.in_ok-observe-in-None.ensures.sounds
    (holds_nothing _ _ _ c.args.self.now.detector c.args.self.now.held c.in-None.is) refl

-- what is kept is held
pub returns : goal.returns
returns g c =
    let kept = c.in_ok-kept-in-Some.kept in
    let judged = rules_under (scheme_of g.D.PartialEq.eq g.S.CertificateScheme.keys g.S.Scheme.good
    g.S.CertificateVerifier.certified g.S.Listing.listed) (From c.floor.result) c.args.committees.now in
    on_both c.append_news.result (λ written values.
    records_one _ _ c.floor.result c.args.message.now c.args.self.now c.observe_apart.new.detector c.observe_apart.new.self
    (Some c.append_news.new.kept) (c.rounds_are_independent.ensures.committees _) c.floor.ensures
    (c.floors_rise.ensures.judged c.args.committees.now c.floor.result)
    c.in_ok-kept-in-Some.ensures.records c.in_ok-kept-in-Some.ensures.sounds
    (holds_kept _ judged c.args.message.now c.args.self.now.detector c.args.self.now.held c.in-Some.held
    c.append_news.new.kept kept c.in-Some.is
    (c.same_state_suffices.ensures.joined judged g.met.D.Eq.laws)
    (λ ms. c.news_suffices.ensures.compaction judged ms g.met.D.Eq.laws)
    (λ ms k. c.news_suffices.ensures.next judged ms k)
    c.in_ok-kept-in-Some.ensures.kept written
    (fits_kept g.D.PartialEq.eq (fixed g.D.Fixed.SIZE g.D.Fixed.bytes_of g.D.Fixed.of_bytes)
    g.S.Certificate.Encoding.is_value
    (g.S.Certificate.Read.fits (bound_of g.S.CertificateScheme.keys c.args.committees.now))
    (fixed g.S.Signature.Fixed.SIZE g.S.Signature.Fixed.bytes_of g.S.Signature.Fixed.of_bytes)
    judged c.args.message.now kept values)) (ap is_some (sym c.in-Some.is)))
    c.append_news.ensures.written c.append_news.ensures.values
