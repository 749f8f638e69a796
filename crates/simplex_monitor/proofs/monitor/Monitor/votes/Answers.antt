use Rattle.std.proofs.Common.{subst, sym}
use Rattle.std.specs.Cmp.{IsEquivalence}
use Rattle.simplex_base.specs.Format.{fixed}
use Rattle.simplex_scheme.specs.Committees.{bound_of}
use Rattle.simplex_rules.specs.Scheme.{rules_of, scheme_of}
use Rattle.simplex_rules.specs.declared.judging.Judging.TheVariants.{From}
use Rattle.simplex_monitor.specs.Window.{floor_of}
use Rattle.simplex_monitor.proofs.MonitorLemmas.{few_votes, votes_retained}
use Rattle.simplex_monitor.proofs.RecordedLemmas.{in_conflict}
use Rattle.simplex_monitor.proofs.monitor.Monitor.votes.Goals as goal

pub returns-clause-number : goal.returns-clause-number
returns-clause-number g c start committees told stream listens =
    let floor = floor_of c.args.self.now.watcher.window in
    votes_retained _ _ listens.taken c.args.self.now _ (c.floors_rise.ensures.judged committees floor)
    (c.votes.ensures (From floor) committees listens.taken) listens.watches.holds.recalls

pub returns-clause-bounded : goal.returns-clause-bounded
returns-clause-bounded g c start committees told stream listens =
    let rules = rules_of (scheme_of g.D.PartialEq.eq g.S.CertificateScheme.keys g.S.Scheme.good
    g.S.CertificateVerifier.certified g.S.Listing.listed) committees in
    few_votes _ c.args.self.now start committees told stream c.votes.result listens
    (returns-clause-number g c start committees told stream listens)
    (λ m is. c.rounds_are_independent.ensures.whole rules m (in_conflict g.D.PartialEq.eq
    (fixed g.D.Fixed.SIZE g.D.Fixed.bytes_of g.D.Fixed.of_bytes)
    (g.S.Certificate.Read.fits (bound_of g.S.CertificateScheme.keys committees))
    (fixed g.S.Signature.Fixed.SIZE g.S.Signature.Fixed.bytes_of g.S.Signature.Fixed.of_bytes) m is))
    (λ judged messages same members round. c.few_votes_are_recorded.ensures.round judged messages
    (subst IsEquivalence (sym same) g.met.D.Eq.laws) members round)
    (λ part. c.rounds_are_independent.ensures.committees rules part listens.members)
