use Rattle.std.proofs.Common.{Some, arith, ℕ, List, [], subst, sym, ◌∙◌}
use Rattle.std.specs.List.{flat_map}
use Rattle.simplex_base.specs.Format.{Format, fixed}
use Rattle.simplex_evidence.specs.Activity.{activity_format}
use Rattle.simplex_evidence.specs.declared.types.activity.Activity.{Activity}
use Rattle.simplex_scheme.specs.Committees.{bound_of}
use Rattle.simplex_rules.specs.Independence.{is_from, of_rounds}
use Rattle.simplex_rules.specs.Scheme.{rules_of, scheme_of}
use Rattle.simplex_stream.specs.Messages.{AreMessages}
use Rattle.simplex_monitor.specs.Window.{floor_of}
use Rattle.simplex_monitor.proofs.HoldingLemmas.{holds_short, stands_by, stands_if}
use Rattle.simplex_monitor.proofs.MonitorLemmas.{listens_held, taken_values}
use Rattle.simplex_monitor.proofs.RecordedLemmas.{in_conflict}
use Rattle.simplex_monitor.proofs.monitor.Monitor.shorten.Given as given
use Rattle.simplex_monitor.proofs.monitor.Monitor.shorten.Goals as goal

-- the format of messages under a bound
abbrev format : (g : given.Over) → ℕ → Format (Activity g.row.S.Denot g.row.D.Denot g.row.S-Certificate.Denot
    g.row.S-PublicKey.Denot g.row.S-Signature.Denot)
format g bound =
    activity_format g.D.PartialEq.eq (fixed g.D.Fixed.SIZE g.D.Fixed.bytes_of g.D.Fixed.of_bytes)
    (record {
      is_value = g.S.Certificate.Read.fits bound;
      encoding = g.S.Certificate.Encoding.encoding;
      reading = g.S.Certificate.Read.reading bound;
    }) (fixed g.S.Signature.Fixed.SIZE g.S.Signature.Fixed.bytes_of g.S.Signature.Fixed.of_bytes)

pub returns-clause-short : goal.returns-clause-short
returns-clause-short g c start committees told stream listens =
    let bound = bound_of g.S.CertificateScheme.keys committees in
    let rules = rules_of (scheme_of g.D.PartialEq.eq g.S.CertificateScheme.keys g.S.Scheme.good
    g.S.CertificateVerifier.certified g.S.Listing.listed) committees in
    let floor = floor_of c.args.self.now.watcher.window in
    holds_short _ floor listens.taken c.in-Some.held.items c.in_ok-kept.kept (λ m. omega arith)
    (taken_values _ c.args.self.now start committees told stream listens)
    (λ m is. c.rounds_are_independent.ensures.whole rules m (in_conflict g.D.PartialEq.eq
    (fixed g.D.Fixed.SIZE g.D.Fixed.bytes_of g.D.Fixed.of_bytes) (g.S.Certificate.Read.fits bound)
    (fixed g.S.Signature.Fixed.SIZE g.S.Signature.Fixed.bytes_of g.S.Signature.Fixed.of_bytes) m is))
    (λ messages one. c.rounds_are_independent.ensures.alone rules (is_from floor) messages one)
    (λ messages are. c.in_ok-kept.ensures messages
    (subst (λ (n : ℕ). AreMessages (format g n) c.as_slice.result.now messages []) (sym listens.bound_is)
    (subst (λ (xs : List ℕ). AreMessages (format g bound) xs messages []) (sym c.as_slice.ensures.value) are))
    ∙ (λ i. flat_map (format g bound).encoding (of_rounds (is_from (c.floor-floor.ensures i)) messages)))
    (stands_if _ floor listens.taken c.args.self.now.watcher.held c.in-Some.held c.in-Some.is listens.watches.holds.stands)

pub returns-clause-listens : goal.returns-clause-listens
returns-clause-listens g c =
    listens_held _ c.args.self.now (Some c.in_ok-kept.kept) (λ start committees told stream listens.
    stands_by _ (floor_of c.args.self.now.watcher.window) listens.taken c.in_ok-kept.kept.items
    (returns-clause-short g c start committees told stream listens).holds)
