use Rattle.std.proofs.Common.{ℕ, refl, sym, ◌∙◌}
use Rattle.simplex_base.specs.Format.{Format, fixed}
use Rattle.simplex_evidence.specs.Activity.{activity_format}
use Rattle.simplex_evidence.specs.declared.types.activity.Activity.{Activity}
use Rattle.simplex_monitor.proofs.MonitorLemmas.{holds_on, listens_on, listens_over}
use Rattle.simplex_monitor.proofs.monitor.Monitor.feed.Given as given
use Rattle.simplex_monitor.proofs.monitor.Monitor.feed.Goals as goal

-- the format of messages under a bound
abbrev format : (g : given.Over) → ℕ → Format (Activity g.row.S.Denot g.row.D.Denot g.row.S-Certificate.Denot
    g.row.S-PublicKey.Denot g.row.S-Signature.Denot)
format g bound =
    activity_format g.D.PartialEq.eq (fixed g.D.Fixed.SIZE g.D.Fixed.bytes_of g.D.Fixed.of_bytes)
    (record {
      is_value = g.S.Certificate.Read.fits bound;
      encoding = g.S.Certificate.Encoding.encoding;
      reading = g.S.Certificate.Read.reading bound;
    }) (fixed g.S.Signature.Fixed.SIZE g.S.Signature.Fixed.bytes_of g.S.Signature.Fixed.of_bytes)

pub returns-then-is_over-clause-listens : goal.returns-then-is_over-clause-listens
returns-then-is_over-clause-listens g c = λ start committees told stream.
    listens_over _ c.args.self c.args.piece.now (sym c.is_over.ensures ∙ c.if-is_over.true) start committees told stream

pub returns-clause-listens : goal.returns-clause-listens
returns-clause-listens g c =
    listens_on _ (format g) c.args.self c.feed.new.self c.feed.new.visitor c.args.piece.now (λ s. refl)
    (sym c.is_over.ensures ∙ c.if-is_over.false) c.in_ok-feed.ensures.decoded

pub returns-clause-holds : goal.returns-clause-holds
returns-clause-holds g c =
    holds_on _ (format g) c.args.self c.feed.new.self c.feed.new.visitor c.args.piece.now (λ s. refl)
    c.in_ok-feed.ensures.decoded
