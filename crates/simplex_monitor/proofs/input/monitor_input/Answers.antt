use Rattle.std.proofs.Common.{rules, arith, ℕ, List, [], ◌++◌, length, take, subst, sym, ap, ◌≡◌, ◌∙◌, length-append, append-nil, append_assoc}
use Rattle.std.specs.Io.KnownBytes.{Consumes}
use Rattle.std.proofs.KnownBytes.{Consumes-kept, Consumes-nil, Consumes-trans}
use Rattle.std.proofs.lemmas.List.{length-take-le}
use Rattle.simplex_stream.specs.DeviceLaws.{front_of}
use Rattle.simplex_stream.specs.Watched.{inner_of}
use Rattle.simplex_monitor.proofs.HearingLemmas.{begun_here, begun_look, begun_on, heard_look, heard_on, hears_look, if_err}
use Rattle.simplex_monitor.proofs.input.monitor_input.Invariants.{basis}
use Rattle.simplex_monitor.proofs.input.monitor_input.Goals as goal

-- the first look was not written whole
pub returns-in_err-tell-clause-begun : goal.returns-in_err-tell-clause-begun
returns-in_err-tell-clause-begun g c =
    if_err c.from_residual.result _ (
      [],
      [],
      Consumes-nil _,
      begun_look (basis g) g.D.Fixed.bytes_of c.args.monitor c.news.new.self [] c.news.result _ _
          (hears_look (basis g) c.args.monitor c.news.new.self c.news.result c.news.ensures.fed c.news.ensures.listens
          c.news.ensures.holds)
          c.in_err-tell.ensures.begun,
    )

pub returns-in_err-piece-clause-begun : goal.returns-in_err-piece-clause-begun
returns-in_err-piece-clause-begun g c =
    let heard = heard_look (basis g) g.D.Fixed.bytes_of c.args.monitor c.news.new.self [] c.news.result _ _
    (hears_look (basis g) c.args.monitor c.news.new.self c.news.result c.news.ensures.fed c.news.ensures.listens
    c.news.ensures.holds)
    c.news.ensures.told c.in_ok-tell.ensures.written in
    if_err c.from_residual-in_err-piece.result _ (
      [],
      [],
      Consumes-nil _,
      begun_here (basis g) g.D.Fixed.bytes_of c.args.monitor [] c.news.new.self _ _ heard,
    )

pub reads-init : goal.reads-init
reads-init g c = (
  search rules,
  search rules,
  search rules,
  search rules,
  (
    [],
    Consumes-nil _,
    search rules,
    heard_look (basis g) g.D.Fixed.bytes_of c.args.monitor c.news.new.self [] c.news.result _ _
        (hears_look (basis g) c.args.monitor c.news.new.self c.news.result c.news.ensures.fed c.news.ensures.listens
        c.news.ensures.holds)
        c.news.ensures.told c.in_ok-tell.ensures.written,
  ),
)

-- a read failed
pub returns-in_err-count-clause-at_once : goal.returns-in_err-count-clause-at_once
returns-in_err-count-clause-at_once g c = λ e.
    let (input, consumed, all, heard) = c.reads.invariant.4 in
    (input, c.reads.monitor, Consumes-kept _ _ _ _ consumed c.in_err-count.ensures.kept, heard)

pub returns-in_err-count-clause-begun : goal.returns-in_err-count-clause-begun
returns-in_err-count-clause-begun g c =
    let (input, consumed, all, heard) = c.reads.invariant.4 in
    if_err c.from_residual-in_err-count.result _ (
      input,
      [],
      subst (Consumes _ _) (sym (append-nil input)) (Consumes-kept _ _ _ _ consumed c.in_err-count.ensures.kept),
      begun_here (basis g) g.D.Fixed.bytes_of c.args.monitor input c.reads.monitor _ _ heard,
    )

pub returns-then-count-eq0-clause-whole : goal.returns-then-count-eq0-clause-whole
returns-then-count-eq0-clause-whole g c =
    let (input, consumed, all, heard) = c.reads.invariant.4 in
    let none : c.in_ok-count.count ≡ 0 = search rules in (
      input,
      subst (Consumes _ _) (ap (λ (k : ℕ). input ++ take k c.read_some.new.piece) none ∙ append-nil input)
          (Consumes-trans _ _ _ _ _ consumed c.in_ok-count.ensures.bytes),
      heard,
    )

pub returns-then-count-eq0-clause-flushed : goal.returns-then-count-eq0-clause-flushed
returns-then-count-eq0-clause-flushed g c = c.reads.invariant.3

pub returns-then-count-seen-clause-begun : goal.returns-then-count-seen-clause-begun
returns-then-count-seen-clause-begun g c =
    let (input, consumed, all, heard) = c.reads.invariant.4 in (
      input,
      take c.in_ok-count.count c.read_some.new.piece,
      Consumes-trans _ _ _ _ _ consumed c.in_ok-count.ensures.bytes,
      begun_here (basis g) g.D.Fixed.bytes_of c.args.monitor input c.reads.monitor _ _ heard,
    )

pub returns-then-count-seen-clause-too_long : goal.returns-then-count-seen-clause-too_long
returns-then-count-seen-clause-too_long g c = λ e.
    let (input, consumed, all, heard) = c.reads.invariant.4 in
    let many = c.if-count-seen.true in
    let size = length-take-le c.in_ok-count.count c.read_some.new.piece c.in_ok-count.ensures.within in (
      input ++ take c.in_ok-count.count c.read_some.new.piece,
      rw length-append (omega (arith, all, many, size)),
      Consumes-trans _ _ _ _ _ consumed c.in_ok-count.ensures.bytes,
    )

-- a piece was fed or its lines were written in part
pub returns-in_err-monitor-clause-at_once : goal.returns-in_err-monitor-clause-at_once
returns-in_err-monitor-clause-at_once g c = λ e. absurd (c.in_err-monitor.ensures.error.0 (search rules))

pub returns-in_err-monitor-clause-too_long : goal.returns-in_err-monitor-clause-too_long
returns-in_err-monitor-clause-too_long g c = λ e. absurd (c.in_err-monitor.ensures.error.1 (search rules))

pub returns-in_err-monitor-clause-begun : goal.returns-in_err-monitor-clause-begun
returns-in_err-monitor-clause-begun g c =
    let (input, consumed, all, heard) = c.reads.invariant.4 in
    let (more, left, is, begun) = c.in_err-monitor.ensures.begun in
    let within = c.in_ok-count.ensures.within in
    let long = c.as_mut_slice.ensures.len in
    let same : take c.in_ok-count.count c.deref.result.now ≡ take c.in_ok-count.count c.read_some.new.piece =
    ap (λ (xs : List ℕ). take c.in_ok-count.count xs) c.deref.ensures.value
    ∙ front_of c.read_some.new.piece _ c.in_ok-count.count _ within (omega arith) in
    let came =
    subst (Consumes (g.R.Read.remaining (inner_of c.reads.reader)) (g.R.Read.remaining (inner_of c.read_some.new.reader)))
    (sym same) c.in_ok-count.ensures.bytes in
    if_err c.from_residual-in_err-monitor.result _ (
      input ++ more,
      left,
      subst (Consumes _ _) (ap (λ (t : List ℕ). input ++ t) is ∙ sym (append_assoc input more left))
          (Consumes-trans _ _ _ _ _ consumed came),
      begun_on (basis g) g.D.Fixed.bytes_of c.args.monitor input c.reads.monitor _ _ heard more _ begun,
    )

pub reads-preserved : goal.reads-preserved
reads-preserved g c =
    let (input, consumed, all, heard) = c.reads.invariant.4 in
    let (news, hears, written) = c.in_ok-monitor.ensures.hears in
    let within = c.in_ok-count.ensures.within in
    let long = c.as_mut_slice.ensures.len in
    let same : take c.in_ok-count.count c.deref.result.now ≡ take c.in_ok-count.count c.read_some.new.piece =
    ap (λ (xs : List ℕ). take c.in_ok-count.count xs) c.deref.ensures.value
    ∙ front_of c.read_some.new.piece _ c.in_ok-count.count _ within (omega arith) in
    let came =
    subst (Consumes (g.R.Read.remaining (inner_of c.reads.reader)) (g.R.Read.remaining (inner_of c.read_some.new.reader)))
    (sym same) c.in_ok-count.ensures.bytes in
    let size : length (take c.in_ok-count.count c.deref.result.now) ≡ c.in_ok-count.count =
    ap length same ∙ length-take-le c.in_ok-count.count c.read_some.new.piece within in (
      search rules,
      search rules,
      search rules,
      search rules,
      (
        input ++ take c.in_ok-count.count c.deref.result.now,
        Consumes-trans _ _ _ _ _ consumed came,
        rw length-append (omega (arith, all, size)),
        heard_on (basis g) g.D.Fixed.bytes_of c.args.monitor input c.reads.monitor _ _ heard _ news _ _ hears written
            c.in_ok-monitor.ensures.told,
      ),
    )
