use Rattle.std.proofs.Common.{string_bytes, sym, rules}
use Rattle.std.proofs.KnownBytes.{Consumes-whole}
use Rattle.simplex_audit.proofs.stored.run_deferred.Goals as goal

pub returns-in_err-write_text-clause-beginning : goal.returns-in_err-write_text-clause-beginning
returns-in_err-write_text-clause-beginning g c = λ e. (
  c.in_ok-stream.stream.items,
  string_bytes c.in_ok-summary.text,
  c.in_ok-summary.summary,
  c.in_ok-stream.ensures.bytes,
  c.in_ok-stream.ensures.end,
  c.in_ok-summary.ensures _ _ (rw (sym c.as_slice.ensures.value) c.in_ok-report.ensures.audit),
  search rules,
)

pub returns-clause-whole : goal.returns-clause-whole
returns-clause-whole g c = (
  c.in_ok-stream.stream.items,
  string_bytes c.in_ok-summary.text,
  c.in_ok-stream.ensures.bytes,
  c.in_ok-stream.ensures.end,
  c.in_ok-summary.ensures _ _ (rw (sym c.as_slice.ensures.value) c.in_ok-report.ensures.audit),
  search rules,
)

pub returns-clause-known : goal.returns-clause-known
returns-clause-known g c =
    Consumes-whole _ _ c.in_ok-stream.stream.items _ c.in_ok-stream.ensures.bytes c.in_ok-stream.ensures.end (
      string_bytes c.in_ok-summary.text,
      c.in_ok-summary.ensures _ _ (rw (sym c.as_slice.ensures.value) c.in_ok-report.ensures.audit),
      search rules,
    )
