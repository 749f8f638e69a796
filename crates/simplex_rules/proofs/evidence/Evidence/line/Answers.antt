use Rattle.simplex_rules.proofs.Prelude.{IfOk, evidence_value, line_of, string_bytes, subst, sym, ◌≡◌}
use Rattle.simplex_rules.proofs.evidence.Evidence.line.Goals as goal

pub returns-in-ConflictingNotarize : goal.returns-in-ConflictingNotarize
returns-in-ConflictingNotarize g c =
    subst
    (λ e. IfOk c.conflicting_notarize_line.result (λ line. string_bytes line ≡ line_of g.D.Fixed.bytes_of (evidence_value e)))
    (sym c.in-ConflictingNotarize.is) c.conflicting_notarize_line.ensures

pub returns-in-ConflictingFinalize : goal.returns-in-ConflictingFinalize
returns-in-ConflictingFinalize g c =
    subst
    (λ e. IfOk c.conflicting_finalize_line.result (λ line. string_bytes line ≡ line_of g.D.Fixed.bytes_of (evidence_value e)))
    (sym c.in-ConflictingFinalize.is) c.conflicting_finalize_line.ensures

pub returns-in-NullifyFinalize : goal.returns-in-NullifyFinalize
returns-in-NullifyFinalize g c =
    subst (λ e. IfOk c.nullify_finalize_line.result (λ line. string_bytes line ≡ line_of g.D.Fixed.bytes_of (evidence_value e)))
    (sym c.in-NullifyFinalize.is) c.nullify_finalize_line.ensures
