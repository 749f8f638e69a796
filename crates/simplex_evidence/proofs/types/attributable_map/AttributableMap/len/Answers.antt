use Rattle.std.proofs.Common.{◌≡◌, ap, length, arith}
use Rattle.simplex_evidence.proofs.CountLemmas.{firsts_counted}
use Rattle.simplex_evidence.proofs.GapLemmas.{length_le}
use Rattle.simplex_evidence.proofs.types.attributable_map.AttributableMap.len.Goals as goal

pub returns-clause-most : goal.returns-clause-most
returns-clause-most g c =
    rw (← ap (λ m. m.participants) c.self.view_is)
    (omega (arith, length_le g.T.Attributable.signer_of _ _ c.self.invariant.0 c.self.invariant.1, c.len.ensures))

pub returns-clause-signers : goal.returns-clause-signers
returns-clause-signers g c inserted firsts =
    let counted = firsts_counted g.T.Attributable.signer_of _ inserted _ firsts in
    let kept : length c.self.inside.items.items ≡ length c.args.self.now.items = ap (λ m. length m.items) c.self.view_is in
    omega (arith, counted, kept, c.len.ensures)
