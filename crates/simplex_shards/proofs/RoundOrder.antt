-- The orders of rounds and of accusations.
use Rattle.std.proofs.Common.{◌≡◌, Equal, refl, ap}
use Rattle.std.specs.Cmp.{IsTotalOrder}
use Rattle.std.specs.Ordering.{nat_cmp}
use Rattle.std.proofs.lemmas.Cmp.{nat_cmp_total, on_total, then_total}
use Rattle.std.proofs.lemmas.Map.Lookups.{CmpEqualImpliesEq, exact_pairs, exact_unsigned}
use Rattle.simplex_base.specs.Positions.{Round}
use Rattle.simplex_evidence.specs.Contradiction.{EquivocationKind, Conflicting_finalize, Conflicting_notarize, Nullify_finalize}
use Rattle.simplex_rules.specs.Accusation.{Accusation, accused_cmp, kind_rank, round_cmp, signer_cmp, signer_in}
use Rattle.simplex_rules.specs.declared.evidence.SignerInRound.{SignerInRound}

pub round_total : IsTotalOrder round_cmp
round_total = then_total (on_total (λ (r : Round). r.epoch) nat_cmp_total) (on_total (λ (r : Round). r.view) nat_cmp_total)

pub signer_total : IsTotalOrder signer_cmp
signer_total =
    then_total (on_total (λ (s : SignerInRound). s.round) round_total)
    (on_total (λ (s : SignerInRound). s.signer) nat_cmp_total)

pub accused_total : IsTotalOrder accused_cmp
accused_total =
    then_total (on_total (λ (n : Accusation). signer_in n.round n.signer) signer_total)
    (on_total (λ (n : Accusation). kind_rank n.kind) nat_cmp_total)

pub exact_round : CmpEqualImpliesEq round_cmp
exact_round a b h =
    ap (λ (p : _). record { epoch = p.0; view = p.1 })
    (exact_pairs nat_cmp nat_cmp exact_unsigned exact_unsigned (a.epoch, a.view) (b.epoch, b.view) h)

pub exact_signer : CmpEqualImpliesEq signer_cmp
exact_signer a b h =
    ap (λ (p : _). signer_in p.0 p.1)
    (exact_pairs round_cmp nat_cmp exact_round exact_unsigned (a.round, a.signer) (b.round, b.signer) h)

pub exact_accused : CmpEqualImpliesEq accused_cmp
exact_accused a b h =
    ap (λ (p : SignerInRound × EquivocationKind). record { round = p.0.round; signer = p.0.signer; kind = p.1 })
    (exact_pairs signer_cmp (λ k l. nat_cmp (kind_rank k) (kind_rank l)) exact_signer kinds
    (signer_in a.round a.signer, a.kind) (signer_in b.round b.signer, b.kind) h)
  where
    kinds : (k l : EquivocationKind) → nat_cmp (kind_rank k) (kind_rank l) ≡ Equal → k ≡ l
    kinds Conflicting_notarize Conflicting_notarize e = refl
    kinds Conflicting_finalize Conflicting_finalize e = refl
    kinds Nullify_finalize Nullify_finalize e = refl
    kinds _ _ e = absurd cc

-- accusations that tie are in one round
pub tied_round : (a b : Accusation) → accused_cmp a b ≡ Equal → a.round ≡ b.round
tied_round a b h = ap (λ (n : Accusation). n.round) (exact_accused a b h)
