use Rattle.simplex_rules.proofs.Prelude.{All-contains_from_tree_list, btree_set_contains_from_list}
use Rattle.simplex_rules.proofs.Places.{round_cmp_total, exact_rounds, signer_cmp_total, exact_signers}
use Rattle.simplex_rules.proofs.judging.suspects_of.Goals as goal

pub returns-clause-rounds : goal.returns-clause-rounds
returns-clause-rounds g c = All-contains_from_tree_list round_cmp_total _ c.in_ok-rounds.rounds c.in_ok-rounds.ensures

pub returns-clause-signers : goal.returns-clause-signers
returns-clause-signers g c = All-contains_from_tree_list signer_cmp_total _ c.in_ok-signers.signers c.in_ok-signers.ensures

pub returns-clause-only_rounds : goal.returns-clause-only_rounds
returns-clause-only_rounds g c round has =
    (btree_set_contains_from_list round_cmp_total exact_rounds _ c.in_ok-rounds.rounds c.in_ok-rounds.ensures round).0 has

pub returns-clause-only_signers : goal.returns-clause-only_signers
returns-clause-only_signers g c suspect has =
    (btree_set_contains_from_list signer_cmp_total exact_signers _ c.in_ok-signers.signers c.in_ok-signers.ensures
    suspect).0 has
