use Rattle.simplex_rules.proofs.Prelude.{ap, dedup_is, flat_map, ◌++◌, ◌∙◌}
use Rattle.simplex_ballots.specs.Index.{places_in, second_signer}
use Rattle.simplex_ballots.proofs.SignerLemmas.{lists_signers}
use Rattle.simplex_ballots.proofs.round_votes.RoundVotes.signers.Goals as goal

pub returns : goal.returns
returns g c =
    lists_signers c.args.self.now c.add_seconds_to.new.signers.items c.sort.new.self.items c.dedup.new.self.items
    (c.in_ok-add_seconds_to.ensures
    ∙ ap (λ before. before ++ flat_map second_signer (places_in c.args.self.now.index)) c.new-signers.ensures.items)
    c.in_ok-sort.ensures.permutation c.in_ok-sort.ensures.sorted
    (dedup_is _ _ _ c.dedup.ensures.filtered)
