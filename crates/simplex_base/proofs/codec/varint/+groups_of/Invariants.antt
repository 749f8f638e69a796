use Rattle.simplex_base.proofs.codec.varint.+groups_of.Given as goal

abbrev pub decreases-groups_of : goal.decreases-groups_of
decreases-groups_of l = l.more
