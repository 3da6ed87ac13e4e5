use Rattle.grant_moves.proofs.GrantedPairs.{pairs_are_granted, granted_at_most}
use Rattle.grant_moves.proofs.laws.granted_pairs_are_counts.Goals as goal

pub returns-clause-pairs : goal.returns-clause-pairs
returns-clause-pairs c = pairs_are_granted

pub returns-clause-most : goal.returns-clause-most
returns-clause-most c = granted_at_most
