use Rattle.std.proofs.Common.{refl}
use Rattle.core_laws.proofs.worked_settling.what_settles.Goals as goal

pub returns-clause-nothing_named : goal.returns-clause-nothing_named
returns-clause-nothing_named c = record { links_stay = refl; terminators_stay = refl; circuits_stay = refl; none_ends = refl; none_moves = refl }

pub returns-clause-granted : goal.returns-clause-granted
returns-clause-granted c = record { links_are = refl; terms_are = refl; judged = record { going_are = refl; ended_are = refl; moves_are = refl } }

pub returns-clause-link_down : goal.returns-clause-link_down
returns-clause-link_down c = record { links_are = refl; terms_are = refl; judged = record { going_are = refl; ended_are = refl; moves_are = refl } }

pub returns-clause-ungranted : goal.returns-clause-ungranted
returns-clause-ungranted c = record { links_are = refl; terms_are = refl; judged = record { going_are = refl; ended_are = refl; moves_are = refl } }

pub returns-clause-middle : goal.returns-clause-middle
returns-clause-middle c = record { links_are = refl; terms_are = refl; judged = record { going_are = refl; ended_are = refl; moves_are = refl } }

pub returns-clause-end : goal.returns-clause-end
returns-clause-end c = record { links_are = refl; terms_are = refl; judged = record { going_are = refl; ended_are = refl; moves_are = refl } }
