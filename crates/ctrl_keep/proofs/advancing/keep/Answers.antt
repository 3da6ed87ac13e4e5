use Rattle.ctrl_keep.proofs.advancing.keep.Goals as goal

pub returns-in-Ok-clause-added : goal.returns-in-Ok-clause-added
returns-in-Ok-clause-added g c = λ _ told. c.in-Ok.ensures.added told

pub returns-in-Err-Full-clause-added : goal.returns-in-Err-Full-clause-added
returns-in-Err-Full-clause-added g c = λ e. cc
