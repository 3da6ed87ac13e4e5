use Rattle.run_notes.proofs.telling.rests_of.Goals as goal

pub returns-then-ne-clause-memory : goal.returns-then-ne-clause-memory
returns-then-ne-clause-memory c = tt
