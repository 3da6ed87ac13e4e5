use Rattle.run_notes.proofs.telling.status_of.Goals as goal

pub returns-in-Whole : goal.returns-in-Whole
returns-in-Whole c = let whole = c.in-Whole in let good = c.if-bad.false in let some = c.if-rest.true in cc
