use Rattle.row_loading.proofs.loading.row_put.Goals as goal

pub returns-in-Delete-clause-read : goal.returns-in-Delete-clause-read
returns-in-Delete-clause-read c = tt
