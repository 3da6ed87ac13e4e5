use Rattle.session_mux.proofs.CompletionLaws.{completes_by}
use Rattle.session_mux.proofs.laws.completed_by.Goals as goal

pub returns : goal.returns
returns c = completes_by
