use Rattle.command_codec.proofs.CauseLaws.{first_cause, never_memory}
use Rattle.command_codec.proofs.laws.the_first_cause.Goals as goal

pub returns-clause-first : goal.returns-clause-first
returns-clause-first c = first_cause

pub returns-clause-memory : goal.returns-clause-memory
returns-clause-memory c = never_memory
