use Rattle.ctrl_model.specs.State.{entity_named}
use Rattle.policy_advisor.proofs.MarkLaws.{both_counted}
use Rattle.policy_advisor.proofs.laws.policies_with_both_marks_are_counted.Goals as goal

pub returns : goal.returns
returns c = λ s identity service. both_counted s (entity_named s.identities.rows identity) (entity_named s.services.rows service)
