use Rattle.std.proofs.Common.{ℕ, List, [], ◌∷◌, Some, subst}
use Rattle.command_bodies.specs.WrittenFields.{a_text, some_texts}
use Rattle.command_bodies.specs.RoleEntries.{role_texts}
use Rattle.command_bodies.specs.WrittenWords.{relation_word}
use Rattle.command_bodies.proofs.PutLaws.{PutBetween, PutValues, of_one, of_two}
use Rattle.command_bodies.proofs.families.put_service_policies.Goals as goal

pub returns-in-DeleteServicePolicy-clause-put : goal.returns-in-DeleteServicePolicy-clause-put
returns-in-DeleteServicePolicy-clause-put c =
    let done = c.put in
    let said = c.in-DeleteServicePolicy in
    of_one (PutBetween done.result 1100 1110 c.args.body.now done.new.self) said.is done.ensures.put

pub returns-in-CreateServicePolicy-clause-put : goal.returns-in-CreateServicePolicy-clause-put
returns-in-CreateServicePolicy-clause-put c =
    let done = c.put-in-CreateServicePolicy in
    let said = c.in-CreateServicePolicy in
    let halfway = subst (λ (w : List ℕ). PutValues done.result c.args.body.now done.new.self
    (Some (a_text said.name) ∷ Some (a_text w) ∷ Some (a_text c.semantic_word.result.now)
    ∷ Some (some_texts (role_texts said.identity_roles)) ∷ Some (some_texts (role_texts said.service_roles)) ∷ []))
    c.relation_word.ensures done.ensures.put in
    let worded = subst (λ (w : List ℕ). PutValues done.result c.args.body.now done.new.self
    (Some (a_text said.name) ∷ Some (a_text (relation_word said.relation)) ∷ Some (a_text w)
    ∷ Some (some_texts (role_texts said.identity_roles)) ∷ Some (some_texts (role_texts said.service_roles)) ∷ []))
    c.semantic_word.ensures halfway in
    of_two (PutBetween done.result 1100 1110 c.args.body.now done.new.self) said.is worded worded
