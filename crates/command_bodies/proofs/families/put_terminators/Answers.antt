use Rattle.std.proofs.Common.{ℕ, List, [], ◌∷◌, Some, subst}
use Rattle.command_bodies.specs.WrittenFields.{a_text, a_number, text_if_any}
use Rattle.command_bodies.proofs.PutLaws.{PutBetween, PutValues, of_one}
use Rattle.command_bodies.proofs.families.put_terminators.Goals as goal

pub returns-in-CreateTerminator-clause-put : goal.returns-in-CreateTerminator-clause-put
returns-in-CreateTerminator-clause-put c =
    let done = c.put in
    let said = c.in-CreateTerminator in
    let worded = subst (λ (w : List ℕ). PutValues done.result c.args.body.now done.new.self
    (Some (a_text said.service) ∷ Some (a_text said.router) ∷ Some (a_text said.instance) ∷ text_if_any said.host ∷ Some (a_number said.cost) ∷ Some (a_text w) ∷ []))
    c.precedence_word.ensures done.ensures.put in
    of_one (PutBetween done.result 1300 1400 c.args.body.now done.new.self) said.is worded

pub returns-in-UpdateTerminator-clause-put : goal.returns-in-UpdateTerminator-clause-put
returns-in-UpdateTerminator-clause-put c =
    let done = c.put-in-UpdateTerminator in
    let said = c.in-UpdateTerminator in
    let worded = subst (λ (w : List ℕ). PutValues done.result c.args.body.now done.new.self
    (Some (a_number said.no) ∷ Some (a_number said.cost) ∷ Some (a_text w) ∷ []))
    c.precedence_word-in-UpdateTerminator.ensures done.ensures.put in
    of_one (PutBetween done.result 1300 1400 c.args.body.now done.new.self) said.is worded

pub returns-in-DeleteTerminator-clause-put : goal.returns-in-DeleteTerminator-clause-put
returns-in-DeleteTerminator-clause-put c =
    let done = c.put-in-DeleteTerminator in
    let said = c.in-DeleteTerminator in
    of_one (PutBetween done.result 1300 1400 c.args.body.now done.new.self) said.is done.ensures.put
