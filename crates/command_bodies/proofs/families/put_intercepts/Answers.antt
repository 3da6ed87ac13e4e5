use Rattle.std.proofs.Common.{◌≡◌, Bool, true, ◌&&◌, ◌||◌, ap, sym, ◌∙◌, subst, ℕ, List, [], ◌∷◌, Some}
use Rattle.std.proofs.lemmas.Bool.{and_parts}
use Rattle.ctrl_model.specs.AddressForm.{is_address, same_address, address_text}
use Rattle.ctrl_model.specs.InterceptForm.{is_claim, is_port_range, same_ports}
use Rattle.ctrl_model.specs.SpelledCommands.{is_spelled}
use Rattle.ctrl_model.specs.ValueForms.{is_destination, is_one_place, is_port}
use Rattle.ctrl_model.specs.NameForm.{is_name}
use Rattle.command_bodies.specs.WrittenFields.{a_text, a_number}
use Rattle.command_bodies.proofs.WrittenIntercepts.{claimed_forms}
use Rattle.command_bodies.proofs.PutLaws.{PutBetween, PutValues, of_one}
use Rattle.command_bodies.proofs.families.put_intercepts.Goals as goal

pub put-requires : goal.put-requires
put-requires c =
    let i = c.in-SetIntercept.intercept in
    let addresses = is_claim is_address same_address i.addresses in
    let ports = is_claim is_port_range same_ports i.ports in
    let spelled : (is_name c.in-SetIntercept.service && ((i.tcp || i.udp) && (addresses && ports))) ≡ true = ap is_spelled (sym c.in-SetIntercept.is) ∙ c.requires in
    let behind = and_parts (is_name c.in-SetIntercept.service) ((i.tcp || i.udp) && (addresses && ports)) spelled in
    let claims = and_parts (i.tcp || i.udp) (addresses && ports) behind.1 in
    let claim = and_parts addresses ports claims.1 in
    ap (λ (b : Bool). b && true) (claimed_forms is_address same_address i.addresses claim.0)

pub put-requires-in-Pick : goal.put-requires-in-Pick
put-requires-in-Pick c =
    let a = c.in-Pick.address in
    let spelled : (is_name c.in-Pick.identity && (is_destination a && is_port c.in-Pick.port)) ≡ true = ap is_spelled (sym c.in-Pick.is) ∙ c.requires in
    let behind = and_parts (is_name c.in-Pick.identity) (is_destination a && is_port c.in-Pick.port) spelled in
    let place = and_parts (is_destination a) (is_port c.in-Pick.port) behind.1 in
    ap (λ (b : Bool). b && true) (and_parts (is_address a) (is_one_place a) place.0).0

pub returns-in-SetIntercept-clause-put : goal.returns-in-SetIntercept-clause-put
returns-in-SetIntercept-clause-put c =
    let done = c.put in
    let said = c.in-SetIntercept in
    of_one (PutBetween done.result 1600 1700 c.args.body.now done.new.self) said.is done.ensures.put

pub returns-in-ClearIntercept-clause-put : goal.returns-in-ClearIntercept-clause-put
returns-in-ClearIntercept-clause-put c =
    let done = c.put-in-ClearIntercept in
    let said = c.in-ClearIntercept in
    of_one (PutBetween done.result 1600 1700 c.args.body.now done.new.self) said.is done.ensures.put

pub returns-in-Pick-clause-put : goal.returns-in-Pick-clause-put
returns-in-Pick-clause-put c =
    let done = c.put-in-Pick in
    let said = c.in-Pick in
    let worded = subst (λ (w : List ℕ). PutValues done.result c.args.body.now done.new.self
    (Some (a_text said.identity) ∷ Some (a_text w) ∷ Some (a_text (address_text said.address)) ∷ Some (a_number said.port) ∷ []))
    c.protocol_word.ensures done.ensures.put in
    of_one (PutBetween done.result 1600 1700 c.args.body.now done.new.self) said.is worded

pub returns-in-ListClashes-clause-put : goal.returns-in-ListClashes-clause-put
returns-in-ListClashes-clause-put c =
    let done = c.put-in-ListClashes in
    let said = c.in-ListClashes in
    of_one (PutBetween done.result 1600 1700 c.args.body.now done.new.self) said.is done.ensures.put
