use Rattle.std.proofs.Common.{◌≡◌, refl, ap, ◌∙◌}
use Rattle.std.proofs.lemmas.Result.{on_ok_weaker}
use Rattle.serde_json.specs.View.{members_view}
use Rattle.ctrl_model.specs.CommandValues.{form_of}
use Rattle.ctrl_model.specs.BodyForms.{fields_in}
use Rattle.command_bodies.proofs.PutLaws.{all_put, put_between, then_put}
use Rattle.command_bodies.proofs.families.put_fields.Goals as goal

pub returns : goal.returns
returns c =
    let command = c.args.command.now in
    let fs = fields_in (form_of command) in
    let ms = members_view c.args.body.now.members.entries in
    let entities = c.put_entities.new.body in
    let services = c.put_service_policies.new.body in
    let routers = c.put_router_policies.new.body in
    let links = c.put_links.new.body in
    let terminators = c.put_terminators.new.body in
    let circuits = c.put_circuits.new.body in
    let from-entities : entities.fields.now ≡ fs = ap (λ f. f.now) c.put_entities.ensures.fields ∙ c.requires.fields in
    let from-services : services.fields.now ≡ fs = ap (λ f. f.now) c.put_service_policies.ensures.fields ∙ from-entities in
    let from-routers : routers.fields.now ≡ fs = ap (λ f. f.now) c.put_router_policies.ensures.fields ∙ from-services in
    let from-links : links.fields.now ≡ fs = ap (λ f. f.now) c.put_links.ensures.fields ∙ from-routers in
    let from-terminators : terminators.fields.now ≡ fs = ap (λ f. f.now) c.put_terminators.ensures.fields ∙ from-links in
    let from-circuits : circuits.fields.now ≡ fs = ap (λ f. f.now) c.put_circuits.ensures.fields ∙ from-terminators in
    let put-entities = then_put 1000 1100 command fs ms c.args.body.now entities c.requires.fields refl c.in_ok-put_entities.ensures.put in
    let put-services = then_put 1100 1110 command fs (put_between 1000 1100 command fs ms) entities services from-entities put-entities c.in_ok-put_service_policies.ensures.put in
    let put-routers = then_put 1110 1200 command fs _ services routers from-services put-services c.in_ok-put_router_policies.ensures.put in
    let put-links = then_put 1200 1300 command fs _ routers links from-routers put-routers c.in_ok-put_links.ensures.put in
    let put-terminators = then_put 1300 1400 command fs _ links terminators from-links put-links c.in_ok-put_terminators.ensures.put in
    let put-circuits = then_put 1400 1600 command fs _ terminators circuits from-terminators put-terminators c.in_ok-put_circuits.ensures.put in
    on_ok_weaker c.put_intercepts.result
    (λ put. then_put 1600 1700 command fs _ circuits c.put_intercepts.new.body from-circuits put-circuits put ∙ all_put command fs ms) c.put_intercepts.ensures.put
