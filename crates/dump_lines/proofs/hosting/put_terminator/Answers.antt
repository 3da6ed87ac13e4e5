use Rattle.std.proofs.Common.{◌≡◌, true, [], Option, None, subst}
use Rattle.std.specs.Option.{option_map, option_map_or}
use Rattle.ctrl_model.specs.declared.commands.Command.TheVariants as command
use Rattle.ctrl_model.specs.declared.kinds.Kind.TheVariants as kind
use Rattle.ctrl_model.specs.declared.numbering.IdentityNo.{IdentityNo}
use Rattle.ctrl_model.specs.NameForm.{is_name}
use Rattle.state_building.specs.BuiltStates.{state_in}
use Rattle.record_lines.specs.RecordNames.{name_of}
use Rattle.dump_lines.specs.Dumps.{are_spelled, making_terminator}
use Rattle.dump_lines.proofs.FitRows.{first_spelled, terminator_names}
use Rattle.dump_lines.proofs.hosting.put_terminator.Goals as goal

pub put_hosted-requires-clause-service : goal.put_hosted-requires-clause-service
put_hosted-requires-clause-service c = (terminator_names (state_in c.args.rows.now) (record {
  service = c.args.ends.0;
  router = c.args.ends.1;
  instance = c.args.instance.now;
  host = option_map (λ h. h.0) c.args.host;
  cost = c.args.offer.0;
  precedence = c.args.offer.1;
}) c.requires).0

pub put_hosted-requires-clause-router : goal.put_hosted-requires-clause-router
put_hosted-requires-clause-router c = (terminator_names (state_in c.args.rows.now) (record {
  service = c.args.ends.0;
  router = c.args.ends.1;
  instance = c.args.instance.now;
  host = option_map (λ h. h.0) c.args.host;
  cost = c.args.offer.0;
  precedence = c.args.offer.1;
}) c.requires).1

pub put_hosted-requires-clause-host : goal.put_hosted-requires-clause-host
put_hosted-requires-clause-host c =
    subst (λ (o : Option IdentityNo). option_map_or (λ h. is_name (name_of kind.Identity (state_in c.args.rows.now) h)) (option_map (λ h. h.0) o) true ≡ true)
    c.in-Some.is (terminator_names (state_in c.args.rows.now) (record {
      service = c.args.ends.0;
      router = c.args.ends.1;
      instance = c.args.instance.now;
      host = option_map (λ h. h.0) c.args.host;
      cost = c.args.offer.0;
      precedence = c.args.offer.1;
    }) c.requires).2

pub put_offer-requires-clause-service : goal.put_offer-requires-clause-service
put_offer-requires-clause-service c = (terminator_names (state_in c.args.rows.now) (record {
  service = c.args.ends.0;
  router = c.args.ends.1;
  instance = c.args.instance.now;
  host = option_map (λ h. h.0) c.args.host;
  cost = c.args.offer.0;
  precedence = c.args.offer.1;
}) c.requires).0

pub put_offer-requires-clause-router : goal.put_offer-requires-clause-router
put_offer-requires-clause-router c = (terminator_names (state_in c.args.rows.now) (record {
  service = c.args.ends.0;
  router = c.args.ends.1;
  instance = c.args.instance.now;
  host = option_map (λ h. h.0) c.args.host;
  cost = c.args.offer.0;
  precedence = c.args.offer.1;
}) c.requires).1

pub put_hosted-requires-clause-spelled : goal.put_hosted-requires-clause-spelled
put_hosted-requires-clause-spelled c =
    subst (λ (o : Option IdentityNo). are_spelled (making_terminator (state_in c.args.rows.now) (record {
      service = c.args.ends.0;
      router = c.args.ends.1;
      instance = c.args.instance.now;
      host = option_map (λ h. h.0) o;
      cost = c.args.offer.0;
      precedence = c.args.offer.1;
    })) ≡ true) c.in-Some.is c.requires

pub put_offer-requires-clause-spelled : goal.put_offer-requires-clause-spelled
put_offer-requires-clause-spelled c =
    first_spelled (command.CreateTerminator (name_of kind.Service (state_in c.args.rows.now) c.args.ends.0)
    (name_of kind.Router (state_in c.args.rows.now) c.args.ends.1) c.args.instance.now None c.args.offer.0 c.args.offer.1) [] (subst (λ (o : Option IdentityNo). are_spelled (making_terminator (state_in c.args.rows.now) (record {
      service = c.args.ends.0;
      router = c.args.ends.1;
      instance = c.args.instance.now;
      host = option_map (λ h. h.0) o;
      cost = c.args.offer.0;
      precedence = c.args.offer.1;
    })) ≡ true) c.in-None.is c.requires)
