use Rattle.std.proofs.Common.{not, ◌&&◌, sym, ap, ◌∙◌}
use Rattle.command_codec.proofs.SideLaws.{side_said, values_beside}
use Rattle.command_codec.proofs.role_lists.are_roles.Goals as goal

pub returns-then-are_said : goal.returns-then-are_said
returns-then-are_said c =
    c.stands_alone.ensures ∙ ap (λ b. b && not (values_beside c.args.values.now)) (sym c.if-are_said.true ∙ c.are_said.ensures) ∙ side_said c.args.values.now
