-- The commands that show grants and counts (docs/RULES.md, "The controller").
use Rattle.std.specs.Prelude.{Bool, true, false}
use Rattle.ctrl_model.specs.declared.commands.Command.{Command}
use Rattle.ctrl_model.specs.declared.commands.Command.TheVariants as command

-- The commands that show grants and counts.
abbrev pub is_grant_command : Command → Bool
is_grant_command (command.ShowGrants identity) = true
is_grant_command (command.ListServices identity) = true
is_grant_command command.ShowCounts = true
is_grant_command _ = false
