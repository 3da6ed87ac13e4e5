-- The commands that no family of records plans (docs/RULES.md, "The controller").
use Rattle.ctrl_model.specs.declared.commands.Command.{Command}
use Rattle.ctrl_model.specs.declared.commands.Command.TheVariants as command
use Rattle.ctrl_model.specs.declared.replies.Reply.{Reply}
use Rattle.ctrl_model.specs.declared.replies.Reply.TheVariants.{Empty, Done}

-- The reply to a command that touches no record: Compact is done, and what else there is greets.
abbrev pub reply_alone : Command → Reply
reply_alone command.Compact = Done
reply_alone _ = Empty
