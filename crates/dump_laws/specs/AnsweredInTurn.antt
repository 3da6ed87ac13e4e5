-- Commands of an admin that are answered one after the other.
use Rattle.std.specs.Prelude.{◌&&◌, Bool, true, false, not, List, [], ◌∷◌}
use Rattle.ctrl_model.specs.Controller.{answer}
use Rattle.ctrl_model.specs.declared.commands.Command.{Command}
use Rattle.ctrl_model.specs.declared.kinds.Who.TheVariants.{Admin}
use Rattle.ctrl_model.specs.declared.replies.Reply.{Reply}
use Rattle.ctrl_model.specs.declared.replies.Reply.TheVariants.{Refused}
use Rattle.ctrl_model.specs.State.{State}

-- Whether a reply is a refusal.
abbrev pub is_refusal : Reply → Bool
is_refusal (Refused r) = true
is_refusal reply = false

-- Whether none of some commands is refused, each answered in the state behind those before it.
abbrev pub none_refused : List Command → State → Bool
none_refused [] s = true
none_refused (c ∷ cs) s = not (is_refusal (answer Admin c s).0) && none_refused cs (answer Admin c s).1
