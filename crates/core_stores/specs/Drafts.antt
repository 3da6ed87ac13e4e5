-- Plans that move no count (docs/PROMISES.md, "The stores of a core").
use Rattle.std.specs.Prelude.{◌≡◌, None}
use Rattle.std.specs.declared.option.Option.{Option}
use Rattle.ctrl_model.specs.declared.replies.Reply.{Reply}
use Rattle.policy_store.specs.StepsOfRelations.{HasNoSteps}
use Rattle.core_stores.specs.declared.changes.Draft.{Draft}
use Rattle.core_stores.specs.declared.changes.Change.{Change}

-- The plan of a reply and a change, if there is one, that moves no count.
pub record IsUncounted (reply : Reply) (change : Option Change) (p : Draft) : Type 0 where
  pub reply_is : p.reply ≡ reply
  pub change_is : p.change ≡ change
  pub no_steps : HasNoSteps p.steps

-- The plan of a reply that changes nothing.
abbrev pub IsShown : Reply → Draft → Type 0
IsShown reply p = IsUncounted reply None p
