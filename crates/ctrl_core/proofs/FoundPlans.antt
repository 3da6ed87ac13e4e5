-- What a family that plans a command, or tells that it is none of its own, says in each case.
use Rattle.std.proofs.Common.{◌≡◌, false, Option, None, Some, subst}
use Rattle.std.specs.Prelude.{MatchOption}
use Rattle.ctrl_model.specs.declared.commands.Command.{Command}
use Rattle.ctrl_model.specs.declared.replies.Reply.{Reply}
use Rattle.ctrl_model.specs.Controller.{carry}
use Rattle.ctrl_model.specs.State.{State}
use Rattle.show_commands.specs.declared.shown_parts.Shown.{Shown}
use Rattle.show_commands.specs.ShownCommands.{is_grant_command}
use Rattle.show_commands.specs.ShownParts.{Shows, with_shown}

pub found_plan : {A : Type 0} (P : Type 0) (Q : A → Type 0) (o : Option A) (x : A) → o ≡ Some x → MatchOption o P Q → Q x
found_plan P Q o x is m = subst (λ q. MatchOption q P Q) is m

pub no_plan : {A : Type 0} (P : Type 0) (Q : A → Type 0) (o : Option A) → o ≡ None → MatchOption o P Q → P
no_plan P Q o is m = subst (λ q. MatchOption q P Q) is m

-- what is shown in every state of some parts is shown in one
pub shown_there : (p : Shown) (c : Command) (o : Option Reply) → MatchOption o (is_grant_command c ≡ false) (λ r. (s : State) → Shows p s → carry c (with_shown p s) ≡ (r, with_shown p s))
    → (s : State) → Shows p s → MatchOption o (is_grant_command c ≡ false) (λ r. carry c (with_shown p s) ≡ (r, with_shown p s))
shown_there p c None none s shows = none
shown_there p c (Some r) told s shows = told s shows
