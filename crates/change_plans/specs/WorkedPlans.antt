-- Texts of commands and what they come to, by hand.
use Rattle.std.specs.Prelude.{ℕ, List, [], ◌∷◌, ◌++◌, codes}
use Rattle.ctrl_model.specs.declared.refusals.Field.TheVariants as field
use Rattle.ctrl_model.specs.declared.refusals.Reason.TheVariants as reason
use Rattle.ctrl_model.specs.declared.refusals.Refusal.TheVariants.{BadBody, Exists, UnsupportedType}
use Rattle.ctrl_model.specs.Limits.{last_serial}
use Rattle.ctrl_model.specs.State.{State, start}
use Rattle.change_plans.specs.PlannedLines.{Outcome}

-- Seven lines: a remark; ann comes, and cannot come again; a service lacks its name; no command has the content type
-- 1999; ann goes; and a line that asks alone.
abbrev pub seven_lines : List ℕ
seven_lines =
    codes "# ann\nCreateIdentity {\"name\":\"ann\"}\n7 CreateIdentity {\"name\":\"ann\"}\nCreateService {}\n"
    ++ codes "8 1999 {}\nDeleteIdentity {\"name\":\"ann\"}\nHello\n"

-- They change the state twice, so that the serial is 2; the number 1 is not given again. Three of them are refused.
abbrev pub seven_answered : Outcome
seven_answered = (
  record start { identities = record { rows = []; next = 2 }; serial = 2 },
  record { line = 3; why = Exists }
      ∷ record { line = 4; why = BadBody field.Name reason.Missing }
      ∷ record { line = 5; why = UnsupportedType }
      ∷ [],
)

-- The lines that tell the three.
abbrev pub three_refused : List ℕ
three_refused =
    codes "refused 3 {\"code\":20,\"name\":\"Exists\"}\n"
    ++ (codes "refused 4 {\"code\":11,\"field\":\"name\",\"name\":\"BadBody\",\"reason\":\"Missing\"}\n"
    ++ codes "refused 5 {\"code\":10,\"name\":\"UnsupportedType\"}\n")

-- The state at the start, but with the last serial.
abbrev pub last_start : State
last_start = record start { serial = last_serial }
