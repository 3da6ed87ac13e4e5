-- What is said of the state of a folder that is looked at. Only private contracts cite these.
use Rattle.std.specs.Prelude.{◌≡◌, ℕ, ⊤, true, List}
use Rattle.ctrl_model.specs.NameForm.{is_name}
use Rattle.ctrl_model.specs.State.{State}
use Rattle.policy_advisor.specs.Reports.{report_of}
use Rattle.ctrl_serve.specs.Loads.{counts_line}
use Rattle.ctrl_serve.specs.declared.looking.Look.{Look}
use Rattle.ctrl_serve.specs.declared.looking.Look.TheVariants as look

-- The line that is asked for.
abbrev pub line_of : Look → State → List ℕ
line_of look.Counts s = counts_line s
line_of (look.Advice identity service) s = report_of s identity.now service.now

-- The names that it is asked by are names.
abbrev pub HasNames : Look → Type 0
HasNames look.Counts = ⊤
HasNames (look.Advice identity service) = (is_name identity.now ≡ true) × (is_name service.now ≡ true)
