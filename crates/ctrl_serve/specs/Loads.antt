-- The line that a run says of a state: of a generated load's (docs/FORMATS.md, "The load generator"), and of a folder's.
use Rattle.std.specs.Prelude.{◌≡◌, ◌⊎◌, ℕ, List, [], ◌++◌, codes}
use Rattle.std.specs.declared.option.Option.{Option}
use Rattle.ziti_outside.specs.Told.{Took, IsFront}
use Rattle.ziti_outside.specs.Views.{Seen}
use Rattle.ctrl_model.specs.declared.kinds.Who.TheVariants.{Admin}
use Rattle.ctrl_model.specs.State.{State, start}
use Rattle.ctrl_model.specs.ShowCommands.{counts_of}
use Rattle.reply_codec.specs.ReplyBody.{reply_body}
use Rattle.load_gen.specs.LoadFrames.{load_frames}
use Rattle.run_notes.specs.declared.status.Status.{Status}
use Rattle.run_notes.specs.declared.status.Status.TheVariants.{Done, WriteFault, NoMemory}
use Rattle.run_notes.specs.Notes.{status_lines}
use Rattle.run_notes.specs.NotedLines.{NotesLines}
use Rattle.ctrl_serve.specs.FrameAnswer.{no_bounds, alone, machine_behind_alone}

-- The counts line of a state: the body of the reply to ShowCounts, and a newline.
abbrev pub counts_line : State → List ℕ
counts_line s = reply_body (counts_of s) ++ codes "\n"

-- The state behind the load of a number: its frames are answered from the start, without a folder.
abbrev pub state_of_load : ℕ → State
state_of_load number = (machine_behind_alone no_bounds Admin (alone start) (load_frames number)).state

-- What a run that says one line, at its end, has said at a status: the line; a front of it where it was not taken; and nothing where
-- memory was wanting. The other statuses never come.
abbrev pub SaysLine : Status → List ℕ → List ℕ → Type 0
SaysLine Done said line = said ≡ line
SaysLine WriteFault said line = IsFront said line
SaysLine NoMemory said line = said ≡ []
SaysLine _ said line = ⊥

-- A run that says one line, at its end: the line was said, but a front of it where it was not taken, and nothing where memory was
-- wanting. What was noted are the lines of the status.
pub record SaysOneLine (line : List ℕ) (before now : Seen) (status : Status) : Type 0 where
  pub said : List ℕ
  pub took : Took before.said now.said said
  pub says : SaysLine status said line
  pub notes : NotesLines (status_lines [] status) before now

-- Such a run is done with its line said, unless memory was wanting.
abbrev pub IsSaid : List ℕ → Option (List ℕ) → Option (List ℕ) → Status → Type 0
IsSaid line said_before said_now status = (status ≡ NoMemory) ⊎ ((status ≡ Done) × Took said_before said_now line)
