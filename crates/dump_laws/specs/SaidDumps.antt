-- What the lines of a dump say: commands, and the frames that these are (docs/FORMATS.md, "Lines of a dump").
use Rattle.std.specs.Prelude.{ℕ, cond, List, [], ◌∷◌}
use Rattle.std.specs.List.{flat_map}
use Rattle.channel_frame.specs.declared.frames.Frame.{Frame}
use Rattle.ctrl_model.specs.declared.commands.Command.{Command}
use Rattle.ctrl_model.specs.ContentTypes.{content_of}
use Rattle.ctrl_model.specs.State.{State}
use Rattle.command_bodies.specs.BodyTexts.{body_text}
use Rattle.frame_lines.specs.TextReading.{next_after}
use Rattle.record_lines.specs.declared.listing.Listed.{Listed}
use Rattle.record_lines.specs.RecordLines.{Entry, entries}
use Rattle.dump_lines.specs.Dumps.{are_spelled, making, sections, setting}

-- The commands that the lines of one of what is listed say: those that make it, where some lines say them all; else none.
abbrev pub commands_told : (l : Listed) → State → ℕ × Entry l → List Command
commands_told l s x = cond (are_spelled (making l s x)) (making l s x) []

-- Those that the lines of a section say, in the order of the numbers.
abbrev pub section_told : State → Listed → List Command
section_told s l = flat_map (commands_told l s) (entries l s)

-- The commands that the lines of a dump say: the setting's, and then those of each section.
abbrev pub said_commands : State → List Command
said_commands s = setting s ∷ flat_map (section_told s) sections

-- The frame of a command under a sequence number: its content type and its body, without headers.
abbrev pub command_frame : ℕ → Command → Frame
command_frame n c = record { content = content_of c; sequence = n; headers = []; body = body_text c }

-- The frames of some commands, in their order: the first has this sequence number, and each other the one behind that before it. Behind the
-- greatest number of four bytes comes 0.
abbrev pub frames_from_commands : ℕ → List Command → List Frame
frames_from_commands n [] = []
frames_from_commands n (c ∷ cs) = command_frame n c ∷ frames_from_commands (next_after n) cs
