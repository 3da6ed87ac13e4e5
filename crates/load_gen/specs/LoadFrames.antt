-- The frames of a generated load: for each command its content type, no headers, its place as sequence, and the body that is
-- written for it (docs/FORMATS.md, "The load generator").
use Rattle.std.specs.Prelude.{◌≡◌, ℕ, ◌+◌, ⊤, List, [], ◌∷◌, Ok}
use Rattle.channel_frame.specs.declared.frames.Frame.{Frame}
use Rattle.ctrl_model.specs.declared.commands.Command.{Command}
use Rattle.command_codec.specs.BodyMeaning.{meaning}
use Rattle.ctrl_model.specs.ContentTypes.{content_of}
use Rattle.command_bodies.specs.BodyTexts.{body_text}
use Rattle.load_gen.specs.LoadCommands.{load_commands}

-- The frame of a command at a place.
abbrev pub frame_at : ℕ → Command → Frame
frame_at place c = record { content = content_of c; sequence = place; headers = []; body = body_text c }

-- The frames of some commands, from a place on.
abbrev pub frames_from : ℕ → List Command → List Frame
frames_from place [] = []
frames_from place (c ∷ cs) = frame_at place c ∷ frames_from (place + 1) cs

-- The frames of the load of a number.
abbrev pub load_frames : ℕ → List Frame
load_frames n = frames_from 0 (load_commands n)

-- The body that is written for each of some commands means the command.
abbrev pub AreMeant : List Command → Type 0
AreMeant [] = ⊤
AreMeant (c ∷ cs) = (meaning (content_of c) (body_text c) ≡ Ok c) × AreMeant cs
