-- The body that is written for a command: its fields as compact JSON with keys in ascending order. That of Hello is empty
-- (docs/FORMATS.md, "Bodies").
use Rattle.std.specs.Prelude.{ℕ, ◌==◌, if◌then◌else◌, List, []}
use Rattle.serde_json.specs.Data.{Data}
use Rattle.serde_json.specs.Written.{compact_text}
use Rattle.ctrl_model.specs.declared.commands.Command.{Command}
use Rattle.ctrl_model.specs.ContentTypes.{content_of}
use Rattle.command_bodies.specs.CommandFields.{fields_of}
use Rattle.command_bodies.specs.WrittenFields.{object_with}

-- The object of a command's fields.
abbrev pub body_object : Command → Data
body_object c = object_with (fields_of c)

-- The body that is written. Content type 0 is that of Hello.
abbrev pub body_text : Command → List ℕ
body_text c = if content_of c == 0 then [] else compact_text (body_object c)
