-- The JSON value that a body is (docs/FORMATS.md, "Bodies").
use Rattle.std.specs.Prelude.{ℕ, if◌then◌else◌, List, None}
use Rattle.std.specs.declared.option.Option.{Option}
use Rattle.std.specs.Str.{is_utf8}
use Rattle.serde_json.specs.Data.{Data}
use Rattle.serde_json.specs.Read.{read}

-- The JSON value that a body is, if it is JSON text.
abbrev pub value_of_body : List ℕ → Option Data
value_of_body body = if is_utf8 body then read body else None
