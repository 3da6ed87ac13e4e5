-- The format of the batches of a core's plans (docs/FORMATS.md, "Rows").
use Rattle.ctrl_model.specs.declared.formats.Format.{Format}
use Rattle.ctrl_model.specs.declared.formats.Format.TheVariants.{Two}

-- The second format, which has rows of intercepts and of the serial.
abbrev pub kept_format : Format
kept_format = Two
