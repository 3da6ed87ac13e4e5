-- The intercepts of a state ascend by their services, in a format that keeps them (docs/RULES.md, "Valid states").
use Rattle.std.specs.Prelude.{⊤}
use Rattle.ctrl_model.specs.declared.formats.Format.{Format}
use Rattle.ctrl_model.specs.declared.formats.Format.TheVariants.{One, Two}
use Rattle.ctrl_model.specs.Numbered.{Between}
use Rattle.ctrl_model.specs.State.{State}

-- The first format keeps none.
abbrev pub AscendIn : Format → State → Type 0
AscendIn One s = ⊤
AscendIn Two s = Between 1 s.services.next s.intercepts
