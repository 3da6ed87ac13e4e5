-- What making a load adds to the frames and takes from the generator.
use Rattle.std.specs.Prelude.{◌≡◌, true, List, [], ◌∷◌, ◌++◌, length}
use Rattle.rand_pcg.specs.Lcg.{Lcg}
use Rattle.channel_frame.specs.declared.frames.Frame.{Frame}
use Rattle.ctrl_model.specs.SpelledCommands.{is_spelled}
use Rattle.ctrl_model.specs.declared.commands.Command.{Command}
use Rattle.load_gen.specs.Draws.{Drawn}
use Rattle.load_gen.specs.LoadFrames.{frames_from, AreMeant}

-- Behind the frames stand those of these commands, and each means its command.
pub record Pushes (before now : List Frame) (cs : List Command) : Type 0 where
  pub frames : now ≡ before ++ frames_from (length before) cs
  pub meant : AreMeant cs

-- This one command is drawn, some body spells it, and the generator is the one that is left.
pub record IsDrawn (d : Drawn (List Command)) (entry exit : Lcg) (c : Command) : Type 0 where
  pub drawn : c ∷ [] ≡ (d entry).0
  pub generator : exit ≡ (d entry).1
  pub spelled : is_spelled c ≡ true

-- Behind the frames stand those of the commands that are drawn, each means its command, and the generator is the one that is left.
pub record Adds (before : List Frame) (entry : Lcg) (now : List Frame) (exit : Lcg) (d : Drawn (List Command)) : Type 0 where
  pub frames : now ≡ before ++ frames_from (length before) (d entry).0
  pub generator : exit ≡ (d entry).1
  pub meant : AreMeant (d entry).0
