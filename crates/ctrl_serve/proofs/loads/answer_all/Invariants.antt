use Rattle.std.proofs.Common.{◌≡◌, true, drop}
use Rattle.ctrl_model.specs.declared.kinds.Who.TheVariants.{Admin}
use Rattle.ctrl_serve.specs.FrameAnswer.{no_bounds, alone, machine_behind_alone}
use Rattle.ctrl_serve.proofs.loads.answer_all.Given as goal

-- the rest leads from the core's state to where all frames lead
abbrev pub invariant-frames : goal.invariant-frames
invariant-frames l = record {
  live : l.core.live ≡ true;
  leads : machine_behind_alone no_bounds Admin (alone l.core.state) (drop l.frame-index l.frames) ≡ machine_behind_alone no_bounds Admin (alone l.fn.core.state) l.frames;
}
