use Rattle.std.proofs.Common.{◌+◌, drop, ap, ◌∙◌}
use Rattle.ctrl_core.specs.KeptState.{Cored}
use Rattle.ctrl_model.specs.declared.kinds.Who.TheVariants.{Admin}
use Rattle.ctrl_serve.specs.FrameAnswer.{no_bounds, alone, machine_behind_alone}
use Rattle.ctrl_serve.proofs.LoadRuns.{leads_on}
use Rattle.ctrl_serve.proofs.loads.answer_all.Goals as goal

pub frames-preserved : goal.frames-preserved
frames-preserved c =
    let next = c.in_ok-answer_unsaid.ensures in
    record {
      live = ap (λ (k : Cored). k.live) next;
      leads = ap (λ (k : Cored). machine_behind_alone no_bounds Admin (alone k.state) (drop (c.frames.frame-index + 1) c.args.frames.now)) next
          ∙ leads_on c.args.frames.now c.frames.frame-index c.frame-item.result c.frames.core.state _ c.frames-test.true c.frame-item.is c.frames.invariant.leads;
    }
