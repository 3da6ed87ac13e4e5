use Rattle.std.proofs.Common.{◌≡◌, ◌∙◌, Err, ap, arith}
use Rattle.std.proofs.lemmas.Result.{IfOk-weaker}
use Rattle.channel_frame.specs.declared.frames.FrameFault.{FrameFault}
use Rattle.channel_frame.specs.declared.frames.FrameFault.TheVariants.{NoMemory}
use Rattle.channel_frame.specs.AnnouncedFrames.{IsWholeFront}
use Rattle.channel_frame.proofs.FrontParts.{whole_from_part, bad_from_part, stands_from_part, at_error_weaker}
use Rattle.channel_frame.proofs.fronts.front_with.Goals as goal

pub returns-in-Ok-clause-front : goal.returns-in-Ok-clause-front
returns-in-Ok-clause-front c =
    whole_from_part c.args.bytes.now c.split_at.result.0.now _ c.in-Ok.frame c.split_at.ensures.front (omega (arith, c.if-bytes-len.false)) c.in-Ok.ensures.whole

pub returns-in-Err-clause-front : goal.returns-in-Err-clause-front
returns-in-Err-clause-front c = IfOk-weaker c.bad_front.result _ _
    (λ f h. h.1 ∙ bad_from_part c.args.bytes.now c.split_at.result.0.now _ c.in-Err.fault c.split_at.ensures.front (c.in-Err.ensures.fault h.0).1)
    c.bad_front.ensures.front

pub returns-in-Err-clause-memory : goal.returns-in-Err-clause-memory
returns-in-Err-clause-memory c = at_error_weaker c.bad_front.result (c.in-Err.fault ≡ NoMemory) (IsWholeFront c.args.bytes.now)
    (λ is. stands_from_part c.args.bytes.now c.split_at.result.0.now _ c.split_at.ensures.front (c.in-Err.ensures.memory (ap (λ (e : FrameFault). Err e) is)))
    c.bad_front.ensures.memory
