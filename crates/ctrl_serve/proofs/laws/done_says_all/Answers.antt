use Rattle.std.proofs.Common.{◌++◌, ℕ, List, [], Some, ap, ◌∙◌}
use Rattle.channel_frame.proofs.ReadingLaws.{has_one_reading}
use Rattle.channel_frame.specs.declared.frames.Frame.{Frame}
use Rattle.ctrl_model.specs.declared.kinds.Who.TheVariants.{Admin}
use Rattle.ctrl_serve.specs.FrameAnswer.{answers, controller}
use Rattle.ctrl_serve.specs.SaidReplies.{joined}
use Rattle.session_mux.specs.declared.sessions.Form.TheVariants.{Plain}
use Rattle.ctrl_serve.specs.Headline.{taking_of}
use Rattle.ctrl_serve.proofs.PlainLaws.{plain_replies}
use Rattle.serve_loop.proofs.EndingLaws.{done_read, done_whole, done_said, done_noted}
use Rattle.ctrl_serve.proofs.laws.done_says_all.Goals as goal

pub returns-clause-read : goal.returns-clause-read
returns-clause-read c bounds m most bytes left before now s = done_read (taking_of Plain most) (controller bounds) m bytes left before now s

pub returns-clause-whole : goal.returns-clause-whole
returns-clause-whole c bounds m most bytes left before now s = done_whole (controller bounds) m most bytes left before now s

pub returns-clause-said : goal.returns-clause-said
returns-clause-said c bounds m most bytes said left before now told s = done_said (taking_of Plain most) (controller bounds) m bytes said left before now told s

pub returns-clause-frames : goal.returns-clause-frames
returns-clause-frames c bounds m most bytes said left before now frames told s reads =
    let one = has_one_reading bytes frames [] tt reads in
    done_said (taking_of Plain most) (controller bounds) m bytes said left before now told s
    ∙ ap (λ (rs : List (List ℕ)). Some (said ++ joined rs)) (plain_replies bounds m bytes)
    ∙ ap (λ (fs : List Frame). Some (said ++ answers bounds Admin 0 m fs)) one.0

pub returns-clause-noted : goal.returns-clause-noted
returns-clause-noted c bounds m most bytes left before now s = done_noted (taking_of Plain most) (controller bounds) m bytes left before now s
