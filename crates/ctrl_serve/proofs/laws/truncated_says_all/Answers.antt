use Rattle.ctrl_serve.specs.FrameAnswer.{controller}
use Rattle.session_mux.specs.declared.sessions.Form.TheVariants.{Plain}
use Rattle.ctrl_serve.specs.Headline.{taking_of}
use Rattle.serve_loop.proofs.EndingLaws.{truncated_read, truncated_rest, truncated_said, truncated_noted}
use Rattle.ctrl_serve.proofs.laws.truncated_says_all.Goals as goal

pub returns-clause-read : goal.returns-clause-read
returns-clause-read c bounds m most bytes left before now s = truncated_read (taking_of Plain most) (controller bounds) m bytes left before now s

pub returns-clause-rest : goal.returns-clause-rest
returns-clause-rest c bounds m most bytes left before now s = truncated_rest (controller bounds) m most bytes left before now s

pub returns-clause-said : goal.returns-clause-said
returns-clause-said c bounds m most bytes said left before now told s = truncated_said (taking_of Plain most) (controller bounds) m bytes said left before now told s

pub returns-clause-noted : goal.returns-clause-noted
returns-clause-noted c bounds m most bytes left before now s calm = truncated_noted (controller bounds) m most bytes left before now s calm
