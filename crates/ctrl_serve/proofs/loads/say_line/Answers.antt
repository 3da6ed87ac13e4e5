use Rattle.serve_loop.proofs.DeskLaws.{notes_alone}
use Rattle.ctrl_serve.proofs.loads.say_line.Goals as goal

pub returns-in-Err-clause-others : goal.returns-in-Err-clause-others
returns-in-Err-clause-others g c = notes_alone c.tell_cut.ensures.others c.tell_cut.ensures.stops
