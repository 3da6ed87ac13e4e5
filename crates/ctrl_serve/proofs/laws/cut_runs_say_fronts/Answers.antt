use Rattle.ctrl_serve.specs.FrameAnswer.{controller}
use Rattle.serve_loop.proofs.SaidLaws.{whole_is_front, cut_is_front, all_are_whole, front_is_cut}
use Rattle.ctrl_serve.proofs.laws.cut_runs_say_fronts.Goals as goal

pub returns-clause-whole : goal.returns-clause-whole
returns-clause-whole c said all whole = whole_is_front said all whole

pub returns-clause-cut : goal.returns-clause-cut
returns-clause-cut c said all cut = cut_is_front said all cut

pub returns-clause-done : goal.returns-clause-done
returns-clause-done c form bounds m bytes said answered unanswered split says = all_are_whole form (controller bounds) m bytes said answered unanswered split says

pub returns-clause-cut_off : goal.returns-clause-cut_off
returns-clause-cut_off c form bounds m bytes said answered unanswered split says = front_is_cut form (controller bounds) m bytes said answered unanswered split says
