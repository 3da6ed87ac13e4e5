use Rattle.std.proofs.Common.{refl, arith}
use Rattle.session_mux.specs.declared.sessions.Form.TheVariants.{Plain}
use Rattle.serve_loop.proofs.DeskLaws.{notes_alone}
use Rattle.serve_loop.proofs.FailureLaws.{takes_none}
use Rattle.serve_loop.proofs.IntakeLaws.{none_serves}
use Rattle.ctrl_serve.proofs.ReplayLaws.{started_serves, cut_counts}
use Rattle.ctrl_serve.proofs.top.run_dry.Goals as goal

pub returns-in-Ok-clause-serves : goal.returns-in-Ok-clause-serves
returns-in-Ok-clause-serves g c = started_serves c.in-Ok.core c.args.most _ _ _ _ c.run_on-status.result c.in-Ok.ensures c.run_on-status.ensures.runs.serves

pub returns-in-Err-clause-serves : goal.returns-in-Err-clause-serves
returns-in-Err-clause-serves g c =
    none_serves Plain _ _ c.args.most _ _ _ c.tell_cut.result c.tell_cut.ensures.status c.tell_cut.ensures.others.replies c.tell_cut.ensures.told

pub returns-in-Ok-clause-undisked : goal.returns-in-Ok-clause-undisked
returns-in-Ok-clause-undisked g c = c.run_on-status.ensures.undisked refl

pub returns-in-Ok-clause-others : goal.returns-in-Ok-clause-others
returns-in-Ok-clause-others g c = c.run_on-status.ensures.alone refl

pub returns-in-Err-clause-counts : goal.returns-in-Err-clause-counts
returns-in-Err-clause-counts g c =
    cut_counts c.args.source.now _ _ _ c.tell_cut.result c.tell_cut.ensures.status refl (record { later = omega arith; once = omega arith }) (takes_none c.args.source.now) c.tell_cut.ensures.others c.tell_cut.ensures.counted

pub returns-in-Err-clause-others : goal.returns-in-Err-clause-others
returns-in-Err-clause-others g c = notes_alone c.tell_cut.ensures.others c.tell_cut.ensures.stops

pub returns-in-Ok-clause-counts : goal.returns-in-Ok-clause-counts
returns-in-Ok-clause-counts g c = c.run_on-status.ensures.counts

pub returns-in-Err-clause-undisked : goal.returns-in-Err-clause-undisked
returns-in-Err-clause-undisked g c = λ e. let is = c.tell_cut.ensures.status in cc
