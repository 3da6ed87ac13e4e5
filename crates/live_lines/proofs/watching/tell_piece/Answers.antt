use Rattle.std.proofs.Common.{List, ℕ, refl, subst}
use Rattle.std.proofs.lemmas.Result.{err_from_is_err_and}
use Rattle.ziti_outside.specs.Told.{Took}
use Rattle.ziti_outside.proofs.MomentLaws.{OnlySays-none}
use Rattle.live_lines.proofs.watching.tell_piece.Goals as goal

pub returns-in-Ok-clause-told : goal.returns-in-Ok-clause-told
returns-in-Ok-clause-told g c = λ came follows.
    let before = (g.D.Desk.seen c.args.desk.now).said in
    let now = (g.D.Desk.seen c.say.new.self).said in
    record {
      follows = c.in_ok-lines.ensures.ok came follows;
      lines = c.in_ok-lines.lines;
      complete = c.in_ok-lines.ensures.lines came follows;
      took = subst (λ (bytes : List ℕ). Took before now bytes) c.as_slice.ensures c.in-Ok.ensures.taken;
    }

pub returns-in_err-lines-clause-cut : goal.returns-in_err-lines-clause-cut
returns-in_err-lines-clause-cut g c =
    let p = err_from_is_err_and c.from_residual.result c.from_residual.ensures.1 in
    rw p.1 (rw p.2 (λ came follows. refl))

pub returns-in_err-lines-clause-say_cause : goal.returns-in_err-lines-clause-say_cause
returns-in_err-lines-clause-say_cause g c =
    let p = err_from_is_err_and c.from_residual.result c.from_residual.ensures.1 in
    rw p.1 (rw p.2 refl)

pub returns-in_err-lines-clause-others : goal.returns-in_err-lines-clause-others
returns-in_err-lines-clause-others g c = OnlySays-none c.args.desk.now
