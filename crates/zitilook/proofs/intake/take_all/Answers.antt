use Rattle.std.proofs.Common.{ℕ, ◌++◌, take, subst}
use Rattle.std.proofs.lemmas.Result.{err_from_is_err_and}
use Rattle.ziti_outside.specs.Causes.{Rose}
use Rattle.ziti_outside.proofs.Moves.{Gave-then}
use Rattle.zitilook.proofs.intake.take_all.Goals as goal

pub returns-in_err-extend_from_slice-in-Ok-clause-cut : goal.returns-in_err-extend_from_slice-in-Ok-clause-cut
returns-in_err-extend_from_slice-in-Ok-clause-cut g c =
    let p = err_from_is_err_and c.from_residual-in_err-extend_from_slice-in-Ok.result c.from_residual-in_err-extend_from_slice-in-Ok.ensures.1 in
    let piece = take c.in-Ok.count c.take.new.buf in
    rw p.1 (record {
      bytes = c.takes.bytes.items ++ piece;
      gave = Gave-then _ _ _ c.takes.bytes.items piece c.takes.invariant.gave c.in-Ok.ensures.bytes.bytes;
    })

pub returns-in-Err-clause-faults : goal.returns-in-Err-clause-faults
returns-in-Err-clause-faults g c = subst (λ (n : ℕ). Rose n (g.S.Source.faults c.take.new.self)) c.takes.invariant.calm c.in-Err.ensures.cause.failed
