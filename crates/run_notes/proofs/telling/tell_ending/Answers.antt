use Rattle.std.proofs.Common.{ℕ, subst}
use Rattle.std.specs.declared.option.Option.{Option}
use Rattle.run_notes.specs.Endings.{ComesToEnd}
use Rattle.run_notes.proofs.NoteLaws.{stuck_told}
use Rattle.run_notes.proofs.telling.tell_ending.Goals as goal

pub returns-in-Some-clause-noted : goal.returns-in-Some-clause-noted
returns-in-Some-clause-noted g c =
    stuck_told c.tell_bad_record.result c.args.mux.now c.in-Some.at c.args.sessions.now.closed c.args.end c.args.notes.now.failed c.tell_bad_record.new.notes.failed _ _
    (subst (λ (bad : Option ℕ). ComesToEnd c.args.mux.now bad) c.in-Some.is c.requires.end) c.tell_bad_record.ensures.status c.tell_bad_record.ensures.noted
