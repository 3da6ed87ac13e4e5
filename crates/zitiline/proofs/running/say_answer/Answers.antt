use Rattle.std.proofs.Common.{ℕ, List, refl, sym, subst}
use Rattle.std.specs.declared.option.Option.{Option}
use Rattle.ziti_outside.specs.Told.{Took, TookFront}
use Rattle.zitiline.specs.Steps.{note_in}
use Rattle.zitiline.proofs.AnswerLaws.{says_by, says_cut, noted_by, noted_cut}
use Rattle.zitiline.proofs.running.say_answer.Goals as goal

pub returns-in-Ok-clause-says : goal.returns-in-Ok-clause-says
returns-in-Ok-clause-says g c =
    let answer = c.args.answer.now in
    let before = (g.D.Desk.seen c.args.desk.now).said in
    let mid = (g.D.Desk.seen c.say.new.self).said in
    let took = subst (λ (bytes : List ℕ). Took before mid bytes) c.as_slice.ensures c.in-Ok.ensures.taken in
    says_by answer (note_in answer) answer.refused c.end_by.result before (g.D.Desk.seen c.end_by.new.desk).said refl refl c.end_by.ensures.status
    (subst (λ (now : Option (List ℕ)). Took before now answer.said) (sym c.end_by.ensures.others.replies) took)

pub returns-in-Err-clause-says : goal.returns-in-Err-clause-says
returns-in-Err-clause-says g c =
    let answer = c.args.answer.now in
    let before = (g.D.Desk.seen c.args.desk.now).said in
    let mid = (g.D.Desk.seen c.say.new.self).said in
    let took = subst (λ (bytes : List ℕ). TookFront before mid bytes) c.as_slice.ensures c.in-Err.ensures.taken in
    says_cut answer c.end_with.result before (g.D.Desk.seen c.end_with.new.desk).said c.end_with.ensures.status
    (subst (λ (now : Option (List ℕ)). TookFront before now answer.said) (sym c.end_with.ensures.others.replies) took)

pub returns-in-Ok-clause-noted : goal.returns-in-Ok-clause-noted
returns-in-Ok-clause-noted g c =
    let answer = c.args.answer.now in
    let others = c.say.ensures.others in
    noted_by answer (note_in answer) answer.refused c.end_by.result (g.D.Desk.seen c.args.desk.now) (g.D.Desk.seen c.say.new.self) (g.D.Desk.seen c.end_by.new.desk)
    refl c.end_by.ensures.status others.notes others.failed_notes c.end_by.ensures.noted

pub returns-in-Err-clause-noted : goal.returns-in-Err-clause-noted
returns-in-Err-clause-noted g c =
    let others = c.say.ensures.others in
    noted_cut c.args.answer.now c.end_with.result (g.D.Desk.seen c.args.desk.now) (g.D.Desk.seen c.say.new.self) (g.D.Desk.seen c.end_with.new.desk)
    c.end_with.ensures.status others.notes others.failed_notes c.end_with.ensures.noted
