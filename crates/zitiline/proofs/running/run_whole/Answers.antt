use Rattle.std.proofs.Common.{List, ℕ, None, sym, ap, subst, ◌∙◌}
use Rattle.zitiline.specs.declared.words.Form.TheVariants as form
use Rattle.zitiline.specs.Headline.{Answers}
use Rattle.zitiline.specs.Notes.{notes_of, NotesLines}
use Rattle.zitiline.specs.Steps.{IsWriteCaused, LeavesFolder}
use Rattle.zitiline.specs.Takings.{TookAll}
use Rattle.zitiline.proofs.TurnLaws.{whole_answers, taken_answers, answered_read, taken_read, taken_write, noted_folder}
use Rattle.zitiline.proofs.running.run_whole.Goals as goal

pub returns-in-Ok-clause-answers : goal.returns-in-Ok-clause-answers
returns-in-Ok-clause-answers g c =
    let first = c.args.exchange.now in
    let mid = c.take_all.new.exchange in
    let left = g.S.Source.left in
    let seen = g.D.Desk.seen in
    let now = seen c.answer_input.new.desk in
    let status = c.answer_input.result in
    subst (λ d. Answers (form.Whole c.args.whole) (left first.source) (left mid.source) (seen d) now status) c.take_all.ensures.desk
    (whole_answers c.args.whole c.as_slice.result.now (left first.source) (left mid.source) (seen mid.desk) now status
    (subst (λ (bytes : List ℕ). TookAll (left first.source) (left mid.source) bytes) (sym c.as_slice.ensures.value) c.in-Ok.ensures.taken) c.answer_input.ensures.says c.answer_input.ensures.noted)

pub returns-in-Ok-clause-read : goal.returns-in-Ok-clause-read
returns-in-Ok-clause-read g c =
    let seen = g.D.Desk.seen in
    answered_read (g.S.Source.faults c.args.exchange.now.source) (g.S.Source.faults c.take_all.new.exchange.source) c.args.whole c.as_slice.result.now (seen c.take_all.new.exchange.desk).said
    (seen c.answer_input.new.desk).said c.answer_input.result c.in-Ok.ensures.faults.fault c.answer_input.ensures.says

pub returns-in-Ok-clause-cause : goal.returns-in-Ok-clause-cause
returns-in-Ok-clause-cause g c =
    subst (λ d. IsWriteCaused (g.D.Desk.seen d).say_faults (g.D.Desk.seen c.answer_input.new.desk).say_faults c.answer_input.result) c.take_all.ensures.desk c.answer_input.ensures.cause

pub returns-in-Ok-clause-folder : goal.returns-in-Ok-clause-folder
returns-in-Ok-clause-folder g c =
    subst (λ d. LeavesFolder g.D.Desk.seen g.D.Desk.stopped d c.answer_input.new.desk) c.take_all.ensures.desk c.answer_input.ensures.folder

pub returns-in-Err-clause-answers : goal.returns-in-Err-clause-answers
returns-in-Err-clause-answers g c =
    let first = c.args.exchange.now in
    let mid = c.take_all.new.exchange in
    let left = g.S.Source.left in
    let seen = g.D.Desk.seen in
    let now = seen c.end_with.new.desk in
    let is = c.end_with.ensures.status ∙ c.taken_status.ensures in
    subst (λ d. Answers (form.Whole c.args.whole) (left first.source) (left mid.source) (seen d) now c.end_with.result) c.take_all.ensures.desk
    (taken_answers c.in-Err.cut c.args.whole (left first.source) (left mid.source) (seen mid.desk) now c.end_with.result c.in-Err.ensures.cut c.end_with.ensures.others.replies is
    (subst (λ s. NotesLines (notes_of None s) (seen mid.desk) now) c.taken_status.ensures c.end_with.ensures.noted))

pub returns-in-Err-clause-read : goal.returns-in-Err-clause-read
returns-in-Err-clause-read g c =
    taken_read c.in-Err.cut (g.S.Source.faults c.args.exchange.now.source) (g.S.Source.faults c.take_all.new.exchange.source) c.end_with.result (c.end_with.ensures.status ∙ c.taken_status.ensures)
    c.in-Err.ensures.faults.fault

pub returns-in-Err-clause-cause : goal.returns-in-Err-clause-cause
returns-in-Err-clause-cause g c =
    taken_write c.in-Err.cut (g.D.Desk.seen c.args.exchange.now.desk).say_faults (g.D.Desk.seen c.end_with.new.desk).say_faults c.end_with.result (c.end_with.ensures.status ∙ c.taken_status.ensures)
    (c.end_with.ensures.others.failed_says ∙ ap (λ d. (g.D.Desk.seen d).say_faults) c.take_all.ensures.desk)

pub returns-in-Err-clause-folder : goal.returns-in-Err-clause-folder
returns-in-Err-clause-folder g c =
    subst (λ d. LeavesFolder g.D.Desk.seen g.D.Desk.stopped d c.end_with.new.desk) c.take_all.ensures.desk
    (noted_folder c.take_all.new.exchange.desk c.end_with.new.desk c.end_with.ensures.others)
