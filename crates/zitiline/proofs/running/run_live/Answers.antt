use Rattle.std.proofs.Common.{None, subst, ◌∙◌}
use Rattle.live_lines.specs.LiveLines.{reading_of}
use Rattle.zitiline.specs.Notes.{notes_of, NotesLines}
use Rattle.zitiline.proofs.TurnLaws.{still_in_time, live_answers, cut_answers, ended_read, ended_write, told_read, told_write, said_folder}
use Rattle.zitiline.proofs.running.run_live.Goals as goal

pub returns-in-Ok-clause-answers : goal.returns-in-Ok-clause-answers
returns-in-Ok-clause-answers g c =
    let first = c.args.exchange.now in
    let mid = c.tell_live.new.exchange in
    let seen = g.D.Desk.seen in
    let others = c.tell_live.ensures.others in
    live_answers c.args.kind c.in-Ok.fault (g.S.Source.left first.source) (g.S.Source.left mid.source) (seen first.desk) (seen mid.desk) (seen c.end_told.new.desk) c.end_told.result
    c.in-Ok.ensures.told others.notes others.failed_notes c.end_told.ensures.others.replies c.end_told.ensures.ends

pub returns-in-Ok-clause-in_time : goal.returns-in-Ok-clause-in_time
returns-in-Ok-clause-in_time g c =
    still_in_time (reading_of c.args.kind) g.S.Source.left g.D.Desk.seen c.args.exchange.now c.tell_live.new.exchange c.end_told.new.desk c.tell_live.ensures.in_time

pub returns-in-Ok-clause-read : goal.returns-in-Ok-clause-read
returns-in-Ok-clause-read g c =
    let seen = g.D.Desk.seen in
    ended_read c.in-Ok.fault (g.S.Source.faults c.args.exchange.now.source) (g.S.Source.faults c.tell_live.new.exchange.source) (seen c.tell_live.new.exchange.desk) (seen c.end_told.new.desk) c.end_told.result
    c.in-Ok.ensures.take_cause c.end_told.ensures.ends

pub returns-in-Ok-clause-cause : goal.returns-in-Ok-clause-cause
returns-in-Ok-clause-cause g c =
    let seen = g.D.Desk.seen in
    ended_write c.in-Ok.fault (seen c.args.exchange.now.desk).say_faults (seen c.end_told.new.desk).say_faults (seen c.tell_live.new.exchange.desk) (seen c.end_told.new.desk) c.end_told.result
    (c.end_told.ensures.others.failed_says ∙ c.in-Ok.ensures.say_cause) c.end_told.ensures.ends

pub returns-in-Ok-clause-folder : goal.returns-in-Ok-clause-folder
returns-in-Ok-clause-folder g c =
    said_folder c.args.exchange.now.desk c.tell_live.new.exchange.desk c.end_told.new.desk c.tell_live.ensures.others c.end_told.ensures.others

pub returns-in-Err-clause-answers : goal.returns-in-Err-clause-answers
returns-in-Err-clause-answers g c =
    let first = c.args.exchange.now in
    let mid = c.tell_live.new.exchange in
    let seen = g.D.Desk.seen in
    let now = seen c.end_with.new.desk in
    let others = c.tell_live.ensures.others in
    cut_answers c.in-Err.cut c.args.kind (g.S.Source.left first.source) (g.S.Source.left mid.source) (seen first.desk) (seen mid.desk) now c.end_with.result
    c.in-Err.ensures.cut others.notes others.failed_notes c.end_with.ensures.others.replies (c.end_with.ensures.status ∙ c.told_status.ensures)
    (subst (λ s. NotesLines (notes_of None s) (seen mid.desk) now) c.told_status.ensures c.end_with.ensures.noted)

pub returns-in-Err-clause-in_time : goal.returns-in-Err-clause-in_time
returns-in-Err-clause-in_time g c =
    still_in_time (reading_of c.args.kind) g.S.Source.left g.D.Desk.seen c.args.exchange.now c.tell_live.new.exchange c.end_with.new.desk c.tell_live.ensures.in_time

pub returns-in-Err-clause-read : goal.returns-in-Err-clause-read
returns-in-Err-clause-read g c =
    told_read c.in-Err.cut (g.S.Source.faults c.args.exchange.now.source) (g.S.Source.faults c.tell_live.new.exchange.source) c.end_with.result (c.end_with.ensures.status ∙ c.told_status.ensures)
    c.in-Err.ensures.take_cause

pub returns-in-Err-clause-cause : goal.returns-in-Err-clause-cause
returns-in-Err-clause-cause g c =
    let seen = g.D.Desk.seen in
    told_write c.in-Err.cut (seen c.args.exchange.now.desk).say_faults (seen c.tell_live.new.exchange.desk).say_faults (seen c.end_with.new.desk).say_faults c.end_with.result
    (c.end_with.ensures.status ∙ c.told_status.ensures) c.in-Err.ensures.say_cause c.end_with.ensures.others.failed_says

pub returns-in-Err-clause-folder : goal.returns-in-Err-clause-folder
returns-in-Err-clause-folder g c =
    said_folder c.args.exchange.now.desk c.tell_live.new.exchange.desk c.end_with.new.desk c.tell_live.ensures.others c.end_with.ensures.others
