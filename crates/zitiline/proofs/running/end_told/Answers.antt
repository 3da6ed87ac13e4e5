use Rattle.std.proofs.Common.{inl, sym, subst}
use Rattle.std.specs.Option.{option_map}
use Rattle.std.specs.String.{string_bytes}
use Rattle.frame_lines.specs.FaultTexts.{frame_text}
use Rattle.zitiline.specs.declared.answers.Fault.TheVariants.{Frame}
use Rattle.zitiline.specs.declared.status.Status.{Status}
use Rattle.zitiline.specs.Notes.{notes_of, NotesLines}
use Rattle.zitiline.proofs.AnswerLaws.{one_of_all, ends_noted}
use Rattle.zitiline.proofs.running.end_told.Goals as goal

pub returns-in-Ok-clause-ends : goal.returns-in-Ok-clause-ends
returns-in-Ok-clause-ends g c =
    let seen = g.D.Desk.seen in
    ends_noted c.args.fault c.map.result (option_map string_bytes c.in-Ok.note) (seen c.args.desk.now) (seen c.end_by.new.desk) c.end_by.result
    (one_of_all Frame c.args.fault c.map.result c.map.ensures.cases) c.in-Ok.ensures c.end_by.ensures.status c.end_by.ensures.noted

pub returns-in-Err-clause-ends : goal.returns-in-Err-clause-ends
returns-in-Err-clause-ends g c =
    let seen = g.D.Desk.seen in
    let is = c.end_with.ensures.status in
    record {
      ends = inl is;
      notes = subst (λ (s : Status). NotesLines (notes_of (option_map frame_text c.args.fault) s) (seen c.args.desk.now) (seen c.end_with.new.desk)) (sym is) c.end_with.ensures.noted;
    }
