use Rattle.std.proofs.Common.{false, refl, sym, ap}
use Rattle.std.specs.Option.{option_map}
use Rattle.frame_lines.specs.FaultTexts.{line_text}
use Rattle.trace_lines.specs.TraceTexts.{trace_text}
use Rattle.answer_lines.specs.AnswerLines.{fault_words}
use Rattle.zitiline.specs.declared.answers.Fault.TheVariants as fault
use Rattle.zitiline.specs.declared.words.Whole.TheVariants as whole
use Rattle.zitiline.proofs.AnswerLaws.{is_answered}
use Rattle.zitiline.proofs.answers.answer_to.Goals as goal

pub returns-in_ok-encoded-in-Encode : goal.returns-in_ok-encoded-in-Encode
returns-in_ok-encoded-in-Encode c =
    let e = c.in_ok-encoded-in-Encode.ensures in
    is_answered fault.Line line_text whole.Encode c.args.whole c.args.input.now _ c.in_ok-encoded-in-Encode.encoded.fault c.map.result false c.answer_with.result
    (λ f. refl) c.in-Encode.is e.bytes (sym (ap (option_map line_text) e.fault)) c.map.ensures.cases refl c.answer_with.ensures

pub returns-in_ok-traced-in-Trace : goal.returns-in_ok-traced-in-Trace
returns-in_ok-traced-in-Trace c =
    let e = c.in_ok-traced-in-Trace.ensures in
    is_answered fault.Trace trace_text whole.Trace c.args.whole c.args.input.now _ c.in_ok-traced-in-Trace.traced.fault c.map-in-Trace.result false c.answer_with-in-Trace.result
    (λ f. refl) c.in-Trace.is e.bytes (sym (ap (option_map trace_text) e.fault)) c.map-in-Trace.ensures.cases refl c.answer_with-in-Trace.ensures

pub returns-in_ok-checked-in-Check : goal.returns-in_ok-checked-in-Check
returns-in_ok-checked-in-Check c =
    let e = c.in_ok-checked-in-Check.ensures in
    is_answered fault.Line line_text whole.Check c.args.whole c.args.input.now _ c.in_ok-checked-in-Check.checked.fault c.map-in-Check.result false c.answer_with-in-Check.result
    (λ f. refl) c.in-Check.is e.told (sym (ap (option_map line_text) e.fault)) c.map-in-Check.ensures.cases refl c.answer_with-in-Check.ensures

pub returns-in_ok-answered-in-Answers : goal.returns-in_ok-answered-in-Answers
returns-in_ok-answered-in-Answers c =
    let e = c.in_ok-answered-in-Answers.ensures in
    is_answered fault.Answers fault_words whole.Answers c.args.whole c.args.input.now _ c.in_ok-answered-in-Answers.answered.fault c.map-fault.result
    c.in_ok-answered-in-Answers.answered.refused c.answer_with-in-Answers.result (λ f. refl) c.in-Answers.is e.told (sym (ap (option_map fault_words) e.fault))
    c.map-fault.ensures.cases e.refused c.answer_with-in-Answers.ensures
