-- What is said of an input, what fault it has, and how it ends (docs/FORMATS.md, "Lines for people", "Lines of traces", "Answers").
use Rattle.std.specs.Prelude.{ℕ, Bool, true, false, List, None, Some}
use Rattle.std.specs.declared.option.Option.{Option}
use Rattle.std.specs.Option.{option_map}
use Rattle.frame_lines.specs.TextReading.{bytes_said, fault_said}
use Rattle.frame_lines.specs.TextFaults.{faults_told}
use Rattle.frame_lines.specs.FaultTexts.{line_text, frame_text}
use Rattle.trace_lines.specs.SessionActs.{fault_traced}
use Rattle.trace_lines.specs.ActRecords.{bytes_traced}
use Rattle.trace_lines.specs.TraceTexts.{trace_text}
use Rattle.frame_lines.specs.TextTelling as told
use Rattle.answer_lines.specs.AnswerLines.{answers_told, answers_fault, is_refused, fault_words}
use Rattle.live_lines.specs.LiveLines.{reading_of}
use Rattle.zitiline.specs.declared.words.Form.{Form}
use Rattle.zitiline.specs.declared.words.Form.TheVariants.{Whole, Live}
use Rattle.zitiline.specs.declared.words.Whole.TheVariants.{Encode, Trace, Check, Answers}
use Rattle.zitiline.specs.declared.status.Status.{Status}
use Rattle.zitiline.specs.declared.status.Status.TheVariants.{Done, Refused, BadInput}

-- What is said: the frames of the lines, the trace of the lines, or the lines of the frames or of the tagged replies, up to the first fault;
-- or all faults of the lines; or each request with its answer.
abbrev pub said_of : Form → List ℕ → List ℕ
said_of (Whole Encode) input = bytes_said input
said_of (Whole Trace) input = bytes_traced input
said_of (Whole Check) input = faults_told input
said_of (Whole Answers) input = answers_told input
said_of (Live kind) input = told.text_of (reading_of kind) input

-- The fault in words, if the input has one. A text that is checked has the one at which its encoding ends.
abbrev pub fault_of : Form → List ℕ → Option (List ℕ)
fault_of (Whole Encode) input = option_map line_text (fault_said input)
fault_of (Whole Trace) input = option_map trace_text (fault_traced input)
fault_of (Whole Check) input = option_map line_text (fault_said input)
fault_of (Whole Answers) input = option_map fault_words (answers_fault input)
fault_of (Live kind) input = option_map frame_text (told.fault_of (reading_of kind) input)

-- Whether a request is refused or unanswered, or a reply is to no request. Only requests with their replies are asked for that.
abbrev pub has_refusal : Form → List ℕ → Bool
has_refusal (Whole Encode) input = false
has_refusal (Whole Trace) input = false
has_refusal (Whole Check) input = false
has_refusal (Whole Answers) input = is_refused input
has_refusal (Live kind) input = false

-- The status that a fault decides, or else a refusal.
abbrev pub status_for : Option (List ℕ) → Bool → Status
status_for (Some text) refused = BadInput
status_for None true = Refused
status_for None false = Done

-- The status that the input decides.
abbrev pub status_of : Form → List ℕ → Status
status_of form input = status_for (fault_of form input) (has_refusal form input)
