-- What the parts of a run do, up to the headline. Only private contracts cite these.
use Rattle.std.specs.Prelude.{◌≡◌, ◌⊎◌, ℕ, false, List, [], None, Some}
use Rattle.std.specs.declared.option.Option.{Option}
use Rattle.std.specs.Option.{option_map}
use Rattle.std.specs.String.{string_bytes}
use Rattle.ziti_outside.specs.Told.{Took, TookFront}
use Rattle.ziti_outside.specs.Causes.{Rose}
use Rattle.ziti_outside.specs.Images.{Image}
use Rattle.ziti_outside.specs.Views.{Seen, Stopped}
use Rattle.frame_lines.specs.declared.told.DecodeFault.{DecodeFault}
use Rattle.frame_lines.specs.FaultTexts.{line_text, frame_text}
use Rattle.trace_lines.specs.TraceTexts.{trace_text}
use Rattle.answer_lines.specs.AnswerLines.{fault_words}
use Rattle.zitiline.specs.declared.words.Whole.{Whole}
use Rattle.zitiline.specs.declared.words.Form.TheVariants as form
use Rattle.live_lines.specs.declared.watching.Cut as telling
use Rattle.live_lines.specs.declared.watching.Cut.TheVariants as told
use Rattle.zitiline.specs.declared.intake.Cut as taking
use Rattle.zitiline.specs.declared.intake.Cut.TheVariants as taken
use Rattle.zitiline.specs.declared.answers.Answer.{Answer}
use Rattle.zitiline.specs.declared.answers.Fault.{Fault}
use Rattle.zitiline.specs.declared.answers.Fault.TheVariants.{Line, Trace, Frame, Answers}
use Rattle.zitiline.specs.declared.status.Status.{Status}
use Rattle.zitiline.specs.declared.status.Status.TheVariants.{Done, Refused, Usage, BadInput, ReadFault, WriteFault, NoMemory}
use Rattle.zitiline.specs.Answers.{said_of, fault_of, status_for, status_of}
use Rattle.zitiline.specs.Notes.{fault_note, notes_of, NotesLines}

-- A fault in words.
abbrev pub fault_text : Fault → List ℕ
fault_text (Line f) = line_text f
fault_text (Trace f) = trace_text f
fault_text (Frame f) = frame_text f
fault_text (Answers f) = fault_words f

-- The bytes of a note that may be missing.
abbrev pub note_bytes : Option (List ℕ) → List ℕ
note_bytes None = []
note_bytes (Some note) = note

-- The bytes of an answer's note, if it has one.
abbrev pub note_in : Answer → Option (List ℕ)
note_in a = option_map string_bytes a.note

-- What is said of an input that was read whole, the note of its fault, and the status that it decides.
pub record IsAnswer (w : Whole) (input : List ℕ) (a : Answer) : Type 0 where
  pub said : a.said ≡ said_of (form.Whole w) input
  pub note : note_bytes (note_in a) ≡ fault_note (fault_of (form.Whole w) input)
  pub status : status_for (note_in a) a.refused ≡ status_of (form.Whole w) input

-- What saying an answer did at a status.
abbrev pub SaysAnswer : Status → Answer → Option (List ℕ) → Option (List ℕ) → Type 0
SaysAnswer Done a before now = Took before now a.said × (status_for (note_in a) a.refused ≡ Done)
SaysAnswer Refused a before now = Took before now a.said × (status_for (note_in a) a.refused ≡ Refused)
SaysAnswer Usage a before now = ⊥
SaysAnswer BadInput a before now = Took before now a.said × (status_for (note_in a) a.refused ≡ BadInput)
SaysAnswer ReadFault a before now = ⊥
SaysAnswer WriteFault a before now = TookFront before now a.said
SaysAnswer NoMemory a before now = ⊥

-- What answering a whole input said at a status.
abbrev pub SaysInput : Status → Whole → List ℕ → Option (List ℕ) → Option (List ℕ) → Type 0
SaysInput Done w input before now = Took before now (said_of (form.Whole w) input) × (status_of (form.Whole w) input ≡ Done)
SaysInput Refused w input before now = Took before now (said_of (form.Whole w) input) × (status_of (form.Whole w) input ≡ Refused)
SaysInput Usage w input before now = ⊥
SaysInput BadInput w input before now = Took before now (said_of (form.Whole w) input) × (status_of (form.Whole w) input ≡ BadInput)
SaysInput ReadFault w input before now = ⊥
SaysInput WriteFault w input before now = TookFront before now (said_of (form.Whole w) input)
SaysInput NoMemory w input before now = now ≡ before

-- How an input that was told as it came ends, whose fault is this one or none: as the fault decides and with its note, or without memory.
pub record EndsTold (fault : Option DecodeFault) (before now : Seen) (status : Status) : Type 0 where
  pub ends : (status ≡ NoMemory) ⊎ (status ≡ status_for (option_map frame_text fault) false)
  pub notes : NotesLines (notes_of (option_map frame_text fault) status) before now

-- The notes of an answer that was said, at a status.
abbrev pub answer_notes : Answer → Status → List ℕ
answer_notes a BadInput = note_bytes (note_in a)
answer_notes a status = notes_of None status

-- A write fault came only where the count of failed says rose, and it stays where none came.
pub record IsWriteCaused (before now : ℕ) (status : Status) : Type 0 where
  pub calm : (status ≡ WriteFault → ⊥) → now ≡ before
  pub rose : status ≡ WriteFault → Rose before now

-- The folder was left alone.
pub record LeavesFolder {D : Type 0} (seen : D → Seen) (stopped : D → Stopped) (old new : D) : Type 0 where
  pub parts : (seen new).reads ≡ (seen old).reads
  pub found : (image : Image) → (stopped new).images image → (stopped old).images image
  pub failed_calls : (seen new).disk_faults ≡ (seen old).disk_faults

-- A read fault came only where the count of failed takes rose, and it stays where none came.
pub record IsReadCaused (before now : ℕ) (status : Status) : Type 0 where
  pub calm : (status ≡ ReadFault → ⊥) → now ≡ before
  pub rose : status ≡ ReadFault → Rose before now

-- The status of a taking that was cut short.
abbrev pub taken_status : taking.Cut → Status
taken_status taken.NoMemory = NoMemory
taken_status taken.Fault = ReadFault

-- The status of a telling that was cut short.
abbrev pub told_status : telling.Cut → Status
told_status told.NoMemory = NoMemory
told_status told.Unread = ReadFault
told_status told.Unsaid = WriteFault
