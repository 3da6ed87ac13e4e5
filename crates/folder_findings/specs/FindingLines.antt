-- What is found in a folder as lines of text, each with the way back where something is wrong (docs/FORMATS.md, "Findings of a folder").
use Rattle.std.specs.Prelude.{ℕ, Bool, true, false, not, cond, ◌&&◌, ◌||◌, ◌==◌, nat_lt, List, ◌++◌, codes, decimal, None, Some}
use Rattle.std.specs.declared.option.Option.{Option}
use Rattle.ziti_outside.specs.declared.desk.Part.{Part}
use Rattle.ziti_outside.specs.declared.desk.Part.TheVariants.{Zero, One, Mark}
use Rattle.ctrl_model.specs.declared.formats.Format.{Format}
use Rattle.ctrl_model.specs.declared.formats.Format.TheVariants as format
use Rattle.slot_files.specs.FolderImage.{slot_of}
use Rattle.folder_findings.specs.declared.spans.Gate.{Gate}
use Rattle.folder_findings.specs.declared.spans.Gate.TheVariants.{Closed, Missing, Cut}
use Rattle.folder_findings.specs.declared.spans.Span.{Span}
use Rattle.folder_findings.specs.declared.finding.FoundSlot.{FoundSlot}
use Rattle.folder_findings.specs.declared.finding.FoundSlot.TheVariants.{Headless, Journal}
use Rattle.folder_findings.specs.declared.finding.FoundFiles.{FoundFiles}
use Rattle.folder_findings.specs.declared.causes.Cause.{Cause}
use Rattle.folder_findings.specs.declared.causes.Cause.TheVariants.{NoHeader, NoGate, NoBatch, NoNext, NoState}
use Rattle.folder_findings.specs.declared.causes.Verdict.{Verdict}
use Rattle.folder_findings.specs.declared.causes.Verdict.TheVariants.{Opens, Damaged}

-- ---- what is wrong

-- A slot has records, behind open gates or behind a closed one.
abbrev pub has_records : FoundSlot → Bool
has_records (Headless len) = false
has_records (Journal format len span hidden) = nat_lt 0 span.records || nat_lt 0 hidden

-- The mark is empty though a slot has records.
abbrev pub is_lost : FoundFiles → Bool
is_lost f = f.mark == 0 && (has_records f.first || has_records f.second)

-- The slot that a mark of so many bytes names, if it has any.
abbrev pub named_by : ℕ → Option Part
named_by mark = cond (mark == 0) None (Some (slot_of mark))

-- Whether the first slot is named.
abbrev pub is_first : Option Part → Bool
is_first None = false
is_first (Some Zero) = true
is_first (Some One) = false
is_first (Some Mark) = false

-- Whether the second one is.
abbrev pub is_second : Option Part → Bool
is_second None = false
is_second (Some Zero) = false
is_second (Some One) = true
is_second (Some Mark) = false

-- Whether a gate is none at which a run leaves a slot: no closed one, or one that hides records.
abbrev pub is_wrong_gate : Gate → (hidden : ℕ) → Bool
is_wrong_gate Closed hidden = nat_lt 0 hidden
is_wrong_gate Missing hidden = true
is_wrong_gate Cut hidden = true

-- Whether the slot that stands has no header, or ends at such a gate.
abbrev pub is_wrong : FoundSlot → Bool
is_wrong (Headless len) = true
is_wrong (Journal format len span hidden) = is_wrong_gate span.gate hidden

-- Whether a folder opens to a state.
abbrev pub does_open : Verdict → Bool
does_open Opens = true
does_open (Damaged part at cause) = false

-- Whether nothing is wrong.
abbrev pub is_well : FoundFiles → Verdict → Bool
is_well f v =
    not (is_lost f) && (not (is_first (named_by f.mark) && is_wrong f.first) && (not (is_second (named_by f.mark) && is_wrong f.second) && does_open v))

-- ---- words

-- The name of the file of a part.
abbrev pub file_name : Part → List ℕ
file_name Zero = codes "ziti.0"
file_name One = codes "ziti.1"
file_name Mark = codes "ziti.mark"

-- The first word of a line: whether something is wrong.
abbrev pub verdict_word : Bool → List ℕ
verdict_word wrong = cond wrong (codes "found ") (codes "ok ")

-- The number of a format.
abbrev pub format_word : Format → List ℕ
format_word format.One = codes "1"
format_word format.Two = codes "2"

-- What stands at a gate.
abbrev pub gate_word : Gate → List ℕ
gate_word Closed = codes "closed"
gate_word Missing = codes "missing"
gate_word Cut = codes "cut"

-- Why a folder is damaged at a place.
abbrev pub cause_word : Cause → List ℕ
cause_word NoHeader = codes "no-header"
cause_word NoGate = codes "no-gate"
cause_word NoBatch = codes "no-batch"
cause_word NoNext = codes "no-next"
cause_word NoState = codes "no-state"

-- ---- ways back

-- Nothing in the file leads back.
abbrev pub copy_back : List ℕ
copy_back = codes ": put a copy of the files in their place\n"

-- A byte at a place does.
abbrev pub byte_back : (byte : List ℕ) → (at : ℕ) → List ℕ
byte_back byte at = (codes ": copy the files, and write a byte " ++ byte) ++ ((codes " at " ++ decimal at) ++ codes "\n")

-- A record at a place is given up, and those behind it: a byte there ends the slot before it, and a compaction leaves them behind for good.
abbrev pub record_back : (at : ℕ) → List ℕ
record_back at = (codes ": copy the files, write a byte 0 at " ++ decimal at) ++ codes ", and run zitictl compact\n"

-- The way back to the records behind a gate, or before it.
abbrev pub gate_back : Gate → (at : ℕ) → List ℕ
gate_back Closed at = byte_back (codes "1") at
gate_back Missing at = byte_back (codes "0") at
gate_back Cut at = byte_back (codes "0") at

-- The way back from damage at a place.
abbrev pub cause_back : Cause → (at : ℕ) → List ℕ
cause_back NoHeader at = copy_back
cause_back NoGate at = byte_back (codes "0") at
cause_back NoBatch at = record_back at
cause_back NoNext at = record_back at
cause_back NoState at = copy_back

-- The way back to a lost mark: a byte where the first slot alone has records, two where the second alone has, and else there are two.
abbrev pub mark_back : (first second : Bool) → List ℕ
mark_back true false = codes ": run nothing here, copy the files, and write 1 byte to ziti.mark\n"
mark_back false second = codes ": run nothing here, copy the files, and write 2 bytes to ziti.mark\n"
mark_back true true = codes ": run nothing here, copy the files, and write 1 byte to ziti.mark for ziti.0, or 2 for ziti.1\n"

-- ---- lines

-- The line of a mark that is empty.
abbrev pub empty_line : (first second : Bool) → List ℕ
empty_line false false = codes "ok ziti.mark bytes=0\n"
empty_line false true = codes "found ziti.mark bytes=0" ++ mark_back false true
empty_line true second = codes "found ziti.mark bytes=0" ++ mark_back true second

-- The end of the line of a mark that names a slot.
abbrev pub stands_text : Part → List ℕ
stands_text part = (codes " stands=" ++ file_name part) ++ codes "\n"

-- The line of a mark, by the slot that it names, if it names one.
abbrev pub named_line : Option Part → FoundFiles → List ℕ
named_line None f = empty_line (has_records f.first) (has_records f.second)
named_line (Some part) f = (codes "ok ziti.mark bytes=" ++ decimal f.mark) ++ stands_text part

-- The line of the mark.
abbrev pub mark_line : FoundFiles → List ℕ
mark_line f = named_line (named_by f.mark) f

-- What a slot of a format has in front, by key.
abbrev pub head_text : Format → (len : ℕ) → List ℕ
head_text format len = (codes " bytes=" ++ decimal len) ++ (codes " format=" ++ format_word format)

-- Its records and the gate at which they end.
abbrev pub span_text : Span → List ℕ
span_text span = (codes " records=" ++ decimal span.records) ++ ((codes " gate=" ++ gate_word span.gate) ++ (codes " at=" ++ decimal span.at))

-- What a slot has, by key.
abbrev pub slot_text : FoundSlot → List ℕ
slot_text (Headless len) = (codes " bytes=" ++ decimal len) ++ codes " format=none"
slot_text (Journal format len span hidden) = head_text format len ++ (span_text span ++ (codes " hidden=" ++ decimal hidden))

-- The way back of a slot that is wrong.
abbrev pub slot_back : FoundSlot → List ℕ
slot_back (Headless len) = copy_back
slot_back (Journal format len span hidden) = gate_back span.gate span.at

-- The line of a slot, by whether it stands.
abbrev pub slot_line : Part → (stands : Bool) → FoundSlot → List ℕ
slot_line part stands slot =
    (verdict_word (stands && is_wrong slot) ++ file_name part) ++ (slot_text slot ++ cond (stands && is_wrong slot) (slot_back slot) (codes "\n"))

-- The front of the line of damage.
abbrev pub place_text : Part → (at : ℕ) → List ℕ
place_text part at = (codes "found state file=" ++ file_name part) ++ (codes " at=" ++ decimal at)

-- Its end.
abbrev pub cause_text : Cause → (at : ℕ) → List ℕ
cause_text cause at = (codes " cause=" ++ cause_word cause) ++ cause_back cause at

-- The line of the state.
abbrev pub state_line : Verdict → List ℕ
state_line Opens = codes "ok state\n"
state_line (Damaged part at cause) = place_text part at ++ cause_text cause at

-- The lines of what is found: of the mark, of each slot, and of the state.
abbrev pub lines_of : FoundFiles → Verdict → List ℕ
lines_of f v =
    mark_line f ++ (slot_line Zero (is_first (named_by f.mark)) f.first ++ (slot_line One (is_second (named_by f.mark)) f.second ++ state_line v))
