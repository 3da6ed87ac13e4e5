-- What a run promises (docs/PROMISES.md, "The program of lines").
use Rattle.std.specs.Prelude.{◌≡◌, ◌↔◌, ℕ, List, ⊤, None, Some}
use Rattle.std.specs.declared.option.Option.{Option}
use Rattle.std.specs.Io.KnownBytes.{IsAtEnd}
use Rattle.ziti_outside.specs.Told.{Gave, Took, TookFront, IsFront}
use Rattle.ziti_outside.specs.Causes.{Rose}
use Rattle.ziti_outside.specs.Images.{Image}
use Rattle.ziti_outside.specs.Views.{Outside, Seen}
use Rattle.frame_lines.specs.TextTelling.{text_of}
use Rattle.live_lines.specs.declared.kinds.Kind.{Kind}
use Rattle.live_lines.specs.declared.exchanges.Exchange.{Exchange}
use Rattle.live_lines.specs.Exchanges.{source_of}
use Rattle.live_lines.specs.LiveLines.{reading_of}
use Rattle.live_lines.specs.InTime.{IsInTime}
use Rattle.zitiline.specs.declared.words.Form.{Form}
use Rattle.zitiline.specs.declared.words.Form.TheVariants.{Whole, Live}
use Rattle.zitiline.specs.declared.words.Page.{Page}
use Rattle.zitiline.specs.declared.words.Asked.{Asked}
use Rattle.zitiline.specs.declared.words.Asked.TheVariants.{Turn, Tell}
use Rattle.zitiline.specs.declared.status.Status.{Status}
use Rattle.zitiline.specs.declared.status.Status.TheVariants.{Done, Refused, Usage, BadInput, ReadFault, WriteFault, NoMemory}
use Rattle.zitiline.specs.Answers.{said_of, fault_of, status_of}
use Rattle.zitiline.specs.Notes.{notes_of, NotesLines}
use Rattle.zitiline.specs.Pages.{TellsPage}

-- What is said of the first bytes of an input, while it is not known whether more come: the lines of the frames or the tagged replies that are
-- whole in them, up to the first fault; and nothing of an input that is read whole.
abbrev pub SaysSoFar : Form → List ℕ → Option (List ℕ) → Option (List ℕ) → Type 0
SaysSoFar (Whole w) came said_before said_now = said_now ≡ said_before
SaysSoFar (Live kind) came said_before said_now = Took said_before said_now (text_of (reading_of kind) came)

-- An input that is read whole was read to its end.
abbrev pub IsReadWhole : Form → Option (List ℕ) → Type 0
IsReadWhole (Whole w) left = IsAtEnd left
IsReadWhole (Live kind) left = ⊤

-- What a run that ended so has said of the input that it took: all that is to be said of it, where the input was read to its end
-- and decides this status; a front of that where a say failed; what is said while it is not known whether more comes after a read fault, and
-- of some first bytes of the input where memory was wanting.
abbrev pub Says : Status → Form → List ℕ → Option (List ℕ) → Option (List ℕ) → Option (List ℕ) → Type 0
Says Done form input left said_before said_now = IsAtEnd left × Took said_before said_now (said_of form input) × (status_of form input ≡ Done)
Says Refused form input left said_before said_now = IsAtEnd left × Took said_before said_now (said_of form input) × (status_of form input ≡ Refused)
Says Usage form input left said_before said_now = ⊥
Says BadInput form input left said_before said_now = IsAtEnd left × Took said_before said_now (said_of form input) × (status_of form input ≡ BadInput)
Says ReadFault form input left said_before said_now = SaysSoFar form input said_before said_now
Says WriteFault form input left said_before said_now = IsReadWhole form left × TookFront said_before said_now (said_of form input)
Says NoMemory form input left said_before said_now = (front : List ℕ) × IsFront front input × SaysSoFar form front said_before said_now

-- A run over an input: what the source gave, what was said of it, and what was noted.
pub record Answers (form : Form) (left_before left_now : Option (List ℕ)) (before now : Seen) (status : Status) : Type 0 where
  pub input : List ℕ
  pub gave : Gave left_before left_now input
  pub says : Says status form input left_now before.said now.said
  pub notes : NotesLines (notes_of (fault_of form input) status) before now

-- A run that was asked for one of the eight words alone, or for something else.
--
-- Usage comes exactly where it was asked for something else: then nothing is taken and nothing is said, and the usage line is noted.
-- Where a page about the program was asked for, nothing is taken either.
-- Where the lines of frames or of tagged replies were asked for, they come in time: at each take of the input, those of every frame that was
-- whole by then were said, up to the first fault. A take brings 65,536 bytes at most, and nothing is taken between two of them.
-- A fault comes exactly where its count rose in this run. The folder is left alone.
pub record Runs {S D : Type 0} (outside : Outside S D) (asked : Option Asked) (before now : Exchange S D) (status : Status) : Type 0 where
  pub usage : (status ≡ Usage) ↔ (asked ≡ None)
  pub usage_takes_nothing : asked ≡ None → source_of now ≡ source_of before
  pub usage_says_nothing : asked ≡ None → (outside.seen now.desk).said ≡ (outside.seen before.desk).said
  pub usage_note : asked ≡ None → NotesLines (notes_of None Usage) (outside.seen before.desk) (outside.seen now.desk)
  pub page_takes_nothing : (page : Page) → asked ≡ Some (Tell page) → source_of now ≡ source_of before
  pub pages : (page : Page) → asked ≡ Some (Tell page) → TellsPage page (outside.seen before.desk) (outside.seen now.desk) status
  pub answers : (form : Form) → asked ≡ Some (Turn form)
      → Answers form (outside.left (source_of before)) (outside.left (source_of now)) (outside.seen before.desk) (outside.seen now.desk) status
  pub in_time : (kind : Kind) → asked ≡ Some (Turn (Live kind)) → IsInTime (reading_of kind) outside.left outside.seen before now
  pub read_fault : status ≡ ReadFault → Rose (outside.faults (source_of before)) (outside.faults (source_of now))
  pub no_read_fault : (status ≡ ReadFault → ⊥) → outside.faults (source_of now) ≡ outside.faults (source_of before)
  pub write_fault : status ≡ WriteFault → Rose (outside.seen before.desk).say_faults (outside.seen now.desk).say_faults
  pub no_write_fault : (status ≡ WriteFault → ⊥) → (outside.seen now.desk).say_faults ≡ (outside.seen before.desk).say_faults
  pub parts : (outside.seen now.desk).reads ≡ (outside.seen before.desk).reads
  pub found : (image : Image) → (outside.stopped now.desk).images image → (outside.stopped before.desk).images image
  pub failed_calls : (outside.seen now.desk).disk_faults ≡ (outside.seen before.desk).disk_faults
