-- What is said of the program itself (docs/FORMATS.md, "The words of zitiline").
use Rattle.std.specs.Prelude.{ℕ, List, ◌++◌, codes, None}
use Rattle.std.specs.declared.option.Option.{Option}
use Rattle.ziti_outside.specs.Told.{Took, TookFront}
use Rattle.ziti_outside.specs.Views.{Seen}
use Rattle.zitiline.specs.declared.words.Page.{Page}
use Rattle.zitiline.specs.declared.words.Page.TheVariants.{Help, Version}
use Rattle.zitiline.specs.declared.status.Status.{Status}
use Rattle.zitiline.specs.declared.status.Status.TheVariants.{Done, Refused, Usage, BadInput, ReadFault, WriteFault, NoMemory}
use Rattle.zitiline.specs.Notes.{notes_of, NotesLines}

-- A page: a line for each word, or the version of the lines.
abbrev pub page_text : Page → List ℕ
page_text Help =
    codes "usage: zitiline WORD, with input and output redirected\n"
    ++ (codes "encode   lines to frames\n"
    ++ (codes "decode   frames to lines, as they come\n"
    ++ (codes "trace    lines of sessions to a trace\n"
    ++ (codes "replies  tagged replies to lines, as they come\n"
    ++ (codes "check    lines to all faults that they have for encode\n"
    ++ (codes "answers  lines, a line ---, and the lines of decode, to each line with its answer\n"
    ++ (codes "help     these lines\n"
    ++ codes "version  the version of the lines\n")))))))
page_text Version = codes "zitiline 1\n"

-- What a run that ended so has said of a page: all of it, or a front of it where the say failed. It ends no other way.
abbrev pub PageSaid : Status → Page → Option (List ℕ) → Option (List ℕ) → Type 0
PageSaid Done page before now = Took before now (page_text page)
PageSaid Refused page before now = ⊥
PageSaid Usage page before now = ⊥
PageSaid BadInput page before now = ⊥
PageSaid ReadFault page before now = ⊥
PageSaid WriteFault page before now = TookFront before now (page_text page)
PageSaid NoMemory page before now = ⊥

-- A run that was asked for a page.
pub record TellsPage (page : Page) (before now : Seen) (status : Status) : Type 0 where
  pub says : PageSaid status page before.said now.said
  pub notes : NotesLines (notes_of None status) before now
