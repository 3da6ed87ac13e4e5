-- What a run promises (docs/PROMISES.md, "The program that looks").
use Rattle.std.specs.Prelude.{◌≡◌, ◌⊎◌, ◌↔◌, ℕ, Bool, true, false, List, None, Some, Ok}
use Rattle.std.specs.declared.option.Option.{Option}
use Rattle.std.specs.declared.result.Result.{Result}
use Rattle.ziti_outside.specs.Views.{Outside, Seen, Stopped}
use Rattle.ctrl_model.specs.State.{State}
use Rattle.access_reasons.specs.ReasonLines.{lines_of as reason_lines}
use Rattle.access_reasons.specs.Reasons.{who, why}
use Rattle.dump_lines.specs.Dumps.{dump_lines}
use Rattle.network_picture.specs.Pictures.{picture_asked, picture_of}
use Rattle.record_lines.specs.RecordLines.{lines_asked, lines_of}
use Rattle.run_notes.specs.NotedLines.{NotesLines}
use Rattle.zitilook.specs.declared.words.Page.{Page}
use Rattle.zitilook.specs.declared.words.Place.TheVariants.{Second, Third}
use Rattle.zitilook.specs.declared.words.Asked.{Asked}
use Rattle.zitilook.specs.declared.words.Asked.TheVariants as asked
use Rattle.zitilook.specs.declared.status.Status.{Status}
use Rattle.zitilook.specs.declared.status.Status.TheVariants.{Usage, NoMemory}
use Rattle.zitilook.specs.Findings.{Examines}
use Rattle.zitilook.specs.Looks.{SaysText, FindsNone, Looks, Refuses, found, HasCauses, IsLeftAlone}
use Rattle.zitilook.specs.Notes.{absent_note, misnamed_note, notes_of, unknown_note}
use Rattle.zitilook.specs.Pages.{page_text}
use Rattle.zitilook.specs.Comparisons.{Compares}
use Rattle.zitilook.specs.Plans.{Plans}
use Rattle.zitilook.specs.Words.{asked_of, is_diff, is_plan, word_at}

-- A run that said nothing, and noted some lines.
pub record OnlyNotesLines (lines : List ℕ) (before now : Seen) : Type 0 where
  pub says_nothing : now.said ≡ before.said
  pub notes : NotesLines lines before now

-- What is told of a state to whoever asks so, if it is the folder's state that is asked about: a text, or the note that no record has
-- the name.
abbrev pub told_of : (words : List (List ℕ)) → Asked → Option (State → Result (List ℕ) (List ℕ))
told_of words (asked.List l) = Some (λ s. Ok (lines_of l s))
told_of words (asked.Show l) = Some (λ s. found (absent_note (word_at Third words)) (lines_asked l (word_at Third words) s))
told_of words asked.Why = Some (λ s. Ok (reason_lines (why s (word_at Second words) (word_at Third words))))
told_of words asked.Who = Some (λ s. Ok (reason_lines (who s (word_at Second words))))
told_of words asked.Dump = Some (λ s. Ok (dump_lines s))
told_of words asked.Picture = Some (λ s. Ok (picture_of s))
told_of words asked.PictureOf = Some (λ s. found (absent_note (word_at Second words)) (picture_asked (word_at Second words) s))
told_of words asked.Doctor = None
told_of words asked.Unknown = None
told_of words (asked.Misnamed place) = None
told_of words (asked.Tell page) = None

-- What is noted where a word names nothing.
abbrev pub refusal_of : (words : List (List ℕ)) → Asked → Option (List ℕ)
refusal_of words asked.Unknown = Some (unknown_note (word_at Second words))
refusal_of words (asked.Misnamed place) = Some (misnamed_note (word_at place words))
refusal_of words _ = None

-- A run on some words, by what they ask for, if they are a line of the table of words.
--
-- Usage comes exactly where they are no line. Then nothing is said, and the usage line is noted.
-- What is asked of the folder's state is said of it: under `list KIND` the lines of its records of the kind, or those of its intercepts,
-- under `show KIND NAME` the line of the one of this name, under `why IDENTITY SERVICE` those of the findings on the two, under
-- `who SERVICE` those on all that may dial it, under `dump` those of the commands that make the like of it, and under `picture` the picture of
-- its network, with the way of a circuit where one is asked for. Where none has the name or the number, it is noted. The folder is opened by
-- reading alone. Where it opens to no state, nothing is said, and why is noted. Where KIND is none, or a word is no name, no folder is
-- opened, and the word is noted.
-- Under `doctor` what is found in its files is said, and whether it opens to a state, also where it opens to none.
-- A page about the program is said without memory.
-- A fault comes exactly where its count rose in this run. Whatever is asked for, the folder is left alone.
pub record Runs {D : Type 0} (tells : Bool) (seen : D → Seen) (stopped : D → Stopped) (words : List (List ℕ)) (what : Option Asked) (desk desk_now : D) (status : Status) : Type 0 where
  pub usage : (status ≡ Usage) ↔ (what ≡ None)
  pub usage_note : what ≡ None → OnlyNotesLines (notes_of Usage) (seen desk) (seen desk_now)
  pub looks : (asks : Asked) → what ≡ Some asks → (told : State → Result (List ℕ) (List ℕ)) → told_of words asks ≡ Some told
      → FindsNone tells (seen desk) (seen desk_now) status
      ⊎ Looks told tells (seen desk) (seen desk_now) status
  pub refuses : (asks : Asked) → what ≡ Some asks → (note : List ℕ) → refusal_of words asks ≡ Some note → Refuses note (seen desk) (seen desk_now) status
  pub examines : what ≡ Some asked.Doctor → Examines tells (seen desk) (seen desk_now) status
  pub pages : (page : Page) → what ≡ Some (asked.Tell page) → SaysText (page_text page) (seen desk) (seen desk_now) status
  pub pages_want_no_memory : (page : Page) → what ≡ Some (asked.Tell page) → status ≡ NoMemory → ⊥
  pub causes : HasCauses (seen desk) (seen desk_now) status
  pub folder : IsLeftAlone seen stopped desk desk_now

-- A run that has a desk for another folder beside. Where the words are `diff OTHER`, the changes between the two folders
-- are said. Any other run leaves the other desk as it was.
pub record RunsBeside {D E : Type 0} (tells : Bool) (seen : D → Seen) (stopped : D → Stopped) (tells_other : Bool) (seen_other : E → Seen) (stopped_other : E → Stopped)
    (words : List (List ℕ)) (other other_now : E) (desk desk_now : D) (status : Status) : Type 0 where
  pub alone : is_diff words ≡ false → Runs tells seen stopped words (asked_of words) desk desk_now status × (other_now ≡ other)
  pub beside : is_diff words ≡ true → Compares tells seen stopped tells_other seen_other stopped_other other other_now desk desk_now status

-- A run of the program, which has an input too. Where the word is `plan`, what the commands of the input would change is said. Any other run
-- takes nothing of the input.
pub record RunsOver {S D E : Type 0} (outside : Outside S D) (tells_other : Bool) (seen_other : E → Seen) (stopped_other : E → Stopped)
    (words : List (List ℕ)) (source source_now : S) (other other_now : E) (desk desk_now : D) (status : Status) : Type 0 where
  pub others : is_plan words ≡ false
      → RunsBeside outside.tells outside.seen outside.stopped tells_other seen_other stopped_other words other other_now desk desk_now status × (source_now ≡ source)
  pub plans : is_plan words ≡ true → Plans outside source source_now desk desk_now status × (other_now ≡ other)
