-- What saying a page did.
use Rattle.std.proofs.Common.{◌≡◌, ℕ, List, None, Some, sym, ap, subst}
use Rattle.std.specs.declared.option.Option.{Option}
use Rattle.ziti_outside.specs.Told.{Took, TookFront}
use Rattle.ziti_outside.specs.Views.{Outside, Seen}
use Rattle.zitiline.specs.declared.words.Page.{Page}
use Rattle.live_lines.specs.declared.exchanges.Exchange.{Exchange}
use Rattle.live_lines.specs.Exchanges.{source_of}
use Rattle.live_lines.specs.declared.kinds.Kind.{Kind}
use Rattle.zitiline.specs.declared.words.Asked.TheVariants.{Turn, Tell}
use Rattle.zitiline.specs.declared.words.Form.TheVariants as form
use Rattle.zitiline.specs.declared.status.Status.{Status}
use Rattle.zitiline.specs.declared.status.Status.TheVariants.{Done, Refused, Usage, BadInput, ReadFault, WriteFault, NoMemory}
use Rattle.zitiline.specs.Notes.{notes_of, NotesLines}
use Rattle.zitiline.specs.Headline.{Runs}
use Rattle.zitiline.specs.Steps.{IsWriteCaused, LeavesFolder}
use Rattle.zitiline.specs.Pages.{page_text, PageSaid, TellsPage}
use Rattle.zitiline.proofs.AnswerLaws.{notes_from}

-- A page that was said whole.
pub told_page : (page : Page) (status : Status) (old mid new : Seen) → status ≡ Done → Took old.said mid.said (page_text page) → new.said ≡ mid.said
    → mid.noted ≡ old.noted → mid.note_faults ≡ old.note_faults → NotesLines (notes_of None Done) mid new → TellsPage page old new status
told_page page status old mid new ends took same q r noted = record {
  says = subst (λ (s : Status). PageSaid s page old.said new.said) (sym ends) (subst (λ (now : Option (List ℕ)). Took old.said now (page_text page)) (sym same) took);
  notes = subst (λ (s : Status). NotesLines (notes_of None s) old new) (sym ends) (notes_from (notes_of None Done) old mid new q r noted);
}

-- One of which a front was said.
pub cut_page : (page : Page) (status : Status) (old mid new : Seen) → status ≡ WriteFault → TookFront old.said mid.said (page_text page) → new.said ≡ mid.said
    → mid.noted ≡ old.noted → mid.note_faults ≡ old.note_faults → NotesLines (notes_of None WriteFault) mid new → TellsPage page old new status
cut_page page status old mid new ends took same q r noted = record {
  says = subst (λ (s : Status). PageSaid s page old.said new.said) (sym ends) (subst (λ (now : Option (List ℕ)). TookFront old.said now (page_text page)) (sym same) took);
  notes = subst (λ (s : Status). NotesLines (notes_of None s) old new) (sym ends) (notes_from (notes_of None WriteFault) old mid new q r noted);
}

same_page : (page other : Page) → Some (Tell page) ≡ Some (Tell other) → page ≡ other
same_page page other is = cc

-- A run that was asked for a page, by how it ended.
pub page_runs : {S D : Type 0} (outside : Outside S D) (page : Page) (before now : Exchange S D) (status : Status) → source_of now ≡ source_of before → TellsPage page (outside.seen before.desk) (outside.seen now.desk) status
    → IsWriteCaused (outside.seen before.desk).say_faults (outside.seen now.desk).say_faults status → LeavesFolder outside.seen outside.stopped before.desk now.desk
    → Runs outside (Some (Tell page)) before now status
page_runs outside page before now Done same told caused left = record {
  usage = ((λ (e : Done ≡ Usage). absurd cc), (λ (e : Some (Tell page) ≡ None). absurd cc));
  usage_takes_nothing = λ e. same;
  usage_says_nothing = λ (e : Some (Tell page) ≡ None). absurd cc;
  usage_note = λ (e : Some (Tell page) ≡ None). absurd cc;
  page_takes_nothing = λ other e. same;
  pages = λ other e. subst (λ (p : Page). TellsPage p (outside.seen before.desk) (outside.seen now.desk) Done) (same_page page other e) told;
  answers = λ of (e : Some (Tell page) ≡ Some (Turn of)). absurd cc;
  in_time = λ (kind : Kind) (e : Some (Tell page) ≡ Some (Turn (form.Live kind))). absurd cc;
  read_fault = λ (e : Done ≡ ReadFault). absurd cc;
  no_read_fault = λ none. ap outside.faults same;
  write_fault = λ (e : Done ≡ WriteFault). absurd cc;
  no_write_fault = caused.calm;
  parts = left.parts;
  found = left.found;
  failed_calls = left.failed_calls;
}
page_runs outside page before now Refused same told caused left = absurd told.says
page_runs outside page before now Usage same told caused left = absurd told.says
page_runs outside page before now BadInput same told caused left = absurd told.says
page_runs outside page before now ReadFault same told caused left = absurd told.says
page_runs outside page before now WriteFault same told caused left = record {
  usage = ((λ (e : WriteFault ≡ Usage). absurd cc), (λ (e : Some (Tell page) ≡ None). absurd cc));
  usage_takes_nothing = λ e. same;
  usage_says_nothing = λ (e : Some (Tell page) ≡ None). absurd cc;
  usage_note = λ (e : Some (Tell page) ≡ None). absurd cc;
  page_takes_nothing = λ other e. same;
  pages = λ other e. subst (λ (p : Page). TellsPage p (outside.seen before.desk) (outside.seen now.desk) WriteFault) (same_page page other e) told;
  answers = λ of (e : Some (Tell page) ≡ Some (Turn of)). absurd cc;
  in_time = λ (kind : Kind) (e : Some (Tell page) ≡ Some (Turn (form.Live kind))). absurd cc;
  read_fault = λ (e : WriteFault ≡ ReadFault). absurd cc;
  no_read_fault = λ none. ap outside.faults same;
  write_fault = caused.rose;
  no_write_fault = caused.calm;
  parts = left.parts;
  found = left.found;
  failed_calls = left.failed_calls;
}
page_runs outside page before now NoMemory same told caused left = absurd told.says
