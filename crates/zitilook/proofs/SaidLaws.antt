-- What was said of a text.
use Rattle.std.proofs.Common.{◌≡◌, ◌⊎◌, inl, inr, ℕ, ◌==◌, true, false, List, [], ◌∷◌, Result, Ok, Err, length, eqb-true, refl, sym, ◌∙◌, subst}
use Rattle.std.proofs.lemmas.List.{nil_from_length}
use Rattle.std.specs.declared.option.Option.{Option}
use Rattle.ziti_outside.specs.Told.{Took, TookFront}
use Rattle.ziti_outside.specs.Views.{Seen}
use Rattle.run_notes.specs.NotedLines.{NotesLines}
use Rattle.run_notes.proofs.NoteLaws.{notes_from}
use Rattle.zitilook.specs.declared.status.Status.{Status}
use Rattle.zitilook.specs.declared.status.Status.TheVariants.{Done, Unknown, WriteFault, NoMemory}
use Rattle.zitilook.specs.Looks.{Refuses, Says, SaysText, Tells, found}
use Rattle.zitilook.specs.Notes.{notes_of}

-- the notes of a status, since a desk that had noted the same
pub noted_since : (is status : Status) (a b c : Seen) → status ≡ is → b.noted ≡ a.noted → b.note_faults ≡ a.note_faults → NotesLines (notes_of is) b c
    → NotesLines (notes_of status) a c
noted_since is status a b c e q r noted = notes_from (notes_of status) a b c q r (subst (λ (s : Status). NotesLines (notes_of s) b c) (sym e) noted)

-- all of it was taken
pub text_whole : (text : List ℕ) (status : Status) (a b c : Seen) → status ≡ Done → Took a.said b.said text → c.said ≡ b.said → b.noted ≡ a.noted → b.note_faults ≡ a.note_faults
    → NotesLines (notes_of Done) b c → SaysText text a c status
text_whole text status a b c is took same q r noted = record {
  says = subst (λ (s : Status). Says s text a.said c.said) (sym is) (subst (λ (now : Option (List ℕ)). Took a.said now text) (sym same) took);
  notes = noted_since Done status a b c is q r noted;
}

-- a front of it was taken
pub text_cut : (text : List ℕ) (status : Status) (a b c : Seen) → status ≡ WriteFault → TookFront a.said b.said text → c.said ≡ b.said → b.noted ≡ a.noted → b.note_faults ≡ a.note_faults
    → NotesLines (notes_of WriteFault) b c → SaysText text a c status
text_cut text status a b c is took same q r noted = record {
  says = subst (λ (s : Status). Says s text a.said c.said) (sym is) (subst (λ (now : Option (List ℕ)). TookFront a.said now text) (sym same) took);
  notes = noted_since WriteFault status a b c is q r noted;
}

-- there was no memory to make it
pub text_unmade : (text : List ℕ) (status : Status) (a b : Seen) → status ≡ NoMemory → b.said ≡ a.said → NotesLines (notes_of NoMemory) a b → SaysText text a b status
text_unmade text status a b is same noted = record {
  says = subst (λ (s : Status). Says s text a.said b.said) (sym is) same;
  notes = subst (λ (s : Status). NotesLines (notes_of s) a b) (sym is) noted;
}

-- what was said since a desk that had said and noted the same
pub says_from : (text : List ℕ) (status : Status) (a b c : Seen) → b.said ≡ a.said → b.noted ≡ a.noted → b.note_faults ≡ a.note_faults → SaysText text b c status
    → SaysText text a c status
says_from text status a b c said q r says = record {
  says = subst (λ (x : Option (List ℕ)). Says status text x c.said) said says.says;
  notes = notes_from (notes_of status) a b c q r says.notes;
}

-- what was refused since a desk that had said and noted the same
pub refused_from : (note : List ℕ) (status : Status) (a b c : Seen) → b.said ≡ a.said → b.noted ≡ a.noted → b.note_faults ≡ a.note_faults → Refuses note b c status
    → Refuses note a c status
refused_from note status a b c said q r refuses = record {
  says_nothing = refuses.says_nothing ∙ said;
  why = by refuses.why;
}
  where
    by : ((status ≡ Unknown) × NotesLines note b c) ⊎ ((status ≡ NoMemory) × NotesLines (notes_of NoMemory) b c)
        → ((status ≡ Unknown) × NotesLines note a c) ⊎ ((status ≡ NoMemory) × NotesLines (notes_of NoMemory) a c)
    by (inl w) = inl (w.0, notes_from note a b c q r w.1)
    by (inr w) = inr (w.0, notes_from (notes_of NoMemory) a b c q r w.1)

-- what was told since such a desk
pub tells_from : (told : Result (List ℕ) (List ℕ)) (status : Status) (a b c : Seen) → b.said ≡ a.said → b.noted ≡ a.noted → b.note_faults ≡ a.note_faults
    → Tells told b c status → Tells told a c status
tells_from (Ok text) status a b c said q r says = says_from text status a b c said q r says
tells_from (Err note) status a b c said q r refuses = refused_from note status a b c said q r refuses

-- there was no memory to make what is told
pub untold : (told : Result (List ℕ) (List ℕ)) (status : Status) (a b : Seen) → status ≡ NoMemory → b.said ≡ a.said → NotesLines (notes_of NoMemory) a b → Tells told a b status
untold (Ok text) status a b is same noted = text_unmade text status a b is same noted
untold (Err note) status a b is same noted = record { says_nothing = same; why = inr (is, noted) }

-- ---- a text that may be empty

pub found_none : (note text : List ℕ) → text ≡ [] → found note text ≡ Err note
found_none note [] is = refl
found_none note (b ∷ bs) is = absurd cc

pub found_some : (note text : List ℕ) → (text ≡ [] → ⊥) → found note text ≡ Ok text
found_some note [] some = absurd (some refl)
found_some note (b ∷ bs) some = refl

pub no_text : (text : List ℕ) → (length text == 0) ≡ true → text ≡ []
no_text text is = nil_from_length text (eqb-true (length text) 0 is)

pub some_text : (text : List ℕ) → (length text == 0) ≡ false → text ≡ [] → ⊥
some_text [] is none = absurd cc
some_text (b ∷ bs) is none = absurd cc
