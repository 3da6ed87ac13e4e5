-- What the first bytes of a part that were read say of its header.
use Rattle.std.proofs.Common.{◌≡◌, ℕ, ◌<◌, List, ◌++◌, length, take, Option, None, Some, sym, ap, ◌∙◌, subst, arith}
use Rattle.std.proofs.lemmas.List.{take_at}
use Rattle.ziti_outside.specs.Told.{IsFront}
use Rattle.ziti_outside.specs.declared.desk.Part.{Part}
use Rattle.ziti_outside.specs.declared.desk.Part.TheVariants.{Mark}
use Rattle.ziti_outside.specs.Images.{Image, StandAt}
use Rattle.ctrl_model.specs.declared.formats.Format.{Format}
use Rattle.journal_core.specs.Slots.{header}
use Rattle.slot_files.specs.FolderImage.{BeginsAs, IsHeaderOf, slot_of}
use Rattle.slot_files.specs.Faults.{HasNoHeader}

-- Eight bytes that were read at the front of a part are the header with which the part begins.
pub begins_read : (found : Option Format) (bytes whole : List ℕ) → length bytes ≡ 8 → StandAt 0 bytes whole → IsHeaderOf bytes found → BeginsAs whole found
begins_read None bytes whole long read other = λ f front.
    other f (sym (take_at bytes read.0 8 long) ∙ ap (λ (l : List ℕ). take 8 l) (read.1 ∙ sym front.1))
begins_read (Some f) bytes whole long read is = (read.0, ap (λ (l : List ℕ). l ++ read.0) (sym is) ∙ read.1)

-- A part of fewer bytes begins with no header.
pub begins_short : (whole : List ℕ) → length whole < 8 → BeginsAs whole None
begins_short whole short = λ f front. let long = ap length front.1 in absurd (omega (arith, long, short))

-- Where the slot that the mark names begins with no header, that is why it was not found.
pub no_header : (reads later : Image) (mark : ℕ) (part : Part) → later ≡ reads → mark ≡ length (reads Mark) → 0 < mark → part ≡ slot_of mark → BeginsAs (later part) None
    → HasNoHeader reads part
no_header reads later mark part same long some named begins = record {
  some = subst (λ (n : ℕ). 0 < n) long some;
  named = named ∙ ap slot_of long;
  other = subst (λ (i : Image). BeginsAs (i part) None) same begins;
}
