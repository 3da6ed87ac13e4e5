-- Where records are sought stays right while the folder goes on.
use Rattle.std.proofs.Common.{◌≡◌, ℕ, ◌+◌, ◌==◌, ◌<◌, ◌≤◌, Bool, true, false, cond, List, [], ◌∷◌, ◌++◌, length, Option, None, Some, refl, sym, ap, ◌∙◌, subst, append_assoc, length-append, true≢false, arith}
use Rattle.std.specs.Option.{unwrap_or}
use Rattle.ziti_outside.specs.Images.{Image}
use Rattle.ctrl_model.specs.declared.formats.Format.{Format}
use Rattle.ctrl_model.specs.declared.formats.Format.TheVariants.{Two}
use Rattle.journal_core.specs.Slots.{slot_end}
use Rattle.slot_files.specs.FolderImage.{Stands}
use Rattle.slot_files.proofs.StandLaws.{one_stands}
use Rattle.row_codec.specs.declared.changes.Op.{Op}
use Rattle.row_codec.specs.Batches.{batch_bytes}
use Rattle.row_store.specs.StoredRows.{Stored, ReadsAs, IsStoreOf}
use Rattle.follow_core.specs.declared.sought.Sought.{Sought}
use Rattle.follow_core.specs.FollowedCopies.{IsSoughtIn, AreSoughtIn, serial_in_store}
use Rattle.follow_core.specs.Steps.{is_begun, is_replaced, kept_behind}

-- One record more, which raises the serial by one.
pub sought_more : (records : List (List ℕ)) (bytes : List ℕ) (own next : ℕ) (sought : Option Sought) → next ≡ own + 1 → AreSoughtIn records own sought
    → AreSoughtIn (records ++ bytes ∷ []) next sought
sought_more records bytes own next None e s = tt
sought_more records bytes own next (Some sought) e s = record {
  whole = s.whole;
  before = s.before;
  after = s.after ++ bytes ∷ [];
  split = ap (λ (l : List (List ℕ)). l ++ bytes ∷ []) s.split ∙ ap (λ (l : List (List ℕ)). s.whole ∷ l) (append_assoc s.before s.after (bytes ∷ []));
  second = s.second;
  place = s.place;
  serial = (let was = s.serial in let long = length-append s.after (bytes ∷ []) in omega (arith, was, long, e));
  first = s.first;
}

-- Where there is no record nothing is sought.
pub sought_none : (own next : ℕ) (bytes : List ℕ) (sought : Option Sought) → AreSoughtIn [] own sought → AreSoughtIn (bytes ∷ []) next sought
sought_none own next bytes None s = tt
sought_none own next bytes (Some sought) s = let none = s.split in absurd cc

-- Records of one folder are the same.
pub sought_in : (reads : Image) (these others : List (List ℕ)) (own : ℕ) (sought : Option Sought) → Stands Two reads these → Stands Two reads others → AreSoughtIn these own sought → AreSoughtIn others own sought
sought_in reads these others own sought stands those s =
    subst (λ (l : List (List ℕ)). AreSoughtIn l own sought) (one_stands Two Two reads these others stands those).1 s
