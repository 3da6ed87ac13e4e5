-- What holds of a replay as its desk is seen holds of what is given back of it.
use Rattle.std.proofs.Common.{◌≡◌, ℕ, List, [], length, Result, Ok, Err, Some, refl, sym, ap, ◌∙◌, subst}
use Rattle.std.specs.Result.{IfOk}
use Rattle.ziti_outside.specs.declared.desk.Part.{Part}
use Rattle.ziti_outside.specs.declared.desk.Part.TheVariants.{Mark}
use Rattle.ziti_outside.specs.Images.{Image}
use Rattle.ziti_outside.specs.Views.{Seen}
use Rattle.slot_files.specs.FolderImage.{Stands, StandsBy}
use Rattle.row_store.specs.OpenedStates.{OpensToState}
use Rattle.run_notes.specs.declared.ends.Full.{Full}
use Rattle.memory_runs.proofs.WholeRuns.{Decided}
use Rattle.ctrl_keep.specs.KeptMachine.{Machine}
use Rattle.session_mux.specs.declared.sessions.Form.{Form}
use Rattle.run_notes.specs.declared.status.Status.{Status}
use Rattle.ctrl_serve.specs.FrameAnswer.{last_batches, last_machine}
use Rattle.ctrl_serve.specs.OpenedFolders.{Keeps}
use Rattle.ctrl_serve.specs.UncompactedFolders.{LeavesOtherSlot}
use Rattle.memory_runs.specs.WholeReplays.{bounds, used, IsFull, IsNoted, IsRefused, IsWhole}
use Rattle.memory_runs.specs.Replays.{IsAsSeen}
use Rattle.ctrl_core.specs.KeptFormat.{kept_format}

-- Of two things that hold of what is in a result, a third.
pub both : {A E : Type 0} (r : Result A E) (P Q R : A → Type 0) → ((a : A) → P a → Q a → R a) → IfOk r P → IfOk r Q → IfOk r R
both (Ok a) P Q R so p q = so a p q
both (Err e) P Q R so p q = tt

pub some_is : (a b : List ℕ) → Some a ≡ Some b → a ≡ b
some_is a b same = cc

noted_so : (lines : List ℕ) (now other : Seen) → IsNoted lines now → IsAsSeen now other → IsNoted lines other
noted_so lines now other noted seen =
    record { part = noted.part; front = noted.front; noted = seen.noted ∙ noted.noted; whole = λ calm. noted.whole seen.calm }

pub whole_so : (form : Form) (m : Machine) (input : List ℕ) (folder before : Image) (now other : Seen) (status same : Status) → before ≡ folder
    → IsWhole form m input before now status → IsAsSeen now other → same ≡ status → IsWhole form m input folder other same
whole_so form m input folder before now other status same at whole seen is =
    subst (λ (s : Status). IsWhole form m input folder other s) (sym is)
    (subst (λ (i : Image). IsWhole form m input i other status) at
    (record {
      ends = whole.ends;
      said = seen.said ∙ whole.said;
      notes = record {
        front = whole.notes.front;
        more = whole.notes.more;
        split = whole.notes.split;
        all = whole.notes.all;
        lines = noted_so _ now other whole.notes.lines seen;
      };
      keeps = subst (λ (i : Image). Keeps i (last_machine form bounds m (used input))) (sym seen.reads) whole.keeps;
      opens = subst (λ (i : Image). OpensToState i (last_machine form bounds m (used input)).state) (sym seen.reads) whole.opens;
      stands = λ batches stood. subst (λ (i : Image). Stands kept_format i (last_batches form bounds m (used input) batches)) (sym seen.reads) (whole.stands batches stood);
      same = λ kept still. seen.reads ∙ whole.same kept still;
      elsewhere = λ unmigrated none. subst (λ (i : Image). LeavesOtherSlot before i) (sym seen.reads) (whole.elsewhere unmigrated none);
    }))

pub refused_so : (part : Part) (at : ℕ) (folder before : Image) (now other : Seen) (status same : Status) → before ≡ folder → IsRefused part at before now status → IsAsSeen now other
    → same ≡ status → IsRefused part at folder other same
refused_so part at folder before now other status same is refused seen equal =
    record { ends = equal ∙ refused.ends; said = seen.said ∙ refused.said; lines = noted_so _ now other refused.lines seen; same = seen.reads ∙ refused.same ∙ is }

pub full_so : (part : Full) (folder before : Image) (now other : Seen) (status same : Status) → before ≡ folder → IsFull part before now status → IsAsSeen now other
    → same ≡ status → IsFull part folder other same
full_so part folder before now other status same is full seen equal =
    record { ends = equal ∙ full.ends; said = seen.said ∙ full.said; lines = noted_so _ now other full.lines seen; same = seen.reads ∙ full.same ∙ is }

-- What a folder opens to, and that it opens to none, is read of its bytes.
pub decided_so : (folder before : Image) → before ≡ folder → Decided before → Decided folder
decided_so folder before same is = subst Decided same is

-- A folder whose mark is empty stands for no batches.
pub new_stands : (image : Image) → image Mark ≡ [] → Stands kept_format image []
new_stands image none = subst (λ (n : ℕ). StandsBy n kept_format image []) (sym (ap length none)) refl
