-- The machine to which a folder opens, and the one that a kept controller's folder keeps.
use Rattle.std.proofs.Common.{◌≡◌, ◌⊎◌, ℕ, zero, suc, ◌+◌, ◌<◌, inl, inr, List, [], ◌∷◌, ◌++◌, length, Some, refl, sym, ap, ap₂, ◌∙◌, subst, arith}
use Rattle.std.specs.declared.option.Option.{Option}
use Rattle.std.proofs.lemmas.List.{length-append}
use Rattle.ziti_outside.specs.Images.{Image}
use Rattle.ctrl_model.specs.declared.formats.Format.{Format}
use Rattle.ctrl_model.specs.declared.formats.Format.TheVariants as formats
use Rattle.ziti_outside.specs.declared.desk.Part.{Part}
use Rattle.ziti_outside.specs.declared.desk.Part.TheVariants.{Zero, Mark}
use Rattle.journal_core.specs.Slots.{Slot, slot_end}
use Rattle.journal_core.proofs.SlotLaws.{one_slot}
use Rattle.slot_files.specs.FolderImage.{Stands, StandsBy, slot_of}
use Rattle.slot_files.proofs.StandLaws.{one_stands, same_stands}
use Rattle.slot_files.specs.OpenedSlots.{IsCreated, Opens}
use Rattle.ctrl_model.specs.State.{State, start}
use Rattle.row_laws.proofs.SameStates.{same_from_spelled}
use Rattle.slot_reading.specs.BatchRows.{ByteRows, Give}
use Rattle.row_store.specs.StoredRows.{ReadsAs}
use Rattle.row_store.specs.OpenedStates.{byte_rows_of, OpensToState, HasNoState, IsStateless}
use Rattle.row_store.specs.OpenedRows.{OpensTo as RowsOpen}
use Rattle.row_store.specs.RewrittenStores.{compacted}
use Rattle.row_store.specs.declared.bounds.StoreBounds.{StoreBounds}
use Rattle.row_store.proofs.OneStates.{one_state}
use Rattle.row_store.proofs.OpeningLaws.{one_opens}
use Rattle.ctrl_keep.specs.MigratedFolders.{IsMigrated, Migrates, OpensInFirst}
use Rattle.row_store.proofs.StateRows.{start_valid, start_rows, start_has, start_is_one}
use Rattle.ctrl_keep.specs.KeptMachine.{Machine, Place}
use Rattle.ctrl_keep.specs.KeptController.{Controlled, HoldsRows, machine_of}
use Rattle.ctrl_serve.specs.OpenedFolders.{Keeps, IsMigratedTo, OpensBy, OpensTo}
use Rattle.ctrl_serve.specs.MigratedRuns.{HasRoomToOpen}
use Rattle.ctrl_core.specs.KeptFormat.{kept_format}

-- ---- a machine by its state and its place

abbrev machine_at : State → ℕ → ℕ → Machine
machine_at s end mark = record { state = s; place = Some (record { end = end; mark = mark }) }

abbrev pub place_at : ℕ → ℕ → Option Place
place_at end mark = Some (record { end = end; mark = mark })

-- The folder of a kept controller stands for its batches in the kept format.
abbrev pub kept_stands : (k : Controlled) (reads : Image) (images : Image → Type 0) → HoldsRows k → (held : ReadsAs k.stored reads images) → Stands kept_format reads held.kept.batches
kept_stands k reads images holds held = subst (λ (f : Format). Stands f reads held.kept.batches) holds.format held.kept.stands

abbrev kept_give : (k : Controlled) (reads : Image) (images : Image → Type 0) → HoldsRows k → (held : ReadsAs k.stored reads images) → Give kept_format held.kept.batches (byte_rows_of kept_format k.state)
kept_give k reads images holds held =
    subst (λ (rows : ByteRows). Give kept_format held.kept.batches rows) holds.rows (subst (λ (f : Format). Give f held.kept.batches k.stored.rows) holds.format held.kept.give)

-- It keeps its machine.
abbrev pub kept_keeps : (k : Controlled) (reads : Image) (images : Image → Type 0) → HoldsRows k → ReadsAs k.stored reads images → Keeps reads (machine_of k)
kept_keeps k reads images holds held = record {
  valid = holds.valid;
  batches = held.kept.batches;
  stands = kept_stands k reads images holds held;
  give = kept_give k reads images holds held;
  place = ap₂ place_at held.kept.end (sym held.kept.mark);
}

-- What a stop may leave opens to its state.
pub kept_found : (k : Controlled) (reads : Image) (images : Image → Type 0) → HoldsRows k → ReadsAs k.stored reads images → (image : Image) → images image → OpensToState image k.state
kept_found k reads images holds held image is =
    let mark : image Mark ≡ reads Mark = held.stable_mark.each image is in
    let slot : image k.stored.part ≡ reads k.stored.part = held.stable_slot.each image is in
    let named : k.stored.part ≡ slot_of (length (reads Mark)) = held.kept.part ∙ ap slot_of (sym held.kept.mark) in
    let same : image (slot_of (length (reads Mark))) ≡ reads (slot_of (length (reads Mark))) = subst (λ (p : Part). image p ≡ reads p) named slot in
    record {
      format = kept_format;
      has = tt;
      valid = holds.valid;
      rows = record {
        batches = held.kept.batches;
        stands = (same_stands kept_format reads image (ap length mark) same).still held.kept.batches (kept_stands k reads images holds held);
        give = kept_give k reads images holds held;
      };
    }

-- ---- the machine to which a folder opens

-- No batches give no rows.
no_rows : (f : Format) (batches : List (List ℕ)) (rows : ByteRows) → batches ≡ [] → Give f batches rows → rows ≡ []
no_rows f batches rows none give = subst (λ (b : List (List ℕ)). Give f b rows) none give

-- With an empty mark an image opens to the state at the start alone.
pub opens_to_start : (image : Image) (s : State) → length (image Mark) ≡ 0 → OpensToState image s → s ≡ start
opens_to_start image s empty opens =
    let none : opens.rows.batches ≡ [] = subst (λ (n : ℕ). StandsBy n opens.format image opens.rows.batches) empty opens.rows.stands in
    same_from_spelled opens.format s start opens.valid start_valid opens.has (start_has opens.format)
    (no_rows opens.format opens.rows.batches (byte_rows_of opens.format s) none opens.rows.give ∙ sym (start_rows opens.format))

-- A created folder stands for no batches.
pub created_none : (old reads : Image) (batches : List (List ℕ)) → IsCreated kept_format old reads → Stands kept_format reads batches → batches ≡ []
created_none old reads batches made stands =
    let slot : Slot kept_format (reads Zero) batches = subst (λ (n : ℕ). StandsBy n kept_format reads batches) (ap length made.mark) stands in
    let first : Slot kept_format (reads Zero) [] = record { gate = 0; more = _; split = made.first; closed = λ e. absurd (omega (arith, e)); short = tt } in
    let same = one_slot kept_format kept_format (reads Zero) batches [] slot first in
    same.1

-- A folder that keeps a machine is none of the first format.
pub Two≢One : kept_format ≡ formats.One → ⊥
Two≢One e = cc

pub never_first : (image : Image) (m : Machine) (s : State) → Keeps image m → OpensInFirst image s → ⊥
never_first image m s keeps first =
    let rows : RowsOpen kept_format image (byte_rows_of kept_format m.state) = record { batches = keeps.batches; stands = keeps.stands; give = keeps.give } in
    Two≢One ((one_opens kept_format formats.One image (byte_rows_of kept_format m.state) (byte_rows_of formats.One s) rows first.rows).0 first.some)

-- What opening a folder to a state made of it: it was created or left, or migrated.
abbrev pub Made : StoreBounds → (old new : Image) → State → Type 0
Made bounds old new s = Opens kept_format (length (old Mark)) old new ⊎ (Migrates bounds old s × IsMigrated s old new)

-- A folder of the first format opens to its state.
pub opens_first : (image : Image) (s : State) → OpensInFirst image s → OpensToState image s
opens_first image s first = record { format = formats.One; has = first.has; valid = first.valid; rows = first.rows }

one_longer : (old new : List ℕ) → new ≡ old ++ 0 ∷ [] → length new ≡ length old + 1
one_longer old new e = ap length e ∙ length-append old (0 ∷ [])

-- Where it was migrated, it was to the machine that it keeps now.
pub migrated_to : (bounds : StoreBounds) (image reads : Image) (m : Machine) → Keeps reads m → Migrates bounds image m.state → IsMigrated m.state image reads → IsMigratedTo image m
migrated_to bounds image reads m keeps migrates made =
    let same = one_stands kept_format kept_format reads keeps.batches (compacted (byte_rows_of kept_format m.state)) keeps.stands made.stands in
    record { first = migrates.opens; place = keeps.place ∙ ap₂ place_at (ap slot_end same.1) (one_longer (image Mark) (reads Mark) made.mark) }

-- The machine of a kept controller is that to which the folder opens.
opens_as : (bounds : StoreBounds) (mark : ℕ) (image reads : Image) (images : Image → Type 0) (k : Controlled) → length (image Mark) ≡ mark → OpensToState image k.state → HoldsRows k
    → ReadsAs k.stored reads images → Opens kept_format mark image reads ⊎ (Migrates bounds image k.state × IsMigrated k.state image reads) → OpensBy mark image (machine_of k)
opens_as bounds zero image reads images k is opens holds held (inl made) =
    let end : k.stored.end ≡ slot_end [] = held.kept.end ∙ ap slot_end (created_none image reads held.kept.batches made (kept_stands k reads images holds held)) in
    let mark : k.stored.mark ≡ 1 = sym held.kept.mark ∙ ap length made.mark in
    ap₂ (machine_at k.state) end mark ∙ ap (λ (s : State). machine_at s (slot_end []) 1) (opens_to_start image k.state is opens)
opens_as bounds zero image reads images k is opens holds held (inr (migrates, made)) = absurd (omega (arith, is, migrates.opens.some))
opens_as bounds (suc turn) image reads images k is opens holds held (inl same) =
    inl (subst (λ (i : Image). Keeps i (machine_of k)) same (kept_keeps k reads images holds held))
opens_as bounds (suc turn) image reads images k is opens holds held (inr (migrates, made)) =
    inr (migrated_to bounds image reads (machine_of k) (kept_keeps k reads images holds held) migrates made)

pub opens_by : (bounds : StoreBounds) (mark : ℕ) (image reads : Image) (images : Image → Type 0) (k : Controlled) → length (image Mark) ≡ mark → OpensToState image k.state → HoldsRows k
    → ReadsAs k.stored reads images → Made bounds image reads k.state → OpensBy mark image (machine_of k)
opens_by bounds mark image reads images k is opens holds held made =
    opens_as bounds mark image reads images k is opens holds held
    (subst (λ (n : ℕ). Opens kept_format n image reads ⊎ (Migrates bounds image k.state × IsMigrated k.state image reads)) is made)

-- Where it is of the first format it was migrated, so that there was room.
same_read : (mark : ℕ) (image reads : Image) → 0 < mark → Opens kept_format mark image reads → reads ≡ image
same_read zero image reads some made = absurd (omega (arith, some))
same_read (suc turn) image reads some made = made

pub roomy_by : (bounds : StoreBounds) (image reads : Image) (images : Image → Type 0) (k : Controlled) → OpensToState image k.state → HoldsRows k
    → ReadsAs k.stored reads images → Made bounds image reads k.state → HasRoomToOpen bounds image
roomy_by bounds image reads images k opens holds held (inr (migrates, made)) = λ s first.
    subst (Migrates bounds image) (one_state image k.state s opens (opens_first image s first)) migrates
roomy_by bounds image reads images k opens holds held (inl made) = λ s first.
    let same = same_read (length (image Mark)) image reads first.some made in
    let keeps : Keeps image (machine_of k) = subst (λ (i : Image). Keeps i (machine_of k)) same (kept_keeps k reads images holds held) in
    absurd (never_first image (machine_of k) s keeps first)

-- And to that one it opens.
pub opens_empty : (image : Image) → image Mark ≡ [] → OpensToState image start
opens_empty image empty = record {
  format = kept_format;
  has = start_has kept_format;
  valid = start_valid;
  rows = record { batches = []; stands = subst (λ (m : List ℕ). StandsBy (length m) kept_format image []) (sym empty) refl; give = start_rows kept_format };
}

-- A folder opens to the state of the machine that it keeps.
pub opens_kept : (image : Image) (m : Machine) → Keeps image m → OpensToState image m.state
opens_kept image m keeps = record { format = kept_format; has = tt; valid = keeps.valid; rows = record { batches = keeps.batches; stands = keeps.stands; give = keeps.give } }

-- The machine to which a folder opens has the state to which it opens.
machine_state_by : (mark : ℕ) (image : Image) (s : State) (m : Machine) → length (image Mark) ≡ mark → OpensToState image s → OpensBy mark image m → m.state ≡ s
machine_state_by zero image s m is opens same = ap (λ (x : Machine). x.state) same ∙ sym (opens_to_start image s is opens)
machine_state_by (suc turn) image s m is opens (inl keeps) = one_state image m.state s (opens_kept image m keeps) opens
machine_state_by (suc turn) image s m is opens (inr migrated) = one_state image m.state s (opens_first image m.state migrated.first) opens

pub one_machine_state : (image : Image) (s : State) (m : Machine) → OpensToState image s → OpensTo image m → m.state ≡ s
one_machine_state image s m opens to = machine_state_by (length (image Mark)) image s m refl opens to

-- ---- a folder that opens to no state

-- Its mark is not empty, since an empty mark opens to the state at the start.
no_state_marked : (mark : ℕ) (image : Image) (part : Part) (at : ℕ) → length (image Mark) ≡ mark → HasNoState image part at → 0 < mark
no_state_marked zero image part at empty h =
    let none : h.batches ≡ [] = subst (λ (n : ℕ). StandsBy n h.format image h.batches) empty h.stands in
    absurd (start_is_one h.format h.rows (no_rows h.format h.batches h.rows none h.give) h.none)
no_state_marked (suc turn) image part at is h = omega arith

pub stateless_marked : (image : Image) (part : Part) (at : ℕ) → IsStateless image part at → 0 < length (image Mark)
stateless_marked image part at (inl damaged) = damaged.some
stateless_marked image part at (inr none) = no_state_marked (length (image Mark)) image part at refl none
