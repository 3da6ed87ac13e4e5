-- A folder that opens to a state opens to one machine, which has that state.
use Rattle.std.proofs.Common.{◌≡◌, ◌⊎◌, inl, inr, ℕ, zero, suc, ◌+◌, ◌≤◌, ◌<◌, List, [], length, Option, Some, refl, sym, ap, ap₂, ◌∙◌, subst, arith}
use Rattle.std.proofs.lemmas.List.{nil_from_length}
use Rattle.ziti_outside.specs.declared.desk.Part.TheVariants.{Mark}
use Rattle.ziti_outside.specs.Images.{Image}
use Rattle.journal_core.specs.Slots.{slot_end}
use Rattle.slot_files.proofs.StandLaws.{one_stands}
use Rattle.ctrl_model.specs.State.{State, start}
use Rattle.ctrl_model.specs.declared.formats.Format.{Format}
use Rattle.ctrl_model.specs.declared.formats.Format.TheVariants as formats
use Rattle.ctrl_model.specs.ValidState.{ValidState}
use Rattle.row_codec.specs.StateRows.{HasRows}
use Rattle.row_store.specs.OpenedRows.{OpensTo as RowsOpen}
use Rattle.row_store.specs.OpenedStates.{byte_rows_of, OpensToState}
use Rattle.row_store.specs.RewrittenStores.{compacted}
use Rattle.row_store.specs.declared.bounds.StoreBounds.{StoreBounds}
use Rattle.row_store.proofs.OneStates.{one_state}
use Rattle.run_notes.specs.declared.ends.Full.{Full}
use Rattle.run_notes.specs.declared.ends.Full.TheVariants as full
use Rattle.ctrl_keep.specs.MigratedFolders.{migrated_size}
use Rattle.ctrl_serve.specs.MigratedRuns.{HasRoomToOpen, LacksRoom}
use Rattle.ctrl_keep.specs.KeptMachine.{Machine, Place}
use Rattle.ctrl_serve.specs.OpenedFolders.{Keeps, IsMigratedTo, OpensBy, OpensTo}
use Rattle.ctrl_serve.proofs.OpenedMachines.{never_first, opens_empty, opens_first, opens_kept}
use Rattle.memory_runs.specs.WholeReplays.{new_machine}
use Rattle.ctrl_core.specs.KeptFormat.{kept_format}

abbrev machine_of : State → Option Place → Machine
machine_of s place = record { state = s; place = place }

abbrev place_of : ℕ → List (List ℕ) → Option Place
place_of mark batches = Some (record { end = slot_end batches; mark = mark })

-- With an empty mark a folder opens to the state at the start.
empty_opens : (image : Image) → length (image Mark) ≡ 0 → OpensToState image start
empty_opens image empty = opens_empty image (nil_from_length (image Mark) empty)

opens_by : (mark : ℕ) (image : Image) (m : Machine) → length (image Mark) ≡ mark → OpensBy mark image m → OpensToState image m.state
opens_by zero image m is to = subst (λ (x : Machine). OpensToState image x.state) (sym to) (empty_opens image is)
opens_by (suc turn) image m is (inl keeps) = opens_kept image m keeps
opens_by (suc turn) image m is (inr migrated) = opens_first image m.state migrated.first

pub machine_opens : (image : Image) (m : Machine) → OpensTo image m → OpensToState image m.state
machine_opens image m to = opens_by (length (image Mark)) image m refl to

-- Where a folder of the first format goes on once it was migrated.
abbrev migrated_place : ℕ → State → Option Place
migrated_place mark s = Some (record { end = slot_end (compacted (byte_rows_of kept_format s)); mark = mark + 1 })

some_in : (f : Format) (image : Image) (s : State) → 0 < length (image Mark) → ValidState s → HasRows f s → RowsOpen f image (byte_rows_of f s)
    → (m : Machine) × (Keeps image m ⊎ IsMigratedTo image m) × (m.state ≡ s)
some_in formats.One image s some valid has rows = (
  machine_of s (migrated_place (length (image Mark)) s),
  inr (record { first = record { some = some; valid = valid; has = has; rows = rows }; place = refl }),
  refl,
)
some_in formats.Two image s some valid has rows = (
  machine_of s (place_of (length (image Mark)) rows.batches),
  inl (record { valid = valid; batches = rows.batches; stands = rows.stands; give = rows.give; place = refl }),
  refl,
)

some_by : (mark : ℕ) (image : Image) (s : State) → length (image Mark) ≡ mark → OpensToState image s → (m : Machine) × OpensBy mark image m × (m.state ≡ s)
some_by zero image s is opens = (new_machine, refl, one_state image start s (empty_opens image is) opens)
some_by (suc turn) image s is opens = some_in opens.format image s (omega (arith, is)) opens.valid opens.has opens.rows

pub some_machine : (image : Image) (s : State) → OpensToState image s → (m : Machine) × OpensTo image m × (m.state ≡ s)
some_machine image s opens = some_by (length (image Mark)) image s refl opens

one_by : (mark : ℕ) (image : Image) (m n : Machine) → OpensBy mark image m → OpensBy mark image n → m ≡ n
one_by zero image m n a b = a ∙ sym b
one_by (suc turn) image m n (inl a) (inl b) =
    let state : m.state ≡ n.state = one_state image m.state n.state (opens_kept image m a) (opens_kept image n b) in
    let place : m.place ≡ n.place = a.place ∙ ap (place_of (length (image Mark))) (one_stands kept_format kept_format image a.batches b.batches a.stands b.stands).1 ∙ sym b.place in
    ap₂ machine_of state place
one_by (suc turn) image m n (inl a) (inr b) = absurd (never_first image m n.state a b.first)
one_by (suc turn) image m n (inr a) (inl b) = absurd (never_first image n m.state b a.first)
one_by (suc turn) image m n (inr a) (inr b) =
    let state : m.state ≡ n.state = one_state image m.state n.state (opens_first image m.state a.first) (opens_first image n.state b.first) in
    ap₂ machine_of state (a.place ∙ ap (migrated_place (length (image Mark))) state ∙ sym b.place)

pub one_machine : (image : Image) (m n : Machine) → OpensTo image m → OpensTo image n → m ≡ n
one_machine image m n a b = one_by (length (image Mark)) image m n a b

pub new_opens : (image : Image) → image Mark ≡ [] → OpensTo image new_machine
new_opens image none = subst (λ (n : ℕ). OpensBy n image new_machine) (sym (ap length none)) refl

-- ---- room to migrate a folder

-- It has room, or a part has none.
pub no_room : (part : Full) (b : StoreBounds) (image : Image) → LacksRoom part b image → HasRoomToOpen b image → ⊥
no_room full.Journal b image lacks roomy = let has = roomy lacks.state lacks.opens in absurd (omega (arith, lacks.slot, has.slot))
no_room full.Mark b image lacks roomy = let has = roomy lacks.state lacks.opens in absurd (omega (arith, lacks.mark, has.mark))

-- A folder that lacks it opens to a state.
pub lacking_opens : (part : Full) (b : StoreBounds) (image : Image) → LacksRoom part b image → (s : State) × OpensToState image s
lacking_opens full.Journal b image lacks = (lacks.state, opens_first image lacks.state lacks.opens)
lacking_opens full.Mark b image lacks = (lacks.state, opens_first image lacks.state lacks.opens)

-- One part is told.
size_past : (b : StoreBounds) (s t : State) → s ≡ t → b.slot < migrated_size s → migrated_size t ≤ b.slot → ⊥
size_past b s t same past fits = let long : b.slot < migrated_size t = subst (λ (u : State). b.slot < migrated_size u) same past in absurd (omega (arith, long, fits))

pub one_part : (part other : Full) (b : StoreBounds) (image : Image) → LacksRoom part b image → LacksRoom other b image → part ≡ other
one_part full.Journal full.Journal b image x y = refl
one_part full.Mark full.Mark b image x y = refl
one_part full.Journal full.Mark b image x y =
    absurd (size_past b x.state y.state (one_state image x.state y.state (opens_first image x.state x.opens) (opens_first image y.state y.opens)) x.slot y.slot)
one_part full.Mark full.Journal b image x y =
    absurd (size_past b y.state x.state (one_state image y.state x.state (opens_first image y.state y.opens) (opens_first image x.state x.opens)) y.slot x.slot)

-- A folder whose mark is empty is none of the first format.
pub new_roomy : (b : StoreBounds) (image : Image) → image Mark ≡ [] → HasRoomToOpen b image
new_roomy b image none = λ s first. absurd (omega (arith, first.some, ap length none))
