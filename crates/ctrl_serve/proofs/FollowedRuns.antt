-- How a folder follows the machine of a run, from one frame to all frames of an input.
use Rattle.std.proofs.Common.{◌≡◌, ◌⊎◌, inl, inr, ℕ, zero, suc, ◌<◌, ◌≤◌, List, [], ◌∷◌, ◌++◌, length, refl, sym, ap, ◌∙◌, subst, arith}
use Rattle.std.proofs.lemmas.List.{nil_from_length}
use Rattle.ziti_outside.specs.Images.{Image, Else}
use Rattle.ziti_outside.specs.declared.desk.Part.{Part}
use Rattle.ziti_outside.specs.declared.desk.Part.TheVariants.{Zero, One, Mark}
use Rattle.journal_core.specs.Slots.{Slot, slot_bytes}
use Rattle.slot_files.specs.FolderImage.{slot_of, Stands, StandsBy}
use Rattle.slot_files.specs.OpenedSlots.{IsCreated, Opens}
use Rattle.slot_files.proofs.StandLaws.{created_slot, one_stands, slot_no_mark}
use Rattle.ctrl_model.specs.declared.formats.Format.TheVariants as formats
use Rattle.ctrl_model.specs.State.{State}
use Rattle.ctrl_keep.specs.MigratedFolders.{OpensInFirst}
use Rattle.ctrl_serve.specs.OpenedFolders.{Keeps, IsMigratedTo, StandsOpened}
use Rattle.ctrl_serve.proofs.OpenedMachines.{Made, Two≢One, never_first, migrated_to}
use Rattle.row_store.specs.declared.bounds.StoreBounds.{StoreBounds}
use Rattle.ctrl_keep.specs.KeptMachine.{Machine}
use Rattle.ctrl_keep.specs.KeptBatches.{mark_at, end_at, batches_next, GoesOnBehind, Follows}
use Rattle.ctrl_keep.proofs.FollowedSteps.{batches_still, follows_still}
use Rattle.session_mux.specs.declared.events.Event.{Event}
use Rattle.session_mux.specs.declared.events.Event.TheVariants as event
use Rattle.session_mux.specs.declared.sessions.Form.{Form}
use Rattle.session_mux.specs.Completion.{frames_by}
use Rattle.run_notes.specs.Inputs.{events_in}
use Rattle.run_notes.specs.KnownSessions.{Known, known_in, known_after, known_along}
use Rattle.serve_loop.specs.FollowedFolders.{FollowsEvent, FollowsEvents as Chain}
use Rattle.serve_loop.proofs.KnownLaws.{machine_then, machine_from_start}
use Rattle.ctrl_serve.specs.FrameAnswer.{batches_behind, controller, last_machine, last_batches}
use Rattle.ctrl_serve.specs.KnownReplies.{machine_after, machine_along, batches_along}
use Rattle.ctrl_serve.specs.FollowedFolders.{FollowsEvents, FollowsInput}
use Rattle.ctrl_serve.specs.UncompactedFolders.{CompactsNothing, LeavesOtherSlot}
use Rattle.ctrl_core.specs.KeptFormat.{kept_format}

-- ---- one stretch behind another

behind_then : (a b c : Machine) → GoesOnBehind a b → GoesOnBehind b c → GoesOnBehind a c
behind_then a b c (inl x) (inl y) = inl (omega (arith, x, y))
behind_then a b c (inl x) (inr (y, z)) = inl (omega (arith, x, y))
behind_then a b c (inr (x, z)) (inl y) = inl (omega (arith, x, y))
behind_then a b c (inr (x, z)) (inr (y, w)) = inr (y ∙ x, omega (arith, z, w))

not_behind : (a b : Machine) → GoesOnBehind a b → b ≡ a → ⊥
not_behind a b (inl x) same = absurd (omega (arith, x, ap (λ (m : Machine). mark_at m.place) same))
not_behind a b (inr (x, y)) same = absurd (omega (arith, y, ap (λ (m : Machine). end_at m.place) same))

on_then : (a b c : Machine) → (b ≡ a) ⊎ GoesOnBehind a b → (c ≡ b) ⊎ GoesOnBehind b c → (c ≡ a) ⊎ GoesOnBehind a c
on_then a b c (inl same) later = subst (λ (m : Machine). (c ≡ m) ⊎ GoesOnBehind m c) same later
on_then a b c (inr more) (inl same) = inr (subst (λ (m : Machine). GoesOnBehind a m) (sym same) more)
on_then a b c (inr more) (inr later) = inr (behind_then a b c more later)

-- A machine that came back never went.
came_back : (a b c : Machine) → (b ≡ a) ⊎ GoesOnBehind a b → (c ≡ b) ⊎ GoesOnBehind b c → c ≡ a → (b ≡ a) × (c ≡ b)
came_back a b c (inl first) later back = (first, back ∙ sym first)
came_back a b c (inr more) (inl same) back = absurd (not_behind a b more (sym same ∙ back))
came_back a b c (inr more) (inr later) back = absurd (not_behind a c (behind_then a b c more later) back)

-- ---- where nothing was compacted

else_still : (part : Part) (before now : Image) → now ≡ before → Else part before now
else_still part before now same = record { same = λ other not. ap (λ (i : Image). i other) same }

else_then : {part : Part} {before mid now : Image} → Else part before mid → Else part mid now → Else part before now
else_then first later = record { same = λ other not. later.same other not ∙ first.same other not }

-- A step that did not compact leaves the other slot and the mark.
else_by : (old new : Machine) (before now : Image) → Follows old new before now → CompactsNothing old new → (new ≡ old) ⊎ GoesOnBehind old new → Else (slot_of (length (before Mark))) before now
else_by old new before now follows same (inl still) = else_still (slot_of (length (before Mark))) before now (follows.still still)
else_by old new before now follows same (inr (inl longer)) = let e : mark_at new.place ≡ mark_at old.place = same in absurd (omega (arith, longer, e))
else_by old new before now follows same (inr (inr (mark, further))) = (follows.adds mark further).others

follows_else : (old new : Machine) (before now : Image) → Follows old new before now → CompactsNothing old new → Else (slot_of (length (before Mark))) before now
follows_else old new before now follows same = else_by old new before now follows same follows.on

marks_rise : (a b : Machine) → (b ≡ a) ⊎ GoesOnBehind a b → mark_at a.place ≤ mark_at b.place
marks_rise a b (inl same) = omega (arith, ap (λ (m : Machine). mark_at m.place) same)
marks_rise a b (inr (inl longer)) = omega (arith, longer)
marks_rise a b (inr (inr (mark, further))) = omega (arith, mark)

-- Where two stretches compacted nothing, neither of them did.
neither_compacts : (a b c : Machine) → (b ≡ a) ⊎ GoesOnBehind a b → (c ≡ b) ⊎ GoesOnBehind b c → CompactsNothing a c → CompactsNothing a b × CompactsNothing b c
neither_compacts a b c first later same =
    let low = marks_rise a b first in
    let high = marks_rise b c later in
    let e : mark_at c.place ≡ mark_at a.place = same in
    let one : mark_at b.place ≡ mark_at a.place = omega (arith, low, high, e) in
    let other : mark_at c.place ≡ mark_at b.place = omega (arith, low, high, e) in
    (one, other)

-- ---- along events

batches_then : (bounds : StoreBounds) (es later : List Event) (k : Known) (m : Machine) (batches : List (List ℕ))
    → batches_along bounds (es ++ later) k m batches ≡ batches_along bounds later (known_along es k) (machine_along bounds es k m) (batches_along bounds es k m batches)
batches_then bounds [] later k m batches = refl
batches_then bounds (e ∷ es) later k m batches = batches_then bounds es later (known_after e k) (machine_after bounds e k m) (batches_next m (machine_after bounds e k m) batches)

-- Before any event.
follows_start : (bounds : StoreBounds) (k : Known) (m : Machine) (i : Image) → FollowsEvents bounds [] k m i i
follows_start bounds k m i = record { on = inl refl; still = λ _. refl; stands = λ batches s. s; elsewhere = λ _. else_still (slot_of (length (i Mark))) i i refl }

-- Along one.
follows_one : (bounds : StoreBounds) (e : Event) (k : Known) (m next : Machine) (before now : Image) → next ≡ machine_after bounds e k m → Follows m next before now
    → FollowsEvents bounds (e ∷ []) k m before now
follows_one bounds e k m next before now is follows =
    let step = subst (λ (x : Machine). Follows m x before now) is follows in
    record { on = step.on; still = step.still; stands = step.stands; elsewhere = follows_else m (machine_after bounds e k m) before now step }

-- Along some, and then others.
follows_then : (bounds : StoreBounds) (es later : List Event) (k : Known) (m : Machine) (before mid now : Image)
    → FollowsEvents bounds es k m before mid → FollowsEvents bounds later (known_along es k) (machine_along bounds es k m) mid now → FollowsEvents bounds (es ++ later) k m before now
follows_then bounds es later k m before mid now first at =
    let last = machine_then (controller bounds) es later k m in
    record {
      on = subst (λ (y : Machine). (y ≡ m) ⊎ GoesOnBehind m y) (sym last) (on_then m (machine_along bounds es k m) _ first.on at.on);
      still = λ back.
          let both = came_back m (machine_along bounds es k m) _ first.on at.on (sym last ∙ back) in
          at.still both.1 ∙ first.still both.0;
      stands = λ batches s.
          subst (Stands kept_format now) (sym (batches_then bounds es later k m batches)) (at.stands (batches_along bounds es k m batches) (first.stands batches s));
      elsewhere = λ same.
          let neither = neither_compacts m (machine_along bounds es k m) _ first.on at.on (sym (ap (λ (y : Machine). mark_at y.place) last) ∙ same) in
          let here = first.elsewhere neither.0 in
          let mark : mid Mark ≡ before Mark = here.same Mark (slot_no_mark (length (before Mark))) in
          else_then here (subst (λ (bytes : List ℕ). Else (slot_of (length bytes)) mid now) mark (at.elsewhere neither.1));
    }

-- Along one event, as the loop has it: a frame that arrived was followed, and otherwise every part reads as before.
event_follows : (bounds : StoreBounds) (e : Event) (k : Known) (m : Machine) (before now : Image) → FollowsEvent (controller bounds) e k m before now → Follows m (machine_after bounds e k m) before now
event_follows bounds (event.Opened s who) k m before now same = follows_still m m before now refl same
event_follows bounds (event.Arrived s frame) k m before now follows = follows
event_follows bounds (event.Ended s fault at) k m before now same = follows_still m m before now refl same
event_follows bounds (event.Closed s rest) k m before now same = follows_still m m before now refl same

-- Along all of them.
events_follow : (bounds : StoreBounds) (es : List Event) (k : Known) (m : Machine) (before now : Image) → Chain (controller bounds) es k m before now → FollowsEvents bounds es k m before now
events_follow bounds [] k m before now same = subst (λ (i : Image). FollowsEvents bounds [] k m before i) (sym same) (follows_start bounds k m before)
events_follow bounds (e ∷ es) k m before now chain =
    follows_then bounds (e ∷ []) es k m before chain.0 now (follows_one bounds e k m (machine_after bounds e k m) before chain.0 refl (event_follows bounds e k m before chain.0 chain.1))
    (events_follow bounds es (known_after e k) (machine_after bounds e k m) chain.0 now chain.2)

-- ---- along an input

along_batches : (bounds : StoreBounds) (es : List Event) (k : Known) (m : Machine) (batches : List (List ℕ))
    → batches_along bounds es k m batches ≡ batches_behind bounds m (frames_by es k.senders) batches
along_batches bounds [] k m batches = refl
along_batches bounds (event.Opened s who ∷ es) k m batches =
    ap (batches_along bounds es (known_after (event.Opened s who) k) m) (batches_still m batches) ∙ along_batches bounds es (known_after (event.Opened s who) k) m batches
along_batches bounds (event.Arrived s frame ∷ es) k m batches =
    along_batches bounds es (known_after (event.Arrived s frame) k) (machine_after bounds (event.Arrived s frame) k m) (batches_next m (machine_after bounds (event.Arrived s frame) k m) batches)
along_batches bounds (event.Ended s fault at ∷ es) k m batches =
    ap (batches_along bounds es (known_after (event.Ended s fault at) k) m) (batches_still m batches) ∙ along_batches bounds es (known_after (event.Ended s fault at) k) m batches
along_batches bounds (event.Closed s rest ∷ es) k m batches =
    ap (batches_along bounds es (known_after (event.Closed s rest) k) m) (batches_still m batches) ∙ along_batches bounds es (known_after (event.Closed s rest) k) m batches

-- Along all its events it follows it along all its frames.
pub follows_input : (form : Form) (bounds : StoreBounds) (used : List ℕ) (m : Machine) (before now : Image) → Chain (controller bounds) (events_in form used) (known_in form) m before now
    → FollowsInput form bounds m before now used
follows_input form bounds used m before now chain =
    let es : List Event = events_in form used in
    let follows = events_follow bounds es (known_in form) m before now chain in
    let last : machine_along bounds es (known_in form) m ≡ last_machine form bounds m used = machine_from_start form (controller bounds) es m in
    record {
      still = λ back. follows.still (last ∙ back);
      stands = λ batches s. subst (Stands kept_format now) (along_batches bounds es (known_in form) m batches) (follows.stands batches s);
      elsewhere = λ same. follows.elsewhere (ap (λ (y : Machine). mark_at y.place) last ∙ same);
    }

-- ---- the folder was opened before

-- Where it was created it stands for no batches, as it did.
created_stands : (old new : Image) (batches : List (List ℕ)) → StandsBy 0 kept_format old batches → IsCreated kept_format old new → Stands kept_format new batches
created_stands old new batches none made =
    let slot : Slot kept_format (new Zero) [] = created_slot kept_format (old Zero) (new Zero) (slot_bytes kept_format []) refl made.first in
    subst (λ (m : List ℕ). StandsBy (length m) kept_format new batches) (sym made.mark) (subst (λ (b : List (List ℕ)). Slot kept_format (new Zero) b) (sym none) slot)

opened_stands : (mark : ℕ) (old new : Image) (batches : List (List ℕ)) → length (old Mark) ≡ mark → Opens kept_format mark old new → Stands kept_format old batches → Stands kept_format new batches
opened_stands zero old new batches is made s = created_stands old new batches (subst (λ (n : ℕ). StandsBy n kept_format old batches) is s) made
opened_stands (suc turn) old new batches is made s = subst (λ (i : Image). Stands kept_format i batches) (sym made) s

opened_same : (mark : ℕ) (old new : Image) → 0 < mark → Opens kept_format mark old new → new ≡ old
opened_same zero old new some made = absurd (omega (arith, some))
opened_same (suc turn) old new some made = made

-- A folder of the kept format and one of the first are two.
two_formats : (image : Image) (s : State) (batches : List (List ℕ)) → OpensInFirst image s → Stands kept_format image batches → ⊥
two_formats image s batches first stands = Two≢One ((one_stands kept_format formats.One image batches first.rows.batches stands first.rows.stands).0 first.some)

-- One that was left, and keeps the machine, is none of the first.
left_first : (old new : Image) (m : Machine) → Keeps new m → IsMigratedTo old m → Opens kept_format (length (old Mark)) old new → ⊥
left_first old new m keeps migrated made =
    never_first old m m.state (subst (λ (i : Image). Keeps i m) (opened_same (length (old Mark)) old new migrated.first.some made) keeps) migrated.first

-- For whatever it stands once it was opened, it stands for behind the opening.
pub opened_by : (bounds : StoreBounds) (old new : Image) (m : Machine) (batches : List (List ℕ)) → Keeps new m → Made bounds old new m.state → StandsOpened old m batches → Stands kept_format new batches
opened_by bounds old new m batches keeps (inl made) (inl s) = opened_stands (length (old Mark)) old new batches refl made s
opened_by bounds old new m batches keeps (inr (migrates, made)) (inl s) = absurd (two_formats old m.state batches migrates.opens s)
opened_by bounds old new m batches keeps (inl made) (inr (migrated, same)) = absurd (left_first old new m keeps migrated made)
opened_by bounds old new m batches keeps (inr (migrates, made)) (inr (migrated, same)) = subst (λ (b : List (List ℕ)). Stands kept_format new b) (sym same) made.stands

-- Where it kept the machine, it reads as before.
kept_at : (mark : ℕ) (old new : Image) (m : Machine) → length (old Mark) ≡ mark → Keeps old m → Keeps new m → Opens kept_format mark old new → new ≡ old
kept_at zero old new m is before after made =
    let marks : length (old Mark) ≡ length (new Mark) = ap mark_at (sym before.place ∙ after.place) in
    absurd (omega (arith, is, marks, ap length made.mark))
kept_at (suc turn) old new m is before after made = made

pub kept_by : (bounds : StoreBounds) (old new : Image) (m : Machine) → Keeps old m → Keeps new m → Made bounds old new m.state → new ≡ old
kept_by bounds old new m before after (inl made) = kept_at (length (old Mark)) old new m refl before after made
kept_by bounds old new m before after (inr (migrates, made)) = absurd (never_first old m m.state before migrates.opens)

-- For whatever it stood, it stands behind a run for the last batches of these.
pub opened_stands_for : (form : Form) (bounds within : StoreBounds) (m : Machine) (before mid now : Image) (used : List ℕ) (batches : List (List ℕ)) → Keeps mid m → Made within before mid m.state
    → FollowsInput form bounds m mid now used → StandsOpened before m batches → Stands kept_format now (last_batches form bounds m used batches)
opened_stands_for form bounds within m before mid now used batches keeps made follows s = follows.stands batches (opened_by within before mid m batches keeps made s)

-- Where the machine is as it was at the opening, and the folder kept it, it reads as before.
pub opened_still : (form : Form) (bounds within : StoreBounds) (m : Machine) (before mid now : Image) (used : List ℕ) → Keeps mid m → Made within before mid m.state
    → FollowsInput form bounds m mid now used → Keeps before m → last_machine form bounds m used ≡ m → now ≡ before
opened_still form bounds within m before mid now used keeps made follows kept back = follows.still back ∙ kept_by within before mid m kept keeps made

-- Where it was created, the second slot was left.
second_left : (before mid now : Image) → mid One ≡ before One → Else Zero mid now → (part : Part) → (part ≡ Mark → ⊥) → (part ≡ Zero → ⊥) → now part ≡ before part
second_left before mid now second others Zero no_mark no_first = absurd (no_first refl)
second_left before mid now second others One no_mark no_first = others.same One no_first ∙ second
second_left before mid now second others Mark no_mark no_first = absurd (no_mark refl)

created_leaves : (before mid now : Image) → before Mark ≡ [] → IsCreated kept_format before mid → Else (slot_of (length (mid Mark))) mid now → LeavesOtherSlot before now
created_leaves before mid now none made others =
    let first : Else Zero mid now = subst (λ (bytes : List ℕ). Else (slot_of (length bytes)) mid now) made.mark others in
    record {
      slot = λ part mark not. second_left before mid now made.second first part mark (λ is. not (is ∙ ap (λ (bytes : List ℕ). slot_of (length bytes)) (sym none)));
      mark = λ some. absurd (omega (arith, some, ap length none));
    }

found_leaves : (before mid now : Image) → mid ≡ before → Else (slot_of (length (mid Mark))) mid now → LeavesOtherSlot before now
found_leaves before mid now same others =
    let here = subst (λ (i : Image). Else (slot_of (length (i Mark))) i now) same others in
    record { slot = λ part mark not. here.same part not; mark = λ some. here.same Mark (slot_no_mark (length (before Mark))) }

leaves_by : (mark : ℕ) (before mid now : Image) → length (before Mark) ≡ mark → Opens kept_format mark before mid → Else (slot_of (length (mid Mark))) mid now → LeavesOtherSlot before now
leaves_by zero before mid now is made others = created_leaves before mid now (nil_from_length (before Mark) is) made others
leaves_by (suc turn) before mid now is made others = found_leaves before mid now made others

-- Where it was not migrated and the run behind it compacted nothing, it leaves the slot that does not stand, and the mark unless it was empty.
leaves_unless : (within : StoreBounds) (m : Machine) (before mid now : Image) → Keeps mid m → Made within before mid m.state → (IsMigratedTo before m → ⊥) → Else (slot_of (length (mid Mark))) mid now → LeavesOtherSlot before now
leaves_unless within m before mid now keeps (inl made) unmigrated others = leaves_by (length (before Mark)) before mid now refl made others
leaves_unless within m before mid now keeps (inr (migrates, made)) unmigrated others = absurd (unmigrated (migrated_to within before mid m keeps migrates made))

pub opened_leaves : (form : Form) (bounds within : StoreBounds) (m : Machine) (before mid now : Image) (used : List ℕ) → Keeps mid m → Made within before mid m.state
    → FollowsInput form bounds m mid now used → (IsMigratedTo before m → ⊥) → CompactsNothing m (last_machine form bounds m used) → LeavesOtherSlot before now
opened_leaves form bounds within m before mid now used keeps made follows unmigrated same = leaves_unless within m before mid now keeps made unmigrated (follows.elsewhere same)
