-- How what answers goes on, and what a call on it and its desk leaves.
use Rattle.std.proofs.Common.{◌≡◌, ℕ, Bool, List, Option, refl, sym, ◌∙◌, subst}
use Rattle.ziti_outside.specs.Images.{Image}
use Rattle.ziti_outside.specs.Moments.{Elapses, Saying}
use Rattle.ziti_outside.specs.Untouched.{OnlyNotes, OnlySays}
use Rattle.ziti_outside.specs.Views.{Seen, Stopped}
use Rattle.ziti_outside.proofs.MomentLaws.{Elapses-none, Elapses-then, Elapses-weaker}
use Rattle.journal_core.specs.Room.{HoldsRoom}
use Rattle.journal_core.proofs.RoomLaws.{held_none, held_then}
use Rattle.run_notes.specs.NotedLines.{FindsNoMore, LeavesNotes}
use Rattle.serve_loop.specs.Answerers.{GoesOn, IsReady, Needs, Serving}
use Rattle.serve_loop.specs.LeftAlone.{IsLeftAlone, OnlySaysAndNotes}

-- What goes on twice goes on.
pub GoesOn-then : {B : Type 0} {x y z : Serving B} → GoesOn x y → GoesOn y z → GoesOn x z
GoesOn-then first second = record { able = second.able; bounds = second.bounds ∙ first.bounds; slot = second.slot ∙ first.slot; kind = second.kind ∙ first.kind }

-- It is ready where no part was changed, and a stop leaves no more images.
pub ready_behind : (needs : Needs) (tells : Bool) (reads now : Image) (images later : Image → Type 0) → now ≡ reads → ((image : Image) → later image → images image)
    → IsReady needs tells reads images → IsReady needs tells now later
ready_behind needs tells reads now images later same fewer ready =
    subst (λ (r : Image). IsReady needs tells r later) (sym same) (record { holds = ready.holds; stands = ready.stands; leaves = λ told image left. ready.leaves told image (fewer image left) })

-- Where nothing was done on the desk room is held.
pub room_calm : {D : Type 0} {tells : Bool} {seen : D → Seen} {stopped : D → Stopped} (most : ℕ) (desk : D) → HoldsRoom tells most seen stopped desk desk
room_calm {tells = tells} most desk = held_none tells most refl (λ image left. left)

-- One call after another, within the same bound.
pub room_more : {D : Type 0} {tells : Bool} {seen : D → Seen} {stopped : D → Stopped} {old mid new : D} (first next : ℕ) → next ≡ first
    → HoldsRoom tells first seen stopped old mid → HoldsRoom tells next seen stopped mid new → HoldsRoom tells first seen stopped old new
room_more {tells = tells} {seen = seen} {stopped = stopped} {mid = mid} {new = new} first next same before after =
    held_then before (subst (λ (most : ℕ). HoldsRoom tells most seen stopped mid new) same after)

-- Notes that are left twice are left.
pub LeavesNotes-then : {D : Type 0} {seen : D → Seen} {old mid new : D}
    → LeavesNotes seen old mid → LeavesNotes seen mid new → LeavesNotes seen old new
LeavesNotes-then first second = record { notes = second.notes ∙ first.notes; failed_notes = second.failed_notes ∙ first.failed_notes }

-- A folder that was left alone twice was left alone.
pub LeftAlone-then : {D : Type 0} {seen : D → Seen} {stopped : D → Stopped} {old mid new : D}
    → IsLeftAlone seen stopped old mid → IsLeftAlone seen stopped mid new → IsLeftAlone seen stopped old new
LeftAlone-then {stopped = stopped} {old = old} first second = record {
  parts = second.parts ∙ first.parts;
  found = λ image left. first.found image (second.found image left);
  stops = Elapses-then (λ image taken. (stopped old).images image) first.stops second.stops (λ i w p. p) (λ i w p. first.found i p);
}

pub LeftAlone-none : {D : Type 0} {seen : D → Seen} {stopped : D → Stopped} (desk : D) → IsLeftAlone seen stopped desk desk
LeftAlone-none desk = record { parts = refl; found = λ image left. left; stops = Elapses-none _ _ }

-- Notes leave it alone.
pub noted_alone : {D : Type 0} {seen : D → Seen} {stopped : D → Stopped} {old new : D}
    → OnlyNotes seen stopped old new → FindsNoMore stopped old new → IsLeftAlone seen stopped old new
noted_alone {stopped = stopped} {old = old} notes more = record {
  parts = notes.parts;
  found = notes.found;
  stops = Elapses-weaker (λ image taken. (stopped old).images image) more (λ i w none. absurd none);
}

-- And so does a say.
said_alone : {D : Type 0} {seen : D → Seen} {stopped : D → Stopped} {old new : D} (said : Option (List ℕ)) (bytes : List ℕ)
    → OnlySays seen stopped old new → Elapses (stopped old) (stopped new) (Saying (stopped old).images said bytes) → IsLeftAlone seen stopped old new
said_alone {stopped = stopped} {old = old} said bytes says stops = record {
  parts = says.parts;
  found = says.found;
  stops = Elapses-weaker (λ image taken. (stopped old).images image) stops (λ i w p. p.found);
}

-- Replies and notes that came twice.
pub OnlySaysAndNotes-then : {D : Type 0} {seen : D → Seen} {stopped : D → Stopped} {old mid new : D}
    → OnlySaysAndNotes seen stopped old mid → OnlySaysAndNotes seen stopped mid new → OnlySaysAndNotes seen stopped old new
OnlySaysAndNotes-then first second = record { folder = LeftAlone-then first.folder second.folder; failed_calls = second.failed_calls ∙ first.failed_calls }

pub OnlySaysAndNotes-none : {D : Type 0} {seen : D → Seen} {stopped : D → Stopped} (desk : D) → OnlySaysAndNotes seen stopped desk desk
OnlySaysAndNotes-none desk = record { folder = LeftAlone-none desk; failed_calls = refl }

-- Replies alone, and notes alone.
pub says_alone : {D : Type 0} {seen : D → Seen} {stopped : D → Stopped} {old new : D} (said : Option (List ℕ)) (bytes : List ℕ)
    → OnlySays seen stopped old new → Elapses (stopped old) (stopped new) (Saying (stopped old).images said bytes) → OnlySaysAndNotes seen stopped old new
says_alone said bytes says stops = record { folder = said_alone said bytes says stops; failed_calls = says.failed_calls }

pub notes_alone : {D : Type 0} {seen : D → Seen} {stopped : D → Stopped} {old new : D}
    → OnlyNotes seen stopped old new → FindsNoMore stopped old new → OnlySaysAndNotes seen stopped old new
notes_alone notes more = record { folder = noted_alone notes more; failed_calls = notes.failed_calls }

-- A say on a desk that was left as it was, and that desk.
pub says_behind : {D : Type 0} {seen : D → Seen} {stopped : D → Stopped} {old mid new : D} (said : Option (List ℕ)) (bytes : List ℕ)
    → mid ≡ old → OnlySays seen stopped mid new → Elapses (stopped mid) (stopped new) (Saying (stopped mid).images said bytes)
    → OnlySaysAndNotes seen stopped old new
says_behind {seen = seen} {stopped = stopped} {new = new} said bytes same says stops =
    subst (λ desk. OnlySaysAndNotes seen stopped desk new) same (says_alone said bytes says stops)

pub desk_behind : {D : Type 0} {seen : D → Seen} {stopped : D → Stopped} {old new : D} → new ≡ old
    → OnlySaysAndNotes seen stopped old new
desk_behind {seen = seen} {stopped = stopped} {old = old} same =
    subst (λ desk. OnlySaysAndNotes seen stopped old desk) (sym same) (OnlySaysAndNotes-none old)

-- Notes behind both.
pub notes_behind : {D : Type 0} {seen : D → Seen} {stopped : D → Stopped} {old mid new : D}
    → OnlySaysAndNotes seen stopped old mid → OnlyNotes seen stopped mid new → FindsNoMore stopped mid new
    → OnlySaysAndNotes seen stopped old new
notes_behind first notes more = OnlySaysAndNotes-then first (notes_alone notes more)
