-- How what several calls make of the lengths of the slots joins up. A crate above joins its calls by these.
use Rattle.std.proofs.Common.{◌≡◌, ℕ, ◌≤◌, Bool, sym, subst, arith}
use Rattle.ziti_outside.specs.Images.{Image}
use Rattle.ziti_outside.specs.Untouched.{OnlyReads}
use Rattle.ziti_outside.specs.Views.{Seen, Stopped}
use Rattle.journal_core.specs.Room.{KeepsRoom, HoldsRoom}

-- Nothing was done.
pub room_none : (most : ℕ) (image : Image) → KeepsRoom most image image
room_none most image = record { zero = omega arith; one = omega arith }

-- The slots kept room twice.
pub room_then : {most : ℕ} {old mid new : Image} → KeepsRoom most old mid → KeepsRoom most mid new → KeepsRoom most old new
room_then first second =
    let a = first.zero in
    let b = second.zero in
    let c = first.one in
    let d = second.one in
    record { zero = omega arith; one = omega arith }

-- What keeps room within a bound keeps it within a greater one.
pub room_within : {less : ℕ} (most : ℕ) {old new : Image} → less ≤ most → KeepsRoom less old new → KeepsRoom most old new
room_within most le room =
    let a = room.zero in
    let b = room.one in
    record { zero = omega arith; one = omega arith }

-- The folder reads as before, and a stop finds no other image than before.
pub held_none : {D : Type 0} {seen : D → Seen} {stopped : D → Stopped} {old new : D} (tells : Bool) (most : ℕ) → (seen new).reads ≡ (seen old).reads
    → ((image : Image) → (stopped new).images image → (stopped old).images image) → HoldsRoom tells most seen stopped old new
held_none {seen = seen} {old = old} tells most same fewer = record {
  reads = λ told. subst (λ (image : Image). KeepsRoom most (seen old).reads image) (sym same) (room_none most (seen old).reads);
  found = λ image p. record { from = image; was = fewer image p; by = room_none most image };
}

-- One call after another.
pub held_then : {D : Type 0} {tells : Bool} {seen : D → Seen} {stopped : D → Stopped} {old mid new : D} {most : ℕ} → HoldsRoom tells most seen stopped old mid
    → HoldsRoom tells most seen stopped mid new → HoldsRoom tells most seen stopped old new
held_then first second = record {
  reads = λ told. room_then (first.reads told) (second.reads told);
  found = λ image p.
      let later = second.found image p in
      let earlier = first.found later.from later.was in
      record { from = earlier.from; was = earlier.was; by = room_then earlier.by later.by };
}

-- What holds room within a bound holds it within a greater one.
pub held_within : {D : Type 0} {tells : Bool} {seen : D → Seen} {stopped : D → Stopped} {old new : D} {less : ℕ} (most : ℕ) → less ≤ most
    → HoldsRoom tells less seen stopped old new → HoldsRoom tells most seen stopped old new
held_within most le held = record {
  reads = λ told. room_within most le (held.reads told);
  found = λ image p. let before = held.found image p in record { from = before.from; was = before.was; by = room_within most le before.by };
}

-- The folder was read alone.
pub held_reads : {D : Type 0} {seen : D → Seen} {stopped : D → Stopped}
    {old new : D} (tells : Bool) (most : ℕ) → OnlyReads seen stopped old new → HoldsRoom tells most seen stopped old new
held_reads tells most call = held_none tells most call.parts call.stops.found
