-- How long the slots of the folder are behind a run (docs/PROMISES.md, "One slot").
use Rattle.std.proofs.Common.{◌≡◌, ◌≤◌, ℕ, max, Bool, ap, arith}
use Rattle.ziti_outside.specs.Images.{Image}
use Rattle.ziti_outside.specs.Views.{Seen, Stopped}
use Rattle.journal_core.specs.Room.{empty_size, HoldsRoom}
use Rattle.journal_core.proofs.RoomLaws.{held_none, held_then, held_within}
use Rattle.row_store.specs.declared.bounds.StoreBounds.{StoreBounds}
use Rattle.serve_loop.proofs.DeskLaws.{room_more}

most_is : (n : ℕ) → empty_size ≤ n → max empty_size n ≤ n
most_is n enough = omega (arith, enough)

-- The folder was opened, and then a controller answered from it.
pub opened_room : {D : Type 0} {tells : Bool} {seen : D → Seen} {stopped : D → Stopped} {old mid new : D} (bounds held : StoreBounds) → empty_size ≤ bounds.slot → held ≡ bounds
    → HoldsRoom tells (max empty_size bounds.slot) seen stopped old mid → HoldsRoom tells held.slot seen stopped mid new → HoldsRoom tells bounds.slot seen stopped old new
opened_room bounds held enough same before after = room_more bounds.slot held.slot (ap (λ (b : StoreBounds). b.slot) same) (held_within bounds.slot (most_is bounds.slot enough) before) after

-- It was not opened, and behind that it reads the same and no image came to it.
pub closed_room : {D : Type 0} {tells : Bool} {seen : D → Seen} {stopped : D → Stopped} {old mid new : D} (bounds : StoreBounds) → empty_size ≤ bounds.slot
    → HoldsRoom tells (max empty_size bounds.slot) seen stopped old mid → (seen new).reads ≡ (seen mid).reads → ((image : Image) → (stopped new).images image → (stopped mid).images image)
    → HoldsRoom tells bounds.slot seen stopped old new
closed_room {tells = tells} bounds enough before same fewer = held_then (held_within bounds.slot (most_is bounds.slot enough) before) (held_none tells bounds.slot same fewer)
