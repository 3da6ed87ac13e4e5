-- Who answers the frames of an input, and what the serving loop sees of it (docs/PROMISES.md, "The headline").
use Rattle.std.specs.Prelude.{◌≡◌, ℕ, Bool, true, false, cond, IsTrue, IsErrOf, List, None}
use Rattle.std.specs.declared.result.Result.{Result}
use Rattle.ziti_outside.specs.Images.{Image}
use Rattle.ziti_outside.specs.Views.{Seen, Stopped}
use Rattle.channel_frame.specs.declared.frames.Frame.{Frame}
use Rattle.ctrl_model.specs.declared.kinds.Who.{Who}
use Rattle.run_notes.specs.declared.ends.Cut.{Cut}
use Rattle.run_notes.specs.declared.ends.Cut.TheVariants.{Disk}

-- How frames are answered: the machine behind a frame of a sender, and the bytes of the frame of the reply to it by its sequence number;
-- when a folder opens to a machine, as a stop finds it; and how a folder that keeps the machine goes on from one machine to the next.
pub record Answerer (M : Type 0) : Type 1 where
  pub next : Who → Frame → M → M
  pub reply : (sequence : ℕ) → Who → Frame → M → List ℕ
  pub opens : Image → M → Type 0
  pub follows : M → M → Image → Image → Type 0

-- What answers at a moment, of itself alone: the bounds within which it does, how long a slot of its folder may become, whether it has a
-- folder, and whether it can answer on.
pub record Serving (B : Type 0) : Type 0 where
  pub bounds : B
  pub slot : ℕ
  pub folder : Bool
  pub able : Bool

-- It can answer on, within the same bounds, with a folder exactly if it had one.
pub record GoesOn {B : Type 0} (old new : Serving B) : Type 0 where
  pub able : new.able ≡ true
  pub bounds : new.bounds ≡ old.bounds
  pub slot : new.slot ≡ old.slot
  pub kind : new.folder ≡ old.folder

-- Whether the replies are the machine's: always, or, where they hang on what the folder reads, if that is told.
abbrev pub are_its_own : (by_folder tells : Bool) → Bool
are_its_own false tells = true
are_its_own true tells = tells

-- What is seen of a desk, without the reply bytes where these are not the machine's.
abbrev pub seen_by : (by_folder tells : Bool) → Seen → Seen
seen_by by_folder tells seen = record seen { said = cond (are_its_own by_folder tells) seen.said None }

-- What something needs to answer: of itself, of its folder as it reads, and of each image that a stop may leave beside what reads.
pub record Needs : Type 1 where
  pub holds : Type 0
  pub reads : Image → Type 0
  pub leaves : (reads image : Image) → Type 0

-- It has what it needs; of the folder where that is told.
pub record IsReady (needs : Needs) (tells : Bool) (reads : Image) (images : Image → Type 0) : Type 0 where
  pub holds : needs.holds
  pub stands : IsTrue tells → needs.reads reads
  pub leaves : IsTrue tells → (image : Image) → images image → needs.leaves reads image

-- So it has on a desk.
abbrev pub IsReadyOn : {A D : Type 0} → (needs : A → Needs) (tells : Bool) (seen : D → Seen) (stopped : D → Stopped) (desk : D) → A → Type 0
IsReadyOn needs tells seen stopped desk a = IsReady (needs a) tells (seen desk).reads (stopped desk).images

-- Without a folder no call on the disk fails.
abbrev pub FailsWithFolder : {B T : Type 0} → Serving B → Result T Cut → Type 0
FailsWithFolder c result = c.folder ≡ false → IsErrOf result Disk → ⊥
