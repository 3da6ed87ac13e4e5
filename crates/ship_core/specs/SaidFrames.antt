-- What is said of frames on a desk from which the folder is read beside (docs/PROMISES.md, "Shipping").
use Rattle.std.specs.Prelude.{◌≡◌, ℕ, ◌≤◌, Bool, IsTrue, List, ◌++◌, None, Some}
use Rattle.std.specs.declared.option.Option.{Option}
use Rattle.ziti_outside.specs.Images.{Image}
use Rattle.ziti_outside.specs.Moments.{Saying, Elapses, Remembers}
use Rattle.ziti_outside.specs.Told.{Took, TookFront}
use Rattle.ziti_outside.specs.Views.{Seen, Stopped}
use Rattle.channel_frame.specs.declared.frames.Frame.{Frame}
use Rattle.ctrl_model.specs.declared.formats.Format.{Format}
use Rattle.ctrl_model.specs.State.{State}
use Rattle.ctrl_model.specs.ValidState.{ValidState}
use Rattle.row_codec.specs.StateRows.{HasRows}
use Rattle.row_store.specs.OpenedStates.{byte_rows_of, OpensToState}
use Rattle.ship_core.specs.declared.faults.ShipFault.{ShipFault}
use Rattle.ship_core.specs.declared.faults.ShipFault.TheVariants.{Write}
use Rattle.ship_frames.specs.Pieces.{written}
use Rattle.ship_core.specs.Shipping.{AreShippedOf}

-- Frames are the first of some, and all of them where nothing failed.
abbrev pub AreFirst : Option ShipFault → (frames all : List Frame) → Type 0
AreFirst None frames all = frames ≡ all
AreFirst (Some fault) frames all = (more : List Frame) × (frames ++ more ≡ all)

-- A desk took some bytes, all of them, or a front of them where a say failed.
abbrev pub TookUnless : Option ShipFault → Option (List ℕ) → Option (List ℕ) → List ℕ → Type 0
TookUnless (Some Write) before now bytes = TookFront before now bytes
TookUnless _ before now bytes = Took before now bytes

-- Of some frames the first were said, each whole, and all of them where nothing failed; where a say failed a front of the first was taken. A
-- stop at any moment between finds an image of the start and some front of their bytes.
pub record SaysFrames {D : Type 0} (seen : D → Seen) (stopped : D → Stopped) (old new : D) (fault : Option ShipFault) (all : List Frame) : Type 0 where
  pub frames : List Frame
  pub first : AreFirst fault frames all
  pub said : TookUnless fault (seen old).said (seen new).said (written frames)
  pub stops : Elapses (stopped old) (stopped new) (Saying (stopped old).images (seen old).said (written frames))

-- A folder was found to have the rows of a valid state, of the one to which it opens where it is told. Then frames were said that are shipped
-- from a serial on of a folder with these rows, as far as that is known of one that may not be told.
pub record ShipsJudged {D : Type 0} (tells : Bool) (seen : D → Seen) (stopped : D → Stopped) (from : ℕ) (old new : D) (fault : Option ShipFault) : Type 0 where
  pub state : State
  pub valid : ValidState state
  pub opens : IsTrue tells → OpensToState (seen old).reads state
  pub format : Format
  pub has : HasRows format state
  pub all : List Frame
  pub shipped : AreShippedOf from format (byte_rows_of format state) all
  pub says : SaysFrames seen stopped old new fault all

-- Replies were said and the folder was read, and nothing else was done on a desk: the notes are as they were, the folder reads as before, and a
-- stop finds no image that it did not find before.
pub record OnlyShips {D : Type 0} (seen : D → Seen) (stopped : D → Stopped) (old new : D) : Type 0 where
  pub notes : (seen new).noted ≡ (seen old).noted
  pub failed_notes : (seen new).note_faults ≡ (seen old).note_faults
  pub parts : (seen new).reads ≡ (seen old).reads
  pub found : (image : Image) → (stopped new).images image → (stopped old).images image
  pub later : (stopped old).moment ≤ (stopped new).moment
  pub remembers : Remembers (stopped old) (stopped new)
