-- What a follower is made of: a store of the second format that has the rows of a valid state, over a folder that reads as it stands.
use Rattle.std.proofs.Common.{◌≡◌, ℕ, List, None, subst, sym}
use Rattle.ziti_outside.specs.Images.{Image}
use Rattle.ctrl_model.specs.declared.formats.Format.TheVariants.{Two}
use Rattle.ctrl_model.specs.State.{State}
use Rattle.ctrl_model.specs.ValidState.{ValidState}
use Rattle.row_store.specs.OpenedStates.{byte_rows_of}
use Rattle.row_store.specs.StoredRows.{Stored, ReadsAs}
use Rattle.follow_core.specs.FollowedCopies.{Followed, HoldsState, StandsAs, AreSoughtIn, serial_in_store}

-- A store of the second format with the rows of a valid state may be followed with.
pub holds_state : (stored : Stored) (s : State) → stored.format ≡ Two → ValidState s → stored.rows ≡ byte_rows_of Two s → HoldsState stored
holds_state stored s format valid rows = record { format = format; state = s; valid = valid; rows = rows }

-- A follower that has sought nothing finds all where it is sought, and stands as its store does.
pub sought_first : (f : Followed) (records : List (List ℕ)) → f.sought ≡ None → AreSoughtIn records (serial_in_store f.stored) f.sought
sought_first f records none = subst (AreSoughtIn records (serial_in_store f.stored)) (sym none) tt

pub stands_first : (f : Followed) (stored : Stored) (reads : Image) (images : Image → Type 0) → f.stored ≡ stored → f.sought ≡ None → ReadsAs stored reads images → StandsAs f reads images
stands_first f stored reads images same none stands = record {
  stored = subst (λ (s : Stored). ReadsAs s reads images) (sym same) stands;
  sought = λ records there. sought_first f records none;
}
