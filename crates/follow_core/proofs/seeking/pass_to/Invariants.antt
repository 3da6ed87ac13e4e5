use Rattle.std.proofs.Common.{◌≡◌, ◌-◌, ◌<◌, IsTrue, List, ℕ}
use Rattle.ziti_outside.specs.Untouched.{OnlyReads}
use Rattle.ctrl_model.specs.declared.formats.Format.TheVariants.{Two}
use Rattle.slot_files.specs.FolderImage.{Stands}
use Rattle.follow_core.specs.FollowedCopies.{IsSoughtIn, serial_in_store}
use Rattle.follow_core.proofs.seeking.pass_to.Given as goal

-- the record of a lower serial is the last that was passed, and the desk was read alone, without a fault
abbrev pub invariant-records : goal.invariant-records
invariant-records g l = record {
  below : l.sought.serial < l.serial;
  sought : IsTrue g.D.Desk.tells → (records : List (List ℕ)) → Stands Two (g.D.Desk.seen l.fn.desk).reads records → IsSoughtIn records (serial_in_store l.store) l.sought;
  calm : (g.D.Desk.seen l.desk).disk_faults ≡ (g.D.Desk.seen l.fn.desk).disk_faults;
  only : OnlyReads g.D.Desk.seen g.D.Desk.stopped l.fn.desk l.desk;
}

abbrev pub decreases-records : goal.decreases-records
decreases-records g l = l.serial - l.sought.serial
