use Rattle.std.proofs.Common.{◌≡◌, ◌-◌, IsTrue, length}
use Rattle.ziti_outside.specs.Untouched.{OnlyReads}
use Rattle.row_codec.specs.RowDifference.{Rises}
use Rattle.row_codec.specs.Batches.{bytes_cmp}
use Rattle.slot_reading.specs.BatchRows.{ArePuttable, rows_in}
use Rattle.slot_reading.specs.SlotReading.{IsReadTo}
use Rattle.slot_reading.proofs.reading.read_slot.Given as goal

-- the bytes are read up to this place into rows that can be put, and the desk was read alone, without a fault
abbrev pub invariant-records : goal.invariant-records
invariant-records g l = record {
  rises : Rises bytes_cmp (rows_in l.rows.entries);
  puttable : ArePuttable (rows_in l.rows.entries);
  read : IsTrue g.D.Desk.tells → IsReadTo l.format ((g.D.Desk.seen l.fn.desk).reads l.part) l.at (rows_in l.rows.entries);
  calm : (g.D.Desk.seen l.desk).disk_faults ≡ (g.D.Desk.seen l.fn.desk).disk_faults;
  end : IsTrue g.D.Desk.tells → l.end ≡ length ((g.D.Desk.seen l.fn.desk).reads l.part);
  only : OnlyReads g.D.Desk.seen g.D.Desk.stopped l.fn.desk l.desk;
}

abbrev pub decreases-records : goal.decreases-records
decreases-records g l = l.end - l.at
