use Rattle.std.proofs.Common.{◌≡◌, ◌-◌, ◌≤◌, drop, IsTrue}
use Rattle.ziti_outside.specs.Untouched.{OnlyReads}
use Rattle.folder_findings.specs.Spans.{span_past}
use Rattle.folder_findings.proofs.spans.span_on.Given as goal

-- what is found from here on, behind the records so far, is what is found in all
abbrev pub invariant-records : goal.invariant-records
invariant-records g l = record {
  found : IsTrue g.D.Desk.tells → span_past (drop l.from ((g.D.Desk.seen l.fn.desk).reads l.part)) 0 l.from l.before
      ≡ span_past (drop l.at ((g.D.Desk.seen l.fn.desk).reads l.part)) 0 l.at l.records;
  few : l.records ≤ l.at;
  calm : (g.D.Desk.seen l.desk).disk_faults ≡ (g.D.Desk.seen l.fn.desk).disk_faults;
  only : OnlyReads g.D.Desk.seen g.D.Desk.stopped l.fn.desk l.desk;
}

abbrev pub decreases-records : goal.decreases-records
decreases-records g l = l.end - l.at
