-- What comes of Compact in a folder, by what came of compacting its store. Only private contracts cite this.
use Rattle.std.specs.Prelude.{⊤, Ok, Err}
use Rattle.std.specs.declared.result.Result.{Result}
use Rattle.ctrl_model.specs.declared.refusals.Refusal.TheVariants.{JournalFull, MarkFull}
use Rattle.ctrl_model.specs.declared.replies.Reply.{Reply}
use Rattle.ctrl_model.specs.declared.replies.Reply.TheVariants.{Done, Refused}
use Rattle.row_store.specs.declared.faults.StoreFault.{StoreFault}
use Rattle.row_store.specs.declared.faults.StoreFault.TheVariants as store_fault
use Rattle.ctrl_keep.specs.declared.faults.KeepFault.{KeepFault}
use Rattle.ctrl_keep.specs.Faults.{fault_of}

-- The reply to Compact, or the fault: it is done, the slot or the mark has no room, or the store failed.
abbrev pub compaction_reply : Result ⊤ StoreFault → Result Reply KeepFault
compaction_reply (Ok done) = Ok Done
compaction_reply (Err store_fault.Full) = Ok (Refused JournalFull)
compaction_reply (Err store_fault.MarkFull) = Ok (Refused MarkFull)
compaction_reply (Err fault) = Err (fault_of fault)
