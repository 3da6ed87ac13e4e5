use Rattle.std.specs.Prelude.{IfSome}
use Rattle.std.proofs.Common.{List, ℕ, Option, None, Some, inl, refl, sym, ap, subst, ◌∙◌}
use Rattle.std.proofs.lemmas.Result.{IfOk-weaker}
use Rattle.ziti_outside.specs.Images.{Image}
use Rattle.ziti_outside.proofs.MomentLaws.{Leaves-then, Leaves-weaker, OnlyDisk-then, OnlyReads-none, OnlyReads-then, Remembers-then}
use Rattle.ctrl_model.specs.declared.formats.Format.TheVariants.{Two}
use Rattle.journal_core.proofs.RoomLaws.{held_reads, held_then}
use Rattle.slot_files.specs.FolderImage.{Stands}
use Rattle.row_codec.specs.declared.changes.Op.{Op}
use Rattle.row_codec.specs.Batches.{Spells}
use Rattle.follow_core.specs.declared.taken.Taken.{Taken}
use Rattle.follow_core.specs.BatchBytes.{batch_in}
use Rattle.follow_core.specs.FollowedCopies.{serial_in_store}
use Rattle.follow_core.specs.Following.{kept_of}
use Rattle.follow_core.specs.Steps.{AnswersSo}
use Rattle.follow_core.proofs.LeadingBatches.{held_rise}
use Rattle.follow_core.proofs.ReceivedBatches.{copy_told, none_received, answered_received, none_leads, still_stops, still_opens, still_reads, cause_then}
use Rattle.follow_core.proofs.receiving.receive.Goals as goal

pub returns-in_default-clause-received : goal.returns-in_default-clause-received
returns-in_default-clause-received g c = λ told records parts stands.
    none_received c.args.shipment.now records parts c.args.store.now (g.D.Desk.seen c.args.desk.now).reads
    (ap batch_in (sym c.as_slice.ensures) ∙ sym c.in_ok-batch.ensures.found ∙ c.in_default.is) stands

pub returns-in_default-clause-still : goal.returns-in_default-clause-still
returns-in_default-clause-still g c = λ other. (refl, OnlyReads-none c.args.desk.now)

pub returns-in_default-clause-stops : goal.returns-in_default-clause-stops
returns-in_default-clause-stops g c = λ told records parts stands.
    still_stops c.args.store.now _ c.args.desk.now c.args.desk.now c.requires.holds (c.requires.stands told) (OnlyReads-none c.args.desk.now)

pub returns-in_default-clause-opens : goal.returns-in_default-clause-opens
returns-in_default-clause-opens g c = λ told. still_opens c.args.store.now c.args.desk.now c.args.desk.now c.requires.holds (c.requires.stands told) (OnlyReads-none c.args.desk.now)

pub returns-in_err-batch-clause-stops : goal.returns-in_err-batch-clause-stops
returns-in_err-batch-clause-stops g c = λ told records parts stands.
    still_stops c.args.store.now _ c.args.desk.now c.args.desk.now c.requires.holds (c.requires.stands told) (OnlyReads-none c.args.desk.now)

pub returns-in_err-batch-clause-opens : goal.returns-in_err-batch-clause-opens
returns-in_err-batch-clause-opens g c = λ told. still_opens c.args.store.now c.args.desk.now c.args.desk.now c.requires.holds (c.requires.stands told) (OnlyReads-none c.args.desk.now)

pub answered-requires-clause-rises : goal.answered-requires-clause-rises
answered-requires-clause-rises g c = held_rise c.args.store.now c.requires.holds

pub returns-in_err-answer-clause-stops : goal.returns-in_err-answer-clause-stops
returns-in_err-answer-clause-stops g c = λ told records parts stands.
    still_stops c.args.store.now _ c.args.desk.now c.answered.new.desk c.requires.holds (c.requires.stands told) c.answered.ensures.reads

pub returns-in_err-answer-clause-opens : goal.returns-in_err-answer-clause-opens
returns-in_err-answer-clause-opens g c = λ told. still_opens c.args.store.now c.args.desk.now c.answered.new.desk c.requires.holds (c.requires.stands told) c.answered.ensures.reads

pub returns-in_err-answer-clause-stands : goal.returns-in_err-answer-clause-stands
returns-in_err-answer-clause-stands g c = λ fresh told.
    still_reads c.args.store.now (g.D.Desk.seen c.args.desk.now).reads (g.D.Desk.seen c.answered.new.desk).reads _ _ c.answered.ensures.reads.parts c.answered.ensures.reads.stops.found (c.requires.stands told)

pub returns-in_err-answer-clause-sought : goal.returns-in_err-answer-clause-sought
returns-in_err-answer-clause-sought g c = λ fresh told records stands. c.answered.ensures.sought told records (subst (λ (i : Image). Stands Two i records) c.answered.ensures.reads.parts stands)

pub returns-in_err-answer-clause-quiet : goal.returns-in_err-answer-clause-quiet
returns-in_err-answer-clause-quiet g c = Leaves-weaker _ c.answered.ensures.reads.stops (λ i p. tt)

pub returns-in_err-answer-clause-room : goal.returns-in_err-answer-clause-room
returns-in_err-answer-clause-room g c = held_reads g.D.Desk.tells c.args.store.now.bounds.slot c.answered.ensures.reads

pub returns-in-Some-answer-clause-stops : goal.returns-in-Some-answer-clause-stops
returns-in-Some-answer-clause-stops g c = λ told records parts stands.
    still_stops c.args.store.now _ c.args.desk.now c.answered.new.desk c.requires.holds (c.requires.stands told) c.answered.ensures.reads

pub returns-in-Some-answer-clause-opens : goal.returns-in-Some-answer-clause-opens
returns-in-Some-answer-clause-opens g c = λ told. still_opens c.args.store.now c.args.desk.now c.answered.new.desk c.requires.holds (c.requires.stands told) c.answered.ensures.reads

pub returns-in-Some-answer-clause-stands : goal.returns-in-Some-answer-clause-stands
returns-in-Some-answer-clause-stands g c = λ fresh told.
    still_reads c.args.store.now (g.D.Desk.seen c.args.desk.now).reads (g.D.Desk.seen c.answered.new.desk).reads _ _ c.answered.ensures.reads.parts c.answered.ensures.reads.stops.found (c.requires.stands told)

pub returns-in-Some-answer-clause-sought : goal.returns-in-Some-answer-clause-sought
returns-in-Some-answer-clause-sought g c = λ fresh told records stands. c.answered.ensures.sought told records (subst (λ (i : Image). Stands Two i records) c.answered.ensures.reads.parts stands)

pub returns-in-Some-answer-clause-quiet : goal.returns-in-Some-answer-clause-quiet
returns-in-Some-answer-clause-quiet g c = Leaves-weaker _ c.answered.ensures.reads.stops (λ i p. tt)

pub returns-in-Some-answer-clause-room : goal.returns-in-Some-answer-clause-room
returns-in-Some-answer-clause-room g c = held_reads g.D.Desk.tells c.args.store.now.bounds.slot c.answered.ensures.reads

pub returns-in-Some-answer-clause-still : goal.returns-in-Some-answer-clause-still
returns-in-Some-answer-clause-still g c = λ other. (refl, c.answered.ensures.reads)

pub returns-in-Some-answer-clause-received : goal.returns-in-Some-answer-clause-received
returns-in-Some-answer-clause-received g c = λ told records parts stands.
    answered_received c.args.shipment.now c.in-Some.batch records parts c.args.store.now (g.D.Desk.seen c.answered.new.desk).reads _ c.in-Some-answer.taken
    (copy_told (g.D.Desk.seen c.args.desk.now).reads c.args.store.now records c.requires.holds.format (c.requires.stands told).kept stands)
    (subst (λ (b : List ℕ). Spells b c.in-Some.batch) c.as_slice.ensures (subst (λ (o : Option (List Op)). IfSome o (Spells c.as_slice.result.now)) c.in-Some.is c.in_ok-batch.ensures.spells))
    (λ kept may. may told records stands)
    (subst (AnswersSo c.args.shipment.now c.in-Some.batch c.args.store.now _) c.in-Some-answer.is c.in_ok-answer.ensures.answers)
    (subst (λ (i : Image). Stands Two i records) (sym c.answered.ensures.reads.parts) stands)

pub keep_on-requires-clause-spells : goal.keep_on-requires-clause-spells
keep_on-requires-clause-spells g c = subst (λ (b : List ℕ). Spells b c.in-Some.batch) c.as_slice.ensures (subst (λ (o : Option (List Op)). IfSome o (Spells c.as_slice.result.now)) c.in-Some.is c.in_ok-batch.ensures.spells)

pub keep_on-requires-clause-whole : goal.keep_on-requires-clause-whole
keep_on-requires-clause-whole g c = (none_leads c.args.shipment.now c.in-Some.batch c.args.store.now _ _ c.in-None.is c.in_ok-answer.ensures.answers).0

pub keep_on-requires-clause-late : goal.keep_on-requires-clause-late
keep_on-requires-clause-late g c = (none_leads c.args.shipment.now c.in-Some.batch c.args.store.now _ _ c.in-None.is c.in_ok-answer.ensures.answers).1

pub keep_on-requires-clause-early : goal.keep_on-requires-clause-early
keep_on-requires-clause-early g c = (none_leads c.args.shipment.now c.in-Some.batch c.args.store.now _ _ c.in-None.is c.in_ok-answer.ensures.answers).2

pub keep_on-requires-clause-leads : goal.keep_on-requires-clause-leads
keep_on-requires-clause-leads g c = (none_leads c.args.shipment.now c.in-Some.batch c.args.store.now _ _ c.in-None.is c.in_ok-answer.ensures.answers).3

pub keep_on-requires-clause-stands : goal.keep_on-requires-clause-stands
keep_on-requires-clause-stands g c = λ told.
    still_reads c.args.store.now (g.D.Desk.seen c.args.desk.now).reads (g.D.Desk.seen c.answered.new.desk).reads _ _ c.answered.ensures.reads.parts c.answered.ensures.reads.stops.found (c.requires.stands told)

pub keep_on-requires-clause-sought : goal.keep_on-requires-clause-sought
keep_on-requires-clause-sought g c = λ told records stands. c.answered.ensures.sought told records (subst (λ (i : Image). Stands Two i records) c.answered.ensures.reads.parts stands)

pub returns-clause-received : goal.returns-clause-received
returns-clause-received g c = IfOk-weaker c.keep_on.result _ _ (λ t k told records parts stands. k told records parts (subst (λ (i : Image). Stands Two i records) (sym c.answered.ensures.reads.parts) stands)) c.keep_on.ensures.received

pub returns-clause-still : goal.returns-clause-still
returns-clause-still g c = IfOk-weaker c.keep_on.result _ _ (λ t k other. let n = k other in (n.0, OnlyReads-then c.answered.ensures.reads n.1)) c.keep_on.ensures.still

pub returns-clause-cause : goal.returns-clause-cause
returns-clause-cause g c = cause_then _ _ _ c.keep_on.result c.in_ok-answer.ensures.cause.calm c.keep_on.ensures.cause

pub returns-clause-others : goal.returns-clause-others
returns-clause-others g c = OnlyDisk-then c.answered.ensures.reads.others c.keep_on.ensures.others

pub returns-clause-quiet : goal.returns-clause-quiet
returns-clause-quiet g c = Leaves-then _ c.answered.ensures.reads.stops c.keep_on.ensures.quiet (λ i p. tt) (λ i p. tt)

pub returns-clause-stops : goal.returns-clause-stops
returns-clause-stops g c = λ told records parts stands.
    Leaves-then _ (still_stops c.args.store.now _ c.args.desk.now c.answered.new.desk c.requires.holds (c.requires.stands told) c.answered.ensures.reads)
    (c.keep_on.ensures.stops told records parts (subst (λ (i : Image). Stands Two i records) (sym c.answered.ensures.reads.parts) stands)) (λ i p. p) (λ i p. p)

pub returns-clause-opens : goal.returns-clause-opens
returns-clause-opens g c = λ told.
    Leaves-then _ (still_opens c.args.store.now c.args.desk.now c.answered.new.desk c.requires.holds (c.requires.stands told) c.answered.ensures.reads) (c.keep_on.ensures.opens told) (λ i p. p) (λ i p. p)

pub returns-clause-remembers : goal.returns-clause-remembers
returns-clause-remembers g c = Remembers-then c.answered.ensures.reads.stops.time.later c.answered.ensures.reads.remembers c.keep_on.ensures.remembers

pub returns-clause-room : goal.returns-clause-room
returns-clause-room g c = held_then (held_reads g.D.Desk.tells c.args.store.now.bounds.slot c.answered.ensures.reads) c.keep_on.ensures.room
