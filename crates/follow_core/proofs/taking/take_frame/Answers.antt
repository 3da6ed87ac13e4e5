use Rattle.std.proofs.Common.{◌≡◌, List, ℕ, Option, None, Some, true, refl, sym, ap, subst, ◌∙◌}
use Rattle.std.proofs.lemmas.Result.{IfOk-weaker}
use Rattle.ziti_outside.specs.Images.{Image}
use Rattle.ziti_outside.proofs.MomentLaws.{Leaves-weaker, OnlyReads-none}
use Rattle.ship_frames.specs.declared.gathering.Gathered.{Gathered}
use Rattle.ship_frames.specs.PieceReading.{is_piece, piece_in}
use Rattle.ship_frames.specs.GatheredPieces.{Parts, gather, IsHeldOf}
use Rattle.ship_frames.proofs.ReadingLaws.{read_is}
use Rattle.follow_core.proofs.FollowedFrames.{no_piece, skipped_piece, waiting_piece, last_piece, last_rows}
use Rattle.follow_core.proofs.HeldParts.{whole_short, still_held}
use Rattle.follow_core.proofs.ReceivedBatches.{either_rows, still_stops, still_opens}
use Rattle.follow_core.proofs.taking.take_frame.Goals as goal

pub returns-in_default-clause-stops : goal.returns-in_default-clause-stops
returns-in_default-clause-stops g c = λ told records stands. still_stops c.args.store.now _ c.args.desk.now c.args.desk.now c.requires.holds (c.requires.stands told) (OnlyReads-none c.args.desk.now)

pub returns-in_default-clause-opens : goal.returns-in_default-clause-opens
returns-in_default-clause-opens g c = λ told. still_opens c.args.store.now c.args.desk.now c.args.desk.now c.requires.holds (c.requires.stands told) (OnlyReads-none c.args.desk.now)

pub returns-in_err-take-clause-stops : goal.returns-in_err-take-clause-stops
returns-in_err-take-clause-stops g c = λ told records stands. still_stops c.args.store.now _ c.args.desk.now c.args.desk.now c.requires.holds (c.requires.stands told) (OnlyReads-none c.args.desk.now)

pub returns-in_err-take-clause-opens : goal.returns-in_err-take-clause-opens
returns-in_err-take-clause-opens g c = λ told. still_opens c.args.store.now c.args.desk.now c.args.desk.now c.requires.holds (c.requires.stands told) (OnlyReads-none c.args.desk.now)

pub returns-in-Skipped-clause-stops : goal.returns-in-Skipped-clause-stops
returns-in-Skipped-clause-stops g c = λ told records stands. still_stops c.args.store.now _ c.args.desk.now c.args.desk.now c.requires.holds (c.requires.stands told) (OnlyReads-none c.args.desk.now)

pub returns-in-Skipped-clause-opens : goal.returns-in-Skipped-clause-opens
returns-in-Skipped-clause-opens g c = λ told. still_opens c.args.store.now c.args.desk.now c.args.desk.now c.requires.holds (c.requires.stands told) (OnlyReads-none c.args.desk.now)

pub returns-in-Waits-clause-stops : goal.returns-in-Waits-clause-stops
returns-in-Waits-clause-stops g c = λ told records stands. still_stops c.args.store.now _ c.args.desk.now c.args.desk.now c.requires.holds (c.requires.stands told) (OnlyReads-none c.args.desk.now)

pub returns-in-Waits-clause-opens : goal.returns-in-Waits-clause-opens
returns-in-Waits-clause-opens g c = λ told. still_opens c.args.store.now c.args.desk.now c.args.desk.now c.requires.holds (c.requires.stands told) (OnlyReads-none c.args.desk.now)

pub returns-in_default-clause-still : goal.returns-in_default-clause-still
returns-in_default-clause-still g c = λ other. (refl, OnlyReads-none c.args.desk.now)

pub returns-in-Skipped-clause-still : goal.returns-in-Skipped-clause-still
returns-in-Skipped-clause-still g c = λ other. (refl, OnlyReads-none c.args.desk.now)

pub returns-in-Waits-clause-still : goal.returns-in-Waits-clause-still
returns-in-Waits-clause-still g c = λ other. (refl, OnlyReads-none c.args.desk.now)

pub returns-in_default-clause-taken : goal.returns-in_default-clause-taken
returns-in_default-clause-taken g c = λ told records stands. no_piece c.args.frame.now records c.args.gathering.now c.args.store.now (g.D.Desk.seen c.args.desk.now).reads (sym c.piece_in.ensures ∙ c.in_default.is) stands

pub returns-in-Skipped-clause-taken : goal.returns-in-Skipped-clause-taken
returns-in-Skipped-clause-taken g c = λ told records stands. skipped_piece c.args.frame.now records c.args.gathering.now c.take.new.self c.args.store.now (g.D.Desk.seen c.args.desk.now).reads c.in-Some.piece (sym c.piece_in.ensures ∙ c.in-Some.is) (subst (λ (x : Gathered). (x, c.take.new.self) ≡ gather c.args.gathering.now c.in-Some.piece) c.in-Skipped.is c.in_ok-take.ensures.gathered) stands

pub returns-in-Waits-clause-taken : goal.returns-in-Waits-clause-taken
returns-in-Waits-clause-taken g c = λ told records stands. waiting_piece c.args.frame.now records c.args.gathering.now c.take.new.self c.args.store.now (g.D.Desk.seen c.args.desk.now).reads c.in-Some.piece (sym c.piece_in.ensures ∙ c.in-Some.is) (subst (λ (x : Gathered). (x, c.take.new.self) ≡ gather c.args.gathering.now c.in-Some.piece) c.in-Waits.is c.in_ok-take.ensures.gathered) stands

pub returns-in-Skipped-clause-held : goal.returns-in-Skipped-clause-held
returns-in-Skipped-clause-held g c = still_held c.args.gathering.now c.take.new.self c.in-Some.piece _ c.requires.held (read_is c.args.frame.now c.in-Some.piece (sym c.piece_in.ensures ∙ c.in-Some.is)) c.in_ok-take.ensures.gathered

pub returns-in-Waits-clause-held : goal.returns-in-Waits-clause-held
returns-in-Waits-clause-held g c = still_held c.args.gathering.now c.take.new.self c.in-Some.piece _ c.requires.held (read_is c.args.frame.now c.in-Some.piece (sym c.piece_in.ensures ∙ c.in-Some.is)) c.in_ok-take.ensures.gathered

pub returns-in-Whole-clause-held : goal.returns-in-Whole-clause-held
returns-in-Whole-clause-held g c = still_held c.args.gathering.now c.take.new.self c.in-Some.piece _ c.requires.held (read_is c.args.frame.now c.in-Some.piece (sym c.piece_in.ensures ∙ c.in-Some.is)) c.in_ok-take.ensures.gathered

pub returns-in_err-take-clause-held : goal.returns-in_err-take-clause-held
returns-in_err-take-clause-held g c = subst IsHeldOf (sym c.in_err-take.ensures.err) c.requires.held

pub receive-requires-clause-short : goal.receive-requires-clause-short
receive-requires-clause-short g c = whole_short c.args.gathering.now c.in-Some.piece c.in-Whole.shipment c.requires.held (read_is c.args.frame.now c.in-Some.piece (sym c.piece_in.ensures ∙ c.in-Some.is)) (ap (λ (x : Gathered × Option Parts). x.0) (sym (subst (λ (x : Gathered). (x, c.take.new.self) ≡ gather c.args.gathering.now c.in-Some.piece) c.in-Whole.is c.in_ok-take.ensures.gathered)))

pub returns-in-Whole-clause-taken : goal.returns-in-Whole-clause-taken
returns-in-Whole-clause-taken g c = IfOk-weaker c.receive.result _ _
    (λ t k told records stands. last_piece c.args.frame.now records c.args.gathering.now c.take.new.self c.args.store.now c.receive.new.store _ c.in-Some.piece c.in-Whole.shipment t (sym c.piece_in.ensures ∙ c.in-Some.is) (subst (λ (x : Gathered). (x, c.take.new.self) ≡ gather c.args.gathering.now c.in-Some.piece) c.in-Whole.is c.in_ok-take.ensures.gathered)
    (k told records c.take.new.self stands)) c.receive.ensures.received

pub returns-in-Whole-clause-stops : goal.returns-in-Whole-clause-stops
returns-in-Whole-clause-stops g c = λ told records stands.
    Leaves-weaker _ (c.receive.ensures.stops told records c.take.new.self stands)
    (λ image p. either_rows image c.args.store.now.rows _ _ (last_rows c.args.frame.now records c.args.gathering.now c.take.new.self c.args.store.now c.in-Some.piece c.in-Whole.shipment (sym c.piece_in.ensures ∙ c.in-Some.is) (subst (λ (x : Gathered). (x, c.take.new.self) ≡ gather c.args.gathering.now c.in-Some.piece) c.in-Whole.is c.in_ok-take.ensures.gathered)) p)
