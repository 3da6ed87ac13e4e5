use Rattle.ziti_outside.proofs.MomentLaws.{Leaves-weaker}
use Rattle.row_store.proofs.CompactLaws.{seen_either, seen_folder, seen_stands, of_ok, on_ok}
use Rattle.row_store.proofs.store.Store.rewrite.Goals as goal

pub returns-in_err-now-clause-stops : goal.returns-in_err-now-clause-stops
returns-in_err-now-clause-stops g c = λ told rows w.
    Leaves-weaker _ (c.move_to-moved.ensures.stops told) (seen_either c.args.format rows _ _ c.args.slot.now _ _ c.self.view_is (c.requires.stands told) w)

pub returns-clause-stops : goal.returns-clause-stops
returns-clause-stops g c = λ told rows w.
    Leaves-weaker _ (c.move_to-moved.ensures.stops told) (seen_either c.args.format rows _ _ c.args.slot.now _ _ c.self.view_is (c.requires.stands told) w)

pub returns-clause-folder : goal.returns-clause-folder
returns-clause-folder g c = λ told rows w.
    seen_folder c.args.format rows _ _ c.in_ok-now.now c.args.slot.now _ _ _ c.self.view_is
    (of_ok _ c.move_to-moved.result c.in_ok-now.now c.in_ok-now.was c.move_to-moved.ensures.switched)
    (on_ok c.move_to-moved.result c.in_ok-now.now c.in_ok-now.was c.move_to-moved.ensures.moved told)
    (of_ok _ c.move_to-moved.result c.in_ok-now.now c.in_ok-now.was c.move_to-moved.ensures.opened told) w

pub returns-clause-stands : goal.returns-clause-stands
returns-clause-stands g c = λ told rows w.
    seen_stands c.args.format rows _ _ c.in_ok-now.now c.args.slot.now _ _ _ c.self.view_is
    (of_ok _ c.move_to-moved.result c.in_ok-now.now c.in_ok-now.was c.move_to-moved.ensures.switched)
    (on_ok c.move_to-moved.result c.in_ok-now.now c.in_ok-now.was c.move_to-moved.ensures.moved told)
    (of_ok _ c.move_to-moved.result c.in_ok-now.now c.in_ok-now.was c.move_to-moved.ensures.opened told) w
