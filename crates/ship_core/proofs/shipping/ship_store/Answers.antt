use Rattle.std.proofs.Common.{sym, ◌∙◌}
use Rattle.ship_core.specs.Faults.{fault_of}
use Rattle.ship_core.proofs.FolderSteps.{old_said, old_kind, kept_said, kept_kind, read_frames, sound_told}
use Rattle.ship_core.proofs.OldLaws.{old_frames}
use Rattle.ship_core.proofs.shipping.ship_store.Goals as goal

pub returns-in-One-clause-told : goal.returns-in-One-clause-told
returns-in-One-clause-told g c = λ told format batches stands.
    old_said c.args.store.now c.args.from format batches (fault_of c.ship_old.result) (sym c.format.ensures ∙ c.in-One.is) (c.requires.some told) (c.requires.kept told) stands c.ship_old.ensures.ships

pub returns-in-One-clause-ships : goal.returns-in-One-clause-ships
returns-in-One-clause-ships g c =
    (old_frames c.args.from c.args.store.now.rows, old_kind c.args.from c.args.store.now.format c.args.store.now.rows (sym c.format.ensures ∙ c.in-One.is), c.ship_old.ensures.ships)

pub returns-in-One-clause-fault : goal.returns-in-One-clause-fault
returns-in-One-clause-fault g c = sound_told g.D.Desk.tells c.ship_old.result c.ship_old.ensures.fault

pub ship_kept-requires-clause-format : goal.ship_kept-requires-clause-format
ship_kept-requires-clause-format g c = sym c.format.ensures ∙ c.in-Two.is

pub returns-in-Two-clause-told : goal.returns-in-Two-clause-told
returns-in-Two-clause-told g c = λ told format batches stands.
    kept_said c.args.store.now c.args.from format batches (fault_of c.ship_kept.result) (sym c.format.ensures ∙ c.in-Two.is) (c.requires.some told) (c.requires.kept told) stands (c.ship_kept.ensures.told told)

pub returns-in-Two-clause-ships : goal.returns-in-Two-clause-ships
returns-in-Two-clause-ships g c =
    let said = c.ship_kept.ensures.ships in
    (read_frames c.args.from said.0, kept_kind c.args.from c.args.store.now.format c.args.store.now.rows said.0 (sym c.format.ensures ∙ c.in-Two.is) said.1, said.2)

pub returns-in-Two-clause-fault : goal.returns-in-Two-clause-fault
returns-in-Two-clause-fault g c = c.ship_kept.ensures.fault
