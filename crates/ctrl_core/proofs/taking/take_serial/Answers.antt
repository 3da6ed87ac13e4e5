use Rattle.std.proofs.Common.{sym, ◌∙◌}
use Rattle.ctrl_core.proofs.TakenLaws.{keeps_serial, none_told, takes_flaw, takes_none}
use Rattle.ctrl_core.proofs.taking.take_serial.Goals as goal

pub returns-then-is_some : goal.returns-then-is_some
returns-then-is_some c = takes_flaw c.serial_flaw-flaw.result _ _ _ (sym c.is_some.ensures ∙ c.if-is_some.true) c.serial_flaw-flaw.ensures

pub returns : goal.returns
returns c =
    let none = none_told c.serial_flaw-flaw.result (sym c.is_some.ensures ∙ c.if-is_some.false) in
    takes_none c.serial_flaw-flaw.result _ _ _ none c.serial_flaw-flaw.ensures (keeps_serial c.args.serial c.args.stores.now c.requires.kept (sym c.serial_flaw-flaw.ensures ∙ none))
