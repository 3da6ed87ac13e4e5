use Rattle.ctrl_core.proofs.TakenLaws.{set_kept, is_cost_so}
use Rattle.ctrl_core.proofs.taking.take_setting.Goals as goal

pub returns : goal.returns
returns c =
    rw (c.set_least.ensures) (set_kept c.args.cost c.args.stores.now c.requires.kept (is_cost_so c.args.cost c.if-cost-lt1.false c.if-cost-gt-MOST_COST.false))
