use Rattle.row_reading.proofs.row_building.row_in.Goals as goal

pub returns-in-Next : goal.returns-in-Next
returns-in-Next c = rw c.in-Next.is (c.next_row.ensures c.args.format)

pub returns-in-Setting : goal.returns-in-Setting
returns-in-Setting c = rw c.in-Setting.is (c.setting_row.ensures c.args.format)
