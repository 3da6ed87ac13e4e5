use Rattle.std.proofs.Common.{◌≡◌, true, subst, sym}
use Rattle.ctrl_model.proofs.Members.{Among-get_or, list_all-among}
use Rattle.row_codec.specs.declared.rows.Row.{Row}
use Rattle.state_building.specs.BuiltStates.{state_in}
use Rattle.dump_lines.specs.RowDumps.{fits}
use Rattle.dump_lines.proofs.dumping.put_section.Goals as goal

pub put_dumped_of-requires : goal.put_dumped_of-requires
put_dumped_of-requires c =
    let s = state_in c.args.rows.now in
    subst (λ (x : Row). fits s x ≡ true) (sym c.row-item.is)
    (list_all-among (fits s) c.args.rows.now _ c.requires (Among-get_or c.args.rows.now c.rows.row-index c.row-item.result c.rows-test.true))
