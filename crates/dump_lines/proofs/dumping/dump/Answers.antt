use Rattle.std.proofs.Common.{◌≡◌, true, subst, sym, ◌∙◌}
use Rattle.ctrl_model.specs.ValueForms.{is_link_cost}
use Rattle.dump_lines.proofs.DumpedRows.{cost_of_rows, dump_of_rows}
use Rattle.dump_lines.proofs.FitRows.{all_fit}
use Rattle.dump_lines.proofs.dumping.dump.Goals as goal

pub put_setting-requires : goal.put_setting-requires
put_setting-requires c = subst (λ n. is_link_cost n ≡ true) (sym (c.least_cost.ensures ∙ cost_of_rows c.args.rows.now)) c.requires.setting

pub put_sections-requires : goal.put_sections-requires
put_sections-requires c = all_fit c.args.rows.now c.requires

pub returns : goal.returns
returns c =
    dump_of_rows c.args.rows.now c.sections.result.now c.least_cost.result c.new-text.result.items c.put_setting.new.text.items c.put_sections.new.text.items c.of.result
    c.sections.ensures c.least_cost.ensures c.new-text.ensures.items c.in_ok-put_setting.ensures c.in_ok-put_sections.ensures c.of.ensures
