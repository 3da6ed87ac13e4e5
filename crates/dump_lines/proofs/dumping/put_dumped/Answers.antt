use Rattle.std.proofs.Common.{◌≡◌, Bool, true, false, not, refl, sym, ◌∙◌}
use Rattle.state_building.specs.BuiltStates.{state_in}
use Rattle.dump_lines.proofs.DumpedRows.{dumped_behind, row_said}
use Rattle.dump_lines.proofs.dumping.put_dumped.Goals as goal

is_not : (b : Bool) → not b ≡ true → b ≡ false
is_not true is = absurd cc
is_not false is = refl

pub put_wanted-requires : goal.put_wanted-requires
put_wanted-requires c = λ wanted. row_said (state_in c.args.rows.now) c.args.row.now c.requires (sym c.is_unsaid-unsaid.ensures ∙ is_not c.is_unsaid-unsaid.result wanted)

pub returns : goal.returns
returns c =
    dumped_behind c.put_wanted.result (state_in c.args.rows.now) c.args.row.now c.is_remarked.result c.is_unsaid-unsaid.result
    c.args.text.now.items c.put_remark.new.text.items c.put_wanted.new.text.items c.requires
    c.is_remarked.ensures c.is_unsaid-unsaid.ensures c.in_ok-put_remark.ensures c.put_wanted.ensures
