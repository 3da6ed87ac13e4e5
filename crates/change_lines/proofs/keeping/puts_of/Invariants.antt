use Rattle.std.proofs.Common.{◌≡◌, map, take}
use Rattle.ctrl_model.specs.declared.formats.Format.TheVariants.{Two}
use Rattle.row_loading.specs.LoadedRows.{put_of}
use Rattle.change_lines.proofs.keeping.puts_of.Given as goal

abbrev pub invariant-rows : goal.invariant-rows
invariant-rows l = l.items.items ≡ map (put_of Two) (take l.row-index l.rows)
