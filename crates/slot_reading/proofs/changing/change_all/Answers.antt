use Rattle.std.proofs.Common.{◌++◌, ◌∷◌, [], ◌∙◌, sym, ap, subst, List, take}
use Rattle.std.proofs.lemmas.List.{take_more}
use Rattle.row_codec.specs.declared.changes.Op.{Op}
use Rattle.slot_reading.specs.BatchRows.{rows_in}
use Rattle.slot_reading.proofs.BatchLaws.{Changed, changed_next}
use Rattle.slot_reading.proofs.changing.change_all.Goals as goal

pub ops-preserved : goal.ops-preserved
ops-preserved c =
    let all = c.args.ops.now in
    let i = c.ops.op-index in
    subst (λ (ops : List Op). Changed (rows_in c.args.rows.now.entries) (rows_in c.change.new.rows.entries) ops)
    (sym (take_more all i c.op-item.result c.ops-test.true ∙ ap (λ (op : Op). take i all ++ op ∷ []) (sym c.op-item.is)))
    (changed_next _ _ _ _ c.op-item.result c.ops.invariant c.change.ensures.rises c.in_ok-change.ensures.row)
