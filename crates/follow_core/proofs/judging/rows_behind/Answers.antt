use Rattle.std.proofs.Common.{◌≡◌, [], List, ap, ◌∙◌, sym}
use Rattle.std.proofs.lemmas.Result.{IfOk-weaker}
use Rattle.row_codec.specs.declared.changes.Op.{Op}
use Rattle.slot_reading.specs.BatchRows.{ByteRows, puts, rows_after, rows_in}
use Rattle.follow_core.proofs.BatchWords.{puts_lead}
use Rattle.follow_core.proofs.judging.rows_behind.Goals as goal

pub returns : goal.returns
returns c =
    let before : rows_in c.in_ok-rows.rows.entries ≡ c.args.store.now.rows =
    c.in_ok-rows.ensures.rows ∙ ap (rows_after []) (c.as_slice.ensures ∙ c.in_ok-before.ensures.puts) ∙ puts_lead c.args.store.now.rows c.requires in
    IfOk-weaker c.puts.result _ _ (λ batch e. e ∙ ap puts (c.in_ok-change_all.ensures.rows ∙ ap (λ (r : ByteRows). rows_after r c.args.ops.now) before)) c.puts.ensures
