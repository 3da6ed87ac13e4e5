use Rattle.std.proofs.Common.{Bool, [], cond, sym, subst, ◌∙◌}
use Rattle.std.proofs.lemmas.Result.{IfOk-weaker}
use Rattle.row_codec.specs.RowDifference.{IsTrueDifference}
use Rattle.row_codec.specs.Batches.{bytes_cmp, entries_of}
use Rattle.follow_core.proofs.KeptStores.{added_stands, replaced_stands}
use Rattle.follow_core.proofs.keeping.keep.Goals as goal

pub returns-then-is_replaced-clause-folder : goal.returns-then-is_replaced-clause-folder
returns-then-is_replaced-clause-folder g c =
    let replaced = sym c.is_replaced.ensures ∙ c.if-is_replaced.true in
    let changes = subst (λ (b : Bool). IsTrueDifference bytes_cmp (cond b [] c.args.store.now.rows) (entries_of c.args.batch.now)) replaced c.requires.changes in
    IfOk-weaker c.put_in_place.result _ _
    (λ taken f e told records stands. replaced_stands c.args.sort c.args.batch.now c.args.store.now _ _ records replaced changes (f e told))
    c.put_in_place.ensures.folder

pub returns-else-is_replaced-clause-folder : goal.returns-else-is_replaced-clause-folder
returns-else-is_replaced-clause-folder g c =
    IfOk-weaker c.add.result _ _
    (λ taken f e told records stands. added_stands c.args.sort c.args.batch.now c.args.store.now _ _ records (sym c.is_replaced.ensures ∙ c.if-is_replaced.false) (f e told) stands)
    c.add.ensures.added
