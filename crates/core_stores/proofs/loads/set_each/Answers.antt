use Rattle.std.proofs.Common.{slice_index_or, ◌∙◌, ap}
use Rattle.ctrl_model.specs.Numbered.{is_present}
use Rattle.ctrl_model.proofs.Members.{Among-get_or}
use Rattle.grant_denorm.specs.PairCounts.{count_of}
use Rattle.core_stores.proofs.LoadLaws.{set-more}
use Rattle.core_stores.proofs.loads.set_each.Goals as goal

pub set_open-requires-clause-there : goal.set_open-requires-clause-there
set_open-requires-clause-there c =
    ap (λ t. is_present t.rows (slice_index_or c.args.numbers.now c.numbers.number-index 0)) c.numbers.invariant.terminators
    ∙ c.requires.there _ (Among-get_or c.args.numbers.now c.numbers.number-index 0 c.numbers-test.true)

pub numbers-preserved : goal.numbers-preserved
numbers-preserved c =
    set-more (λ n. count_of c.args.loads.now n 0) c.args.numbers.now c.numbers.number-index c.numbers-test.true _ _ _ c.numbers.invariant
    (rw c.count.ensures at c.set_open.ensures.set) (rw c.count.ensures at c.set_open.ensures.open)
