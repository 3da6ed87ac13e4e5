use Rattle.std.proofs.Common.{◌<◌, subst, arith}
use Rattle.std.proofs.lemmas.Result.{on_ok_weaker}
use Rattle.ctrl_model.specs.Limits.{most_number}
use Rattle.grant_denorm.proofs.RowSteps.{if_ok_weaker, row_count, AreRows_replaced, Raises_replaced, length_replaced}
use Rattle.grant_denorm.proofs.counts.raise_at.Goals as goal

pub raise-requires-clause-room : goal.raise-requires-clause-room
raise-requires-clause-room c = subst (λ n. n < most_number) (row_count c.args.rows.now.items c.requires.rows c.args.a c.args.at c.requires.place c.index_mut.result.now c.index_mut.ensures.value c.args.b) c.requires.room

pub returns-clause-rows : goal.returns-clause-rows
returns-clause-rows c =
    AreRows_replaced c.args.rows.now.items c.args.a c.args.at c.index_mut.result.now c.raise.new.self
    (record { before = c.requires.rows; place = c.requires.place; read = c.index_mut.ensures.value; left = c.raise.ensures.left }) c.raise.ensures.row

pub returns-clause-ok : goal.returns-clause-ok
returns-clause-ok c =
    on_ok_weaker c.raise.result
    (Raises_replaced c.args.rows.now.items c.args.a c.args.at c.index_mut.result.now c.raise.new.self
    (record { before = c.requires.rows; place = c.requires.place; read = c.index_mut.ensures.value; left = c.raise.ensures.left }) c.args.b)
    c.raise.ensures.ok

pub returns-clause-more : goal.returns-clause-more
returns-clause-more c =
    let length = length_replaced c.args.rows.now.items c.args.a c.args.at c.index_mut.result.now c.raise.new.self
    (record { before = c.requires.rows; place = c.requires.place; read = c.index_mut.ensures.value; left = c.raise.ensures.left }) in
    if_ok_weaker c.raise.result (λ came more. omega (arith, length, more)) c.raise.ensures.more

pub returns-clause-there : goal.returns-clause-there
returns-clause-there c = λ there. c.raise.ensures.there (subst (λ n. 0 < n) (row_count c.args.rows.now.items c.requires.rows c.args.a c.args.at c.requires.place c.index_mut.result.now c.index_mut.ensures.value c.args.b) there)
