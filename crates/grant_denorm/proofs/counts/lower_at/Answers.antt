use Rattle.std.proofs.Common.{◌<◌, subst, arith}
use Rattle.grant_denorm.proofs.RowSteps.{row_count, AreRows_replaced, Lowers_replaced, length_replaced}
use Rattle.grant_denorm.proofs.counts.lower_at.Goals as goal

pub lower-requires-clause-there : goal.lower-requires-clause-there
lower-requires-clause-there c = subst (λ n. 0 < n) (row_count c.args.rows.now.items c.requires.rows c.args.a c.args.at c.requires.place c.index_mut.result.now c.index_mut.ensures.value c.args.b) c.requires.there

pub returns-clause-rows : goal.returns-clause-rows
returns-clause-rows c =
    AreRows_replaced c.args.rows.now.items c.args.a c.args.at c.index_mut.result.now c.lower.new.self
    (record { before = c.requires.rows; place = c.requires.place; read = c.index_mut.ensures.value; left = c.lower.ensures.left }) c.lower.ensures.row

pub returns-clause-lowers : goal.returns-clause-lowers
returns-clause-lowers c =
    Lowers_replaced c.args.rows.now.items c.args.a c.args.at c.index_mut.result.now c.lower.new.self
    (record { before = c.requires.rows; place = c.requires.place; read = c.index_mut.ensures.value; left = c.lower.ensures.left }) c.args.b c.lower.ensures.lowers

pub returns-clause-fewer : goal.returns-clause-fewer
returns-clause-fewer c =
    let length = length_replaced c.args.rows.now.items c.args.a c.args.at c.index_mut.result.now c.lower.new.self
    (record { before = c.requires.rows; place = c.requires.place; read = c.index_mut.ensures.value; left = c.lower.ensures.left }) in
    let fewer = c.lower.ensures.fewer in
    omega (arith, length, fewer)
