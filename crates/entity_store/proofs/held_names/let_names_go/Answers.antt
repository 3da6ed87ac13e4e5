use Rattle.std.proofs.Common.{ap, arith}
use Rattle.std.proofs.lemmas.List.{take_all}
use Rattle.attr_pool.proofs.UseLaws.{still_used, one_fewer}
use Rattle.entity_store.specs.AttributeUses.{times}
use Rattle.entity_store.proofs.held_names.let_names_go.Goals as goal

pub let_one_go-requires : goal.let_one_go-requires
let_one_go-requires c =
    still_used (λ q. times q c.args.held.now.items) (λ q. times q c.names.held.items) c.args.names.now c.names.name-index c.name-item.result c.names-test.true c.name-item.is c.names.invariant c.requires

pub names-preserved : goal.names-preserved
names-preserved c =
    one_fewer (λ q. times q c.args.held.now.items) (λ q. times q c.names.held.items) c.args.names.now c.names.name-index c.name-item.result c.names-test.true c.name-item.is (λ q. times q c.let_one_go.new.held.items) c.names.invariant c.let_one_go.ensures

pub returns : goal.returns
returns c = λ q.
    let whole = ap (times q) (take_all c.names.name-index c.args.names.now (omega arith)) in
    let kept = c.names.invariant q in
    omega (arith, whole, kept)
