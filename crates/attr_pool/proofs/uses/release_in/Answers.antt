use Rattle.std.proofs.Common.{◌≡◌, Some, sym, subst, rules}
use Rattle.attr_pool.specs.Slots.{slot_of, IsPool}
use Rattle.attr_pool.proofs.SlotLemmas.{IsPool-without_use}
use Rattle.attr_pool.proofs.SlotKeeping.{kept-released}
use Rattle.attr_pool.proofs.UseLaws.{used_number, uses_at_number, released}
use Rattle.attr_pool.proofs.uses.release_in.Goals as goal

pub unwrap-number-requires : goal.unwrap-number-requires
unwrap-number-requires c = used_number c.args.name.now c.args.slots.now c.slot_of.result c.requires.used c.slot_of.ensures

pub let_go_at-requires : goal.let_go_at-requires
let_go_at-requires c =
    let found : slot_of c.args.name.now c.args.slots.now ≡ Some c.unwrap-number.result = search rules in
    (uses_at_number c.args.name.now c.args.slots.now c.unwrap-number.result c.requires.pool found c.requires.used).0

pub returns-clause-uses : goal.returns-clause-uses
returns-clause-uses c = λ q.
    let found : slot_of c.args.name.now c.args.slots.now ≡ Some c.unwrap-number.result = search rules in
    released q c.args.name.now c.args.slots.now c.let_go_at.new.self c.unwrap-number.result c.requires.pool found c.requires.used c.let_go_at.ensures

pub returns-clause-slots : goal.returns-clause-slots
returns-clause-slots c =
    let found : slot_of c.args.name.now c.args.slots.now ≡ Some c.unwrap-number.result = search rules in
    kept-released c.args.name.now c.args.slots.now c.let_go_at.new.self c.unwrap-number.result c.requires.pool found c.requires.used c.let_go_at.ensures

pub returns-clause-pool : goal.returns-clause-pool
returns-clause-pool c =
    let found : slot_of c.args.name.now c.args.slots.now ≡ Some c.unwrap-number.result = search rules in
    let both = uses_at_number c.args.name.now c.args.slots.now c.unwrap-number.result c.requires.pool found c.requires.used in
    subst IsPool (sym c.let_go_at.ensures) (IsPool-without_use c.args.slots.now c.unwrap-number.result c.requires.pool both.0)
