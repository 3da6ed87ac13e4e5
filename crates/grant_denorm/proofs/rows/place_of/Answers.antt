use Rattle.std.proofs.Common.{◌<◌, ◌-◌, length, sym, subst, rules}
use Rattle.std.proofs.lemmas.List.Sorted.{answers_always}
use Rattle.std.proofs.lemmas.Option.{get_or_from_slice_get}
use Rattle.grant_denorm.proofs.FlatLaws.{searched, behind_last}
use Rattle.grant_denorm.proofs.rows.place_of.Goals as goal

pub returns-then-last-right-clause-absent : goal.returns-then-last-right-clause-absent
returns-then-last-right-clause-absent c =
    let xs = c.args.rights.now in
    let last = get_or_from_slice_get xs (length xs - 1) c.in-Some-last.last.now (0, 0) (sym c.in-Some-last.ensures.value) in
    behind_last 0 xs c.requires c.args.right (subst (λ x. x.0 < c.args.right) (sym last) c.if-last-right.true)

pub returns-clause-found : goal.returns-clause-found
returns-clause-found c =
    let said = c.binary_search_by_key.ensures in
    let by_number = said.position (λ x. x.0) (answers_always _ _ _ (λ f a r g called. search rules)) in
    (searched 0 c.args.rights.now c.requires c.args.right c.binary_search_by_key.result said.bound by_number).found

pub returns-clause-absent : goal.returns-clause-absent
returns-clause-absent c =
    let said = c.binary_search_by_key.ensures in
    let by_number = said.position (λ x. x.0) (answers_always _ _ _ (λ f a r g called. search rules)) in
    (searched 0 c.args.rights.now c.requires c.args.right c.binary_search_by_key.result said.bound by_number).absent
