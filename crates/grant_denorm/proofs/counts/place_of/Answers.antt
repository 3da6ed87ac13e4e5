use Rattle.std.proofs.Common.{[], ◌<◌, ◌-◌, length, sym, subst, rules}
use Rattle.std.proofs.lemmas.List.Sorted.{answers_always}
use Rattle.std.proofs.lemmas.Option.{get_or_from_slice_get}
use Rattle.grant_denorm.proofs.FlatLaws.{searched, behind_last}
use Rattle.grant_denorm.proofs.counts.place_of.Goals as goal

pub returns-then-left-2-clause-absent : goal.returns-then-left-2-clause-absent
returns-then-left-2-clause-absent c =
    let xs = c.args.rows.now in
    let last = get_or_from_slice_get xs (length xs - 1) c.in-Some-last.last.now (0, []) (sym c.in-Some-last.ensures.value) in
    behind_last [] xs c.requires c.args.left (subst (λ x. x.0 < c.args.left) (sym last) (subst (λ n. n < c.args.left) c.left-in-Some-last.ensures c.if-left-2.true))

pub returns-clause-found : goal.returns-clause-found
returns-clause-found c =
    let said = c.binary_search_by_key.ensures in
    let by_number = said.position (λ x. x.0) (answers_always _ _ _ (λ f a r g called. search rules)) in
    (searched [] c.args.rows.now c.requires c.args.left c.binary_search_by_key.result said.bound by_number).found

pub returns-clause-absent : goal.returns-clause-absent
returns-clause-absent c =
    let said = c.binary_search_by_key.ensures in
    let by_number = said.position (λ x. x.0) (answers_always _ _ _ (λ f a r g called. search rules)) in
    (searched [] c.args.rows.now c.requires c.args.left c.binary_search_by_key.result said.bound by_number).absent
