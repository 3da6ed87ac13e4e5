use Rattle.std.proofs.Common.{◌≡◌, [], Ok, Err, sym, rules}
use Rattle.std.proofs.lemmas.Result.{err_from_is_err_and}
use Rattle.serde_json.specs.View.{items_view}
use Rattle.json_body.specs.FieldKinds.{as_list_of, object_of, required}
use Rattle.body_fields.proofs.OnceLaws.{some_once_behind, some_once_at, some_once_there, once_given}
use Rattle.body_fields.proofs.item_lists.some_once.Goals as goal

pub returns-in_err-values-clause-given : goal.returns-in_err-values-clause-given
returns-in_err-values-clause-given g c =
    let none : required (as_list_of c.args.most) c.args.field (object_of c.args.fields.now) ≡ Err c.in_err-values.field-0.0 = sym c.in_err-values.ensures in
    let p = err_from_is_err_and c.from_residual.result c.from_residual.ensures.1 in
    rw (p.1, p.2) (λ other. some_once_behind g.K.SameItems.same g.K.ItemKind.kind c.args.most c.args.field (object_of c.args.fields.now) _ none)

pub returns-in_err-each_once_in-clause-memory : goal.returns-in_err-each_once_in-clause-memory
returns-in_err-each_once_in-clause-memory g c =
    let values : required (as_list_of c.args.most) c.args.field (object_of c.args.fields.now) ≡ Ok (items_view c.in_ok-values.values.now) = search rules in
    let some : c.in_ok-values.values.now ≡ [] → ⊥ = λ none. absurd (search rules) in
    λ wanting. some_once_there g.K.SameItems.same g.K.ItemKind.kind c.args.most c.args.field (object_of c.args.fields.now) c.in_ok-values.values.now some values (search rules)

pub returns-clause-given : goal.returns-clause-given
returns-clause-given g c =
    let values : required (as_list_of c.args.most) c.args.field (object_of c.args.fields.now) ≡ Ok (items_view c.in_ok-values.values.now) = search rules in
    let some : c.in_ok-values.values.now ≡ [] → ⊥ = λ none. absurd (search rules) in
    once_given (λ v. v.items) c.args.field c.ok_or.result c.in_ok-each_once_in.field-0 _ _ c.ok_or.ensures.value c.in_ok-each_once_in.ensures.values
    (some_once_at g.K.SameItems.same g.K.ItemKind.kind c.args.most c.args.field (object_of c.args.fields.now) c.in_ok-values.values.now some values)
