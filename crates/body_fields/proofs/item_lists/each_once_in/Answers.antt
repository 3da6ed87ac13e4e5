use Rattle.std.proofs.Common.{◌≡◌, ◌<◌, ◌+◌, ◌++◌, ◌∷◌, [], length, take, Some, None, option_map, sym, ap, ◌∙◌, subst, arith}
use Rattle.std.proofs.lemmas.Grind.{take_at_read}
use Rattle.serde_json.specs.View.{view}
use Rattle.body_fields.specs.ItemLists.{each_once}
use Rattle.body_fields.proofs.ItemLaws.{each_of-none}
use Rattle.body_fields.proofs.OnceLaws.{once-more}
use Rattle.body_fields.proofs.item_lists.each_once_in.Goals as goal

pub returns-in_default-clause-values : goal.returns-in_default-clause-values
returns-in_default-clause-values g c =
    let below : c.values.value-index < length c.args.values.now = omega arith in
    let nothing : g.K.ItemKind.kind (view c.value-item.result) ≡ None = sym c.in_ok-item.ensures.value ∙ c.in_default.is in
    sym (ap (option_map (each_once g.K.SameItems.same))
    (each_of-none g.K.ItemKind.kind c.args.values.now c.values.value-index c.value-item.result below (subst (λ v. g.K.ItemKind.kind (view v) ≡ None) c.value-item.is nothing)))

pub values-preserved : goal.values-preserved
values-preserved g c =
    let below : c.values.value-index < length c.args.values.now = omega arith in
    let more : take (c.values.value-index + 1) c.args.values.now ≡ take c.values.value-index c.args.values.now ++ c.value-item.result ∷ [] =
    (take_at_read c.args.values.now c.values.value-index c.value-item.result below).1 ∙ ap (λ v. take c.values.value-index c.args.values.now ++ v ∷ []) (sym c.value-item.is) in
    let said : g.K.ItemKind.kind (view c.value-item.result) ≡ Some c.in-Some.item = sym c.in_ok-item.ensures.value ∙ c.in-Some.is in
    rw (c.in_ok-keep_item.ensures, more)
    (once-more g.K.SameItems.same g.met.K.SameItems.are_equal g.K.ItemKind.kind
    (take c.values.value-index c.args.values.now) c.value-item.result c.values.kept.items c.in-Some.item c.values.invariant said)
