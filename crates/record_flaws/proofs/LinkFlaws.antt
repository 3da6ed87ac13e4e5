-- The flaws of a link in a state that has the links of a fabric and the routers of a store of entities.
use Rattle.std.proofs.Common.{◌≡◌, ℕ, Bool, false, not, ◌&&◌, ◌||◌, nat_lt, nat_le, List, length, Option, None, Some, refl, sym, ◌∙◌, ap, is_some}
use Rattle.std.proofs.Math.Bool.{or-false}
use Rattle.std.specs.Option.{ok_or, option_map}
use Rattle.std.specs.Result.{is_ok}
use Rattle.ctrl_model.specs.Limits.{limit}
use Rattle.ctrl_model.specs.declared.kinds.Kind.TheVariants as kind
use Rattle.ctrl_model.specs.Numbered.{Table, is_present}
use Rattle.ctrl_model.specs.State.{State, Link, Router, link_named}
use Rattle.ctrl_model.specs.Rules.{attributes_full}
use Rattle.entity_store.specs.EntityTables.{Tables}
use Rattle.fabric_graph.specs.FabricTables.{FabricSeen}
use Rattle.fabric_graph.specs.FabricRules.{found}
use Rattle.state_building.specs.declared.flaws.Flaw.TheVariants.{NoRecord, OutOfOrder, NameTaken, Hanging, TooMany}
use Rattle.state_building.specs.JoinedRecords.{is_sound, is_out_of_order, is_name_taken, is_supported, is_one_too_many, flaw_if, flaw_of}
use Rattle.record_flaws.specs.StoresOfStates.{AreEntitiesOf, AreLinksOf}

-- A link is found exactly where one has the name.
found_named : {A E : Type 0} (f : ℕ → A) (e : E) (o : Option ℕ) → is_ok (ok_or (option_map f o) e) ≡ is_some o
found_named f e None = refl
found_named f e (Some n) = refl

pub told_link : (t : Tables) (f : FabricSeen) (number end : ℕ) (order sound taken there many : Bool) (name : List ℕ) (a b : ℕ) (l : Link) (s : State)
    → order ≡ (nat_lt number f.links.next || nat_le end number) → taken ≡ is_ok (found name f)
    → there ≡ (is_present t.routers.rows a && is_present t.routers.rows b) → many ≡ nat_le (limit kind.Link) (length f.links.rows)
    → l.name ≡ name → l.a ≡ a → l.b ≡ b → AreEntitiesOf t s → AreLinksOf f s → attributes_full s ≡ false → sound ≡ is_sound kind.Link l
    → flaw_if order OutOfOrder (flaw_if (not sound) NoRecord (flaw_if taken NameTaken (flaw_if (not there) Hanging (flaw_if many TooMany None))))
    ≡ flaw_of (λ k. end) kind.Link number l s
told_link t f number end order sound taken there many name a b l s order_is taken_is there_is many_is name_is a_is b_is of_entities of_links few sound_is =
    let order_same : order ≡ is_out_of_order (λ k. end) kind.Link number s = order_is ∙ ap (λ (rows : Table Link). nat_lt number rows.next || nat_le end number) (sym of_links.links) in
    let named : is_ok (found name f) ≡ is_some (link_named f.links.rows name) = found_named _ _ (link_named f.links.rows name) in
    let taken_same : taken ≡ is_name_taken kind.Link l s =
    taken_is ∙ named ∙ ap (λ (rows : Table Link). is_some (link_named rows.rows name)) (sym of_links.links) ∙ ap (λ n. is_some (link_named s.links.rows n)) (sym name_is) in
    let there_same : there ≡ is_supported kind.Link s (number, l) =
    there_is ∙ ap (λ (rows : Table Router). is_present rows.rows a && is_present rows.rows b) (sym of_entities.routers)
    ∙ ap (λ n. is_present s.routers.rows n && is_present s.routers.rows b) (sym a_is) ∙ ap (λ n. is_present s.routers.rows l.a && is_present s.routers.rows n) (sym b_is) in
    let many_same : many ≡ is_one_too_many kind.Link number l s =
    many_is ∙ ap (λ (rows : Table Link). nat_le (limit kind.Link) (length rows.rows)) (sym of_links.links) ∙ sym (or-false (nat_le (limit kind.Link) (length s.links.rows)))
    ∙ ap (λ full. nat_le (limit kind.Link) (length s.links.rows) || full) (sym few) in
    λ i. flaw_if (order_same i) OutOfOrder (flaw_if (not (sound_is i)) NoRecord (flaw_if (taken_same i) NameTaken (flaw_if (not (there_same i)) Hanging (flaw_if (many_same i) TooMany None))))
