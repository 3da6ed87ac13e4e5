-- Laws of the links that a fabric keeps: what each change leaves of it.
use Rattle.std.proofs.Common.{◌≡◌, ℕ, ◌≤◌, ◌<◌, ◌==◌, nat_lt, Bool, true, false, cond, not, ◌&&◌, List, length, Result, Ok, Err, is_some, Option, Some, None, refl, ap, arith, ltb-true}
use Rattle.std.proofs.lemmas.Bool.{and_parts, and_from}
use Rattle.std.proofs.lemmas.List.{length-map}
use Rattle.std.specs.Bool.{⊤}
use Rattle.ctrl_model.specs.ValueForms.{is_link_cost, is_latency}
use Rattle.ctrl_model.specs.Numbered.{Table, with_new, edit_at, without, with_removed}
use Rattle.ctrl_model.specs.State.{Link, link_named}
use Rattle.ctrl_model.proofs.NumberedLaws.{length-with_last, length-filter-le}
use Rattle.ctrl_model.proofs.TableLaws.{each_passes-more, each_passes-with_last, each_passes-map, each_passes-filter}
use Rattle.ctrl_model.specs.ValidState.{each_passes}
use Rattle.ctrl_model.specs.Walks.{is_among}
use Rattle.record_tables.specs.AfterChange.{without_numbers}
use Rattle.record_tables.specs.Entries.{KeepsOrder}
use Rattle.fabric_graph.specs.declared.fabric.FabricFault.{FabricFault}
use Rattle.fabric_graph.specs.declared.fabric.FabricFault.TheVariants.{Exists, SameRouter, Full}
use Rattle.fabric_graph.specs.FabricTables.{FabricSeen}
use Rattle.fabric_graph.specs.FabricRules.{may_add, has_link_room, has_costs, KeepsLinks, is_fit}
use Rattle.fabric_graph.specs.KeptLinks.{AreFit}

-- what a fabric keeps, by the order of its table and what is kept of each link
pub keeps : (t : Table Link) (least : ℕ) → KeepsOrder t → AreFit t least → KeepsLinks (record { links = t; least = least })
keeps t least order k = record {
  first = order.first;
  last = order.last;
  ordered = order.ordered;
  few = k.few;
  fit = k.each;
  costs = each_passes-more is_fit has_costs (λ l e. (and_parts (not (l.a == l.b)) (has_costs l) e).1) t.rows k.each;
  setting = k.setting;
}

-- ---- when a link may be added

pub record MayAdd (name : List ℕ) (a b : ℕ) (f : FabricSeen) : Type 0 where
  pub free : link_named f.links.rows name ≡ None
  pub room : (length f.links.rows < 4096) × (f.links.next < 4294967295)
  pub apart : (a == b) ≡ false

pub may_parts : (name : List ℕ) (a b : ℕ) (f : FabricSeen) → may_add name a b f ≡ Ok tt → MayAdd name a b f
may_parts name a b f e = by (link_named f.links.rows name) (has_link_room f) (a == b) refl refl refl e
  where
    by : (o : Option ℕ) (room same : Bool) → link_named f.links.rows name ≡ o → has_link_room f ≡ room → (a == b) ≡ same
        → ◌≡◌ {A = Result ⊤ FabricFault} (cond (is_some o) (Err Exists) (cond room (cond same (Err SameRouter) (Ok tt)) (Err Full))) (Ok tt) → MayAdd name a b f
    by (Some n) room same p q r e = absurd (cc)
    by None false same p q r e = absurd (cc)
    by None true true p q r e = absurd (cc)
    by None true false p q r e =
        let both = and_parts (nat_lt (length f.links.rows) 4096) (nat_lt f.links.next 4294967295) q in
        record { free = p; room = (ltb-true (length f.links.rows) 4096 both.0, ltb-true f.links.next 4294967295 both.1); apart = r }

-- ---- each change

fit_from : (a b c d : Bool) → a ≡ true → b ≡ true → c ≡ true → d ≡ true → (a && (b && (c && d))) ≡ true
fit_from a b c d p q r s = and_from a (b && (c && d)) p (and_from b (c && d) q (and_from c d r s))

pub fit_add : (t : Table Link) (least : ℕ) (l : Link) → AreFit t least → may_add l.name l.a l.b (record { links = t; least = least }) ≡ Ok tt
    → is_link_cost l.cost ≡ true → is_latency l.latency_a ≡ true → is_latency l.latency_b ≡ true → AreFit (with_new l t) least
fit_add t least l k may cost latency_a latency_b =
    let parts = may_parts l.name l.a l.b (record { links = t; least = least }) may in
    let more = length-with_last t.rows t.next l in
    let room = parts.room.0 in
    record {
      few = omega arith;
      each = each_passes-with_last is_fit t.rows t.next l k.each (fit_from (not (l.a == l.b)) (is_link_cost l.cost) (is_latency l.latency_a) (is_latency l.latency_b) (ap not parts.apart) cost latency_a latency_b);
      setting = k.setting;
    }

-- a change of the costs of a link, and of whether it is up
abbrev pub set_to : ℕ → ℕ → ℕ → Bool → Link → Link
set_to cost latency_a latency_b up l = record l { cost = cost; latency_a = latency_a; latency_b = latency_b; up = up }

-- other costs in their ranges leave links fit
set_fit : (rows : List (ℕ × Link)) (n cost latency_a latency_b : ℕ) (up : Bool) → each_passes is_fit rows ≡ true
    → is_link_cost cost ≡ true → is_latency latency_a ≡ true → is_latency latency_b ≡ true
    → each_passes is_fit (edit_at rows n (set_to cost latency_a latency_b up)) ≡ true
set_fit rows n cost latency_a latency_b up each c a b = each_passes-map is_fit is_fit (λ x. cond (x.0 == n) (set_to cost latency_a latency_b up x.1) x.1) (λ x p. by (x.0 == n) x.1 p) rows each
  where
    by : (d : Bool) (l : Link) → is_fit l ≡ true → is_fit (cond d (set_to cost latency_a latency_b up l) l) ≡ true
    by true l p =
        let both = and_parts (not (l.a == l.b)) (is_link_cost l.cost && (is_latency l.latency_a && is_latency l.latency_b)) p in
        fit_from (not (l.a == l.b)) (is_link_cost cost) (is_latency latency_a) (is_latency latency_b) both.0 c a b
    by false l p = p

pub fit_set : (t : Table Link) (least n cost latency_a latency_b : ℕ) (up : Bool) → AreFit t least
    → is_link_cost cost ≡ true → is_latency latency_a ≡ true → is_latency latency_b ≡ true
    → AreFit (record t { rows = edit_at t.rows n (set_to cost latency_a latency_b up) }) least
fit_set t least n cost latency_a latency_b up k c a b = record {
  few = rw (length-map {B = ℕ × Link} t.rows (λ x. (x.0, cond (x.0 == n) (set_to cost latency_a latency_b up x.1) x.1))) k.few;
  each = set_fit t.rows n cost latency_a latency_b up k.each c a b;
  setting = k.setting;
}

pub fit_gone : (t : Table Link) (least : ℕ) (gone : List ℕ) → AreFit t least → AreFit (without_numbers gone t) least
fit_gone t least gone k =
    let fewer : length (without_numbers gone t).rows ≤ length t.rows = length-filter-le _ _ in
    let few = k.few in
    record { few = omega arith; each = each_passes-filter is_fit (λ x. not (is_among x.0 gone)) t.rows k.each; setting = k.setting }

pub fit_remove : (t : Table Link) (least n : ℕ) → AreFit t least → AreFit (with_removed n t) least
fit_remove t least n k =
    let fewer : length (without t.rows n) ≤ length t.rows = length-filter-le _ _ in
    let few = k.few in
    record { few = omega arith; each = each_passes-filter is_fit (λ x. not (x.0 == n)) t.rows k.each; setting = k.setting }
