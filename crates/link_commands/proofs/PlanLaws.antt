-- What the plans of commands on present links have to show.
use Rattle.std.proofs.Common.{◌≡◌, ℕ, ◌==◌, Bool, true, false, cond, List, is_some, Option, None, Some, refl, sym, ◌∙◌, ap, subst, eqb-true}
use Rattle.std.proofs.lemmas.Option.{none-some, same_Some}
use Rattle.std.specs.Option.{option_map, option_map_or, ok_or, IsSome}
use Rattle.std.specs.Result.{result_ok}
use Rattle.ctrl_model.specs.declared.kinds.Kind.TheVariants as kind
use Rattle.ctrl_model.specs.declared.numbering.LinkNo.{LinkNo}
use Rattle.ctrl_model.specs.declared.refusals.Field.TheVariants as field
use Rattle.ctrl_model.specs.declared.refusals.Refusal.{Refusal}
use Rattle.ctrl_model.specs.declared.replies.Reply.{Reply}
use Rattle.ctrl_model.specs.declared.replies.Reply.TheVariants.{Done}
use Rattle.ctrl_model.specs.ValueForms.{is_link_cost, is_latency}
use Rattle.ctrl_model.specs.NameForm.{is_name}
use Rattle.ctrl_model.specs.LinkCommands.{is_end_of, with_latency, refusal_of_report, set_link_cost, report_latency, report_state, delete_link, set_least_router_cost, after_set_link_cost, after_report_latency, after_report_state}
use Rattle.ctrl_model.specs.Numbered.{at, edit_at, with_edit, with_removed, Between}
use Rattle.ctrl_model.specs.RecordCommands.{after_delete}
use Rattle.ctrl_model.specs.Rules.{or_then, carried_out, unknown_if_absent, at_number}
use Rattle.ctrl_model.specs.State.{State, Link, link_named, router_named}
use Rattle.ctrl_model.specs.ValidState.{ValidState, is_valid_link}
use Rattle.ctrl_model.proofs.NumberedLaws.{at-edit_at, Between-edit_at, same_numbered}
use Rattle.ctrl_model.proofs.TableLaws.{each_passes-at, found-named}
use Rattle.ctrl_model.proofs.Tests.{five_parts}
use Rattle.entity_store.specs.EntityTables.{Tables}
use Rattle.fabric_graph.specs.declared.fabric.FabricFault.TheVariants.{Unknown}
use Rattle.fabric_graph.specs.FabricRules.{found, KeepsLinks}
use Rattle.fabric_graph.specs.FabricTables.{FabricSeen}
use Rattle.fabric_graph.specs.Routers.{fabric_of}
use Rattle.fabric_graph.specs.declared.changes.LinkChange.{LinkChange}
use Rattle.fabric_graph.specs.declared.changes.LinkChange.TheVariants as change
use Rattle.model_laws.specs.declared.plans.Plan.{Plan}
use Rattle.model_laws.specs.Plans.{changed, tells_change}
use Rattle.model_laws.proofs.PlannedLaws.{plans_carried}
use Rattle.fabric_graph.specs.FabricChanges.{after_link_change}
use Rattle.link_commands.specs.LinkChanges.{with_fabric, over, CanChangeLinks}
use Rattle.link_commands.specs.LinkPlans.{PlansLinks}
use Rattle.link_commands.specs.PlannedLinks.{Answers, IsLink, Reports, end_of}

-- where no refusal comes, the change leads to the settled effect
pub planned : (p : Plan LinkChange) (reply : Reply) (c : LinkChange) (o : Option Refusal) (s effect : State) → o ≡ None → tells_change reply ≡ true
    → CanChangeLinks c (fabric_of s) → with_fabric (after_link_change c (fabric_of s)) s ≡ effect → p ≡ changed reply c → PlansLinks p (carried_out o s reply effect) s
planned p reply c o s effect e tells can leads is =
    subst (λ q. PlansLinks q (carried_out o s reply effect) s) (sym is) (plans_carried c o s reply effect e tells can leads)

-- changes that agree on a record agree on all where it stands
same_edit : {R : Type 0} (high : ℕ) (rows : List (ℕ × R)) (low n : ℕ) (r : R) (g h : R → R) → Between low high rows → at rows n ≡ Some r → g r ≡ h r
    → edit_at rows n g ≡ edit_at rows n h
same_edit {R} high rows low n r g h b stands e =
    same_numbered high (edit_at rows n g) (edit_at rows n h) low (Between-edit_at high rows low n g b) (Between-edit_at high rows low n h b)
    (λ m. at-edit_at rows n m g ∙ by m (at rows m) refl (m == n) refl ∙ sym (at-edit_at rows n m h))
  where
    by : (m : ℕ) (o : Option R) → at rows m ≡ o → (c : Bool) → (m == n) ≡ c → option_map (λ q. cond c (g q) q) o ≡ option_map (λ q. cond c (h q) q) o
    by m None is c same = refl
    by m (Some q) is false same = refl
    by m (Some q) is true same =
        let one : q ≡ r = same_Some q r (sym is ∙ ap (at rows) (eqb-true m n same) ∙ stands) in
        ap Some (ap g one ∙ e ∙ sym (ap h one))

-- a present link that is set to what an effect makes of it
set_planned : (p : Plan LinkChange) (n : LinkNo) (l : Link) (cost latency_a latency_b : ℕ) (up : Bool) (f : FabricSeen) (s : State) (o : Option Refusal) (effect : Link → Link) (after : State)
    → fabric_of s ≡ f → Between 1 f.links.next f.links.rows → at f.links.rows n.0 ≡ Some l → is_link_cost cost ≡ true → is_latency latency_a ≡ true → is_latency latency_b ≡ true
    → record l { cost = cost; latency_a = latency_a; latency_b = latency_b; up = up } ≡ effect l → o ≡ None
    → with_fabric (record f { links = with_edit n.0 effect f.links }) s ≡ after → p ≡ changed Done (change.Set n cost latency_a latency_b up)
    → PlansLinks p (carried_out o s Done after) s
set_planned p n l cost latency_a latency_b up f s o effect after of b stands c a d e none leads is =
    planned p Done (change.Set n cost latency_a latency_b up) o s after none refl
    (subst (λ g. CanChangeLinks (change.Set n cost latency_a latency_b up) g) (sym of) (ap is_some stands, c, a, d))
    (ap (λ g. with_fabric (after_link_change (change.Set n cost latency_a latency_b up) g) s) of
    ∙ ap (λ rows. with_fabric (record f { links = record f.links { rows = rows } }) s)
    (same_edit f.links.next f.links.rows 1 n.0 l (λ r. record r { cost = cost; latency_a = latency_a; latency_b = latency_b; up = up }) effect b stands e)
    ∙ leads) is

-- the ranges of a present link's costs
record InRange (l : Link) : Type 0 where
  pub cost : is_link_cost l.cost ≡ true
  pub latency_a : is_latency l.latency_a ≡ true
  pub latency_b : is_latency l.latency_b ≡ true

in_range : (s : State) (n : ℕ) (l : Link) → ValidState s → at s.links.rows n ≡ Some l → InRange l
in_range s n l valid stands =
    let parts = five_parts (is_name l.name) _ (is_link_cost l.cost) (is_latency l.latency_a) (is_latency l.latency_b)
    (each_passes-at is_valid_link s.links.rows n l (valid.kinds kind.Link).each stands) in
    record { cost = parts.2; latency_a = parts.3; latency_b = parts.4 }

-- ---- the commands

pub least_planned : (cost : ℕ) (p : Plan LinkChange) → is_link_cost cost ≡ true → p ≡ changed Done (change.SetLeast cost)
    → (t : Tables) (f : FabricSeen) → Answers (set_least_router_cost cost) t f p
least_planned cost p fits is t f s valid = planned p Done (change.SetLeast cost) None (over t f s) (record (over t f s) { least_router_cost = cost }) refl refl fits refl is

pub delete_planned : (link : List ℕ) (f : FabricSeen) (n : LinkNo) (l : Link) (p : Plan LinkChange) → IsLink link f n.0 l → p ≡ changed Done (change.Remove n)
    → (t : Tables) → Answers (delete_link link) t f p
delete_planned link f n l p there is t s valid =
    planned p Done (change.Remove n) (unknown_if_absent field.Link (link_named f.links.rows link)) (over t f s) (after_delete kind.Link link (over t f s))
    (ap (unknown_if_absent field.Link) there.named) refl (ap is_some there.stands)
    (sym (ap (λ o. at_number o (over t f s) (λ m. record (over t f s) { links = with_removed m f.links })) there.named)) is

pub cost_planned : (link : List ℕ) (cost : ℕ) (f : FabricSeen) (n : LinkNo) (l : Link) (p : Plan LinkChange) → is_link_cost cost ≡ true → IsLink link f n.0 l
    → p ≡ changed Done (change.Set n cost l.latency_a l.latency_b l.up) → (t : Tables) → Answers (set_link_cost link cost) t f p
cost_planned link cost f n l p fits there is t s valid =
    let ranges = in_range (over t f s) n.0 l valid there.stands in
    set_planned p n l cost l.latency_a l.latency_b l.up f (over t f s) (unknown_if_absent field.Link (link_named f.links.rows link)) (λ r. record r { cost = cost })
    (after_set_link_cost link cost (over t f s)) refl (valid.kinds kind.Link).numbers.ordered there.stands fits ranges.latency_a ranges.latency_b refl
    (ap (unknown_if_absent field.Link) there.named)
    (sym (ap (λ o. at_number o (over t f s) (λ m. record (over t f s) { links = with_edit m (λ r. record r { cost = cost }) f.links })) there.named)) is

-- ---- reports

report_allowed : (link router : List ℕ) (t : Tables) (f : FabricSeen) (s : State) (n : ℕ) (l : Link) (reporter : ℕ) → Reports link router t f n l reporter
    → refusal_of_report link router (over t f s) ≡ None
report_allowed link router t f s n l reporter reports =
    ap (λ o. or_then (unknown_if_absent field.Link o) (unknown_if_absent field.Router (option_map_or (λ r. end_of router r t) (option_map_or (at f.links.rows) o None) None))) reports.is_link.named
    ∙ ap (λ o. unknown_if_absent field.Router (option_map_or (λ r. end_of router r t) o None)) reports.is_link.stands
    ∙ ap (unknown_if_absent field.Router) reports.is_end

-- the reporting end is the router of the name
end_named : (router : List ℕ) (l : Link) (t : Tables) (reporter : ℕ) → end_of router l t ≡ Some reporter → router_named t.routers.rows router ≡ Some reporter
end_named router l t reporter e = by (router_named t.routers.rows router) e
  where
    is : (c : Bool) (q : ℕ) → cond c (Some q) None ≡ Some reporter → Some q ≡ Some reporter
    is true q h = h
    is false q h = absurd (none-some reporter h)

    by : (o : Option ℕ) → option_map_or (λ r. cond (is_end_of r l) (Some r) None) o None ≡ Some reporter → o ≡ Some reporter
    by None h = absurd (none-some reporter h)
    by (Some q) h = is (is_end_of q l) q h

pub state_planned : (link router : List ℕ) (up : Bool) (t : Tables) (f : FabricSeen) (n : LinkNo) (l : Link) (reporter : ℕ) (p : Plan LinkChange)
    → Reports link router t f n.0 l reporter → p ≡ changed Done (change.Set n l.cost l.latency_a l.latency_b up) → Answers (report_state link router up) t f p
state_planned link router up t f n l reporter p reports is s valid =
    let ranges = in_range (over t f s) n.0 l valid reports.is_link.stands in
    set_planned p n l l.cost l.latency_a l.latency_b up f (over t f s) (refusal_of_report link router (over t f s)) (λ r. record r { up = up })
    (after_report_state link up (over t f s)) refl (valid.kinds kind.Link).numbers.ordered reports.is_link.stands ranges.cost ranges.latency_a ranges.latency_b refl
    (report_allowed link router t f s n.0 l reporter reports)
    (sym (ap (λ o. at_number o (over t f s) (λ m. record (over t f s) { links = with_edit m (λ r. record r { up = up }) f.links })) reports.is_link.named)) is

-- a latency that is one of two in their range
either : (c : Bool) (latency old : ℕ) → is_latency latency ≡ true → is_latency old ≡ true → is_latency (cond c latency old) ≡ true
either true latency old e h = e
either false latency old e h = h

pub latency_planned : (link router : List ℕ) (latency : ℕ) (t : Tables) (f : FabricSeen) (n : LinkNo) (l : Link) (reporter latency_a latency_b : ℕ) (p : Plan LinkChange)
    → is_latency latency ≡ true → Reports link router t f n.0 l reporter
    → latency_a ≡ cond (l.a == reporter) latency l.latency_a → latency_b ≡ cond (l.b == reporter) latency l.latency_b
    → p ≡ changed Done (change.Set n l.cost latency_a latency_b l.up) → Answers (report_latency link router latency) t f p
latency_planned link router latency t f n l reporter latency_a latency_b p fits reports at_a at_b is s valid =
    let ranges = in_range (over t f s) n.0 l valid reports.is_link.stands in
    let ends = end_named router l t reporter reports.is_end in
    set_planned p n l l.cost latency_a latency_b l.up f (over t f s) (refusal_of_report link router (over t f s)) (with_latency reporter latency)
    (after_report_latency link router latency (over t f s)) refl (valid.kinds kind.Link).numbers.ordered reports.is_link.stands ranges.cost
    (subst (λ m. is_latency m ≡ true) (sym at_a) (either (l.a == reporter) latency l.latency_a fits ranges.latency_a))
    (subst (λ m. is_latency m ≡ true) (sym at_b) (either (l.b == reporter) latency l.latency_b fits ranges.latency_b))
    (λ i. record l { latency_a = at_a i; latency_b = at_b i }) (report_allowed link router t f s n.0 l reporter reports)
    (sym (ap (λ o. at_number o (over t f s) (λ r. at_number (link_named f.links.rows link) (over t f s) (λ m. record (over t f s) { links = with_edit m (with_latency r latency) f.links }))) ends
    ∙ ap (λ o. at_number o (over t f s) (λ m. record (over t f s) { links = with_edit m (with_latency reporter latency) f.links })) reports.is_link.named)) is

-- ---- the link of a name

-- a link that is found is there
pub found_there : {A : Type 0} (as_link : A → Link) (name : List ℕ) (f : FabricSeen) (n : LinkNo) (seen : Option A) → result_ok (found name f) ≡ Some n → KeepsLinks f
    → option_map as_link seen ≡ at f.links.rows n.0 → IsSome seen
found_there {A} as_link name f n seen e keeps is = by (link_named f.links.rows name) refl e
  where
    some : (o : Option A) (l : Link) → option_map as_link o ≡ Some l → IsSome o
    some None l h = absurd (none-some l h)
    some (Some x) l h = refl

    by : (o : Option ℕ) → link_named f.links.rows name ≡ o → result_ok (ok_or (option_map (λ m. record { 0 = m }) o) Unknown) ≡ Some n → IsSome seen
    by None p h = absurd (none-some n h)
    by (Some m) p h =
        let there = found-named (λ (l : Link). l.name) f.links.rows m name f.links.next 1 keeps.ordered p in
        let number : m ≡ n.0 = ap (λ (k : LinkNo). k.0) (same_Some (record { 0 = m }) n h) in
        some seen there.0 (is ∙ ap (at f.links.rows) (sym number) ∙ there.1)
