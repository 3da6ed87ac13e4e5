-- When a link may join two routers, and what the plan of making it has to show.
use Rattle.std.proofs.Common.{◌≡◌, ℕ, ◌==◌, bytes_eq, Bool, true, false, cond, not, List, is_some, Option, None, Some, Result, Ok, Err, refl, sym, ◌∙◌, ap, eq-eqb, eqb-true}
use Rattle.std.proofs.lemmas.Bool.{both_ways}
use Rattle.std.proofs.lemmas.Option.{same_Some}
use Rattle.std.specs.Bool.{⊤}
use Rattle.ctrl_model.specs.declared.kinds.Kind.TheVariants as kind
use Rattle.ctrl_model.specs.declared.numbering.RouterNo.{RouterNo}
use Rattle.ctrl_model.specs.declared.refusals.Field.TheVariants as field
use Rattle.ctrl_model.specs.declared.refusals.Refusal.{Refusal}
use Rattle.ctrl_model.specs.declared.refusals.Refusal.TheVariants as refusal
use Rattle.ctrl_model.specs.declared.replies.Reply.TheVariants.{Made}
use Rattle.ctrl_model.specs.ValueForms.{is_link_cost, is_latency}
use Rattle.ctrl_model.specs.LinkCommands.{create_link, after_create_link, refusal_of_create_link}
use Rattle.ctrl_model.specs.Numbered.{at, with_new}
use Rattle.ctrl_model.specs.Rules.{or_then, refuse_if, unknown_if_absent, exists_if_present, at_number}
use Rattle.ctrl_model.specs.State.{State, Router, link_named, router_named}
use Rattle.ctrl_model.specs.ValidState.{ValidState}
use Rattle.ctrl_model.proofs.DistinctLaws.{same_name, same_bytes}
use Rattle.ctrl_model.proofs.TableLaws.{found-named}
use Rattle.entity_store.specs.EntityTables.{Tables}
use Rattle.fabric_graph.specs.declared.fabric.FabricFault.{FabricFault}
use Rattle.fabric_graph.specs.declared.fabric.FabricFault.TheVariants as fault
use Rattle.fabric_graph.specs.FabricTables.{FabricSeen}
use Rattle.fabric_graph.specs.FabricRules.{may_add, has_link_room}
use Rattle.fabric_graph.specs.declared.changes.LinkChange.TheVariants as change
use Rattle.fabric_graph.specs.declared.changes.LinkChange.{LinkChange}
use Rattle.model_laws.specs.declared.plans.Plan.{Plan}
use Rattle.model_laws.specs.Plans.{changed, tells_change}
use Rattle.link_commands.specs.LinkChanges.{over}
use Rattle.link_commands.specs.LinkPlans.{TellsChange}
use Rattle.link_commands.specs.PlannedLinks.{Answers, Joins, RefusesJoin}
use Rattle.link_commands.proofs.PlanLaws.{planned}

-- the refusal of making a link, by what it is judged on
abbrev judged : Option ℕ → Option ℕ → Option ℕ → Bool → Bool → Option Refusal
judged taken from to room same =
    or_then (exists_if_present taken)
    (or_then (unknown_if_absent field.A from)
    (or_then (unknown_if_absent field.B to)
    (or_then (refuse_if (not room) (refusal.Full kind.Link)) (refuse_if same refusal.SameRouter))))

-- two names are one exactly where the numbers that they find are
same_ends : (s : State) → ValidState s → (a b : List ℕ) (from to : ℕ) → router_named s.routers.rows a ≡ Some from → router_named s.routers.rows b ≡ Some to → bytes_eq a b ≡ (from == to)
same_ends s valid a b from to starts ends = by (bytes_eq a b) (from == to) refl refl
  where
    one : bytes_eq a b ≡ true → from ≡ to
    one e = same_Some from to (sym starts ∙ ap (router_named s.routers.rows) (same_name a b e) ∙ ends)

    other : from ≡ to → a ≡ b
    other e =
        let x = found-named (λ (r : Router). r.name) s.routers.rows from a s.routers.next 1 (valid.kinds kind.Router).numbers.ordered starts in
        let y = found-named (λ (r : Router). r.name) s.routers.rows to b s.routers.next 1 (valid.kinds kind.Router).numbers.ordered ends in
        sym x.2 ∙ ap (λ (r : Router). r.name) (same_Some x.0 y.0 (sym x.1 ∙ ap (at s.routers.rows) e ∙ y.1)) ∙ y.2

    by : (c d : Bool) → bytes_eq a b ≡ c → (from == to) ≡ d → c ≡ d
    by true true p q = refl
    by false false p q = refl
    by true false p q = absurd (both_ways (from == to) q (eq-eqb from to (one p)))
    by false true p q = absurd (both_ways (bytes_eq a b) p (same_bytes a b (other (eqb-true from to q))))

-- a name that is free, with room for the link: the ends alone decide
record MayEnd (name : List ℕ) (from to : ℕ) (f : FabricSeen) (same : Bool) : Type 0 where
  pub free : link_named f.links.rows name ≡ None
  pub room : has_link_room f ≡ true
  pub ends : (from == to) ≡ same

abbrev ended : Bool → Result ⊤ FabricFault
ended same = cond same (Err fault.SameRouter) (Ok tt)

may_end : (name : List ℕ) (from to : ℕ) (f : FabricSeen) (same : Bool) → may_add name from to f ≡ ended same → MayEnd name from to f same
may_end name from to f same e = by (link_named f.links.rows name) (has_link_room f) (from == to) same refl refl refl e
  where
    by : (o : Option ℕ) (room c d : Bool) → link_named f.links.rows name ≡ o → has_link_room f ≡ room → (from == to) ≡ c
        → cond (is_some o) (Err fault.Exists) (cond room (ended c) (Err fault.Full)) ≡ ended d → MayEnd name from to f d
    by (Some n) room c true p q r h = absurd (cc)
    by (Some n) room c false p q r h = absurd (cc)
    by None false c true p q r h = absurd (cc)
    by None false c false p q r h = absurd (cc)
    by None true true false p q r h = absurd (cc)
    by None true false true p q r h = absurd (cc)
    by None true true true p q r h = record { free = p; room = q; ends = r }
    by None true false false p q r h = record { free = p; room = q; ends = r }

judged_so : (name a b : List ℕ) (t : Tables) (f : FabricSeen) (s : State) (from to : ℕ) (same : Bool) → ValidState (over t f s)
    → router_named t.routers.rows a ≡ Some from → router_named t.routers.rows b ≡ Some to → may_add name from to f ≡ ended same
    → refusal_of_create_link name a b (over t f s) ≡ refuse_if same refusal.SameRouter
judged_so name a b t f s from to same valid starts ends may =
    let parts = may_end name from to f same may in
    let one = same_ends (over t f s) valid a b from to starts ends ∙ parts.ends in
    λ i. judged (parts.free i) (starts i) (ends i) (parts.room i) (one i)

-- one router at both ends
pub same_router_refused : (name a b : List ℕ) (t : Tables) (f : FabricSeen) (from to : ℕ) → router_named t.routers.rows a ≡ Some from → router_named t.routers.rows b ≡ Some to
    → may_add name from to f ≡ Err fault.SameRouter → RefusesJoin name a b t f refusal.SameRouter
same_router_refused name a b t f from to starts ends may s valid = judged_so name a b t f s from to true valid starts ends may

pub create_planned : (name a b : List ℕ) (cost latency_a latency_b : ℕ) (t : Tables) (f : FabricSeen) (from to : RouterNo) (kept : List ℕ) (n : ℕ) (p : Plan LinkChange)
    → is_link_cost cost ≡ true → is_latency latency_a ≡ true → is_latency latency_b ≡ true → Joins name a b t f from.0 to.0 → kept ≡ name → n ≡ f.links.next
    → p ≡ changed (Made n) (change.Add (record { name = kept; a = from.0; b = to.0; cost = cost; latency_a = latency_a; latency_b = latency_b; up = true }))
    → Answers (create_link name a b cost latency_a latency_b) t f p
create_planned name a b cost latency_a latency_b t f from to kept n p c d e joins is_name is_next is s valid =
    planned p (Made f.links.next) (change.Add (record { name = name; a = from.0; b = to.0; cost = cost; latency_a = latency_a; latency_b = latency_b; up = true }))
    (refusal_of_create_link name a b (over t f s)) (over t f s) (after_create_link name a b cost latency_a latency_b (over t f s))
    (judged_so name a b t f s from.0 to.0 false valid joins.starts joins.ends joins.may) refl (joins.may, c, d, e)
    (sym (ap (λ o. at_number o (over t f s) (λ x. at_number (router_named t.routers.rows b) (over t f s) (λ y. linked x y))) joins.starts
    ∙ ap (λ o. at_number o (over t f s) (λ y. linked from.0 y)) joins.ends))
    (is ∙ (λ i. changed (Made (is_next i)) (change.Add (record { name = is_name i; a = from.0; b = to.0; cost = cost; latency_a = latency_a; latency_b = latency_b; up = true }))))
  where
    linked : ℕ → ℕ → State
    linked x y = record (over t f s) {
      links = with_new (record { name = name; a = x; b = y; cost = cost; latency_a = latency_a; latency_b = latency_b; up = true }) f.links;
    }

-- where two routers may be joined, the answer tells a change
pub create_told : (name a b : List ℕ) (cost latency_a latency_b : ℕ) (t : Tables) (f : FabricSeen) (from to : RouterNo)
    → is_link_cost cost ≡ true → is_latency latency_a ≡ true → is_latency latency_b ≡ true → Joins name a b t f from.0 to.0
    → TellsChange (create_link name a b cost latency_a latency_b) t f
create_told name a b cost latency_a latency_b t f from to c d e joins = λ s valid.
    ap tells_change (sym (create_planned name a b cost latency_a latency_b t f from to name f.links.next _ c d e joins refl refl refl s valid).reply)
