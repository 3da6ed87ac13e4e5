-- The commands on links and on the least router cost keep a state valid.
use Rattle.std.proofs.Common.{◌≡◌, ℕ, ◌==◌, Bool, true, false, cond, not, ◌&&◌, List, None, Some, refl, sym, ◌∙◌, ap, ne_eqb, bytes_eq}
use Rattle.std.proofs.lemmas.Bool.{and_from, both_ways}
use Rattle.ctrl_model.specs.declared.kinds.Kind.{Kind}
use Rattle.ctrl_model.specs.declared.kinds.Kind.TheVariants as kind
use Rattle.ctrl_model.specs.declared.refusals.Field.TheVariants as field
use Rattle.ctrl_model.specs.declared.refusals.Refusal.TheVariants.{Full, SameRouter}
use Rattle.ctrl_model.specs.declared.replies.Reply.TheVariants.{Done, Made}
use Rattle.ctrl_model.specs.Limits.{limit}
use Rattle.ctrl_model.specs.NameForm.{is_name}
use Rattle.ctrl_model.specs.Numbered.{at}
use Rattle.ctrl_model.specs.State.{State, Router, Link}
use Rattle.ctrl_model.specs.Tables.{table, named}
use Rattle.ctrl_model.specs.ValueForms.{is_link_cost, is_latency}
use Rattle.ctrl_model.specs.Rules.{unknown_if_absent}
use Rattle.ctrl_model.specs.RecordCommands.{after_edit}
use Rattle.ctrl_model.specs.LinkCommands.{create_link, after_create_link, refusal_of_create_link, set_link_cost, after_set_link_cost, refusal_of_report, with_latency, report_latency, after_report_latency, report_state, after_report_state, set_least_router_cost}
use Rattle.ctrl_model.specs.ValidState.{ValidState, ValidTable, is_valid_link}
use Rattle.ctrl_model.proofs.DistinctLaws.{same_name, same_bytes}
use Rattle.ctrl_model.proofs.NumberedLaws.{first_where-found}
use Rattle.model_laws.proofs.NamedLaws.{and_more}
use Rattle.model_laws.proofs.RefusalLaws.{or_then-none, refuse_if-none, exists_if_present-none, full-none, at_number-holds}
use Rattle.ctrl_model.proofs.TableLaws.{valid-more}
use Rattle.model_laws.proofs.ValidLaws.{Follows, Orderly, AreClaimed-from_valid, Keeps-itself, claims_more, Orderly-from_valid, carried_out-follows, Orderly-create, Orderly-edit}

-- routers of different names are different
ends_apart : (s : State) → Orderly s → (a b : List ℕ) (from to : ℕ) → named kind.Router s a ≡ Some from → named kind.Router s b ≡ Some to
    → bytes_eq a b ≡ false → (from == to) ≡ false
ends_apart s o a b from to is_a is_b apart = ne_eqb from to (λ same.
    let ordered = (o.kinds kind.Router).numbers.ordered in
    let f = first_where-found (λ (r : Router). bytes_eq r.name a) s.routers.next s.routers.rows 1 from ordered is_a in
    let g = first_where-found (λ (r : Router). bytes_eq r.name b) s.routers.next s.routers.rows 1 to ordered is_b in
    let one : f.record_found ≡ g.record_found = cc (f.stands, g.stands, ap (at s.routers.rows) same) in
    both_ways (bytes_eq a b) apart
    (same_bytes a b (sym (same_name f.record_found.name a f.passes) ∙ ap (λ (r : Router). r.name) one ∙ same_name g.record_found.name b g.passes)))

pub create_link-follows : (name a b : List ℕ) (cost latency_a latency_b : ℕ) (s : State) → is_name name ≡ true
    → (is_link_cost cost && (is_latency latency_a && is_latency latency_b)) ≡ true → ValidState s → Follows s (create_link name a b cost latency_a latency_b s).1
create_link-follows name a b cost latency_a latency_b s spelled costs v =
    let o = Orderly-from_valid s v in
    carried_out-follows (refusal_of_create_link name a b s) s (Made s.links.next) (after_create_link name a b cost latency_a latency_b s) (λ none.
    let rules = or_then-none _ _ none in
    let ends = or_then-none (unknown_if_absent field.B (named kind.Router s b)) _ (or_then-none (unknown_if_absent field.A (named kind.Router s a)) _ rules.1).1 in
    let limits = or_then-none _ _ ends.1 in
    at_number-holds Orderly (named kind.Router s a) s _ o (λ from is_a. at_number-holds Orderly (named kind.Router s b) s _ o (λ to is_b.
    let new : Link = record { name = name; a = from; b = to; cost = cost; latency_a = latency_a; latency_b = latency_b; up = true } in
    Orderly-create kind.Link new s o (λ h. exists_if_present-none (named kind.Link s name) rules.0)
    (full-none (limit kind.Link) (table kind.Link s) (Full kind.Link) limits.0)
    (and_from _ _ spelled (and_from _ _ (ap not (ends_apart s o a b from to is_a is_b (refuse_if-none (bytes_eq a b) SameRouter limits.1))) costs)) o.attributes)))

-- a change of one link that keeps its name, and keeps it valid
edit_link-orderly : (n : ℕ) (f : Link → Link) (s : State) → Orderly s → ((l : Link) → (f l).name ≡ l.name)
    → ((l : Link) → is_valid_link l ≡ true → is_valid_link (f l) ≡ true) → Orderly (after_edit kind.Link n f s)
edit_link-orderly n f s o keeps passes = Orderly-edit kind.Link n f s o keeps passes o.attributes

pub set_link_cost-follows : (link : List ℕ) (cost : ℕ) (s : State) → is_link_cost cost ≡ true → ValidState s → Follows s (set_link_cost link cost s).1
set_link_cost-follows link cost s fits v =
    let o = Orderly-from_valid s v in
    carried_out-follows (unknown_if_absent field.Link (named kind.Link s link)) s Done (after_set_link_cost link cost s) (λ none.
    at_number-holds Orderly (named kind.Link s link) s _ o (λ n is.
    edit_link-orderly n (λ l. record l { cost = cost }) s o (λ l. refl)
    (λ l t. and_more _ _ _ _ (λ u. u) (and_more _ _ _ _ (λ u. u) (and_more _ _ _ _ (λ u. fits) (λ u. u))) t)))

pub report_latency-follows : (link router : List ℕ) (latency : ℕ) (s : State) → is_latency latency ≡ true → ValidState s
    → Follows s (report_latency link router latency s).1
report_latency-follows link router latency s fits v =
    let o = Orderly-from_valid s v in
    carried_out-follows (refusal_of_report link router s) s Done (after_report_latency link router latency s) (λ none.
    at_number-holds Orderly (named kind.Router s router) s _ o (λ r at_end. at_number-holds Orderly (named kind.Link s link) s _ o (λ n is.
    edit_link-orderly n (with_latency r latency) s o (λ l. refl)
    (λ l t. and_more (is_name l.name) _ _ _ (λ u. u) (and_more (not (l.a == l.b)) _ _ _ (λ u. u) (and_more (is_link_cost l.cost) _ _ _ (λ u. u)
    (and_more _ _ _ _ (either (l.a == r) l.latency_a) (either (l.b == r) l.latency_b)))) t))))
  where
    either : (b : Bool) (old : ℕ) → is_latency old ≡ true → is_latency (cond b latency old) ≡ true
    either true old e = fits
    either false old e = e

pub report_state-follows : (link router : List ℕ) (up : Bool) (s : State) → ValidState s → Follows s (report_state link router up s).1
report_state-follows link router up s v =
    let o = Orderly-from_valid s v in
    carried_out-follows (refusal_of_report link router s) s Done (after_report_state link up s) (λ none.
    at_number-holds Orderly (named kind.Link s link) s _ o (λ n is. edit_link-orderly n (λ l. record l { up = up }) s o (λ l. refl) (λ l t. t)))

pub set_least_router_cost-follows : (cost : ℕ) (s : State) → is_link_cost cost ≡ true → ValidState s → Follows s (set_least_router_cost cost s).1
set_least_router_cost-follows cost s fits v =
    carried_out-follows None s Done (record s { least_router_cost = cost }) (λ none. record { kinds = kinds; setting = fits; attributes = v.attributes; claims = claims_more s (record s { least_router_cost = cost }) refl refl (Keeps-itself s.services) (AreClaimed-from_valid s v) })
  where
    kinds : (k : Kind) → ValidTable k (record s { least_router_cost = cost }) (table k (record s { least_router_cost = cost }))
    kinds kind.Link = valid-more (v.kinds kind.Link) (record s { least_router_cost = cost }) (λ q e. e)
    kinds k = valid-more (v.kinds k) (record s { least_router_cost = cost }) (λ q e. e)
