-- The records that one change adds: that the change can be made where the record has no flaw, and what a row's record comes by.
use Rattle.std.proofs.Common.{◌≡◌, ℕ, ◌≤◌, ◌<◌, ◌==◌, ◌&&◌, Bool, true, false, not, cond, nat_lt, length, Ok, Err, is_some, Option, None, Some, Result, refl, sym, ◌∙◌, ap, subst, arith}
use Rattle.std.proofs.lemmas.Bool.{and_from, and_parts, false≢true}
use Rattle.std.proofs.lemmas.Bool.Decides.{nat_tests}
use Rattle.std.proofs.lemmas.Grind.{common_steps}
use Rattle.std.specs.Prelude.{MatchOption, IfOk, ⊤}
use Rattle.ctrl_model.specs.declared.kinds.Kind.{Kind}
use Rattle.ctrl_model.specs.declared.kinds.Kind.TheVariants as kind
use Rattle.ctrl_model.specs.ValueForms.{is_latency, is_link_cost}
use Rattle.ctrl_model.specs.NameForm.{is_name}
use Rattle.ctrl_model.specs.Limits.{last_next, limit}
use Rattle.ctrl_model.specs.State.{State, Link, Terminator, Circuit, link_named}
use Rattle.ctrl_model.specs.Tables.{Record}
use Rattle.ctrl_model.specs.ValidState.{ValidState}
use Rattle.entity_store.specs.declared.changes.EntityChange.TheVariants as entity
use Rattle.policy_store.specs.declared.changes.PolicyChange.TheVariants as policy
use Rattle.fabric_graph.specs.declared.fabric.FabricFault.TheVariants.{Exists, SameRouter, Full}
use Rattle.fabric_graph.specs.declared.changes.LinkChange.TheVariants as link
use Rattle.terminators.specs.declared.changes.TermChange.TheVariants as term
use Rattle.circuits.specs.declared.changes.CircuitChange.TheVariants as circuit
use Rattle.record_flaws.specs.declared.coming.Coming.{Coming}
use Rattle.record_flaws.specs.SoundRows.{is_sound_row}
use Rattle.row_codec.specs.declared.rows.Row.{Row}
use Rattle.row_codec.specs.declared.rows.Row.TheVariants as row
use Rattle.state_building.specs.declared.flaws.Flaw.{Flaw}
use Rattle.state_building.specs.BuiltStates.{flaw_in, with_row}
use Rattle.state_building.specs.JoinedRecords.{joined, skipped}
use Rattle.state_building.proofs.JoinedStates.{IsFlawless-from}
use Rattle.core_stores.specs.declared.changes.Change.{Change}
use Rattle.core_stores.specs.declared.changes.Change.TheVariants as change
use Rattle.core_stores.specs.declared.stores.Stores.{Stores}
use Rattle.core_stores.specs.declared.new_records.NewRecord.{NewRecord}
use Rattle.core_stores.specs.NewRecords.{new_in}
use Rattle.ctrl_core.specs.Changes.{CanChange, after_change}
use Rattle.ctrl_core.specs.JoinedRows.{CanJoin, MayJoin}
use Rattle.ctrl_core.specs.NewRecords.{IsNew, is_sound_new, new_flaw_of}
use Rattle.ctrl_core.specs.TakenRows.{Takes}
use Rattle.ctrl_core.proofs.JoinedLaws.{above, joins_valid}

-- ---- that the change can be made

is_less : (a b : ℕ) → a < b → nat_lt a b ≡ true
is_less a b h = grind (arith, nat_tests)

is_false : (b : Bool) → not b ≡ true → b ≡ false
is_false true e = absurd (false≢true e)
is_false false e = refl

link_can : (n : ℕ) (l : Link) (s : State) → MayJoin kind.Link n l s → CanChange (change.Link (link.Add l)) (skipped kind.Link n s)
link_can n l s may =
    let f = IsFlawless-from (λ j. may.end) kind.Link n l s may.flawless in
    let last : may.end ≤ last_next = may.last in
    let below : n < may.end = f.below in
    let named = and_parts (is_name l.name) _ f.sound in
    let two = and_parts (not (l.a == l.b)) _ named.1 in
    let cost = and_parts (is_link_cost l.cost) _ two.1 in
    let late = and_parts (is_latency l.latency_a) (is_latency l.latency_b) cost.1 in
    let free : link_named s.links.rows l.name ≡ None = f.new refl in
    let room : (nat_lt (length s.links.rows) (limit kind.Link) && nat_lt n last_next) ≡ true = and_from _ _ (is_less _ _ f.few) (is_less n last_next (omega (arith, below, last))) in
    let other : (l.a == l.b) ≡ false = is_false (l.a == l.b) two.0 in
    ((λ i. cond (is_some (free i)) (Err Exists) (cond (room i) (cond (other i) (Err SameRouter) (Ok tt)) (Err Full))), cost.0, late.0, late.1)

term_can : (n : ℕ) (e : Terminator) (s : State) → MayJoin kind.Terminator n e s → CanChange (change.Terminator (term.Add e)) (skipped kind.Terminator n s)
term_can n e s may = grind (arith, common_steps)

circuit_can : (n : ℕ) (c : Circuit) (s : State) → MayJoin kind.Circuit n c s → CanChange (change.Circuit (circuit.Add c)) (skipped kind.Circuit n s)
circuit_can n c s may = grind (arith, common_steps)

-- it can be made where it leads to the state that the record joins
can_lead : (j k : Kind) (n : ℕ) (r : Record j) (c : Change) (s : State) → j ≡ k → ValidState s → MayJoin j n r s → after_change c (skipped j n s) ≡ joined j n r s
    → CanChange c (skipped j n s) → CanJoin k n c s
can_lead j k n r c s is v may leads can =
    subst (λ i. CanJoin i n c s) is (record { later = above j n r s may; can = can; valid = subst ValidState (sym leads) (joins_valid j n r s v may) })

pub can_join : (k : Kind) (n end : ℕ) (c : Change) (s : State) → IsNew k c → ValidState s → end ≤ last_next → new_flaw_of end n c s ≡ None → CanJoin k n c s
can_join k n end (change.Entity (entity.Add kind.Identity name attributes)) s new v last e =
    can_lead kind.Identity k n (record { name = name; attributes = attributes }) _ s new.0 v (record { end = end; last = last; flawless = e }) refl refl
can_join k n end (change.Entity (entity.Add kind.Service name attributes)) s new v last e =
    can_lead kind.Service k n (record { name = name; attributes = attributes }) _ s new.0 v (record { end = end; last = last; flawless = e }) refl refl
can_join k n end (change.Policy (policy.Add kind.ServicePolicy p)) s new v last e =
    can_lead kind.ServicePolicy k n p _ s new.0 v (record { end = end; last = last; flawless = e }) refl refl
can_join k n end (change.Policy (policy.Add kind.EdgeRouterPolicy p)) s new v last e =
    can_lead kind.EdgeRouterPolicy k n p _ s new.0 v (record { end = end; last = last; flawless = e }) refl refl
can_join k n end (change.Policy (policy.Add kind.ServiceEdgeRouterPolicy p)) s new v last e =
    can_lead kind.ServiceEdgeRouterPolicy k n p _ s new.0 v (record { end = end; last = last; flawless = e }) refl refl
can_join k n end (change.Link (link.Add l)) s new v last e =
    let may : MayJoin kind.Link n l s = record { end = end; last = last; flawless = e } in can_lead kind.Link k n l _ s new v may refl (link_can n l s may)
can_join k n end (change.Terminator (term.Add t)) s new v last e =
    let may : MayJoin kind.Terminator n t s = record { end = end; last = last; flawless = e } in can_lead kind.Terminator k n t _ s new v may refl (term_can n t s may)
can_join k n end (change.Circuit (circuit.Add c)) s new v last e =
    let may : MayJoin kind.Circuit n c s = record { end = end; last = last; flawless = e } in can_lead kind.Circuit k n c _ s new v may refl (circuit_can n c s may)
can_join k n end (change.Entity (entity.Add _ name attributes)) s new v last e = absurd (cc)
can_join k n end (change.Policy (policy.Add _ p)) s new v last e = absurd (cc)
can_join k n end _ s new v last e = absurd new

-- ---- what a row's record comes by

-- a change adds the record of a row
pub record IsOfRow (x : Row) (new : NewRecord) : Type 0 where
  pub is_new : IsNew new.kind new.change
  pub sound : is_sound_row x ≡ is_sound_new new.change
  pub flaw : (nexts : Kind → ℕ) (s : State) → new_flaw_of (nexts new.kind) new.number new.change s ≡ flaw_in nexts x s
  pub next : (s : State) → after_change new.change (skipped new.kind new.number s) ≡ with_row x s

said : (x : Row) → MatchOption (new_in x) ⊤ (IsOfRow x)
said (row.Identity n name attributes) = record { is_new = (refl, refl); sound = refl; flaw = λ nexts s. refl; next = λ s. refl }
said (row.Service n name attributes) = record { is_new = (refl, refl); sound = refl; flaw = λ nexts s. refl; next = λ s. refl }
said (row.Link n name a b cost latency_a latency_b up) = record { is_new = refl; sound = refl; flaw = λ nexts s. refl; next = λ s. refl }
said (row.ServicePolicy n name relation semantic identities services) = record { is_new = (refl, refl); sound = refl; flaw = λ nexts s. refl; next = λ s. refl }
said (row.EdgeRouterPolicy n name semantic identities routers) = record { is_new = (refl, refl); sound = refl; flaw = λ nexts s. refl; next = λ s. refl }
said (row.ServiceEdgeRouterPolicy n name semantic services routers) = record { is_new = (refl, refl); sound = refl; flaw = λ nexts s. refl; next = λ s. refl }
said (row.Terminator n service router host instance cost precedence) = record { is_new = refl; sound = refl; flaw = λ nexts s. refl; next = λ s. refl }
said (row.Circuit n identity service terminator ingress links) = record { is_new = refl; sound = refl; flaw = λ nexts s. refl; next = λ s. refl }
said _ = tt

-- the record that a row says is one that a change adds
pub is_of_row : (x : Row) (new : NewRecord) → new_in x ≡ Some new → IsOfRow x new
is_of_row x new e = subst (λ o. MatchOption o ⊤ (IsOfRow x)) e (said x)

-- it is as sound as it is said to be
pub sound_so : (x : Row) (new : NewRecord) (nexts : Kind → ℕ) (c : Coming) → new_in x ≡ Some new → c ≡ record { number = new.number; end = nexts new.kind; sound = is_sound_row x }
    → c.sound ≡ is_sound_new new.change
sound_so x new nexts c is coming = ap (λ (d : Coming). d.sound) coming ∙ (is_of_row x new is).sound

-- where the record is taken the row is
pub taken_so : {E : Type 0} (x : Row) (new : NewRecord) (nexts : Kind → ℕ) (c : Coming) (s : State) (r : Result (Option Flaw) E) (st : Stores) → new_in x ≡ Some new
    → c ≡ record { number = new.number; end = nexts new.kind; sound = is_sound_row x }
    → IfOk r (λ told. Takes told (new_flaw_of c.end c.number new.change s) st (after_change new.change (skipped new.kind c.number s)))
    → IfOk r (λ told. Takes told (flaw_in nexts x s) st (with_row x s))
taken_so x new nexts c s r st is coming takes =
    let of = is_of_row x new is in
    subst (λ (t : State). IfOk r (λ told. Takes told (flaw_in nexts x s) st t)) (of.next s)
    (subst (λ (f : Option Flaw). IfOk r (λ told. Takes told f st (after_change new.change (skipped new.kind new.number s)))) (of.flaw nexts s)
    (subst (λ (d : Coming). IfOk r (λ told. Takes told (new_flaw_of d.end d.number new.change s) st (after_change new.change (skipped new.kind d.number s)))) coming takes))
