-- The loads of terminators after a change: once they are brought up to date, they are the numbers of the circuits that are open there.
use Rattle.std.proofs.Common.{◌≡◌, ◌≢◌, ◌⊎◌, ⊎_elim, inl, inr, ℕ, ◌+◌, ◌<◌, ◌≤◌, ◌==◌, Bool, true, false, not, cond, ◌&&◌, List, [], ◌∷◌, ◌++◌, length, nat_lt, count_by, is_some, Option, None, Some, unwrap_or, refl, sym, ◌∙◌, ap, subst, arith, eqb-true, eq-eqb, ne_eqb, ltb-true}
use Rattle.std.proofs.lemmas.Bool.{and_parts, false≢true}
use Rattle.std.proofs.lemmas.List.Sums.{count_by-le-length, sum_by-append, sum_by-cons}
use Rattle.std.proofs.Math.Bool.{not-not}
use Rattle.std.specs.List.{filter}
use Rattle.std.specs.Option.{option_map_or}
use Rattle.ctrl_model.specs.declared.kinds.Kind.TheVariants as kind
use Rattle.ctrl_model.specs.Limits.{limit, last_next}
use Rattle.ctrl_model.specs.Matches.{is_nothing}
use Rattle.ctrl_model.specs.Membership.{Among}
use Rattle.ctrl_model.specs.Networks.{network_of, open_circuits}
use Rattle.ctrl_model.specs.Numbered.{Table, at, is_present, numbers, with_last, with_new}
use Rattle.ctrl_model.specs.Settling.{circuit_reaches, settle}
use Rattle.ctrl_model.specs.State.{State, Terminator, Circuit}
use Rattle.ctrl_model.specs.ValidState.{ValidState}
use Rattle.ctrl_model.specs.Walks.{is_among}
use Rattle.ctrl_model.proofs.NumberedLaws.{at-without-other}
use Rattle.model_laws.specs.Plans.{CanLeadBy, led_by}
use Rattle.model_laws.proofs.AbsentRecords.{at-without-none}
use Rattle.record_tables.specs.AfterChange.{changed_by, without_numbers}
use Rattle.record_tables.proofs.GoneLaws.{filter_all, gone_none}
use Rattle.circuits.specs.MovedCircuits.{moves_by, ended_by, moved_table}
use Rattle.circuits.proofs.MoveLaws.{moves-none}
use Rattle.circuits.specs.CircuitChanges.{after_circuit_change}
use Rattle.circuits.specs.CircuitTables.{CircuitTables, is_full}
use Rattle.circuits.specs.declared.changes.CircuitChange.{CircuitChange}
use Rattle.circuits.specs.declared.changes.CircuitChange.TheVariants as circuit
use Rattle.circuit_settling.specs.OtherLinks.{way_in}
use Rattle.fallen_records.proofs.SettledRows.{each_circuit}
use Rattle.terminators.specs.declared.changes.TermChange.{TermChange}
use Rattle.terminators.specs.declared.changes.TermChange.TheVariants as term
use Rattle.terminators.specs.TermChanges.{after_term_change, without_terms}
use Rattle.terminators.specs.TermTables.{TermTables, open_at}
use Rattle.core_stores.specs.declared.changes.Change.{Change}
use Rattle.core_stores.specs.declared.changes.Change.TheVariants as change
use Rattle.core_stores.specs.declared.loads.Loads.{Loads}
use Rattle.core_stores.specs.declared.loads.Loads.TheVariants as loads
use Rattle.core_stores.specs.declared.settled.Settled.{Settled}
use Rattle.core_stores.specs.declared.stores.Stores.{Stores}
use Rattle.core_stores.specs.CarriedStates.{Carries}
use Rattle.core_stores.specs.ChangeParts.{term_part, circuit_part}
use Rattle.policy_commands.specs.PolicyStates.{HoldsUses}
use Rattle.core_stores.specs.SettledNumbers.{without_settled}
use Rattle.core_stores.specs.OpenCircuits.{ChangesLoads, CountsBut, CountsOpen, EndThere, loads_by, loads_after}
use Rattle.core_stores.specs.StoredState.{HoldsPolicies, state_of}
use Rattle.ctrl_core.specs.ChangedStores.{CanSettle}
use Rattle.ctrl_core.specs.Changes.{CanChange, NamesSettled, after_change}
use Rattle.ctrl_core.specs.SettledRecords.{AreSettled}
use Rattle.ctrl_core.proofs.NetworkPlans.{carries_then}
use Rattle.ctrl_core.proofs.StateParts.{parts_after, terms_then, circuits_then}

-- ---- what a valid state has

-- the terminator of each circuit is present
ends_there : (s : State) → ValidState s → (x : ℕ × Circuit) → Among x s.circuits.rows → is_present s.terminators.rows x.1.terminator ≡ true
ends_there s v x m = by (at s.terminators.rows x.1.terminator) refl
  where
    reaches : option_map_or (circuit_reaches (network_of s) x.1) (at s.terminators.rows x.1.terminator) false ≡ true
    reaches =
        (and_parts (is_among x.1.service (numbers s.services.rows)) (option_map_or (circuit_reaches (network_of s) x.1) (at s.terminators.rows x.1.terminator) false)
        (and_parts (is_among x.1.identity (numbers s.identities.rows)) (is_among x.1.service (numbers s.services.rows) && option_map_or (circuit_reaches (network_of s) x.1) (at s.terminators.rows x.1.terminator) false)
        (each_circuit s v x m)).1).1

    by : (o : Option Terminator) → at s.terminators.rows x.1.terminator ≡ o → is_present s.terminators.rows x.1.terminator ≡ true
    by None e = absurd (false≢true (sym (ap (λ o. option_map_or (circuit_reaches (network_of s) x.1) o false) e) ∙ reaches))
    by (Some t) e = ap is_some e

-- of nothing that passes none is counted
none_passes : {X : Type 0} (p : X → Bool) (xs : List X) → ((x : X) → Among x xs → p x ≡ false) → count_by p xs ≡ 0
none_passes p [] none = refl
none_passes p (x ∷ xs) none =
    let one : ◌≡◌ {A = ℕ} (cond (p x) 1 0) 0 = ap (λ b. cond b 1 0) (none x (inl refl)) in
    let rest = none_passes p xs (λ y m. none y (inr m)) in
    let all = sum_by-cons (λ y. cond (p y) 1 0) x xs in omega (arith, one, rest, all)

-- where no terminator is no circuit is open
none_open : (s : State) → ValidState s → (n : ℕ) → is_present s.terminators.rows n ≡ false → open_circuits s n ≡ 0
none_open s v n none = none_passes (λ row. row.1.terminator == n) s.circuits.rows (λ x m. by x m (x.1.terminator == n) refl)
  where
    by : (x : ℕ × Circuit) → Among x s.circuits.rows → (b : Bool) → (x.1.terminator == n) ≡ b → (x.1.terminator == n) ≡ false
    by x m true e = absurd (false≢true (sym none ∙ ap (is_present s.terminators.rows) (sym (eqb-true x.1.terminator n e)) ∙ ends_there s v x m))
    by x m false e = e

pub end_there : (s : State) → ValidState s → EndThere s
end_there s v = record { absent = none_open s v; few = (v.kinds kind.Circuit).numbers.few }

-- ---- the loads after a change of terminators

-- one more terminator has no load, and the others keep theirs
with_last-open : (xs : List (ℕ × ℕ)) (k n : ℕ) → unwrap_or (at (with_last xs k 0) n) 0 ≡ unwrap_or (at xs n) 0
with_last-open [] k n = by (k == n)
  where
    by : (b : Bool) → ◌≡◌ {A = ℕ} (unwrap_or (cond b (Some 0) None) 0) 0
    by true = refl
    by false = refl
with_last-open (x ∷ xs) k n = by (x.0 == n) (with_last-open xs k n)
  where
    by : (b : Bool) → unwrap_or (at (with_last xs k 0) n) 0 ≡ unwrap_or (at xs n) 0
        → unwrap_or (cond b (Some x.1) (at (with_last xs k 0) n)) 0 ≡ unwrap_or (cond b (Some x.1) (at xs n)) 0
    by true e = refl
    by false e = e

-- a load is what it was, or its terminator is gone and it is none
term_loads : (o : Option TermChange) (e : TermTables) (n : ℕ)
    → (open_at (changed_by after_term_change o e) n ≡ open_at e n) ⊎ ((open_at (changed_by after_term_change o e) n ≡ 0) × (is_present (changed_by after_term_change o e).terminators.rows n ≡ false))
term_loads None e n = inl refl
term_loads (Some (term.Add t)) e n = inl (with_last-open e.loads e.terminators.next n)
term_loads (Some (term.Set m cost precedence)) e n = inl refl
term_loads (Some (term.Remove m)) e n = by (n == m.0) refl
  where
    by : (b : Bool) → (n == m.0) ≡ b
        → (open_at (changed_by after_term_change (Some (term.Remove m)) e) n ≡ open_at e n)
        ⊎ ((open_at (changed_by after_term_change (Some (term.Remove m)) e) n ≡ 0) × (is_present (changed_by after_term_change (Some (term.Remove m)) e).terminators.rows n ≡ false))
    by true is =
        inr (subst (λ k. (unwrap_or (at (filter (λ x. not (x.0 == m.0)) e.loads) k) 0 ≡ 0) × (is_present (filter (λ x. not (x.0 == m.0)) e.terminators.rows) k ≡ false)) (sym (eqb-true n m.0 is))
        (ap (λ o. unwrap_or o 0) (at-without-none e.loads m.0), ap is_some (at-without-none e.terminators.rows m.0)))
    by false is = inl (ap (λ o. unwrap_or o 0) (at-without-other e.loads m.0 n (apart n m.0 is)))
      where
        apart : (a b : ℕ) → (a == b) ≡ false → a ≢ b
        apart a b e s = absurd (false≢true (sym e ∙ eq-eqb a b s))

-- ---- each way in which loads change

-- what settles nowhere: the terminators, their loads and the circuits are those after the change
pub record IsUnsettled (c : Change) (st out : Stores) : Type 0 where
  pub terminators : out.terminators.terminators ≡ (terms_then c st).terminators
  pub loads : out.terminators.loads ≡ (terms_then c st).loads
  pub circuits : out.circuits.circuits ≡ (circuits_then c st).circuits

-- where no circuit comes or goes
counted_still : (c : Change) (st out : Stores) → CountsOpen st → ValidState (state_of out) → IsUnsettled c st out → circuit_part c ≡ None → CountsOpen out
counted_still c st out counts v still none n =
    ap (λ (ls : List (ℕ × ℕ)). unwrap_or (at ls n) 0) still.loads
    ∙ ⊎_elim (λ same. same ∙ counts n ∙ ap (λ (k : Table Circuit). count_by (λ row. row.1.terminator == n) k.rows) (sym circuits_are))
    (λ gone. gone.0 ∙ sym (none_open (state_of out) v n (ap (λ (t : Table Terminator). is_present t.rows n) still.terminators ∙ gone.1))) (term_loads (term_part c) st.terminators n)
  where
    circuits_are : out.circuits.circuits ≡ st.circuits.circuits
    circuits_are = still.circuits ∙ ap (λ o. (changed_by after_circuit_change o st.circuits).circuits) none

-- where one circuit comes
lacks_one : (k : Circuit) (st out : Stores) → CountsOpen st → IsUnsettled (change.Circuit (circuit.Add k)) st out → CountsBut (loads.More (record { 0 = k.terminator })) out
lacks_one k st out counts still m =
    let one = sum_by-cons (λ row. cond (ends row) 1 0) (st.circuits.circuits.next, k) [] in
    let all = sum_by-append (λ row. cond (ends row) 1 0) st.circuits.circuits.rows ((st.circuits.circuits.next, k) ∷ []) in
    let was = ap (λ (ls : List (ℕ × ℕ)). unwrap_or (at ls m) 0) still.loads ∙ counts m in
    let now = ap (λ (t : Table Circuit). count_by ends t.rows) still.circuits in
    omega (arith, one, all, was, now)
  where
    ends : ℕ × Circuit → Bool
    ends row = row.1.terminator == m

-- where only loads change
pub loads_carry : (st out new : Stores) (t : State) → Carries st out t → ChangesLoads out new → Carries st new t
loads_carry st out new t carries changes = record {
  next = changes.same ∙ carries.next;
  held = subst (λ e. HoldsUses e new.policies) (sym changes.entities) (subst (λ p. HoldsUses out.entities p) (sym changes.policies) carries.held);
  counts = changes.counts ∙ carries.counts;
}

-- ---- any change

lacks_by : (c : Change) (st out : Stores) → CountsOpen st → ValidState (state_of out) → IsUnsettled c st out → CountsBut (loads_by c) out
lacks_by (change.Entity e) st out counts v still = counted_still (change.Entity e) st out counts v still refl
lacks_by (change.Policy p) st out counts v still = counted_still (change.Policy p) st out counts v still refl
lacks_by (change.Link l) st out counts v still = counted_still (change.Link l) st out counts v still refl
lacks_by (change.Terminator e) st out counts v still = counted_still (change.Terminator e) st out counts v still refl
lacks_by (change.Circuit (circuit.Add k)) st out counts v still = lacks_one k st out counts still
lacks_by (change.Circuit (circuit.Remove n)) st out counts v still = tt
lacks_by (change.Intercept i) st out counts v still = counted_still (change.Intercept i) st out counts v still refl

-- the loads that are kept lack what is told
pub loads_lack : (c : Change) (st out : Stores) (g : Settled) → CountsOpen st → ValidState (state_of out) → ((is_nothing g.terminators && is_nothing g.going) ≡ true → IsUnsettled c st out)
    → CountsBut (loads_after c g) out
loads_lack c st out g counts v still = by (is_nothing g.terminators && is_nothing g.going) refl
  where
    by : (b : Bool) → (is_nothing g.terminators && is_nothing g.going) ≡ b → CountsBut (cond b (loads_by c) loads.Any) out
    by true e = lacks_by c st out counts v (still e)
    by false e = tt

-- ---- where nothing settles

-- the stores after a change that is made
pub unsettled_made : (c : Change) (st mid : Stores) → CanSettle st c → Carries st mid (after_change c (state_of st)) → mid.terminators ≡ terms_then c st → IsUnsettled c st mid
unsettled_made c st mid can made terms = record {
  terminators = ap (λ (t : TermTables). t.terminators) terms;
  loads = ap (λ (t : TermTables). t.loads) terms;
  circuits = ap (λ (s : State). s.circuits) (made.next ∙ parts_after c st can);
}

none_there : {X : Type 0} (xs : List X) → is_nothing xs ≡ true → xs ≡ []
none_there [] e = refl
none_there (x ∷ xs) e = absurd (false≢true e)

without_none : (t : TermTables) → without_terms [] t ≡ t
without_none t = λ i. record { terminators = sym (gone_none t.terminators) i; loads = filter_all t.loads i }

-- and once what settles is taken out, which is nothing
pub unsettled_taken : (c : Change) (st mid out : Stores) (g : Settled) → CanSettle st c → AreSettled (after_change c (state_of st)) g → Carries st mid (after_change c (state_of st))
    → mid.terminators ≡ terms_then c st → Carries mid out (without_settled g (state_of mid)) → out.terminators ≡ without_terms g.terminators mid.terminators
    → (is_nothing g.terminators && is_nothing g.going) ≡ true → IsUnsettled c st out
unsettled_taken c st mid out g can settled made made_terms taken taken_terms none = record {
  terminators = ap (λ (t : TermTables). t.terminators) terms;
  loads = ap (λ (t : TermTables). t.loads) terms;
  circuits = ap (λ (s : State). s.circuits) taken.next ∙ (λ i. moved_table (moves i) (without_numbers (ended i) (state_of mid).circuits)) ∙ moves-none (without_numbers [] (state_of mid).circuits)
      ∙ sym (gone_none (state_of mid).circuits) ∙ (unsettled_made c st mid can made made_terms).circuits;
}
  where
    both : (is_nothing g.terminators ≡ true) × (is_nothing g.going ≡ true)
    both = and_parts (is_nothing g.terminators) (is_nothing g.going) none

    terms : out.terminators ≡ terms_then c st
    terms = taken_terms ∙ ap (λ ns. without_terms ns mid.terminators) (none_there g.terminators both.0) ∙ without_none mid.terminators ∙ made_terms

    ended : g.ended ≡ []
    ended = settled.judged.ended_are ∙ ap (ended_by (way_in (after_change c (state_of st)))) (none_there g.going both.1)

    moves : g.moves ≡ []
    moves = settled.judged.moves_are ∙ ap (moves_by (way_in (after_change c (state_of st)))) (none_there g.going both.1)

-- ---- a change that is carried out

-- what it leaves, once what settles is taken out: all but the loads is as it shall be
pub record LeavesLoads (o : Option Change) (c : Change) (st out : Stores) (g : Settled) : Type 0 where
  pub carried : Carries st out (led_by after_change o (state_of st))
  pub ends : EndThere (state_of out)
  pub lack : CountsBut (loads_after c g) out

pub leaves_loads : (o : Option Change) (c : Change) (st mid out : Stores) (g : Settled) → o ≡ Some c → CanLeadBy CanChange o (state_of st) → ValidState (state_of st)
    → ValidState (led_by after_change o (state_of st)) → NamesSettled o (state_of st) g → HoldsPolicies st → CountsOpen st → Carries st mid (after_change c (state_of st))
    → mid.terminators ≡ terms_then c st → Carries mid out (without_settled g (state_of mid)) → out.terminators ≡ without_terms g.terminators mid.terminators → LeavesLoads o c st out g
leaves_loads o c st mid out g is can before valid settled held counts made made_terms taken taken_terms = record {
  carried = subst (λ (o : Option Change). Carries st out (led_by after_change o s)) (sym is) carries;
  ends = end_there (state_of out) then_valid;
  lack = loads_lack c st out g counts then_valid (unsettled_taken c st mid out g settles named made made_terms taken taken_terms);
}
  where
    s : State
    s = state_of st

    settles : CanSettle st c
    settles = record { before = before; held = held; can = subst (λ (o : Option Change). CanLeadBy CanChange o s) is can; valid = subst (λ (o : Option Change). ValidState (led_by after_change o s)) is valid }

    named : AreSettled (after_change c s) g
    named = subst (λ (o : Option Change). NamesSettled o s g) is settled

    carries : Carries st out (settle (after_change c s))
    carries = carries_then c st mid out g settles named made taken

    then_valid : ValidState (state_of out)
    then_valid = subst ValidState (sym carries.next) settles.valid
