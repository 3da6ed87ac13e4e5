-- The circuits that are found to go after a change are those that do not stay as they are.
use Rattle.std.proofs.Common.{◌≡◌, ℕ, ◌==◌, Bool, true, false, not, ◌&&◌, List, [], ◌∷◌, is_some, option_map, Option, None, Some, inl, inr, refl, sym, ◌∙◌, ap, subst}
use Rattle.std.proofs.lemmas.Bool.{and_from, or_parts, false≢true}
use Rattle.std.specs.List.{filter}
use Rattle.std.specs.Option.{option_map_or}
use Rattle.ctrl_model.specs.Membership.{Among}
use Rattle.ctrl_model.specs.Numbered.{Table, at, numbers, Between}
use Rattle.ctrl_model.specs.Settling.{granted_in, stays_in}
use Rattle.ctrl_model.specs.State.{State, Circuit}
use Rattle.ctrl_model.specs.Walks.{is_among}
use Rattle.ctrl_model.proofs.Members.{Among-filter, Among-map, by_append, by_filter, by_map, is_among-from}
use Rattle.model_laws.specs.JudgedCircuits.{AreGranted}
use Rattle.record_tables.specs.AfterChange.{changed_by}
use Rattle.record_tables.proofs.GoneLaws.{filter_among, filter_twice}
use Rattle.record_tables.proofs.NumberLoops.{at_among}
use Rattle.record_tables.proofs.TurnLaws.{numbers-filter}
use Rattle.circuits.specs.declared.changes.CircuitChange.{CircuitChange}
use Rattle.circuits.specs.declared.changes.CircuitChange.TheVariants as circuit
use Rattle.circuits.specs.CircuitChanges.{after_circuit_change}
use Rattle.fallen_records.specs.declared.falling.Fallen.{Fallen}
use Rattle.circuit_settling.specs.OtherLinks.{before_circuits, keeps_in, going_after, going_in}
use Rattle.core_stores.specs.declared.changes.Change.{Change}
use Rattle.core_stores.specs.declared.changes.Change.TheVariants as change
use Rattle.circuit_settling.specs.declared.emptying.Pairs.{Pairs}
use Rattle.core_stores.specs.declared.stores.Stores.{Stores}
use Rattle.core_stores.specs.ChangeParts.{circuit_part, term_part}
use Rattle.core_stores.specs.StoredState.{state_of}
use Rattle.circuit_settling.specs.declared.looking.Look.{Look}
use Rattle.circuit_settling.specs.declared.looking.Look.TheVariants.{Paths, These, All}
use Rattle.circuit_settling.specs.EmptiedPairs.{no_pairs}
use Rattle.circuit_settling.specs.LookedCircuits.{going_by, is_looked_at, needs}
use Rattle.ctrl_core.specs.ChangedStores.{CanSettle}
use Rattle.ctrl_core.specs.Changes.{after_change}
use Rattle.ctrl_core.specs.LookedCircuits.{LooksAt, StillGranted}
use Rattle.ctrl_core.specs.PlannedCommands.{Stands}
use Rattle.ctrl_core.proofs.SettledChanges.{FallAs}
use Rattle.ctrl_core.proofs.StateParts.{parts_after, state_then, circuits_then, circuits_ordered, terms_ordered}
use Rattle.ctrl_core.proofs.StillGranted.{StayCounted, needs_none, still_granted, terms_alike}

module _ (c : Change) (st : Stores) (g : Fallen) (can : CanSettle st c) (falls : FallAs (state_then c st) g) where
  abbrev t : State
  t = state_then c st

  abbrev s : State
  s = state_of st

  ordered : Between 1 t.circuits.next t.circuits.rows
  ordered = circuits_ordered c st can

  -- whether the circuit at a number stays as it is, and whether what granted it stands
  abbrev pub keeps_then : ℕ → Bool
  keeps_then n = option_map_or (λ k. keeps_in t (n, k)) (at t.circuits.rows n) true

  abbrev pub granted_then : ℕ → Bool
  granted_then n = option_map_or (λ k. granted_in t (n, k)) (at t.circuits.rows n) true

  -- the numbers of those that do not pass are those of the circuits that do not
  those : (p : ℕ × Circuit → Bool) → filter (λ n. not (option_map_or (λ k. p (n, k)) (at t.circuits.rows n) true)) (numbers t.circuits.rows) ≡ numbers (filter (λ row. not (p row)) t.circuits.rows)
  those p =
      sym (numbers-filter (λ n. not (option_map_or (λ k. p (n, k)) (at t.circuits.rows n) true)) t.circuits.rows)
      ∙ ap numbers (filter_among (λ (row : ℕ × Circuit). not (option_map_or (λ k. p (row.0, k)) (at t.circuits.rows row.0) true)) (λ row. not (p row)) t.circuits.rows (λ x m.
      ap (λ o. not (option_map_or (λ k. p (x.0, k)) o true)) (at_among t.circuits.next t.circuits.rows 1 x.0 x.1 ordered m)))

  -- where what granted each circuit stands whose path does, those go whose path falls
  fell : ((x : ℕ × Circuit) → Among x t.circuits.rows → stays_in (before_circuits t) x ≡ true → granted_in t x ≡ true) → g.circuits ≡ going_in t
  fell granted = falls.circuits_are ∙ ap numbers (filter_among (λ (row : ℕ × Circuit). not (stays_in (before_circuits t) row)) (λ row. not (keeps_in t row)) t.circuits.rows agree)
    where
      none : (b : Bool) → (b && false) ≡ false
      none true = refl
      none false = refl

      agree : (x : ℕ × Circuit) → Among x t.circuits.rows → not (stays_in (before_circuits t) x) ≡ not (keeps_in t x)
      agree x m = by (stays_in (before_circuits t) x) refl
        where
          by : (b : Bool) → stays_in (before_circuits t) x ≡ b → not (stays_in (before_circuits t) x) ≡ not (keeps_in t x)
          by true e = ap (λ b. not (b && stays_in (before_circuits t) x)) (sym (granted x m e))
          by false e = ap not (e ∙ sym (ap (λ b. granted_in t x && b) e ∙ none (granted_in t x)))

  -- where no path falls, those go whose grant is gone
  lost_grants : g.circuits ≡ [] → filter (λ n. not (granted_then n)) (numbers t.circuits.rows) ≡ going_in t
  lost_grants none = those (granted_in t) ∙ ap numbers (filter_among (λ (row : ℕ × Circuit). not (granted_in t row)) (λ row. not (keeps_in t row)) t.circuits.rows agree)
    where
      stays : (x : ℕ × Circuit) → Among x t.circuits.rows → stays_in (before_circuits t) x ≡ true
      stays x m = by (stays_in (before_circuits t) x) refl
        where
          by : (b : Bool) → stays_in (before_circuits t) x ≡ b → stays_in (before_circuits t) x ≡ true
          by true e = e
          by false e = absurd (subst (Among x.0) (sym falls.circuits_are ∙ none)
              (Among-map (λ (row : ℕ × Circuit). row.0) (filter (λ row. not (stays_in (before_circuits t) row)) t.circuits.rows) x
              (Among-filter (λ row. not (stays_in (before_circuits t) row)) t.circuits.rows x m (ap not e))))

      whole : (b : Bool) → b ≡ (b && true)
      whole true = refl
      whole false = refl

      agree : (x : ℕ × Circuit) → Among x t.circuits.rows → not (granted_in t x) ≡ not (keeps_in t x)
      agree x m = ap not (whole (granted_in t x) ∙ ap (λ b. granted_in t x && b) (sym (stays x m)))

  -- those that are looked at are enough: each other one stays
  looked_enough : (q : Pairs) (ns : List ℕ) → circuit_part c ≡ None → ns ≡ filter (is_looked_at st.circuits.circuits.rows st.terminators.terminators.rows q g.circuits) (numbers st.circuits.circuits.rows) → StillGranted q s t
      → filter (λ n. not (keeps_then n)) ns ≡ going_in t
  looked_enough q ns none are still =
      ap (filter fails) are ∙ filter_twice fails looked (numbers st.circuits.circuits.rows)
      ∙ filter_among (λ n. looked n && fails n) fails (numbers st.circuits.circuits.rows) (λ n m.
      by_map (λ (x : ℕ × Circuit). x.0) st.circuits.circuits.rows n m (λ x among same. subst (λ k. (looked k && fails k) ≡ fails k) same (agree x among (looked x.0) refl)))
      ∙ ap (λ (k : Table Circuit). filter fails (numbers k.rows)) (sym same_table) ∙ those (keeps_in t)
    where
      looked : ℕ → Bool
      looked = is_looked_at st.circuits.circuits.rows st.terminators.terminators.rows q g.circuits

      fails : ℕ → Bool
      fails n = not (keeps_then n)

      same_table : t.circuits ≡ st.circuits.circuits
      same_table = ap (λ o. (changed_by after_circuit_change o st.circuits).circuits) none

      there : (x : ℕ × Circuit) → Among x st.circuits.circuits.rows → Among x t.circuits.rows
      there x among = subst (λ (k : Table Circuit). Among x k.rows) (sym same_table) among

      at_then : (x : ℕ × Circuit) → Among x st.circuits.circuits.rows → at t.circuits.rows x.0 ≡ Some x.1
      at_then x among = at_among t.circuits.next t.circuits.rows 1 x.0 x.1 ordered (there x among)

      at_now : (x : ℕ × Circuit) → Among x st.circuits.circuits.rows → at st.circuits.circuits.rows x.0 ≡ Some x.1
      at_now x among = ap (λ (k : Table Circuit). at k.rows x.0) (sym same_table) ∙ at_then x among

      agree : (x : ℕ × Circuit) → Among x st.circuits.circuits.rows → (b : Bool) → looked x.0 ≡ b → (looked x.0 && fails x.0) ≡ fails x.0
      agree x among true e = ap (λ b. b && fails x.0) e
      agree x among false e = ap (λ b. b && fails x.0) e ∙ sym (ap not (ap (λ o. option_map_or (λ k. keeps_in t (x.0, k)) o true) (at_then x among) ∙ and_from _ _ granted stays))
        where
          parts : (option_map_or (needs q st.terminators.terminators.rows) (at st.circuits.circuits.rows x.0) false ≡ false) × (is_among x.0 g.circuits ≡ false)
          parts = or_parts (option_map_or (needs q st.terminators.terminators.rows) (at st.circuits.circuits.rows x.0) false) (is_among x.0 g.circuits) e

          by : (b : Bool) → stays_in (before_circuits t) x ≡ b → stays_in (before_circuits t) x ≡ true
          by true f = f
          by false f = absurd (false≢true (sym parts.1 ∙ is_among-from x.0 g.circuits (subst (Among x.0) (sym falls.circuits_are)
              (Among-map (λ (row : ℕ × Circuit). row.0) (filter (λ row. not (stays_in (before_circuits t) row)) t.circuits.rows) x
              (Among-filter (λ row. not (stays_in (before_circuits t) row)) t.circuits.rows x (there x among) (ap not f))))))

          stays : stays_in (before_circuits t) x ≡ true
          stays = by (stays_in (before_circuits t) x) refl

          granted : granted_in t x ≡ true
          granted = still x among (sym (ap (λ o. option_map_or (needs q st.terminators.terminators.rows) o false) (at_now x among)) ∙ parts.0) stays

-- where of some pairs those that are none of them are granted still, what granted a circuit that needs none stands where its path does
pub still_of : (c : Change) (st : Stores) → CanSettle st c → (g : Pairs) → AreGranted (state_of st) → StayCounted g (state_of st) (after_change c (state_of st)) → StillGranted g (state_of st) (after_change c (state_of st))
still_of c st can g granted counted = subst (λ t. StillGranted g (state_of st) t) (sym (parts_after c st can)) (λ x m free stays.
    let o = terms_ordered c st can in
    still_granted (state_of st) (state_then c st) g (subst (λ t. StayCounted g (state_of st) t) (parts_after c st can) counted) x o.high o.ordered
    (terms_alike (term_part c) st.terminators x.1.terminator) free (granted x m) stays)

-- a circuit that comes or goes ends no grant
pub still_routed : (c : Change) (st : Stores) → is_some (circuit_part c) ≡ true → AreGranted (state_of st) → StillGranted no_pairs (state_of st) (after_change c (state_of st))
still_routed (change.Circuit k) st e granted = λ x m free stays. granted x m
still_routed (change.Entity k) st e granted = absurd (false≢true e)
still_routed (change.Policy k) st e granted = absurd (false≢true e)
still_routed (change.Link k) st e granted = absurd (false≢true e)
still_routed (change.Terminator k) st e granted = absurd (false≢true e)
still_routed (change.Intercept k) st e granted = absurd (false≢true e)

-- there is a part where one is lent
pub some_part : {A B : Type 0} (f : A → B) (o : Option A) (p : Option B) → option_map f o ≡ p → is_some p ≡ is_some o
some_part f None p e = ap is_some (sym e)
some_part f (Some x) p e = ap is_some (sym e)

-- and else there is no change of circuits
pub no_part : (o : Option CircuitChange) → is_some o ≡ false → o ≡ None
no_part None e = refl
no_part (Some k) e = absurd (false≢true (sym e))

-- what is among one is that one
by_one : {X P : Type 0} (y x : X) → Among x (y ∷ []) → (y ≡ x → P) → P
by_one y x (inl same) goes_on = goes_on same
by_one y x (inr none) goes_on = absurd none

-- what granted each circuit stands, if it does so of each that there was
granted_each : (c : Change) (st : Stores) → Stands c (state_of st) → ((x : ℕ × Circuit) → Among x st.circuits.circuits.rows → stays_in (before_circuits (state_then c st)) x ≡ true → granted_in (state_then c st) x ≡ true)
    → (x : ℕ × Circuit) → Among x (circuits_then c st).circuits.rows → stays_in (before_circuits (state_then c st)) x ≡ true → granted_in (state_then c st) x ≡ true
granted_each (change.Circuit (circuit.Add k)) st stands still = λ x m stays.
    by_append st.circuits.circuits.rows ((st.circuits.circuits.next, k) ∷ []) x m (λ old. still x old stays)
    (λ new. by_one (st.circuits.circuits.next, k) x new (λ same. subst (λ (y : ℕ × Circuit). granted_in (state_of st) y ≡ true) same stands.0))
granted_each (change.Circuit (circuit.Remove n)) st stands still = λ x m stays.
    by_filter (λ (y : ℕ × Circuit). not (y.0 == n.0)) st.circuits.circuits.rows x m (λ k _. still x k stays)
granted_each (change.Link l) st stands still = still
granted_each (change.Intercept i) st stands still = still
granted_each (change.Entity e) st stands still = still
granted_each (change.Policy p) st stands still = still
granted_each (change.Terminator e) st stands still = still

pub going_is : (look : Look) (c : Change) (st : Stores) (g : Fallen) (can : CanSettle st c) (falls : FallAs (state_then c st) g) → Stands c (state_of st) → LooksAt c st g.circuits look
    → going_by look g.circuits (numbers (circuits_then c st).circuits.rows) (granted_then c st g can falls) (keeps_then c st g can falls) ≡ going_in (state_then c st)
going_is Paths c st g can falls stands still =
    fell c st g can falls (granted_each c st stands (λ x m stays.
    subst (λ t. StillGranted no_pairs (state_of st) t) (parts_after c st can) still x m (needs_none st.terminators.terminators.rows x.1) stays))
going_is (These ns) c st g can falls stands looks =
    looked_enough c st g can falls looks.0 ns looks.1 looks.2 (subst (λ t. StillGranted looks.0 (state_of st) t) (parts_after c st can) looks.3)
going_is All c st g can falls stands looks = by g.circuits refl
  where
    by : (pathless : List ℕ) → g.circuits ≡ pathless
        → going_after false pathless (numbers (circuits_then c st).circuits.rows) (granted_then c st g can falls) (keeps_then c st g can falls) ≡ going_in (state_then c st)
    by [] none = lost_grants c st g can falls none
    by (x ∷ xs) some = those c st g can falls (keeps_in (state_then c st))
