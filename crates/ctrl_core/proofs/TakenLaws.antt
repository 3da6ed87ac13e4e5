-- What taking a row leaves: the flaw is told, or the stores keep the state after the row.
use Rattle.std.proofs.Common.{◌≡◌, ◌⊎◌, inl, inr, ℕ, ◌+◌, ◌<◌, ◌≤◌, ◌==◌, Bool, true, false, not, nat_le, nat_lt, List, [], ◌∷◌, ◌++◌, Option, None, Some, is_some, option_map, refl, sym, ◌∙◌, ap, subst, arith, eqb-true}
use Rattle.std.proofs.lemmas.Bool.{and_from, and_parts, cond-true, eq-eqb, false≢true, le-leb}
use Rattle.std.proofs.lemmas.Option.{none-some}
use Rattle.std.specs.List.{last_or}
use Rattle.ctrl_model.specs.declared.intercepts.Intercept.{Intercept}
use Rattle.ctrl_model.specs.declared.kinds.Kind.{Kind}
use Rattle.ctrl_model.specs.declared.kinds.Kind.TheVariants as kind
use Rattle.ctrl_model.specs.declared.kinds.Relation.{Relation}
use Rattle.ctrl_model.specs.declared.kinds.Relation.TheVariants.{Dial, Bind, IdentityRouter, ServiceRouter}
use Rattle.ctrl_model.specs.declared.numbering.ServiceNo.{ServiceNo}
use Rattle.ctrl_model.specs.ValueForms.{is_link_cost}
use Rattle.ctrl_model.specs.Grants.{count}
use Rattle.ctrl_model.specs.InterceptForm.{is_intercept}
use Rattle.ctrl_model.specs.Limits.{last_serial}
use Rattle.ctrl_model.specs.Numbered.{numbers, with_at, with_last, Between}
use Rattle.ctrl_model.specs.State.{State, Entity}
use Rattle.ctrl_model.specs.ValidState.{ValidState, is_valid_entity}
use Rattle.entity_commands.specs.EntityChanges.{is_plain_kind}
use Rattle.fabric_graph.specs.FabricTables.{with_least}
use Rattle.grant_denorm.specs.MovedCounts.{AreCountsOf}
use Rattle.grant_denorm.specs.PairCounts.{count_of}
use Rattle.record_flaws.specs.declared.coming.Coming.{Coming}
use Rattle.record_flaws.specs.LastClaims.{IsLast}
use Rattle.record_flaws.specs.StoresOfStates.{AreEntitiesOf}
use Rattle.row_codec.specs.declared.rows.Row.{Row}
use Rattle.row_codec.specs.declared.rows.Row.TheVariants as row
use Rattle.row_codec.specs.RowForm.{is_row, is_two}
use Rattle.row_codec.specs.RowKeys.{is_long}
use Rattle.state_building.specs.declared.flaws.Flaw.{Flaw}
use Rattle.state_building.specs.declared.flaws.Flaw.TheVariants.{NoRecord, OutOfOrder, WrongCount}
use Rattle.state_building.specs.JoinedRecords.{claimed, flaw_if, flaw_of, flaw_of_intercept, flaw_of_serial, is_above_all, is_sound}
use Rattle.state_building.specs.BuiltStates.{flaw_in, with_row}
use Rattle.state_building.proofs.ComingRows.{row-valid}
use Rattle.core_stores.specs.declared.stores.Stores.{Stores}
use Rattle.ctrl_core.specs.JoinedRows.{KeepState}
use Rattle.core_stores.specs.StoredState.{HoldsPolicies}
use Rattle.ctrl_core.specs.KeptState.{Keeps}
use Rattle.core_stores.specs.StoredState.{counts_of, state_of}
use Rattle.ctrl_core.specs.LoadedRows.{IsSomeRow}
use Rattle.ctrl_core.specs.NewRecords.{plain_flaw_of}
use Rattle.ctrl_core.specs.TakenRows.{Takes}

-- ---- a flaw, or none

-- where a flaw is told nothing has to be kept
pub takes_flaw : (told flaw : Option Flaw) (st : Stores) (next : State) → is_some told ≡ true → told ≡ flaw → Takes told flaw st next
takes_flaw (Some f) flaw st next e is = record { told_is = is; taken = λ none. absurd (none-some f (sym none ∙ sym is)) }
takes_flaw None flaw st next e is = absurd (false≢true e)

-- where none is told the state is kept
pub takes_none : (told flaw : Option Flaw) (st : Stores) (next : State) → told ≡ None → told ≡ flaw → KeepState st next → Takes None flaw st next
takes_none told flaw st next none is kept = record { told_is = sym none ∙ is; taken = λ e. kept }

pub none_told : (told : Option Flaw) → is_some told ≡ false → told ≡ None
none_told (Some f) e = absurd (false≢true (sym e))
none_told None e = refl

-- ---- the entities

-- the entities of the stores are those of their state
pub entities_of : (st : Stores) → HoldsPolicies st → AreEntitiesOf st.entities (state_of st)
entities_of st h = record { identities = refl; services = refl; routers = refl; held = h }

-- a plain kind is one of two
pub plain_kinds : (k : Kind) → is_plain_kind k ≡ true → (k ≡ kind.Identity) ⊎ (k ≡ kind.Service)
plain_kinds kind.Identity e = inl refl
plain_kinds kind.Service e = inr refl
plain_kinds k e = absurd (false≢true e)

-- the flaw that is told of an identity or a service is its flaw
pub plain_told : (k : Kind) (c : Coming) (name : List ℕ) (attributes : List (List ℕ)) (st : Stores) (told : Option Flaw) → is_plain_kind k ≡ true → HoldsPolicies st
    → c.sound ≡ is_valid_entity (record { name = name; attributes = attributes })
    → ((e : Entity) (s : State) → k ≡ kind.Identity → e ≡ record { name = name; attributes = attributes } → AreEntitiesOf st.entities s
    → c.sound ≡ is_sound kind.Identity e → told ≡ flaw_of (λ j. c.end) kind.Identity c.number e s)
    → ((e : Entity) (s : State) → k ≡ kind.Service → e ≡ record { name = name; attributes = attributes } → AreEntitiesOf st.entities s
    → c.sound ≡ is_sound kind.Service e → told ≡ flaw_of (λ j. c.end) kind.Service c.number e s)
    → told ≡ plain_flaw_of c.end k c.number name attributes (state_of st)
plain_told kind.Identity c name attributes st told p held sound identity service = identity _ (state_of st) refl refl (entities_of st held) sound
plain_told kind.Service c name attributes st told p held sound identity service = service _ (state_of st) refl refl (entities_of st held) sound
plain_told k c name attributes st told p held sound identity service = absurd (false≢true p)

-- ---- the setting, the intercepts and the serial

-- stores with another setting, other intercepts and another serial
abbrev pub set : ℕ → List (ℕ × Intercept) → ℕ → Stores → Stores
set cost claims serial st = record st { fabric = with_least cost st.fabric; intercepts = claims; serial = serial }

-- these change no count and no load
pub keeps_set : (cost : ℕ) (claims : List (ℕ × Intercept)) (serial : ℕ) (st : Stores) → Keeps st → ValidState (state_of (set cost claims serial st)) → Keeps (set cost claims serial st)
keeps_set cost claims serial st k valid = record { valid = valid; held = k.held; loads = k.loads; counts = counts }
  where
    counts : (r : Relation) → AreCountsOf (count r (state_of (set cost claims serial st))) (counts_of r st.grants)
    counts Dial = k.counts Dial
    counts Bind = k.counts Bind
    counts IdentityRouter = k.counts IdentityRouter
    counts ServiceRouter = k.counts ServiceRouter

-- what a row that has no flaw makes of a state is valid
with_row_valid : (x : Row) (st : Stores) → Keeps st → flaw_in (λ j. 1) x (state_of st) ≡ None → ValidState (with_row x (state_of st))
with_row_valid x st k e = row-valid (λ j. 1) x (state_of st) k.valid (λ j. omega arith) e

-- the stores keep the state with another setting
pub keeps_setting : (cost : ℕ) (st : Stores) → Keeps st → is_link_cost cost ≡ true
    → KeepState (record st { fabric = with_least cost st.fabric }) (record (state_of st) { least_router_cost = cost })
keeps_setting cost st k fits = record {
  kept = keeps_set cost st.intercepts st.serial st k (with_row_valid (row.Setting cost) st k (ap (λ b. flaw_if (not b) NoRecord None) fits));
  state_is = refl;
}

-- with another serial
pub keeps_serial : (serial : ℕ) (st : Stores) → Keeps st → flaw_of_serial serial ≡ None → KeepState (record st { serial = serial }) (record (state_of st) { serial = serial })
keeps_serial serial st k e = record { kept = keeps_set st.fabric.least st.intercepts serial st k (with_row_valid (row.Serial serial) st k e); state_is = refl }

-- with the next one
pub keeps_counted : (st : Stores) → Keeps st → st.serial < last_serial → Keeps (record st { serial = st.serial + 1 })
keeps_counted st k room =
    let upto : st.serial + 1 ≤ last_serial = omega (arith, room) in
    (keeps_serial (st.serial + 1) st k (ap (λ b. flaw_if (not b) NoRecord None) (le-leb (st.serial + 1) last_serial upto))).kept

-- and with one more intercept
pub keeps_claim : (service : ServiceNo) (i : Intercept) (st : Stores) → Keeps st → flaw_of_intercept service.0 i (state_of st) ≡ None
    → KeepState (record st { intercepts = with_at service.0 i st.intercepts }) (claimed service.0 i (state_of st))
keeps_claim service i st k e =
    let behind = with_at-behind service.0 i st.intercepts (is_behind (is_above_all service.0 st.intercepts) _ e) in
    record {
      kept = keeps_set st.fabric.least (with_at service.0 i st.intercepts) st.serial st k
          (subst (λ (claims : List (ℕ × Intercept)). ValidState (record (state_of st) { intercepts = claims })) (sym behind) (with_row_valid (row.Intercept service i) st k e));
      state_is = ap (λ (claims : List (ℕ × Intercept)). record (state_of st) { intercepts = claims }) behind;
    }
  where
    is_behind : (above : Bool) (later : Option Flaw) → flaw_if (not above) OutOfOrder later ≡ None → above ≡ true
    is_behind true later e = refl
    is_behind false later e = absurd (none-some OutOfOrder (sym e))

    with_at-behind : (n : ℕ) (i : Intercept) (claims : List (ℕ × Intercept)) → is_above_all n claims ≡ true → with_at n i claims ≡ with_last claims n i
    with_at-behind n i [] e = refl
    with_at-behind n i (x ∷ xs) e =
        let parts = and_parts (nat_lt x.0 n) (is_above_all n xs) e in
        cond-true (nat_lt x.0 n) _ _ parts.0 ∙ ap (λ (rest : List (ℕ × Intercept)). x ∷ rest) (with_at-behind n i xs parts.1)

-- the last service that has an intercept is the last of the intercepts
pub is_last : (next : ℕ) (claims : List (ℕ × Intercept)) (last : Option ServiceNo) → Between 1 next claims → option_map (λ (n : ServiceNo). n.0) last ≡ last_or None (numbers claims)
    → IsLast (option_map (λ (n : ServiceNo). n.0) last) next claims
is_last next claims last b is = subst (λ p. IsLast p next claims) (sym is) (by claims b)
  where
    split : (x : ℕ × Intercept) (xs : List (ℕ × Intercept))
        → (before : List (ℕ × Intercept)) × (n : ℕ) × (i : Intercept) × (last_or (Some x.0) (numbers xs) ≡ Some n) × (x ∷ xs ≡ before ++ (n, i) ∷ [])
    split x [] = ([], x.0, x.1, refl, refl)
    split x (y ∷ ys) = let rest = split y ys in (x ∷ rest.0, rest.1, rest.2, rest.3, ap (λ (zs : List (ℕ × Intercept)). x ∷ zs) rest.4)

    by : (claims : List (ℕ × Intercept)) → Between 1 next claims → IsLast (last_or None (numbers claims)) next claims
    by [] b = refl
    by (x ∷ xs) b = let s = split x xs in subst (λ p. IsLast p next (x ∷ xs)) (sym s.3) (b, (s.0, s.2, s.4))

-- what some row of a service says is an intercept
pub is_claim : (x : Row) (service : ServiceNo) (i : Intercept) → x ≡ row.Intercept service i → IsSomeRow x → is_intercept i ≡ true
is_claim x service i is some =
    let form = subst (λ y. is_row some.0 y ≡ true) is some.1 in
    (and_parts (is_long service.0) (is_intercept i) (and_parts (is_two some.0) _ form).1).1

pub set_kept : (cost : ℕ) (st : Stores) → Keeps st → is_link_cost cost ≡ true
    → Takes None (flaw_if (not (is_link_cost cost)) NoRecord None) (record st { fabric = with_least cost st.fabric }) (record (state_of st) { least_router_cost = cost })
set_kept cost st k fits = record { told_is = ap (λ b. flaw_if (not b) NoRecord None) (sym fits); taken = λ e. keeps_setting cost st k fits }

-- a cost that is neither below nor above the range is in it
pub is_cost_so : (cost : ℕ) → 1 ≤ cost → cost ≤ 65535 → is_link_cost cost ≡ true
is_cost_so cost low high = and_from (nat_le 1 cost) (nat_le cost 65535) (le-leb 1 cost low) (le-leb cost 65535 high)

-- ---- the counts

-- a count that is kept is the one of the state
pub count_kept : (st : Stores) (r : Relation) (pairs : List ((ℕ × ℕ) × ℕ)) (a b n : ℕ) → Keeps st → pairs ≡ counts_of r st.grants → n ≡ count_of pairs a b
    → n ≡ count r (state_of st) a b
count_kept st r pairs a b n k is e = e ∙ ap (λ ps. count_of ps a b) is ∙ k.counts r a b
