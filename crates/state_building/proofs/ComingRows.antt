-- What holds where a row comes: of the record that it is, of the setting, of an intercept and the serial, and of rows that leave a state.
use Rattle.std.proofs.Common.{◌≡◌, ℕ, ◌+◌, ◌<◌, ◌≤◌, ◌&&◌, nat_lt, nat_le, true, not, List, [], ◌∷◌, None, refl, ◌∙◌, arith, leb-true, ltb-true}
use Rattle.std.proofs.lemmas.Bool.{and_parts, and_from, not-false}
use Rattle.std.proofs.lemmas.List.Folds.{list_all-append}
use Rattle.std.specs.List.{list_all}
use Rattle.ctrl_model.specs.declared.kinds.Kind.{Kind}
use Rattle.ctrl_model.specs.declared.kinds.Kind.TheVariants as kind
use Rattle.ctrl_model.specs.declared.intercepts.Intercept.{Intercept}
use Rattle.ctrl_model.specs.InterceptForm.{is_intercept}
use Rattle.ctrl_model.specs.Limits.{last_next, last_serial}
use Rattle.ctrl_model.specs.Numbered.{at, is_present, with_last, Between}
use Rattle.ctrl_model.specs.State.{State}
use Rattle.ctrl_model.specs.Tables.{Record, table}
use Rattle.ctrl_model.specs.ValueForms.{is_link_cost}
use Rattle.ctrl_model.specs.ValidState.{ValidState, ValidTable, is_valid_intercept}
use Rattle.ctrl_model.proofs.NumberedLaws.{at-within, by_is_some}
use Rattle.ctrl_model.proofs.TableLaws.{valid-more}
use Rattle.model_laws.proofs.ValidLaws.{AreClaimed}
use Rattle.row_codec.specs.declared.rows.Row.{Row}
use Rattle.row_codec.specs.declared.rows.Row.TheVariants as row
use Rattle.state_building.specs.JoinedRecords.{joined, claimed, flaw_of, is_above_all}
use Rattle.state_building.specs.BuiltStates.{with_row, flaw_in}
use Rattle.state_building.proofs.GrownStates.{Grown}
use Rattle.state_building.proofs.StandingRecords.{IsStanding, all_still, IsStanding-repaired, repaired-standing}
use Rattle.state_building.proofs.JoinedStates.{flaw_if-none, joined-valid}

-- what holds of a state, and after each flawless record, setting, intercept and serial, holds after a row without flaws
pub row-holds : (P : State → Type 0) (nexts : Kind → ℕ) (s : State) → P s → ((k : Kind) (n : ℕ) (r : Record k) → flaw_of nexts k n r s ≡ None → P (joined k n r s))
    → ((cost : ℕ) → is_link_cost cost ≡ true → P (record s { least_router_cost = cost }))
    → ((n : ℕ) (i : Intercept) → is_above_all n s.intercepts ≡ true → is_intercept i ≡ true → is_present s.services.rows n ≡ true → P (claimed n i s)) → ((n : ℕ) → n ≤ last_serial → P (record s { serial = n }))
    → (x : Row) → flaw_in nexts x s ≡ None → P (with_row x s)
row-holds P nexts s old one setting intercept serial (row.Setting cost) e = setting cost (not-false (is_link_cost cost) (flaw_if-none (not (is_link_cost cost)) _ _ e).0)
row-holds P nexts s old one setting intercept serial (row.Identity n name attributes) e = one kind.Identity n.0 _ e
row-holds P nexts s old one setting intercept serial (row.Service n name attributes) e = one kind.Service n.0 _ e
row-holds P nexts s old one setting intercept serial (row.Router n name attributes cost through connected) e = one kind.Router n.0 _ e
row-holds P nexts s old one setting intercept serial (row.Link n name a b cost latency_a latency_b up) e = one kind.Link n.0 _ e
row-holds P nexts s old one setting intercept serial (row.ServicePolicy n name relation semantic identities services) e = one kind.ServicePolicy n.0 _ e
row-holds P nexts s old one setting intercept serial (row.EdgeRouterPolicy n name semantic identities routers) e = one kind.EdgeRouterPolicy n.0 _ e
row-holds P nexts s old one setting intercept serial (row.ServiceEdgeRouterPolicy n name semantic services routers) e = one kind.ServiceEdgeRouterPolicy n.0 _ e
row-holds P nexts s old one setting intercept serial (row.Terminator n service router host instance cost precedence) e = one kind.Terminator n.0 _ e
row-holds P nexts s old one setting intercept serial (row.Circuit n identity service terminator ingress links) e = one kind.Circuit n.0 _ e
row-holds P nexts s old one setting intercept serial (row.Intercept n i) e =
    let after = flaw_if-none (not (is_above_all n.0 s.intercepts)) _ _ e in
    let form = flaw_if-none (not (is_intercept i)) _ _ after.1 in
    let there = flaw_if-none (not (is_present s.services.rows n.0)) _ _ form.1 in
    intercept n.0 i (not-false (is_above_all n.0 s.intercepts) after.0) (not-false (is_intercept i) form.0) (not-false (is_present s.services.rows n.0) there.0)
row-holds P nexts s old one setting intercept serial (row.Serial n) e =
    serial n (leb-true n last_serial (not-false (nat_le n last_serial) (flaw_if-none (not (nat_le n last_serial)) _ _ e).0))
row-holds P nexts s old one setting intercept serial x e = old

-- ---- a valid state stays valid

set-valid : (cost : ℕ) (s : State) → is_link_cost cost ≡ true → ValidState s → ValidState (record s { least_router_cost = cost })
set-valid cost s fits v = record {
  kinds = kinds;
  setting = fits;
  attributes = v.attributes;
  repaired = repaired-standing (record s { least_router_cost = cost }) standing;
  ordered = v.ordered;
  intercepts = v.intercepts;
  counted = v.counted;
}
  where
    grown : Grown s (record s { least_router_cost = cost })
    grown kind.Attribute m r e = e
    grown k m r e = e

    kinds : (k : Kind) → ValidTable k (record s { least_router_cost = cost }) (table k (record s { least_router_cost = cost }))
    kinds kind.Link = valid-more (v.kinds kind.Link) (record s { least_router_cost = cost }) (λ q e. e)
    kinds k = valid-more (v.kinds k) (record s { least_router_cost = cost }) (λ q e. e)

    standing : IsStanding (record s { least_router_cost = cost })
    standing kind.Attribute = refl
    standing k = all_still s (record s { least_router_cost = cost }) grown k (table k s).rows (IsStanding-repaired s v.repaired k)

-- a valid state with other intercepts and another serial is valid, if these are
claims-valid : (is : List (ℕ × Intercept)) (n : ℕ) (s : State) → AreClaimed (record s { intercepts = is; serial = n }) → ValidState s → ValidState (record s { intercepts = is; serial = n })
claims-valid is n s c v = record {
  kinds = kinds;
  setting = v.setting;
  attributes = v.attributes;
  repaired = repaired-standing (record s { intercepts = is; serial = n }) standing;
  ordered = c.ordered;
  intercepts = c.intercepts;
  counted = c.counted;
}
  where
    grown : Grown s (record s { intercepts = is; serial = n })
    grown kind.Attribute m r e = e
    grown k m r e = e

    kinds : (k : Kind) → ValidTable k (record s { intercepts = is; serial = n }) (table k (record s { intercepts = is; serial = n }))
    kinds kind.Link = valid-more (v.kinds kind.Link) (record s { intercepts = is; serial = n }) (λ q e. e)
    kinds k = valid-more (v.kinds k) (record s { intercepts = is; serial = n }) (λ q e. e)

    standing : IsStanding (record s { intercepts = is; serial = n })
    standing kind.Attribute = refl
    standing k = all_still s (record s { intercepts = is; serial = n }) grown k (table k s).rows (IsStanding-repaired s v.repaired k)

-- rows in order, and one with a number above theirs
Between-after : {R : Type 0} (high : ℕ) (xs : List (ℕ × R)) (low n : ℕ) (r : R) → low ≤ n → n < high → Between low high xs → is_above_all n xs ≡ true → Between low high (with_last xs n r)
Between-after high [] low n r l h b after = (l, h, tt)
Between-after high (x ∷ xs) low n r l h b after =
    let parts = and_parts (nat_lt x.0 n) (is_above_all n xs) after in
    let above = ltb-true x.0 n parts.0 in
    (b.0, b.1, Between-after high xs (x.0 + 1) n r (omega (arith, above)) h b.2 parts.1)

-- an intercept of a present service joins
claimed-valid : (n : ℕ) (i : Intercept) (s : State) → is_above_all n s.intercepts ≡ true → is_intercept i ≡ true → is_present s.services.rows n ≡ true
    → ValidState s → ValidState (claimed n i s)
claimed-valid n i s after fits there v = claims-valid (with_last s.intercepts n i) s.serial s claims v
  where
    within : (1 ≤ n) × (n < s.services.next)
    within = by_is_some (at s.services.rows n) there (λ r is. at-within s.services.next s.services.rows 1 n r (v.kinds kind.Service).numbers.ordered is)

    valid : is_valid_intercept s (n, i) ≡ true
    valid = and_from (is_present s.services.rows n) (is_intercept i) there fits

    claims : AreClaimed (claimed n i s)
    claims = record {
      ordered = Between-after s.services.next s.intercepts 1 n i within.0 within.1 v.ordered after;
      intercepts = list_all-append (is_valid_intercept s) s.intercepts ((n, i) ∷ [])
          ∙ and_from (list_all (is_valid_intercept s) s.intercepts) (is_valid_intercept s (n, i) && true) v.intercepts (and_from (is_valid_intercept s (n, i)) true valid refl);
      counted = v.counted;
    }

-- the serial is set
serial-valid : (n : ℕ) (s : State) → n ≤ last_serial → ValidState s → ValidState (record s { serial = n })
serial-valid n s fits v = claims-valid s.intercepts n s (record { ordered = v.ordered; intercepts = v.intercepts; counted = fits }) v

pub row-valid : (nexts : Kind → ℕ) (x : Row) (s : State) → ValidState s → ((k : Kind) → nexts k ≤ last_next) → flaw_in nexts x s ≡ None → ValidState (with_row x s)
row-valid nexts x s v last =
    row-holds ValidState nexts s v (λ k n r e. joined-valid nexts k n r s v (last k) e) (λ cost fits. set-valid cost s fits v)
    (λ n i after fits there. claimed-valid n i s after fits there v) (λ n fits. serial-valid n s fits v) x
