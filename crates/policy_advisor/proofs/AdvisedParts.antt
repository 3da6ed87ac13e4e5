-- What is advised of parts is advised of the state whose parts they are.
use Rattle.std.proofs.Common.{◌≡◌, ℕ, ◌==◌, ◌&&◌, Bool, true, false, cond, List, [], ◌∷◌, map, Option, Some, inl, inr, refl, sym, ap, subst, eq-eqb, None}
use Rattle.std.proofs.lemmas.Bool.{and_from}
use Rattle.std.specs.List.{list_all}
use Rattle.std.specs.Prelude.{is_some}
use Rattle.ctrl_model.specs.declared.kinds.RouterSeen.{RouterSeen}
use Rattle.ctrl_model.specs.Choices.{Any, is_wanted, shared, ingresses}
use Rattle.ctrl_model.specs.Membership.{Among}
use Rattle.ctrl_model.specs.Networks.{Network, network_of, is_shared, seen}
use Rattle.ctrl_model.specs.Numbered.{at, is_present}
use Rattle.ctrl_model.specs.State.{State, Router}
use Rattle.ctrl_model.proofs.Members.{by_filter, by_map}
use Rattle.terminators.specs.TermTables.{open_at}
use Rattle.entity_store.specs.EntityTables.{Tables}
use Rattle.policy_store.specs.PolicyTables.{PolicyTables}
use Rattle.circuit_rules.specs.declared.views.View.{View}
use Rattle.circuit_rules.specs.Views.{network}
use Rattle.policy_advisor.specs.declared.advised.Advice.{Advice}
use Rattle.policy_advisor.specs.Advice.{advice_in, advice_of, of_both, router_numbers}
use Rattle.policy_advisor.specs.AdvisedStates.{ArePartsOf, HasRouters}

module _ (v : View) (t : Tables) (p : PolicyTables) (s : State) (a : ArePartsOf v t p s) where
  -- the network of the view is the state's, but for the loads of terminators
  network_is : record (network_of s) { load = open_at v.terminators.now } ≡ network v
  network_is = λ i. record {
    routers = sym a.view.routers i;
    links = (sym a.view.links i).rows;
    least = sym a.view.least i;
    terminators = (sym a.view.terminators i).rows;
    load = open_at v.terminators.now;
    dial = λ x y. sym (a.view.dial x y) i;
    bind = λ x y. sym (a.view.bind x y) i;
    identity_router = λ x y. sym (a.view.identity_router x y) i;
    service_router = λ x y. sym (a.view.service_router x y) i;
    full = sym a.view.full i;
  }

  -- and so is the advice
  pub advice-is : (identity service : List ℕ)
      → advice_in (network v) p.service_policies.rows t.identities.rows t.services.rows identity service ≡ advice_of s identity service
  advice-is identity service = λ i. advice_in (sym network_is i) (a.service_policies i).rows (a.identities i).rows (a.services i).rows identity service

-- ---- routers that are present

at-among : (rows : List (ℕ × Router)) (row : ℕ × Router) → Among row rows → is_present rows row.0 ≡ true
at-among [] row m = absurd m
at-among (x ∷ rows) row (inl e) = by (x.0 == row.0) (eq-eqb x.0 row.0 (ap (λ (y : ℕ × Router). y.0) e))
  where
    by : (b : Bool) → b ≡ true → is_some (cond b (Some x.1) (at rows row.0)) ≡ true
    by true e = refl
    by false e = absurd (cc)
at-among (x ∷ rows) row (inr m) = by (x.0 == row.0) (at-among rows row m)
  where
    by : (b : Bool) → is_some (at rows row.0) ≡ true → is_some (cond b (Some x.1) (at rows row.0)) ≡ true
    by true h = refl
    by false h = h

all_there : (rows : List (ℕ × Router)) (rs : List RouterSeen) → ((r : RouterSeen) → Among r rs → is_present rows r.no.0 ≡ true) → list_all (is_present rows) (router_numbers rs) ≡ true
all_there rows [] there = refl
all_there rows (r ∷ rs) there = and_from _ _ (there r (inl refl)) (all_there rows rs (λ x m. there x (inr m)))

seen_there : (rows : List (ℕ × Router)) (r : RouterSeen) → Among r (map seen rows) → is_present rows r.no.0 ≡ true
seen_there rows r m = by_map seen rows r m (λ row n is. subst (λ (x : RouterSeen). is_present rows x.no.0 ≡ true) is (at-among rows row n))

shared_there : (w : Network) (rows : List (ℕ × Router)) (i s : ℕ) → w.routers ≡ map seen rows → (r : RouterSeen) → Among r (shared w Any i s) → is_present rows r.no.0 ≡ true
shared_there w rows i s same r m =
    by_filter (λ (x : RouterSeen). is_wanted Any x.no.0 && is_shared w i s x.no.0) w.routers r m (λ n _. seen_there rows r (subst (λ rs. Among r rs) same n))

of_both-there : (rows : List (ℕ × Router)) (i j : Option ℕ) (f : ℕ → ℕ → List ℕ) → ((i s : ℕ) → list_all (is_present rows) (f i s) ≡ true) → list_all (is_present rows) (of_both i j [] f) ≡ true
of_both-there rows None j f there = refl
of_both-there rows (Some i) None f there = refl
of_both-there rows (Some i) (Some s) f there = there i s

-- the routers of an advice are present
pub advised_there : (t : Tables) (s : State) (identity service : List ℕ) (a : Advice) → t.routers ≡ s.routers → a ≡ advice_of s identity service → HasRouters t.routers.rows a
advised_there t s identity service a same is =
    subst (λ (x : Advice). HasRouters t.routers.rows x) (sym is) (record {
      common = of_both-there t.routers.rows _ _ _ (λ i j. all_there t.routers.rows (shared w Any i j) (there i j));
      online = of_both-there t.routers.rows _ _ _ (λ i j. all_there t.routers.rows (ingresses w Any i j) (λ r m.
          by_filter (λ (x : RouterSeen). x.connected) (shared w Any i j) r m (λ n _. there i j r n)));
    })
  where
    w : Network
    w = network_of s

    there : (i j : ℕ) (r : RouterSeen) → Among r (shared w Any i j) → is_present t.routers.rows r.no.0 ≡ true
    there i j = shared_there w t.routers.rows i j (λ k. map seen (sym same k).rows)
