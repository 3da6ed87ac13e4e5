-- What makes an entry settled, with the values, the links and the routers as a function reads them.
use Rattle.std.proofs.Common.{◌≡◌, ℕ, ◌&&◌, List, length, sym, ◌∙◌, ap, ap₂, eq-eqb}
use Rattle.std.proofs.lemmas.List.Folds.{list_all-map}
use Rattle.std.specs.List.{list_all}
use Rattle.ctrl_model.specs.declared.kinds.RouterSeen.{RouterSeen}
use Rattle.ctrl_model.specs.declared.claims.Reach.{Reach}
use Rattle.ctrl_model.specs.Numbered.{numbers}
use Rattle.ctrl_model.specs.Networks.{Network, hops}
use Rattle.ctrl_model.specs.Claims.{router_numbers, value_at, does_not_improve, is_settled}

pub settled-from : (w : Network) (e : Reach) (values links : List ℕ) → values ≡ e.values → links ≡ numbers w.links → length values ≡ length w.routers
    → value_at (router_numbers w) values e.router.0 ≡ 0
    → list_all (λ (r : RouterSeen). list_all (λ l. does_not_improve (value_at (router_numbers w) values) r.no.0 (hops w e.router.0 r.no.0 l)) links) w.routers ≡ is_settled w e
settled-from w e values links same named full zero =
    ap₂ (λ vs ls. list_all (λ (r : RouterSeen). list_all (λ l. does_not_improve (value_at (router_numbers w) vs) r.no.0 (hops w e.router.0 r.no.0 l)) ls) w.routers) same named
    ∙ sym (list_all-map (λ v. list_all (λ l. does_not_improve (value_at (router_numbers w) e.values) v (hops w e.router.0 v l)) (numbers w.links)) (λ (r : RouterSeen). r.no.0) w.routers)
    ∙ sym (ap₂ (λ a b. a && (b && list_all (λ v. list_all (λ l. does_not_improve (value_at (router_numbers w) e.values) v (hops w e.router.0 v l)) (numbers w.links)) (router_numbers w)))
    (eq-eqb (length e.values) (length w.routers) (sym (ap length same) ∙ full))
    (eq-eqb (value_at (router_numbers w) e.values e.router.0) 0 (sym (ap (λ vs. value_at (router_numbers w) vs e.router.0) same) ∙ zero)))
