-- Routers as routes see them are routers of the state.
use Rattle.std.proofs.Common.{◌≡◌, ℕ, ◌==◌, Bool, true, false, cond, List, [], ◌∷◌, map, is_some, Some, refl}
use Rattle.std.proofs.lemmas.Bool.{false≢true}
use Rattle.std.specs.List.{find}
use Rattle.std.specs.Option.{option_map_or}
use Rattle.ctrl_model.specs.declared.kinds.RouterSeen.{RouterSeen}
use Rattle.ctrl_model.specs.Networks.{seen}
use Rattle.ctrl_model.specs.Numbered.{at, is_present}
use Rattle.ctrl_model.specs.State.{Router}

-- a router that is connected is present
pub on_present : (rows : List (ℕ × Router)) (n : ℕ) → option_map_or (λ (r : RouterSeen). r.connected) (find (λ (r : RouterSeen). r.no.0 == n) (map seen rows)) false ≡ true
    → is_present rows n ≡ true
on_present [] n e = absurd (false≢true e)
on_present (x ∷ rows) n e = by (x.0 == n) e (on_present rows n)
  where
    by : (c : Bool) → option_map_or (λ (r : RouterSeen). r.connected) (cond c (Some (seen x)) (find (λ (r : RouterSeen). r.no.0 == n) (map seen rows))) false ≡ true
        → (option_map_or (λ (r : RouterSeen). r.connected) (find (λ (r : RouterSeen). r.no.0 == n) (map seen rows)) false ≡ true → is_present rows n ≡ true)
        → is_some (cond c (Some x.1) (at rows n)) ≡ true
    by true h k = refl
    by false h k = k h
