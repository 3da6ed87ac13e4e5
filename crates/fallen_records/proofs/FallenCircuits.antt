-- What goes by one change of a valid state: which links, terminators and circuits.
use Rattle.std.proofs.Common.{◌≡◌, ℕ, ◌||◌, Bool, false, not, List, [], ◌∷◌, Option, refl, sym, ◌∙◌, ap}
use Rattle.std.specs.List.{filter, list_any}
use Rattle.ctrl_model.specs.declared.kinds.Kind.{Kind}
use Rattle.ctrl_model.specs.Membership.{Among}
use Rattle.ctrl_model.specs.Numbered.{numbers}
use Rattle.ctrl_model.specs.Settling.{stays_in, settle_links, settle_terminators}
use Rattle.ctrl_model.specs.State.{State, Circuit}
use Rattle.ctrl_model.specs.ValidState.{ValidState}
use Rattle.ctrl_model.specs.Walks.{is_among}
use Rattle.circuits.specs.LostCircuits.{goes_over, needs, passes_through}
use Rattle.fallen_records.proofs.ClosedLaws.{Closes, stays_unless_through}
use Rattle.fallen_records.proofs.FailingRows.{failing, none_fails, those_fail}
use Rattle.fallen_records.proofs.HeldRows.{no_number}
use Rattle.fallen_records.proofs.LostLaws.{stays_exactly}
use Rattle.fallen_records.proofs.SettledRows.{each_circuit}
use Rattle.fallen_records.proofs.TurnedStates.{Turns, loses}

over_nothing : (ls : List ℕ) → list_any (λ l. is_among l []) ls ≡ false
over_nothing [] = refl
over_nothing (l ∷ ls) = over_nothing ls

module _ (s t : State) (v : ValidState s) (some : (x : ℕ × Circuit) → Among x t.circuits.rows → Among x s.circuits.rows) where
  module _ (identity service off : ℕ → Bool) (links terminators : List ℕ) (turns : Turns identity service off links terminators s t) where
    -- the circuits that need what is gone
    pub circuits_fall : (entity : Option (Kind × ℕ))
        → ((c : Circuit) → needs entity links terminators c ≡ (identity c.identity || (service c.service || (off c.ingress || (goes_over links c || is_among c.terminator terminators)))))
        → numbers (filter (λ (x : ℕ × Circuit). needs entity links terminators x.1) t.circuits.rows) ≡ failing (stays_in (settle_terminators (settle_links t))) t.circuits.rows
    circuits_fall entity names =
        sym (those_fail (stays_in (settle_terminators (settle_links t))) t.circuits.rows (λ x. needs entity links terminators x.1) (λ x m.
        stays_exactly identity service off links terminators s (settle_terminators (settle_links t)) (loses identity service off links terminators s t turns) x (each_circuit s v x (some x m))
        ∙ ap not (sym (names x.1))))

  -- where nothing is gone, none goes
  pub no_circuit_falls : Turns no_number no_number no_number [] [] s t → failing (stays_in (settle_terminators (settle_links t))) t.circuits.rows ≡ []
  no_circuit_falls turns =
      none_fails (stays_in (settle_terminators (settle_links t))) t.circuits.rows (λ x m.
      stays_exactly no_number no_number no_number [] [] s (settle_terminators (settle_links t)) (loses no_number no_number no_number [] [] s t turns) x (each_circuit s v x (some x m))
      ∙ ap (λ b. not (b || false)) (over_nothing x.1.links))

  -- the circuits that pass through a router which may not be passed through any more
  pub circuits_stop : (r : ℕ) (links terminators : List ℕ) → Closes r links terminators s (settle_terminators (settle_links t))
      → numbers (filter (λ (x : ℕ × Circuit). passes_through r links terminators x.1) t.circuits.rows) ≡ failing (stays_in (settle_terminators (settle_links t))) t.circuits.rows
  circuits_stop r links terminators closes =
      sym (those_fail (stays_in (settle_terminators (settle_links t))) t.circuits.rows (λ x. passes_through r links terminators x.1) (λ x m.
      stays_unless_through r links terminators s (settle_terminators (settle_links t)) closes x (each_circuit s v x (some x m))))
