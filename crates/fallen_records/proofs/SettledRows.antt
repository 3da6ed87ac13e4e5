-- In a valid state each link, each terminator and each circuit stays.
use Rattle.std.proofs.Common.{◌≡◌, ℕ, true, List, sym, ◌∙◌, ap, subst}
use Rattle.ctrl_model.specs.Membership.{Among}
use Rattle.ctrl_model.specs.Networks.{network_of}
use Rattle.ctrl_model.specs.Numbered.{map_each}
use Rattle.ctrl_model.specs.Settling.{link_stays, terminator_stays, stays_in, rerouted, settle_links, settle_terminators}
use Rattle.ctrl_model.specs.State.{State, Link, Terminator, Circuit}
use Rattle.ctrl_model.specs.ValidState.{ValidState}
use Rattle.ctrl_model.proofs.Members.{by_filter}

module _ (s : State) (v : ValidState s) where
  pub each_link : (x : ℕ × Link) → Among x s.links.rows → link_stays s x ≡ true
  each_link x m = by_filter (link_stays s) s.links.rows x (subst (λ (rows : List (ℕ × Link)). Among x rows) (sym (ap (λ (u : State). u.links.rows) v.repaired)) m) (λ _ e. e)

  pub each_terminator : (x : ℕ × Terminator) → Among x s.terminators.rows → terminator_stays s x ≡ true
  each_terminator x m =
      by_filter (terminator_stays s) s.terminators.rows x (subst (λ (rows : List (ℕ × Terminator)). Among x rows) (sym (ap (λ (u : State). u.terminators.rows) v.repaired)) m) (λ _ e. e)

  pub same_so_far : settle_terminators (settle_links s) ≡ s
  same_so_far = λ i. record s { links = ap (λ (u : State). u.links) v.repaired i; terminators = ap (λ (u : State). u.terminators) v.repaired i }

  pub each_circuit : (x : ℕ × Circuit) → Among x s.circuits.rows → stays_in s x ≡ true
  each_circuit x m =
      ap (λ (u : State). stays_in u x) (sym same_so_far)
      ∙ by_filter (stays_in (settle_terminators (settle_links s))) (map_each (rerouted (network_of (settle_terminators (settle_links s)))) s.circuits.rows) x
      (subst (λ (rows : List (ℕ × Circuit)). Among x rows) (sym (ap (λ (u : State). u.circuits.rows) v.repaired)) m) (λ _ e. e)
