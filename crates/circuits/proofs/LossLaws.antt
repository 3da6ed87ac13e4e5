-- Laws of what circuits lose: where no link goes, none goes over one.
use Rattle.std.proofs.Common.{◌≡◌, ◌↔◌, ℕ, Bool, true, false, not, IsTrue, List, [], ◌∷◌, refl, sym, ◌∙◌, ap}
use Rattle.std.specs.List.{list_any}
use Rattle.ctrl_model.specs.State.{Circuit}
use Rattle.ctrl_model.specs.Walks.{is_among}
use Rattle.circuits.specs.LostCircuits.{goes_over}

-- a circuit goes over none of no links
over_none : (ls : List ℕ) → list_any (λ l. is_among l []) ls ≡ false
over_none [] = refl
over_none (l ∷ ls) = over_none ls

-- a test whether there are links answers for all circuits where there are none
pub goes_over-none : (r : Bool) (links : List ℕ) (c : Circuit) → r ≡ true → (IsTrue r ↔ (links ≡ [])) → not r ≡ goes_over links c
goes_over-none r links c e by = ap not e ∙ sym (ap (λ ns. goes_over ns c) (by.0 e) ∙ over_none c.links)
