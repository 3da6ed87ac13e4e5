-- Laws of circuits that are moved: one move after the other, what stands at a number, and what the table keeps.
use Rattle.std.proofs.Common.{◌≡◌, ℕ, ◌==◌, Bool, true, false, cond, List, [], ◌∷◌, ◌++◌, map, is_some, Option, None, Some, Bor, inl, inr, refl, sym, ◌∙◌, ap, ap₂, arith}
use Rattle.std.proofs.lemmas.Bool.{false≢true}
use Rattle.std.proofs.lemmas.Bool.Decides.{nat_tests}
use Rattle.std.proofs.lemmas.Option.{none-some}
use Rattle.std.specs.List.{find}
use Rattle.std.specs.Option.{option_map, option_map_or}
use Rattle.ctrl_model.specs.Membership.{Among}
use Rattle.ctrl_model.specs.Numbered.{Table, at, numbers, edit_at, with_edit, Between}
use Rattle.ctrl_model.specs.State.{Circuit}
use Rattle.ctrl_model.proofs.NumberedLaws.{at-map, Between-map}
use Rattle.record_tables.specs.AfterChange.{without_numbers}
use Rattle.record_tables.specs.Turns.{turned_table}
use Rattle.circuits.specs.declared.changes.CircuitChange.{CircuitChange}
use Rattle.circuits.specs.declared.moves.Move.{Move}
use Rattle.circuits.specs.ChangedCircuits.{turn_of}
use Rattle.circuits.specs.CircuitChanges.{circuits_after}
use Rattle.circuits.specs.CircuitTables.{CircuitTables}
use Rattle.circuits.specs.MovedCircuits.{with_links, moved_numbers, moved_links, moved, moved_table, with_moves}
use Rattle.circuits.proofs.ChangeLaws.{circuits_turned}

-- ---- one circuit over other links

module _ {R : Type 0} (f : R → R) where
  edit-absent : (xs : List (ℕ × R)) (n : ℕ) → at xs n ≡ None → edit_at xs n f ≡ xs
  edit-absent [] n e = refl
  edit-absent (x ∷ xs) n e = by (x.0 == n) e (edit-absent xs n)
    where
      by : (c : Bool) → cond c (Some x.1) (at xs n) ≡ None → (at xs n ≡ None → edit_at xs n f ≡ xs) → (x.0, cond c (f x.1) x.1) ∷ edit_at xs n f ≡ x ∷ xs
      by true is h = absurd (none-some x.1 (sym is))
      by false is h = ap (λ ys. x ∷ ys) (h is)

  -- where a look-up found nothing, nothing changes
  pub edited_absent : (t : Table R) (n : ℕ) (o : Option (Bor R)) → option_map (λ r. r.now) o ≡ at t.rows n → is_some o ≡ false → t ≡ with_edit n f t
  edited_absent t n o found e = ap (λ rows. record t { rows = rows }) (sym (edit-absent t.rows n (by o found e)))
    where
      by : (o : Option (Bor R)) → option_map (λ r. r.now) o ≡ at t.rows n → is_some o ≡ false → at t.rows n ≡ None
      by None found e = sym found
      by (Some r) found e = absurd (false≢true (sym e))

-- ---- one move after the other, the last one first

-- a circuit over other links, if there are some
abbrev going : Option (List ℕ) → Circuit → Circuit
going o c = option_map_or (λ links. record c { links = links }) o c

-- the links of a move, if there is one
abbrev links_of : Option Move → Option (List ℕ)
links_of o = option_map (λ m. m.links) o

moved-last : (ms : List Move) (m : Move) (n : ℕ) (c : Circuit) → moved (ms ++ m ∷ []) (n, c) ≡ moved ms (n, cond (n == m.circuit.0) (record c { links = m.links }) c)
moved-last [] m n c = by (m.circuit.0 == n) (n == m.circuit.0) refl refl
  where
    by : (a b : Bool) → (m.circuit.0 == n) ≡ a → (n == m.circuit.0) ≡ b → going (links_of (cond a (Some m) None)) c ≡ cond b (record c { links = m.links }) c
    by true true e f = refl
    by false false e f = refl
    by true false e f = absurd (grind (arith, nat_tests))
    by false true e f = absurd (grind (arith, nat_tests))
moved-last (k ∷ ms) m n c = by (k.circuit.0 == n) (moved-last ms m n c)
  where
    same : (b : Bool) → record c { links = k.links } ≡ record (cond b (record c { links = m.links }) c) { links = k.links }
    same true = refl
    same false = refl

    by : (a : Bool) → moved (ms ++ m ∷ []) (n, c) ≡ moved ms (n, cond (n == m.circuit.0) (record c { links = m.links }) c)
        → going (links_of (cond a (Some k) (find (λ (j : Move). j.circuit.0 == n) (ms ++ m ∷ [])))) c
        ≡ going (links_of (cond a (Some k) (find (λ (j : Move). j.circuit.0 == n) ms))) (cond (n == m.circuit.0) (record c { links = m.links }) c)
    by true h = same (n == m.circuit.0)
    by false h = h

pub moves-last : (ms : List Move) (m : Move) (t : Table Circuit) → moved_table (ms ++ m ∷ []) t ≡ moved_table ms (with_links m.circuit.0 m.links t)
moves-last ms m t = ap (λ rows. record t { rows = rows }) (each t.rows)
  where
    each : (xs : List (ℕ × Circuit)) → map {B = ℕ × Circuit} (λ x. (x.0, moved (ms ++ m ∷ []) x)) xs ≡ map {B = ℕ × Circuit} (λ x. (x.0, moved ms x)) (edit_at xs m.circuit.0 (λ c. record c { links = m.links }))
    each [] = refl
    each (x ∷ xs) = ap₂ (λ c ys. (x.0, c) ∷ ys) (moved-last ms m x.0 x.1) (each xs)

pub moves-none : (t : Table Circuit) → moved_table [] t ≡ t
moves-none t = ap (λ rows. record t { rows = rows }) (each t.rows)
  where
    each : (xs : List (ℕ × Circuit)) → map {B = ℕ × Circuit} (λ x. (x.0, moved [] x)) xs ≡ xs
    each [] = refl
    each (x ∷ xs) = ap (λ ys. x ∷ ys) (each xs)

-- ---- what stands at a number, and what the table keeps

pub at-moved : (ms : List Move) (t : Table Circuit) (n : ℕ) → at (moved_table ms t).rows n ≡ option_map (λ c. moved ms (n, c)) (at t.rows n)
at-moved ms t n = at-map (moved ms) t.rows n

-- where the record that a change leaves at a number was looked up
pub at-looked_up : (ms : List Move) (o : Option CircuitChange) (gone : List ℕ) (k : CircuitTables) (n : ℕ) (r : Option Circuit)
    → r ≡ at (without_numbers gone (turned_table (λ c. c) (turn_of o) k.circuits)).rows n
    → option_map (λ c. moved ms (n, c)) r ≡ at (with_moves ms (circuits_after o gone k)).circuits.rows n
at-looked_up ms o gone k n r found =
    ap (option_map (λ c. moved ms (n, c))) (found ∙ ap (λ (t : Table Circuit). at (without_numbers gone t).rows n) (circuits_turned o k))
    ∙ sym (at-moved ms (circuits_after o gone k).circuits n)

pub numbers-moved : (ms : List Move) (t : Table Circuit) → numbers (moved_table ms t).rows ≡ numbers t.rows
numbers-moved ms t = each t.rows
  where
    each : (xs : List (ℕ × Circuit)) → numbers (map {B = ℕ × Circuit} (λ x. (x.0, moved ms x)) xs) ≡ numbers xs
    each [] = refl
    each (x ∷ xs) = ap (λ ns. x.0 ∷ ns) (each xs)

pub ordered-moved : (ms : List Move) (t : Table Circuit) (high : ℕ) → Between 1 high t.rows → Between 1 high (moved_table ms t).rows
ordered-moved ms t high b = Between-map (moved ms) high t.rows 1 b

-- a number that no move names
pub unnamed : (ms : List Move) (n : ℕ) → (Among n (moved_numbers ms) → ⊥) → moved_links ms n ≡ None
unnamed [] n misses = refl
unnamed (m ∷ ms) n misses = by (m.circuit.0 == n) refl (unnamed ms n (λ a. misses (inr a)))
  where
    by : (a : Bool) → (m.circuit.0 == n) ≡ a → moved_links ms n ≡ None → links_of (cond a (Some m) (find (λ (j : Move). j.circuit.0 == n) ms)) ≡ None
    by true e h = absurd (misses (inl (grind (arith, nat_tests))))
    by false e h = h

pub at-unmoved : (ms : List Move) (t : Table Circuit) (n : ℕ) → (Among n (moved_numbers ms) → ⊥) → at (moved_table ms t).rows n ≡ at t.rows n
at-unmoved ms t n misses = at-moved ms t n ∙ ap (λ o. option_map (going o) (at t.rows n)) (unnamed ms n misses) ∙ by (at t.rows n)
  where
    by : (o : Option Circuit) → option_map (λ c. c) o ≡ o
    by None = refl
    by (Some c) = refl
