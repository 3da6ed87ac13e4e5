-- Names of a valid state find the new numbers of their records.
use Rattle.std.proofs.Common.{◌≡◌, ℕ, ◌+◌, ◌==◌, ◌&&◌, Bool, true, false, inl, inr, List, [], ◌∷◌, ◌++◌, is_some, Option, Some, refl, sym, ◌∙◌, ap, subst, arith, eq-eqb, bytes_eq}
use Rattle.std.proofs.lemmas.Bool.{and_from, both_ways, cond-true, false_from_ne_true}
use Rattle.std.proofs.lemmas.List.Folds.{list_all-append}
use Rattle.std.specs.List.{list_all}
use Rattle.std.specs.Option.{option_map_or}
use Rattle.ctrl_model.specs.declared.kinds.Kind.{Kind}
use Rattle.ctrl_model.specs.Membership.{Among}
use Rattle.ctrl_model.specs.Numbered.{at, is_present, first_where, Between}
use Rattle.ctrl_model.specs.State.{State}
use Rattle.ctrl_model.specs.Tables.{Record, table, record_name, has_names}
use Rattle.ctrl_model.specs.ValidState.{ValidState}
use Rattle.ctrl_model.proofs.DistinctLaws.{same_name}
use Rattle.ctrl_model.proofs.NumberedLaws.{at-past, at-with_last, by_is_some}
use Rattle.record_lines.specs.RecordNames.{name_of}
use Rattle.dump_laws.proofs.RenumberedRows.{renumbered, place, at-place, name-found}
use Rattle.dump_laws.proofs.MadeEntities.{same}

-- the name of a record finds its new number
pub found_anew : (k : Kind) → has_names k ≡ true → (s : State) → ValidState s → (n : ℕ) → is_present (table k s).rows n ≡ true
    → first_where (λ (q : Record k). bytes_eq (record_name k q) (name_of k s n)) (renumbered same 1 (table k s).rows) ≡ Some (place 1 (table k s).rows n)
found_anew k has s v n present = by_is_some (at (table k s).rows n) present (λ r is.
    subst (λ (o : Option (Record k)). first_where (λ (q : Record k). bytes_eq (record_name k q) (option_map_or (record_name k) o [])) (renumbered same 1 (table k s).rows)
    ≡ Some (place 1 (table k s).rows n)) (sym is)
    (name-found (record_name k) (record_name k) same (λ q. refl) 1 (table k s).next (table k s).rows 1 n r (v.kinds k).numbers.ordered ((v.kinds k).names has) is))

-- a record stands there
pub present_anew : {R S : Type 0} (g : R → S) (xs : List (ℕ × R)) (n : ℕ) → is_present xs n ≡ true → is_present (renumbered g 1 xs) (place 1 xs n) ≡ true
present_anew g xs n present = by_is_some (at xs n) present (λ r is. ap is_some (at-place g 1 xs n r is))

-- records of different numbers have different names
pub names_apart : (k : Kind) → has_names k ≡ true → (s : State) → ValidState s → (a b : ℕ) → is_present (table k s).rows a ≡ true → is_present (table k s).rows b ≡ true
    → (a == b) ≡ false → bytes_eq (name_of k s a) (name_of k s b) ≡ false
names_apart k has s v a b here there apart = false_from_ne_true (bytes_eq (name_of k s a) (name_of k s b)) (λ e.
    by_is_some (at (table k s).rows a) here (λ r is_r. by_is_some (at (table k s).rows b) there (λ q is_q.
    let one : name_of k s a ≡ record_name k r = ap (λ (o : Option (Record k)). option_map_or (record_name k) o []) is_r in
    let other : name_of k s b ≡ record_name k q = ap (λ (o : Option (Record k)). option_map_or (record_name k) o []) is_q in
    both_ways (a == b) apart (eq-eqb a b ((v.kinds k).names has a b r q is_r is_q (sym one ∙ same_name (name_of k s a) (name_of k s b) e ∙ other))))))

-- each record that is numbered anew passes a test
pub each-renumbered : {R S : Type 0} (p : ℕ × S → Bool) (g : R → S) (n : ℕ) (xs : List (ℕ × R)) → ((m : ℕ) (x : ℕ × R) → Among x xs → p (m, g x.1) ≡ true)
    → list_all p (renumbered g n xs) ≡ true
each-renumbered p g n [] k = refl
each-renumbered p g n (x ∷ xs) k = and_from (p (n, g x.1)) _ (k n x (inl refl)) (each-renumbered p g (n + 1) xs (λ m y a. k m y (inr a)))

pub each-last : {X : Type 0} (p : X → Bool) (xs : List X) (y : X) → list_all p xs ≡ true → p y ≡ true → list_all p (xs ++ y ∷ []) ≡ true
each-last p xs y all last = list_all-append p xs (y ∷ []) ∙ and_from (list_all p xs) (p y && true) all (and_from (p y) true last refl)

-- the last record stands at its number
pub at-last : {R : Type 0} (xs : List (ℕ × R)) (low n : ℕ) (r : R) → Between low n xs → at (xs ++ (n, r) ∷ []) n ≡ Some r
at-last xs low n r b = at-with_last xs n n r (at-past n xs low n b (omega arith)) ∙ cond-true (n == n) (Some r) (at xs n) (eq-eqb n n refl)
