-- The row of an intercept that a change touches covers the table of intercepts, and the same intercept again changes nothing.
use Rattle.std.proofs.Common.{◌≡◌, ◌≢◌, ℕ, ◌+◌, ◌==◌, ◌&&◌, nat_lt, Bool, true, false, not, cond, List, [], ◌∷◌, Option, None, Some, option_map, option_and_then, find, Bor, IfSome, refl, sym, ◌∙◌, ap, subst, arith, inl, eq-eqb, eqb-true, ltb-true, ltb-false, lit≤, lit<}
use Rattle.std.proofs.lemmas.Bool.{cond-true, cond-false, and_from, and_parts}
use Rattle.std.proofs.lemmas.Option.{none-some, same_Some}
use Rattle.ctrl_model.specs.declared.formats.Format.{Format}
use Rattle.ctrl_model.specs.declared.formats.Format.TheVariants.{One, Two}
use Rattle.ctrl_model.specs.declared.intercepts.Intercept.{Intercept}
use Rattle.ctrl_model.specs.Hits.{are_intercepts}
use Rattle.ctrl_model.specs.InterceptForm.{is_intercept}
use Rattle.ctrl_model.specs.Numbered.{at, with_at, without, Between}
use Rattle.ctrl_model.specs.State.{State}
use Rattle.ctrl_model.proofs.NumberedLaws.{at-with_at, at-with_at-other, at-without-other, at-within}
use Rattle.row_codec.specs.CoveredTables.{Covers, LiesIn, change_at}
use Rattle.row_codec.specs.RowKeys.{Key, key_in, is_long, table_number, tables_of}
use Rattle.row_codec.specs.RowKeys.RowTable.{Intercepts}
use Rattle.row_codec.specs.RowValues.{intercept_value}
use Rattle.row_codec.specs.StateRows.{HasRows, row_at, row_in}
use Rattle.row_laws.proofs.Covers.{Covers-same}
use Rattle.row_laws.proofs.TableRows.{row_at-table}
use Rattle.row_laws.proofs.TouchedKeys.{Covers-intercepts}
use Rattle.intercepts.specs.declared.changes.InterceptChange.{InterceptChange}
use Rattle.intercepts.specs.declared.changes.InterceptChange.TheVariants as change
use Rattle.intercepts.specs.InterceptChanges.{after_intercept_change}
use Rattle.intercept_commands.specs.InterceptRows.{claim_change, service_of, claim_of}

-- ---- the same intercept again

pub set_again : {R : Type 0} (high : ℕ) (xs : List (ℕ × R)) (low n : ℕ) (r : R) → Between low high xs → at xs n ≡ Some r → with_at n r xs ≡ xs
set_again high [] low n r b there = absurd (none-some r there)
set_again {R} high (x ∷ xs) low n r b there = by (nat_lt x.0 n) (x.0 == n) refl refl there (set_again high xs (x.0 + 1) n r b.2)
  where
    by : (c d : Bool) → nat_lt x.0 n ≡ c → (x.0 == n) ≡ d → cond d (Some x.1) (at xs n) ≡ Some r → (at xs n ≡ Some r → with_at n r xs ≡ xs)
        → cond c (x ∷ with_at n r xs) ((n, r) ∷ cond d xs (x ∷ xs)) ≡ x ∷ xs
    by true true less same is more = absurd (let l = ltb-true x.0 n less in let e = eqb-true x.0 n same in omega (arith, l, e))
    by true false less other is more = ap (λ (ys : List (ℕ × R)). x ∷ ys) (more is)
    by false true past same is more =
        let number : n ≡ x.0 = sym (eqb-true x.0 n same) in
        let value : r ≡ x.1 = sym (same_Some x.1 r is) in
        λ i. (number i, value i) ∷ xs
    by false false past other is more =
        let within = at-within high xs (x.0 + 1) n r b.2 is in
        let no = ltb-false x.0 n past in
        absurd (omega (arith, within.0, no))

-- ---- the row that is touched

-- the intercepts after a change: at the service what it has then, and as before at every other
gone_there : (xs : List (ℕ × Intercept)) (n : ℕ) → at (without xs n) n ≡ None
gone_there [] n = refl
gone_there (x ∷ xs) n = by (x.0 == n) refl (gone_there xs n)
  where
    by : (b : Bool) → (x.0 == n) ≡ b → at (without xs n) n ≡ None → at (cond (not b) (x ∷ without xs n) (without xs n)) n ≡ None
    by true is e = e
    by false is e = cond-false (x.0 == n) (Some x.1) (at (without xs n) n) is ∙ e

at_service : (c : InterceptChange) (xs : List (ℕ × Intercept)) → at (after_intercept_change c xs) (service_of c) ≡ claim_of c
at_service (change.Set service i) xs = at-with_at xs service.0 service.0 i ∙ cond-true (service.0 == service.0) (Some i) (at xs service.0) (eq-eqb service.0 service.0 refl)
at_service (change.Remove service) xs = gone_there xs service.0

elsewhere : (c : InterceptChange) (xs : List (ℕ × Intercept)) (n : ℕ) → n ≢ service_of c → at xs n ≡ at (after_intercept_change c xs) n
elsewhere (change.Set service i) xs n other = sym (at-with_at-other xs service.0 n i other)
elsewhere (change.Remove service) xs n other = sym (at-without-other xs service.0 n other)

-- the change of the row, as the two states have it
change_is : (s t : State) (n : ℕ) (before after : Option Intercept) → before ≡ at s.intercepts n → after ≡ at t.intercepts n → claim_change n before after ≡ change_at Two s t (key_in Intercepts n 0)
change_is s t n before after was is = λ i. record {
  key = (claim_change n before after).key;
  before = (ap (option_map intercept_value) was ∙ sym (row_at-table Two Intercepts refl s (key_in Intercepts n 0) refl)) i;
  after = (ap (option_map intercept_value) is ∙ sym (row_at-table Two Intercepts refl t (key_in Intercepts n 0) refl)) i;
}

covers_two : (c : InterceptChange) (xs : List (ℕ × Intercept)) (s t : State) → is_long (service_of c) ≡ true → s.intercepts ≡ xs → t.intercepts ≡ after_intercept_change c xs
    → Covers Two 16 17 s t (claim_change (service_of c) (at xs (service_of c)) (claim_of c) ∷ [])
covers_two c xs s t fits was is =
    let n = service_of c in
    subst (λ x. Covers Two 16 17 s t (x ∷ []))
    (sym (change_is s t n (at xs n) (claim_of c) (ap (λ (ys : List (ℕ × Intercept)). at ys n) (sym was)) (sym (at_service c xs) ∙ ap (λ (ys : List (ℕ × Intercept)). at ys n) (sym is))))
    (Covers-intercepts s t (n ∷ []) (tt, tt) (and_from (is_long n) true fits refl) (λ m other.
    ap (λ (ys : List (ℕ × Intercept)). at ys m) was ∙ elsewhere c xs m (λ e. other (inl (sym e))) ∙ ap (λ (ys : List (ℕ × Intercept)). at ys m) (sym is)))

-- ---- the first format, which has no such table

no_row : (s : State) (q : Key) → q.0 ≡ 16 → row_at One s q ≡ None
no_row s q e = ap (λ n. option_and_then (λ u. row_in One u s q.1 q.2) (find (λ u. table_number u == n) (tables_of One))) e

in_table : (q : Key) → LiesIn 16 17 q → q.0 ≡ 16
in_table q lies = omega (arith, lies.0, lies.1)

covers_one : (n : ℕ) (s t : State) → is_long n ≡ true → Covers One 16 17 s t (claim_change n None None ∷ [])
covers_one n s t fits = record {
  keys = key_in Intercepts n 0 ∷ [];
  named = refl;
  rises = (tt, tt);
  fits = and_from (is_long n && true) true (and_from (is_long n) true fits refl) refl;
  within = ((lit≤ tt, lit< tt), tt);
  others = λ q lies misses. no_row s q (in_table q lies) ∙ sym (no_row t q (in_table q lies));
}

-- ---- each format

pub covers_change : (f : Format) (c : InterceptChange) (xs : List (ℕ × Intercept)) (s t : State) → is_long (service_of c) ≡ true → HasRows f s → HasRows f t → s.intercepts ≡ xs
    → t.intercepts ≡ after_intercept_change c xs → Covers f 16 17 s t (claim_change (service_of c) (at xs (service_of c)) (claim_of c) ∷ [])
covers_change Two c xs s t fits has had was is = covers_two c xs s t fits was is
covers_change One c xs s t fits has had was is =
    subst (λ x. Covers One 16 17 s t (x ∷ [])) (λ i. claim_change (service_of c) (before i) (then i)) (covers_one (service_of c) s t fits)
  where
    before : None ≡ at xs (service_of c)
    before = ap (λ (ys : List (ℕ × Intercept)). at ys (service_of c)) (sym has.0 ∙ was)

    then : None ≡ claim_of c
    then = ap (λ (ys : List (ℕ × Intercept)). at ys (service_of c)) (sym had.0 ∙ is) ∙ at_service c xs

pub covers_none : (f : Format) (s t : State) → s.intercepts ≡ t.intercepts → Covers f 16 17 s t []
covers_none f s t same = Covers-same f 16 17 s t (λ q lies. by f q (in_table q lies))
  where
    by : (g : Format) (q : Key) → q.0 ≡ 16 → row_at g s q ≡ row_at g t q
    by One q e = no_row s q e ∙ sym (no_row t q e)
    by Two q e =
        row_at-table Two Intercepts refl s q e ∙ ap (λ (ys : List (ℕ × Intercept)). cond (q.2 == 0) (option_map intercept_value (at ys q.1)) None) same
        ∙ sym (row_at-table Two Intercepts refl t q e)

-- ---- what is there is an intercept

claim_there : (xs : List (ℕ × Intercept)) (n : ℕ) (i : Intercept) → are_intercepts xs ≡ true → at xs n ≡ Some i → is_intercept i ≡ true
claim_there [] n i all e = absurd (none-some i e)
claim_there (x ∷ xs) n i all e = by (x.0 == n) (and_parts (is_intercept x.1) (are_intercepts xs) all) (claim_there xs n i) e
  where
    by : (b : Bool) → (is_intercept x.1 ≡ true) × (are_intercepts xs ≡ true) → (are_intercepts xs ≡ true → at xs n ≡ Some i → is_intercept i ≡ true)
        → cond b (Some x.1) (at xs n) ≡ Some i → is_intercept i ≡ true
    by true p more e = subst (λ j. is_intercept j ≡ true) (same_Some x.1 i e) p.0
    by false p more e = more p.1 e

pub claim_seen : (xs : List (ℕ × Intercept)) (n : ℕ) (o : Option (Bor Intercept)) → are_intercepts xs ≡ true → option_map (λ i. i.now) o ≡ at xs n → IfSome o (λ i. is_intercept i.now ≡ true)
claim_seen xs n None all e = tt
claim_seen xs n (Some i) all e = claim_there xs n i.now all (sym e)
