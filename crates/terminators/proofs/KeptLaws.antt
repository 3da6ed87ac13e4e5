-- What the tables of terminators and of their loads are, where both are kept in one table.
use Rattle.std.proofs.Common.{◌≡◌, ℕ, ◌≤◌, ◌+◌, ◌-◌, ◌==◌, Bool, true, false, cond, not, nat_le, List, [], ◌∷◌, map, length, Option, None, Some, unwrap_or, refl, sym, ◌∙◌, ap, subst, arith, eq-eqb, leb-true, is_some}
use Rattle.std.proofs.lemmas.Bool.{false≢true}
use Rattle.std.proofs.lemmas.List.{length-map}
use Rattle.std.specs.List.{filter}
use Rattle.std.specs.Option.{option_map, option_map_or}
use Rattle.ctrl_model.specs.declared.kinds.Precedence.{Precedence}
use Rattle.ctrl_model.specs.declared.kinds.Kind.TheVariants as kind
use Rattle.ctrl_model.specs.ValueForms.{is_cost}
use Rattle.ctrl_model.specs.Limits.{limit, most_cost}
use Rattle.ctrl_model.specs.Numbered.{Table, at, is_present, numbers, with_last, edit_at, with_new, with_edit, with_removed, Between}
use Rattle.ctrl_model.specs.State.{Terminator}
use Rattle.ctrl_model.specs.Walks.{is_among}
use Rattle.ctrl_model.proofs.NumberedLaws.{at-map, at-edit_at, Between-map}
use Rattle.ctrl_model.proofs.TableLaws.{each_passes-map, each_passes-at}
use Rattle.ctrl_model.proofs.Tests.{in_bounds}
use Rattle.grant_denorm.specs.CountsAfter.{count_after}
use Rattle.grant_denorm.specs.PairCounts.{count_of}
use Rattle.record_tables.specs.AfterChange.{without_numbers}
use Rattle.terminators.specs.declared.kept.KeptTerm.{KeptTerm}
use Rattle.terminators.specs.TermChanges.{without_terms}
use Rattle.terminators.specs.TermTables.{TermTables, with_term, with_set, without_term, with_open, open_at, cost_at, tables_of, AreFit, KeepsTerms}

-- a part of each record, under its number
abbrev part : {R S : Type 0} → (R → S) → List (ℕ × R) → List (ℕ × S)
part f xs = map (λ x. (x.0, f x.1)) xs

part-with_last : {R S : Type 0} (f : R → S) (xs : List (ℕ × R)) (n : ℕ) (r : R) → part f (with_last xs n r) ≡ with_last (part f xs) n (f r)
part-with_last f [] n r = refl
part-with_last f (x ∷ xs) n r = ap (λ ys. (x.0, f x.1) ∷ ys) (part-with_last f xs n r)

-- what a change does with the part
part-edit_at : {R S : Type 0} (f : R → S) (h : R → R) (g : S → S) → ((r : R) → f (h r) ≡ g (f r)) → (xs : List (ℕ × R)) (n : ℕ) → part f (edit_at xs n h) ≡ edit_at (part f xs) n g
part-edit_at f h g same [] n = refl
part-edit_at f h g same (x ∷ xs) n = λ i. (x.0, here (x.0 == n) i) ∷ part-edit_at f h g same xs n i
  where
    here : (b : Bool) → f (cond b (h x.1) x.1) ≡ cond b (g (f x.1)) (f x.1)
    here true = same x.1
    here false = refl

-- a change that leaves the part leaves all of them
part-still : {R S : Type 0} (f : R → S) (h : R → R) → ((r : R) → f (h r) ≡ f r) → (xs : List (ℕ × R)) (n : ℕ) → part f (edit_at xs n h) ≡ part f xs
part-still f h same [] n = refl
part-still f h same (x ∷ xs) n = λ i. (x.0, here (x.0 == n) i) ∷ part-still f h same xs n i
  where
    here : (b : Bool) → f (cond b (h x.1) x.1) ≡ f x.1
    here true = same x.1
    here false = refl

-- those whose numbers and parts pass a test
part-filter : {R S : Type 0} (f : R → S) (p : ℕ × S → Bool) (xs : List (ℕ × R)) → part f (filter (λ x. p (x.0, f x.1)) xs) ≡ filter p (part f xs)
part-filter f p [] = refl
part-filter f p (x ∷ xs) = by (p (x.0, f x.1)) (part-filter f p xs)
  where
    by : (b : Bool) → part f (filter (λ x. p (x.0, f x.1)) xs) ≡ filter p (part f xs)
        → part f (cond b (x ∷ filter (λ x. p (x.0, f x.1)) xs) (filter (λ x. p (x.0, f x.1)) xs)) ≡ cond b ((x.0, f x.1) ∷ filter p (part f xs)) (filter p (part f xs))
    by true h = ap (λ ys. (x.0, f x.1) ∷ ys) h
    by false h = h

pub part-numbers : {R S : Type 0} (f : R → S) (xs : List (ℕ × R)) → numbers (part f xs) ≡ numbers xs
part-numbers f [] = refl
part-numbers f (x ∷ xs) = ap (λ ns. x.0 ∷ ns) (part-numbers f xs)

part-at : {R S : Type 0} (f : R → S) (xs : List (ℕ × R)) (n : ℕ) → at (part f xs) n ≡ option_map f (at xs n)
part-at f xs n = at-map (λ x. f x.1) xs n

-- ---- the tables

abbrev terms : List (ℕ × KeptTerm) → List (ℕ × Terminator)
terms xs = part (λ (k : KeptTerm). k.term) xs

abbrev loads : List (ℕ × KeptTerm) → List (ℕ × ℕ)
loads xs = part (λ (k : KeptTerm). k.load) xs

-- tables of these terminators and loads
abbrev tables : List (ℕ × Terminator) → ℕ → List (ℕ × ℕ) → TermTables
tables rows next numbers = record { terminators = record { rows = rows; next = next }; loads = numbers }

pub kept-new : (e : Terminator) (t : Table KeptTerm) → tables_of (with_new (record { term = e; load = 0 }) t) ≡ with_term e (tables_of t)
kept-new e t =
    λ i. tables (part-with_last (λ (k : KeptTerm). k.term) t.rows t.next (record { term = e; load = 0 }) i) (t.next + 1)
    (part-with_last (λ (k : KeptTerm). k.load) t.rows t.next (record { term = e; load = 0 }) i)

pub kept-set : (n cost : ℕ) (precedence : Precedence) (t : Table KeptTerm)
    → tables_of (with_edit n (λ k. record k { term = record k.term { cost = cost; precedence = precedence } }) t) ≡ with_set n cost precedence (tables_of t)
kept-set n cost precedence t =
    λ i. tables (part-edit_at (λ (k : KeptTerm). k.term) (λ k. record k { term = record k.term { cost = cost; precedence = precedence } }) (λ e. record e { cost = cost; precedence = precedence }) (λ k. refl) t.rows n i) t.next
    (part-still (λ (k : KeptTerm). k.load) (λ k. record k { term = record k.term { cost = cost; precedence = precedence } }) (λ k. refl) t.rows n i)

pub kept-open : (n count : ℕ) (t : Table KeptTerm) → tables_of (with_edit n (λ k. record k { load = count }) t) ≡ with_open n count (tables_of t)
kept-open n count t =
    λ i. tables (part-still (λ (k : KeptTerm). k.term) (λ k. record k { load = count }) (λ k. refl) t.rows n i) t.next
    (part-edit_at (λ (k : KeptTerm). k.load) (λ k. record k { load = count }) (λ old. count) (λ k. refl) t.rows n i)

pub kept-removed : (n : ℕ) (t : Table KeptTerm) → tables_of (with_removed n t) ≡ without_term n (tables_of t)
kept-removed n t =
    λ i. tables (part-filter (λ (k : KeptTerm). k.term) (λ x. not (x.0 == n)) t.rows i) t.next (part-filter (λ (k : KeptTerm). k.load) (λ x. not (x.0 == n)) t.rows i)

pub kept-without : (gone : List ℕ) (t : Table KeptTerm) → tables_of (without_numbers gone t) ≡ without_terms gone (tables_of t)
kept-without gone t =
    λ i. tables (part-filter (λ (k : KeptTerm). k.term) (λ x. not (is_among x.0 gone)) t.rows i) t.next (part-filter (λ (k : KeptTerm). k.load) (λ x. not (is_among x.0 gone)) t.rows i)

pub kept-at : (t : Table KeptTerm) (n : ℕ) → at (tables_of t).terminators.rows n ≡ option_map (λ (k : KeptTerm). k.term) (at t.rows n)
kept-at t n = part-at (λ (k : KeptTerm). k.term) t.rows n

pub load-at : (t : Table KeptTerm) (n : ℕ) → at (tables_of t).loads n ≡ option_map (λ (k : KeptTerm). k.load) (at t.rows n)
load-at t n = part-at (λ (k : KeptTerm). k.load) t.rows n

pub kept-numbers : (t : Table KeptTerm) → numbers (tables_of t).terminators.rows ≡ numbers t.rows
kept-numbers t = part-numbers (λ (k : KeptTerm). k.term) t.rows

pub kept-length : (t : Table KeptTerm) → length (tables_of t).terminators.rows ≡ length t.rows
kept-length t = length-map {B = ℕ × Terminator} t.rows (λ x. (x.0, x.1.term))

-- the numbers of the terminators that pass a test
pub kept-filter : (p : ℕ × Terminator → Bool) (t : Table KeptTerm) → numbers (filter (λ x. p (x.0, x.1.term)) t.rows) ≡ numbers (filter p (tables_of t).terminators.rows)
kept-filter p t =
    sym (part-numbers (λ (k : KeptTerm). k.term) (filter (λ x. p (x.0, x.1.term)) t.rows)) ∙ ap numbers (part-filter (λ (k : KeptTerm). k.term) p t.rows)

-- what is kept of the tables
pub keeps : (t : Table KeptTerm) → 1 ≤ t.next → t.next ≤ 4294967295 → Between 1 t.next t.rows → AreFit t → KeepsTerms (tables_of t)
keeps t first last ordered fit = record {
  first = first;
  last = last;
  ordered = Between-map (λ x. x.1.term) t.next t.rows 1 ordered;
  few = subst (λ n. n ≤ limit kind.Terminator) (sym (kept-length t)) fit.few;
  costs = each_passes-map (λ (k : KeptTerm). is_cost k.term.cost) (λ (e : Terminator). is_cost e.cost) (λ x. x.1.term) (λ x passes. passes) t.rows fit.costs;
  loads = λ n. by n (at t.rows n) refl;
  absent = λ n none. nowhere n (at t.rows n) refl none;
}
  where
    nowhere : (n : ℕ) (o : Option KeptTerm) → at t.rows n ≡ o → is_present (tables_of t).terminators.rows n ≡ false → open_at (tables_of t) n ≡ 0
    nowhere n None is none = ap (λ o. unwrap_or o 0) (load-at t n ∙ ap (option_map (λ (k : KeptTerm). k.load)) is)
    nowhere n (Some k) is none = absurd (false≢true (sym none ∙ ap is_some (kept-at t n ∙ ap (option_map (λ (k : KeptTerm). k.term)) is)))

    by : (n : ℕ) (o : Option KeptTerm) → at t.rows n ≡ o → open_at (tables_of t) n ≤ limit kind.Circuit
    by n None is = subst (λ o. unwrap_or o 0 ≤ limit kind.Circuit) (sym (load-at t n ∙ ap (option_map (λ (k : KeptTerm). k.load)) is)) (omega arith)
    by n (Some k) is =
        subst (λ o. unwrap_or o 0 ≤ limit kind.Circuit) (sym (load-at t n ∙ ap (option_map (λ (k : KeptTerm). k.load)) is))
        (leb-true k.load (limit kind.Circuit) (each_passes-at (λ (k : KeptTerm). nat_le k.load (limit kind.Circuit)) t.rows n k fit.loads is))

-- what is looked up where both are kept, in the tables
pub found : (t : Table KeptTerm) (s : TermTables) (n : ℕ) (o : Option KeptTerm) → tables_of t ≡ s → o ≡ at t.rows n → at s.terminators.rows n ≡ option_map (λ (k : KeptTerm). k.term) o
found t s n o view e = ap (λ (u : TermTables). at u.terminators.rows n) (sym view) ∙ kept-at t n ∙ ap (option_map (λ (k : KeptTerm). k.term)) (sym e)

pub found-load : (t : Table KeptTerm) (s : TermTables) (n : ℕ) (k : KeptTerm) → tables_of t ≡ s → Some k ≡ at t.rows n → k.load ≡ open_at s n
found-load t s n k view e = sym (ap (λ o. unwrap_or o 0) (ap (λ (u : TermTables). at u.loads n) (sym view) ∙ load-at t n ∙ ap (option_map (λ (k : KeptTerm). k.load)) (sym e)))

-- a load that is set at a terminator that is kept is its load
pub opened : (t : Table KeptTerm) (n count : ℕ) → is_present t.rows n ≡ true → open_at (with_open n count (tables_of t)) n ≡ count
opened t n count there =
    ap (λ o. unwrap_or o 0) (at-edit_at (tables_of t).loads n n (λ old. count) ∙ ap (option_map (λ m. cond (n == n) count m)) (load-at t n))
    ∙ by (at t.rows n) there
  where
    by : (o : Option KeptTerm) → is_some o ≡ true → unwrap_or (option_map (λ m. cond (n == n) count m) (option_map (λ (k : KeptTerm). k.load) o)) 0 ≡ count
    by None e = absurd (false≢true e)
    by (Some k) e = ap (λ b. cond b count k.load) (eq-eqb n n refl)

-- where nothing is looked up no terminator is present
pub not_found : (t : Table KeptTerm) (s : TermTables) (n : ℕ) → tables_of t ≡ s → None ≡ at t.rows n → is_present s.terminators.rows n ≡ true → ⊥
not_found t s n view e there = false≢true (sym (ap is_some (found t s n None view e)) ∙ there)

-- a terminator that is present is kept
pub is_kept : (t : Table KeptTerm) (s : TermTables) (n : ℕ) → tables_of t ≡ s → is_present s.terminators.rows n ≡ true → is_present t.rows n ≡ true
is_kept t s n view there = by (at t.rows n) refl
  where
    by : (o : Option KeptTerm) → at t.rows n ≡ o → is_present t.rows n ≡ true
    by None e = absurd (not_found t s n view (sym e) there)
    by (Some k) e = ap is_some e

pub found-cost : (t : Table KeptTerm) (s : TermTables) (n : ℕ) (k : KeptTerm) → tables_of t ≡ s → Some k ≡ at t.rows n → k.term.cost + k.load ≡ cost_at s n
found-cost t s n k view e =
    ap (λ m. k.term.cost + m) (found-load t s n k view e)
    ∙ sym (ap (λ o. option_map_or (λ (x : Terminator). x.cost + open_at s n) o 0) (found t s n (Some k) view e))

-- the cost and the load of a terminator that is kept are in their ranges
pub cost_fits : (t : Table KeptTerm) (n : ℕ) (k : KeptTerm) → AreFit t → Some k ≡ at t.rows n → k.term.cost ≤ most_cost
cost_fits t n k fit e = (in_bounds 0 65535 k.term.cost (each_passes-at (λ (k : KeptTerm). is_cost k.term.cost) t.rows n k fit.costs (sym e))).1

pub load_fits : (t : Table KeptTerm) (n : ℕ) (k : KeptTerm) → AreFit t → Some k ≡ at t.rows n → k.load ≤ limit kind.Circuit
load_fits t n k fit e = leb-true k.load (limit kind.Circuit) (each_passes-at (λ (k : KeptTerm). nat_le k.load (limit kind.Circuit)) t.rows n k fit.loads (sym e))

-- counts without a step are those before
pub unchanged : (xs : List ((ℕ × ℕ) × ℕ)) → count_after (record { before = xs; up = []; down = [] }) ≡ count_of xs
unchanged xs = λ i a b. same (count_of xs a b) i
  where
    same : (n : ℕ) → n + 0 - 0 ≡ n
    same n = omega arith
