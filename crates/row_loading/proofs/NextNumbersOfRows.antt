-- The next numbers that rows have are numbers that a kind can have next.
use Rattle.std.proofs.Common.{◌≡◌, ℕ, ◌<◌, ◌≤◌, ◌^◌, ◌==◌, ◌&&◌, nat_lt, is_some, Bool, true, false, cond, List, [], ◌∷◌, find, Option, None, Some, refl, sym, ◌∙◌, ap, subst, arith, eqb-true, ltb-true}
use Rattle.std.proofs.lemmas.Bool.{and_parts}
use Rattle.std.proofs.lemmas.Option.{same_Some}
use Rattle.std.specs.List.{list_all}
use Rattle.std.specs.Option.{unwrap_or}
use Rattle.ctrl_model.specs.declared.formats.Format.{Format}
use Rattle.ctrl_model.specs.declared.kinds.Kind.{Kind}
use Rattle.ctrl_model.specs.Limits.{last_next}
use Rattle.row_codec.specs.declared.rows.Row.{Row}
use Rattle.row_codec.specs.RowKeys.{kinds, kind_number, is_long}
use Rattle.row_codec.specs.RowForm.{is_row}
use Rattle.state_building.specs.BuiltStates.{next_in}
use Rattle.row_loading.proofs.RowThings.{Thing, is_thing, things_of, are_things, first_next, next_in-things}
use Rattle.row_loading.proofs.RowThings.Thing.{NextNumber}

-- A number is a kind's, and another can be its next one.
abbrev pub CanBeNext : ℕ → ℕ → Type 0
CanBeNext k n = (is_some (find (λ j. kind_number j == k) kinds) ≡ true) × (nat_lt 1 n ≡ true) × (is_long n ≡ true)

-- a next number that some things have can be one
pub first_next-fits : (k : ℕ) (xs : List Thing) → list_all is_thing xs ≡ true → (n : ℕ) → first_next k xs ≡ Some n → CanBeNext k n
first_next-fits k [] h n e = absurd (cc)
first_next-fits k (NextNumber j m ∷ xs) h n e =
    let parts = and_parts (is_thing (NextNumber j m)) (list_all is_thing xs) h in
    let first = and_parts (is_some (find (λ i. kind_number i == j) kinds)) (nat_lt 1 m && is_long m) parts.0 in
    let second = and_parts (nat_lt 1 m) (is_long m) first.1 in by (j == k) refl (first.0, second.0, second.1) e (first_next-fits k xs parts.1 n)
  where
    by : (b : Bool) → (j == k) ≡ b → CanBeNext j m → cond b (Some m) (first_next k xs) ≡ Some n → (first_next k xs ≡ Some n → CanBeNext k n) → CanBeNext k n
    by true is fits f later =
        let kind = eqb-true j k is in let number = same_Some m n f in
        (ap (λ q. is_some (find (λ i. kind_number i == q) kinds)) (sym kind) ∙ fits.0, ap (nat_lt 1) (sym number) ∙ fits.1, ap is_long (sym number) ∙ fits.2)
    by false is fits f later = later f
first_next-fits k (x ∷ xs) h n e = first_next-fits k xs (and_parts (is_thing x) (list_all is_thing xs) h).1 n e

next_between : (o : Option ℕ) → ((n : ℕ) → o ≡ Some n → (nat_lt 1 n ≡ true) × (is_long n ≡ true)) → (1 ≤ unwrap_or o 1) × (unwrap_or o 1 ≤ last_next)
next_between None h = (omega arith, omega arith)
next_between (Some n) h =
    let one = ltb-true 1 n (h n refl).0 in
    let below : n < 4294967296 = ltb-true n (2 ^ 32) (h n refl).1 in (omega arith, omega arith)

pub next_in-between : (f : Format) (rows : List Row) (k : Kind) → list_all (is_row f) rows ≡ true → (1 ≤ next_in rows k) × (next_in rows k ≤ last_next)
next_in-between f rows k h =
    let between = next_between (first_next (kind_number k) (things_of rows)) (λ n e. let fits = first_next-fits (kind_number k) (things_of rows) (are_things f rows h) n e in (fits.1, fits.2)) in
    subst (λ n. (1 ≤ n) × (n ≤ last_next)) (sym (next_in-things rows k)) between
