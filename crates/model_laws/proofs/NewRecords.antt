-- What a valid table with one record more says of that record.
use Rattle.std.proofs.Common.{◌≡◌, ◌≢◌, ℕ, ◌+◌, ◌<◌, ◌≤◌, ◌==◌, Bool, true, List, [], ◌∷◌, length, Option, None, Some, refl, ◌∙◌, arith, eq-eqb}
use Rattle.std.proofs.lemmas.Bool.{cond-true}
use Rattle.std.specs.Str.{bytes_eq}
use Rattle.ctrl_model.specs.declared.kinds.Kind.{Kind}
use Rattle.ctrl_model.specs.Numbered.{Table, at, with_new, with_last, first_where, Between}
use Rattle.ctrl_model.specs.State.{State}
use Rattle.ctrl_model.specs.Tables.{Record, has_names, record_name}
use Rattle.ctrl_model.specs.Limits.{limit}
use Rattle.ctrl_model.specs.ValidState.{ValidTable}
use Rattle.ctrl_model.proofs.DistinctLaws.{same_name}
use Rattle.ctrl_model.proofs.NumberedLaws.{Found, first_where-found, at-past, at-within, at-with_last, at-with_last-other, length-with_last}

-- what a valid table with one record more says of that record: its name is free, and there is room for it
pub record IsNew (k : Kind) (t : Table (Record k)) (r : Record k) : Type 0 where
  pub named : first_where (λ q. bytes_eq (record_name k q) (record_name k r)) t.rows ≡ None
  pub few : length t.rows < limit k
  pub last : t.next < 4294967295
  pub ordered : Between 1 t.next t.rows

-- the numbers before the last record are below its own
before_last : {R : Type 0} (high : ℕ) (rows : List (ℕ × R)) (low n : ℕ) (r : R) → Between low high (with_last rows n r) → Between low n rows × ((low ≤ n) × (n < high))
before_last high [] low n r b = (tt, (b.0, b.1))
before_last high (x ∷ rows) low n r b =
    let rest = before_last high rows (x.0 + 1) n r b.2 in
    let least : x.0 + 1 ≤ n = rest.1.0 in
    let first : low ≤ x.0 = b.0 in
    ((b.0, omega (arith, least), rest.0), (omega (arith, least, first), rest.1.1))

pub new_record : (k : Kind) {s : State} (t : Table (Record k)) (r : Record k) → has_names k ≡ true → ValidTable k s (with_new r t) → IsNew k t r
new_record k t r has_name valid =
    let before = before_last (t.next + 1) t.rows 1 t.next r valid.numbers.ordered in
    let last : t.next + 1 ≤ 4294967295 = valid.numbers.last in
    let few : length (with_last t.rows t.next r) ≤ limit k = valid.numbers.few in
    let more = length-with_last t.rows t.next r in
    record {
      named = by (first_where same t.rows) refl before.0;
      few = omega (arith, few, more);
      last = omega (arith, last);
      ordered = before.0;
    }
  where
    same : Record k → Bool
    same q = bytes_eq (record_name k q) (record_name k r)

    twice : (m : ℕ) → Between 1 t.next t.rows → Found same t.rows m → m ≡ t.next
    twice m b found =
        let within = at-within t.next t.rows 1 m found.record_found b found.stands in
        let other : m ≢ t.next = λ e. absurd (omega (arith, within.1, e)) in
        let free : at t.rows t.next ≡ None = at-past t.next t.rows 1 t.next b (omega arith) in
        valid.names has_name m t.next found.record_found r (at-with_last-other t.rows t.next m r other ∙ found.stands)
        (at-with_last t.rows t.next t.next r free ∙ cond-true (t.next == t.next) (Some r) (at t.rows t.next) (eq-eqb t.next t.next refl))
        (same_name (record_name k found.record_found) (record_name k r) found.passes)

    by : (o : Option ℕ) → first_where same t.rows ≡ o → Between 1 t.next t.rows → o ≡ None
    by None e b = refl
    by (Some m) e b =
        let found = first_where-found same t.next t.rows 1 m b e in
        let again = twice m b found in
        let within = at-within t.next t.rows 1 m found.record_found b found.stands in
        absurd (omega (arith, within.1, again))
