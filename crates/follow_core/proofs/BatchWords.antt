-- The batch that bytes spell is the one that is found in them, and the test of a true difference tells.
use Rattle.std.proofs.Common.{◌≡◌, ℕ, ◌+◌, ◌<◌, ◌≤◌, nat_lt, Bool, true, false, cond, ◌&&◌, map, List, [], ◌∷◌, ◌++◌, length, Option, None, Some, Less, refl, sym, ap, subst, ◌∙◌, append-nil, append_assoc, length-append, arith}
use Rattle.std.specs.Prelude.{⊤}
use Rattle.std.specs.List.{AllByRecursion, list_all}
use Rattle.std.specs.Option.{option_map, option_and_then}
use Rattle.std.specs.Ordering.{is_lt}
use Rattle.std.proofs.lemmas.Bool.{and_parts, and_from, lt-ltb}
use Rattle.std.proofs.lemmas.Cmp.{nat_list_cmp_total}
use Rattle.std.proofs.lemmas.List.Folds.{list_all-map}
use Rattle.std.proofs.lemmas.Map.Lookups.{exact_bytes}
use Rattle.row_codec.specs.declared.changes.Op.{Op}
use Rattle.row_codec.specs.declared.changes.Op.TheVariants.{Put, Delete}
use Rattle.row_codec.specs.RowDifference.{Entry, Rises, with_batch, IsTrueDifference}
use Rattle.row_codec.specs.Batches.{bytes_cmp, entry_of, entries_of, op_at, op_bytes, batch_bytes, IsBatch, IsSpelledOp, Spells}
use Rattle.row_codec.specs.BatchReading.{front_op, next_op, comes_after}
use Rattle.row_codec.proofs.BatchLaws.{op_again, SoFar, at_start, goes_on, at_end}
use Rattle.row_codec.proofs.FieldLaws.{AreBytes, bind_some, map_some, some_is}
use Rattle.row_laws.proofs.Differences.{with_batch-difference}
use Rattle.slot_reading.specs.BatchRows.{ByteRows, puts, rows_after}
use Rattle.slot_reading.specs.Changes.{is_change}
use Rattle.slot_reading.proofs.BatchLaws.{is_true, true_each}
use Rattle.follow_core.specs.BatchBytes.{ops_within, batch_in, is_true_difference}

-- ---- what was spelled is found

-- The key of each of some operations comes after that of the one before it.
abbrev ComeAfter : Option (List ℕ) → List Op → Type 0
ComeAfter last [] = ⊤
ComeAfter last (o ∷ os) = (comes_after last (entry_of o).0 ≡ true) × ComeAfter (Some (entry_of o).0) os

come_behind : (key : List ℕ) (os : List Op) → AllByRecursion (λ y. bytes_cmp key y.0 ≡ Less) (entries_of os) → Rises bytes_cmp (entries_of os) → ComeAfter (Some key) os
come_behind key [] above rises = tt
come_behind key (o ∷ os) above rises = (ap is_lt above.0, come_behind (entry_of o).0 os rises.0 rises.1)

come_first : (os : List Op) → Rises bytes_cmp (entries_of os) → ComeAfter None os
come_first [] rises = tt
come_first (o ∷ os) rises = (refl, come_behind (entry_of o).0 os rises.0 rises.1)

-- The next operation stands at the front.
next_found : (last : Option (List ℕ)) (o : Op) (rest : List ℕ) → IsSpelledOp o → comes_after last (entry_of o).0 ≡ true → next_op last (op_bytes o ++ rest) ≡ Some (o, rest)
next_found last o rest fits comes =
    ap (option_and_then (λ (x : Op × List ℕ). cond (comes_after last (entry_of x.0).0) (Some x) None)) (op_again o rest fits)
    ∙ ap (λ (b : Bool). cond b (Some (o, rest)) None) comes

-- What is found behind one operation more.
abbrev found_behind : List ℕ → Option (Op × List ℕ) → Option (List Op)
found_behind steps next = option_and_then (λ x. option_map (λ ops. x.0 ∷ ops) (ops_within steps (Some (entry_of x.0).0) x.1)) next

step_found : (steps : List ℕ) (step : ℕ) (last : Option (List ℕ)) (o : Op) (rest : List ℕ) → IsSpelledOp o → comes_after last (entry_of o).0 ≡ true
    → ops_within (step ∷ steps) last (op_bytes o ++ rest) ≡ option_map (λ ops. o ∷ ops) (ops_within steps (Some (entry_of o).0) rest)
step_found steps step last (Put key value) rest fits comes = ap (found_behind steps) (next_found last (Put key value) rest fits comes)
step_found steps step last (Delete key) rest fits comes = ap (found_behind steps) (next_found last (Delete key) rest fits comes)

all_found : (steps : List ℕ) (last : Option (List ℕ)) (ops : List Op) → AllByRecursion IsSpelledOp ops → ComeAfter last ops → length ops ≤ length steps
    → ops_within steps last (batch_bytes ops) ≡ Some ops
all_found [] last [] fits come few = refl
all_found [] last (o ∷ os) fits come few = absurd (omega (arith, few))
all_found (step ∷ steps) last [] fits come few = refl
all_found (step ∷ steps) last (o ∷ os) fits come few =
    step_found steps step last o (batch_bytes os) fits.0 come.0
    ∙ ap (option_map (λ (ops : List Op). o ∷ ops)) (all_found steps (Some (entry_of o).0) os fits.1 come.1 (omega (arith, few)))

one_byte : (o : Op) → 1 ≤ length (op_bytes o)
one_byte (Put key value) = omega arith
one_byte (Delete key) = omega arith

-- No fewer bytes than operations.
pub many_bytes : (ops : List Op) → length ops ≤ length (batch_bytes ops)
many_bytes [] = omega arith
many_bytes (o ∷ os) =
    let one = one_byte o in
    let rest = many_bytes os in
    let whole = length-append (op_bytes o) (batch_bytes os) in
    omega arith

-- The batch that bytes spell is found in them.
pub spelled_found : (bytes : List ℕ) (ops : List Op) → Spells bytes ops → batch_in bytes ≡ Some ops
spelled_found bytes ops s =
    ap batch_in s.spelled ∙ all_found (batch_bytes ops) None ops s.batch.fits (come_first ops s.batch.rises) (many_bytes ops)

-- ---- what is found was spelled

op_whole : (o : Op) → op_at (entry_of o).0 (entry_of o).1 ≡ o
op_whole (Put key value) = refl
op_whole (Delete key) = refl

found_spells : (steps : List ℕ) (last : Option (List ℕ)) (rest : List ℕ) (ops : List Op) (bytes : List ℕ) (before : List Op) → SoFar bytes last rest before
    → ops_within steps last rest ≡ Some ops → Spells bytes (before ++ ops)
found_spells [] last [] ops bytes before so e =
    let none : [] ≡ ops = some_is [] ops e in
    subst (Spells bytes) (sym (append-nil before) ∙ ap (λ (os : List Op). before ++ os) none) (at_end bytes [] last before so refl)
found_spells [] last (b ∷ rest) ops bytes before so e = absurd cc
found_spells (step ∷ steps) last [] ops bytes before so e =
    let none : [] ≡ ops = some_is [] ops e in
    subst (Spells bytes) (sym (append-nil before) ∙ ap (λ (os : List Op). before ++ os) none) (at_end bytes [] last before so refl)
found_spells (step ∷ steps) last (b ∷ rest) ops bytes before so e =
    let a = bind_some (next_op last (b ∷ rest)) (λ x. option_map (λ os. x.0 ∷ os) (ops_within steps (Some (entry_of x.0).0) x.1)) ops e in
    let m = map_some (ops_within steps (Some (entry_of a.0.0).0) a.0.1) (λ os. a.0.0 ∷ os) ops a.2 in
    let next : next_op last (b ∷ rest) ≡ Some (op_at (entry_of a.0.0).0 (entry_of a.0.0).1, a.0.1) =
    a.1 ∙ ap (λ (o : Op). Some (o, a.0.1)) (sym (op_whole a.0.0)) in
    let on : SoFar bytes (Some (entry_of a.0.0).0) a.0.1 (before ++ a.0.0 ∷ []) =
    subst (λ (o : Op). SoFar bytes (Some (entry_of a.0.0).0) a.0.1 (before ++ o ∷ [])) (op_whole a.0.0)
    (goes_on bytes (b ∷ rest) a.0.1 last before (entry_of a.0.0).0 (entry_of a.0.0).1 so next) in
    subst (Spells bytes) (append_assoc before (a.0.0 ∷ []) m.0 ∙ ap (λ (os : List Op). before ++ os) m.2)
    (found_spells steps (Some (entry_of a.0.0).0) a.0.1 m.0 bytes (before ++ a.0.0 ∷ []) on m.1)

pub found_spelled : (bytes : List ℕ) (ops : List Op) → AreBytes bytes → batch_in bytes ≡ Some ops → Spells bytes ops
found_spelled bytes ops fits e = found_spells bytes None bytes ops bytes [] (at_start bytes fits) e

-- Where bytes spell none, none is found.
pub none_found : (bytes : List ℕ) → AreBytes bytes → ((ops : List Op) → Spells bytes ops → ⊥) → batch_in bytes ≡ None
none_found bytes fits none = by (batch_in bytes) refl
  where
    by : (o : Option (List Op)) → batch_in bytes ≡ o → batch_in bytes ≡ None
    by None e = e
    by (Some ops) e = absurd (none ops (found_spelled bytes ops fits e))

-- ---- true differences

some_ops : (ops : List Op) → nat_lt 0 (length ops) ≡ true → ops ≡ [] → ⊥
some_ops ops e none = let both : nat_lt 0 0 ≡ true = ap (λ (os : List Op). nat_lt 0 (length os)) (sym none) ∙ e in cc

ops_some : (ops : List Op) → (ops ≡ [] → ⊥) → nat_lt 0 (length ops) ≡ true
ops_some [] some = absurd (some refl)
ops_some (o ∷ os) some = lt-ltb 0 (length (o ∷ os)) (omega arith)

-- Operations whose keys rise that pass the test are a true difference of rows that rise, and the other way round.
pub passed_is_true : (rows : ByteRows) (ops : List Op) → Rises bytes_cmp rows → IsBatch ops → is_true_difference rows ops ≡ true → IsTrueDifference bytes_cmp rows (entries_of ops)
passed_is_true rows ops rises batch e =
    let parts = and_parts (nat_lt 0 (length ops)) (list_all (λ (op : Op). is_change rows (entry_of op)) ops) e in
    is_true rows ops rises batch (some_ops ops parts.0) (list_all-map (is_change rows) entry_of ops ∙ parts.1)

pub true_passes : (rows : ByteRows) (ops : List Op) → Rises bytes_cmp rows → IsTrueDifference bytes_cmp rows (entries_of ops) → is_true_difference rows ops ≡ true
true_passes rows ops rises d =
    and_from (nat_lt 0 (length ops)) (list_all (λ (op : Op). is_change rows (entry_of op)) ops) (ops_some ops (λ e. d.some (ap entries_of e)))
    (sym (list_all-map (is_change rows) entry_of ops) ∙ true_each rows ops rises d)

-- Where there are some operations, the test is that each changes the rows.
pub some_pass : (rows : ByteRows) (ops : List Op) (all : Bool) → (ops ≡ [] → ⊥) → all ≡ list_all (λ (op : Op). is_change rows (entry_of op)) ops → all ≡ is_true_difference rows ops
some_pass rows ops all some e = e ∙ ap (λ (b : Bool). b && list_all (λ (op : Op). is_change rows (entry_of op)) ops) (sym (ops_some ops some))

-- ---- rows as puts

put_entries : (rows : ByteRows) → entries_of (puts rows) ≡ map (λ (x : List ℕ × List ℕ). (x.0, Some x.1)) rows
put_entries [] = refl
put_entries (x ∷ xs) = ap (λ (l : List (Entry (List ℕ))). (x.0, Some x.1) ∷ l) (put_entries xs)

-- From no rows the puts of rows lead to all of them.
pub puts_lead : (rows : ByteRows) → Rises bytes_cmp rows → rows_after [] (puts rows) ≡ rows
puts_lead rows rises = ap (with_batch bytes_cmp []) (put_entries rows) ∙ with_batch-difference nat_list_cmp_total exact_bytes [] rows tt rises
