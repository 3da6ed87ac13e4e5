-- The counts that rows have, in the order of their keys: behind the first count come counts, intercepts and the serial, which change no
-- count, so each is told of the state that all the rows build.
use Rattle.std.proofs.Common.{◌≡◌, ℕ, ◌<◌, ◌==◌, Bool, true, false, not, cond, List, [], ◌∷◌, None, Some, refl, sym, ◌∙◌, ap, ap₂, arith, eqb-true, Ordering, Less}
use Rattle.std.proofs.lemmas.Bool.{not-false}
use Rattle.std.specs.List.{AllByRecursion}
use Rattle.std.specs.Option.{unwrap_or}
use Rattle.std.specs.Ordering.{nat_cmp, ordering_then}
use Rattle.ctrl_model.specs.declared.formats.Format.{Format}
use Rattle.ctrl_model.specs.declared.intercepts.Intercept.{Intercept}
use Rattle.ctrl_model.specs.declared.kinds.Kind.{Kind}
use Rattle.ctrl_model.specs.declared.kinds.Relation.{Relation}
use Rattle.ctrl_model.specs.declared.kinds.Relation.TheVariants.{Dial, Bind, IdentityRouter, ServiceRouter}
use Rattle.ctrl_model.specs.State.{State}
use Rattle.ctrl_model.specs.Grants.{count, same_relation}
use Rattle.row_codec.specs.declared.rows.Row.{Row}
use Rattle.row_codec.specs.declared.rows.Row.TheVariants as row
use Rattle.row_codec.specs.RowKeys.{Key, key_cmp, key_in, table_number}
use Rattle.row_codec.specs.RowKeys.RowTable.{Counts}
use Rattle.row_codec.specs.RowForm.{key_of}
use Rattle.row_codec.specs.RowDifference.{Rises}
use Rattle.row_laws.proofs.KeyOrders.{nat_cmp-greater}
use Rattle.state_building.specs.declared.flaws.Flaw.TheVariants.{WrongCount}
use Rattle.state_building.specs.JoinedRecords.{claimed, flaw_if}
use Rattle.state_building.specs.BuiltStates.{with_row, built, AreFlawless, count_in}
use Rattle.state_building.proofs.JoinedStates.{flaw_if-none}
use Rattle.row_loading.specs.LoadedRows.{keyed}

-- ---- what comes behind a count

-- no key of an earlier table comes behind a count
not_earlier : (q : Relation) (a b : ℕ) (k : Key) → k.0 < 12 → key_cmp (key_in (Counts q) a b) k ≡ Less → ⊥
not_earlier q a b k below e =
    turned (sym (ap (λ c. ordering_then c (ordering_then (nat_cmp a k.1) (nat_cmp b k.2))) (nat_cmp-greater (table_number (Counts q)) k.0 (above q))) ∙ e)
  where
    above : (q : Relation) → k.0 < table_number (Counts q)
    above Dial = below
    above Bind = omega (arith, below)
    above IdentityRouter = omega (arith, below)
    above ServiceRouter = omega (arith, below)

    turned : Ordering.Greater ≡ Less → ⊥
    turned t = absurd (cc)

-- so what comes changes no count
intercept_counts : (r : Relation) (m n t : ℕ) (i : Intercept) (s : State) → count r (claimed t i s) m n ≡ count r s m n
intercept_counts Dial m n t i s = refl
intercept_counts r m n t i s = refl

serial_counts : (r : Relation) (m n t : ℕ) (s : State) → count r (record s { serial = t }) m n ≡ count r s m n
serial_counts Dial m n t s = refl
serial_counts r m n t s = refl

leaves : (r : Relation) (m n : ℕ) (q : Relation) (a b : ℕ) (x : Row) (s : State) → key_cmp (key_in (Counts q) a b) (key_of x) ≡ Less
    → count r (with_row x s) m n ≡ count r s m n
leaves r m n q a b (row.Setting cost) s e = absurd (not_earlier q a b (2, 0, 0) (omega arith) e)
leaves r m n q a b (row.Identity t name attributes) s e = absurd (not_earlier q a b (3, t.0, 0) (omega arith) e)
leaves r m n q a b (row.Service t name attributes) s e = absurd (not_earlier q a b (4, t.0, 0) (omega arith) e)
leaves r m n q a b (row.Router t name attributes cost through connected) s e = absurd (not_earlier q a b (5, t.0, 0) (omega arith) e)
leaves r m n q a b (row.Link t name i j cost latency_a latency_b up) s e = absurd (not_earlier q a b (6, t.0, 0) (omega arith) e)
leaves r m n q a b (row.ServicePolicy t name relation semantic identities services) s e = absurd (not_earlier q a b (7, t.0, 0) (omega arith) e)
leaves r m n q a b (row.EdgeRouterPolicy t name semantic identities routers) s e = absurd (not_earlier q a b (8, t.0, 0) (omega arith) e)
leaves r m n q a b (row.ServiceEdgeRouterPolicy t name semantic services routers) s e = absurd (not_earlier q a b (9, t.0, 0) (omega arith) e)
leaves r m n q a b (row.Terminator t service router host instance cost precedence) s e = absurd (not_earlier q a b (10, t.0, 0) (omega arith) e)
leaves r m n q a b (row.Circuit t identity service terminator ingress links) s e = absurd (not_earlier q a b (11, t.0, 0) (omega arith) e)
leaves r m n q a b (row.Intercept t i) s e = intercept_counts r m n t.0 i s
leaves r m n q a b (row.Serial t) s e = serial_counts r m n t s
leaves r m n q a b x s e = refl

leave : (f : Format) (r : Relation) (m n : ℕ) (q : Relation) (a b : ℕ) (xs : List Row) (s : State) → AllByRecursion (λ y. key_cmp (key_in (Counts q) a b) y.0 ≡ Less) (keyed f xs)
    → count r (built xs s) m n ≡ count r s m n
leave f r m n q a b [] s h = refl
leave f r m n q a b (x ∷ xs) s h = leave f r m n q a b xs (with_row x s) h.1 ∙ leaves r m n q a b x s h.0

-- ---- one count, and those behind it

same_one : (r q : Relation) → same_relation r q ≡ true → r ≡ q
same_one Dial Dial e = refl
same_one Bind Bind e = refl
same_one IdentityRouter IdentityRouter e = refl
same_one ServiceRouter ServiceRouter e = refl
same_one r q e = absurd (cc)

-- a count without a flaw is that of the state; a later one is told of the state that the rows behind it build, which has the same counts
told_by : (r q : Relation) (m n c a b later : ℕ) (s u : State) → ((i j : ℕ) → count r u i j ≡ count r s i j) → flaw_if (not (count q s m n == c)) WrongCount None ≡ None → (0 < later → later ≡ count r u a b)
    → 0 < unwrap_or (cond (same_relation r q) (cond (m == a) (cond (n == b) (Some c) None) None) None) later
    → unwrap_or (cond (same_relation r q) (cond (m == a) (cond (n == b) (Some c) None) None) None) later ≡ count r u a b
told_by r q m n c a b later s u same none rest = by (same_relation r q) (m == a) (n == b) refl refl refl
  where
    is : count q s m n ≡ c
    is = eqb-true (count q s m n) c (not-false (count q s m n == c) (flaw_if-none (not (count q s m n == c)) WrongCount None none).0)

    by : (t v w : Bool) → same_relation r q ≡ t → (m == a) ≡ v → (n == b) ≡ w → 0 < unwrap_or (cond t (cond v (cond w (Some c) None) None) None) later
        → unwrap_or (cond t (cond v (cond w (Some c) None) None) None) later ≡ count r u a b
    by true true true e f g h =
        sym is ∙ ap (λ z. count z s m n) (sym (same_one r q e)) ∙ ap₂ (λ i j. count r s i j) (eqb-true m a f) (eqb-true n b g) ∙ sym (same a b)
    by true true false e f g h = rest h
    by true false w e f g h = rest h
    by false v w e f g h = rest h

-- ---- all counts

pub told : (f : Format) (nexts : Kind → ℕ) (rows : List Row) (s : State) (r : Relation) (a b : ℕ) → Rises key_cmp (keyed f rows) → AreFlawless nexts rows s
    → 0 < count_in rows r a b → count_in rows r a b ≡ count r (built rows s) a b
told f nexts [] s r a b rises flawless h = absurd (omega arith)
told f nexts (row.Dial m n c ∷ xs) s r a b rises flawless h =
    told_by r Dial m.0 n.0 c a b (count_in xs r a b) s (built xs s) (λ i j. leave f r i j Dial m.0 n.0 xs s rises.0) flawless.0 (told f nexts xs s r a b rises.1 flawless.1) h
told f nexts (row.Bind m n c ∷ xs) s r a b rises flawless h =
    told_by r Bind m.0 n.0 c a b (count_in xs r a b) s (built xs s) (λ i j. leave f r i j Bind m.0 n.0 xs s rises.0) flawless.0 (told f nexts xs s r a b rises.1 flawless.1) h
told f nexts (row.IdentityRouter m n c ∷ xs) s r a b rises flawless h =
    told_by r IdentityRouter m.0 n.0 c a b (count_in xs r a b) s (built xs s) (λ i j. leave f r i j IdentityRouter m.0 n.0 xs s rises.0) flawless.0 (told f nexts xs s r a b rises.1 flawless.1) h
told f nexts (row.ServiceRouter m n c ∷ xs) s r a b rises flawless h =
    told_by r ServiceRouter m.0 n.0 c a b (count_in xs r a b) s (built xs s) (λ i j. leave f r i j ServiceRouter m.0 n.0 xs s rises.0) flawless.0 (told f nexts xs s r a b rises.1 flawless.1) h
told f nexts (x ∷ xs) s r a b rises flawless h = told f nexts xs (with_row x s) r a b rises.1 flawless.1 h
