-- Batches: what is written is read again, what is read is what was written, and bytes spell one batch.
use Rattle.std.proofs.Common.{◌≡◌, ℕ, suc, ◌<◌, Bool, true, false, cond, ◌==◌, ltb, map, List, [], ◌∷◌, ◌++◌, length, Option, Some, None, Less, refl, sym, ap, subst, ◌∙◌, append_assoc, arith}
use Rattle.std.specs.Option.{option_map, option_and_then}
use Rattle.std.specs.Ordering.{is_lt}
use Rattle.std.specs.declared.cmp.Ordering.{Ordering}
use Rattle.std.specs.declared.cmp.Ordering.TheVariants.{Equal, Greater}
use Rattle.std.specs.List.{AllByRecursion, list_all}
use Rattle.std.proofs.lemmas.Bool.{eqb-true}
use Rattle.std.proofs.lemmas.Cmp.{nat_list_cmp_total}
use Rattle.std.proofs.lemmas.List.{append-nil}
use Rattle.row_codec.specs.declared.changes.Change.{Change}
use Rattle.row_codec.specs.declared.changes.Op.{Op}
use Rattle.row_codec.specs.declared.changes.Op.TheVariants.{Put, Delete}
use Rattle.row_codec.specs.RowDifference.{Rises, said_of}
use Rattle.row_codec.specs.RowValues.{long, text}
use Rattle.row_codec.specs.Batches.{bytes_cmp, entry_of, entries_of, op_at, op_bytes, batch_bytes, IsSpelledOp, IsBatch, Spells, ops_at, batch_of}
use Rattle.row_codec.specs.FieldReading.{front_part, front_long, front_text}
use Rattle.row_codec.specs.BatchReading.{front_put, front_delete, front_op, next_op, comes_after}
use Rattle.row_codec.proofs.FieldLaws.{AreBytes, Takes, Takes-then, behind_byte, are_bytes, some_is, bind_some, map_some, part_takes, part_again, long_takes, long_again, text_takes, text_again}

-- ---- one operation

put_takes : (bytes : List ℕ) (x : Op × List ℕ) → AreBytes bytes → front_put bytes ≡ Some x → Takes (1 ∷ bytes) (op_bytes x.0) x.1 × IsSpelledOp x.0
put_takes bytes x fits e =
    let a = bind_some (front_text bytes) (λ k. option_and_then (λ n. option_map (λ v. (Put k.0 v.0, v.1)) (front_part n.0 n.1)) (front_long k.1)) x e in
    let b = bind_some (front_long a.0.1) (λ n. option_map (λ v. (Put a.0.0 v.0, v.1)) (front_part n.0 n.1)) x a.2 in
    let c = map_some (front_part b.0.0 b.0.1) (λ v. (Put a.0.0 v.0, v.1)) x b.2 in
    let k = text_takes bytes a.0 fits a.1 in
    let n = long_takes a.0.1 b.0 k.0.rest_fits b.1 in
    let v = part_takes b.0.0 b.0.1 c.0 n.0.rest_fits c.1 in
    let sized : Takes a.0.1 (long (length c.0.0)) b.0.1 = subst (λ (m : ℕ). Takes a.0.1 (long m) b.0.1) (sym v.len) n.0 in
    let value = Takes-then a.0.1 (long (length c.0.0)) b.0.1 c.0.0 c.0.1 sized v.takes in
    let whole = Takes-then bytes (text a.0.0) a.0.1 (long (length c.0.0) ++ c.0.0) c.0.1 k.0 value in
    subst (λ (y : Op × List ℕ). Takes (1 ∷ bytes) (op_bytes y.0) y.1 × IsSpelledOp y.0) c.2
    (behind_byte 1 bytes (text a.0.0 ++ (long (length c.0.0) ++ c.0.0)) c.0.1 whole, (k.1, omega (arith, n.1, v.len)))

delete_takes : (bytes : List ℕ) (x : Op × List ℕ) → AreBytes bytes → front_delete bytes ≡ Some x → Takes (2 ∷ bytes) (op_bytes x.0) x.1 × IsSpelledOp x.0
delete_takes bytes x fits e =
    let a = map_some (front_text bytes) (λ k. (Delete k.0, k.1)) x e in
    let k = text_takes bytes a.0 fits a.1 in
    subst (λ (y : Op × List ℕ). Takes (2 ∷ bytes) (op_bytes y.0) y.1 × IsSpelledOp y.0) a.2
    (behind_byte 2 bytes (text a.0.0) a.0.1 k.0, k.1)

marked_by : (m : ℕ) (a b : Bool) (bytes : List ℕ) (x : Op × List ℕ) → (a ≡ true → m ≡ 1) → (b ≡ true → m ≡ 2) → AreBytes bytes
    → cond a (front_put bytes) (cond b (front_delete bytes) None) ≡ Some x → Takes (m ∷ bytes) (op_bytes x.0) x.1 × IsSpelledOp x.0
marked_by m true b bytes x is_put is_delete fits e = subst (λ (n : ℕ). Takes (n ∷ bytes) (op_bytes x.0) x.1 × IsSpelledOp x.0) (sym (is_put refl)) (put_takes bytes x fits e)
marked_by m false true bytes x is_put is_delete fits e = subst (λ (n : ℕ). Takes (n ∷ bytes) (op_bytes x.0) x.1 × IsSpelledOp x.0) (sym (is_delete refl)) (delete_takes bytes x fits e)
marked_by m false false bytes x is_put is_delete fits e = absurd cc

pub op_takes : (bytes : List ℕ) (x : Op × List ℕ) → AreBytes bytes → front_op bytes ≡ Some x → Takes bytes (op_bytes x.0) x.1 × IsSpelledOp x.0
op_takes [] x fits e = absurd cc
op_takes (m ∷ bytes) x fits e = marked_by m (m == 1) (m == 2) bytes x (eqb-true m 1) (eqb-true m 2) (λ i. fits (suc i)) e

pub op_again : (o : Op) (rest : List ℕ) → IsSpelledOp o → front_op (op_bytes o ++ rest) ≡ Some (o, rest)
op_again (Put key value) rest fits =
    let regrouped : (key ++ (long (length value) ++ value)) ++ rest ≡ key ++ (long (length value) ++ (value ++ rest)) = append_assoc key (long (length value) ++ value) rest in
    ap (λ (t : List ℕ). front_put (length key ∷ t)) regrouped
    ∙ rw (text_again key (long (length value) ++ (value ++ rest)), long_again (length value) (value ++ rest) fits.1, part_again value rest (length value) refl) refl
op_again (Delete key) rest fits = rw (text_again key rest) refl

-- ---- keys that rise

abbrev pub key_of_op : Op → List ℕ
key_of_op o = (entry_of o).0

-- the key of the last operation, behind another
abbrev pub last_key : Option (List ℕ) → List Op → Option (List ℕ)
last_key k [] = k
last_key k (o ∷ os) = last_key (Some (key_of_op o)) os

pub last_key-more : (k : Option (List ℕ)) (os : List Op) (o : Op) → last_key k (os ++ o ∷ []) ≡ Some (key_of_op o)
last_key-more k [] o = refl
last_key-more k (p ∷ os) o = last_key-more (Some (key_of_op p)) os o

lt_is_less : (r : Ordering) → is_lt r ≡ true → r ≡ Less
lt_is_less Less e = refl
lt_is_less Equal e = absurd cc
lt_is_less Greater e = absurd cc

-- the first key comes before what comes after the last one
before_next : (p : Op) (os : List Op) (key : List ℕ) → Rises bytes_cmp (entries_of (p ∷ os)) → comes_after (last_key (Some (key_of_op p)) os) key ≡ true → bytes_cmp (key_of_op p) key ≡ Less
before_next p [] key rises e = lt_is_less (bytes_cmp (key_of_op p) key) e
before_next p (q ∷ os) key rises e = nat_list_cmp_total.trans (key_of_op p) (key_of_op q) key rises.0.0 (before_next q os key rises.1 e)

all_before : (k : List ℕ) (os : List Op) (o : Op) → AllByRecursion (λ y. bytes_cmp k y.0 ≡ Less) (entries_of os) → bytes_cmp k (key_of_op o) ≡ Less
    → AllByRecursion (λ y. bytes_cmp k y.0 ≡ Less) (entries_of (os ++ o ∷ []))
all_before k [] o each last = (last, tt)
all_before k (p ∷ os) o each last = (each.0, all_before k os o each.1 last)

pub rises_more : (os : List Op) (o : Op) → Rises bytes_cmp (entries_of os) → comes_after (last_key None os) (key_of_op o) ≡ true → Rises bytes_cmp (entries_of (os ++ o ∷ []))
rises_more [] o rises e = (tt, tt)
rises_more (p ∷ []) o rises e = ((lt_is_less (bytes_cmp (key_of_op p) (key_of_op o)) e, tt), (tt, tt))
rises_more (p ∷ q ∷ os) o rises e =
    (all_before (key_of_op p) (q ∷ os) o rises.0 (before_next p (q ∷ os) (key_of_op o) rises e), rises_more (q ∷ os) o rises.1 e)

pub comes_next : (os : List Op) (o : Op) (more : List Op) → Rises bytes_cmp (entries_of (os ++ o ∷ more)) → comes_after (last_key None os) (key_of_op o) ≡ true
comes_next [] o more rises = refl
comes_next (p ∷ []) o more rises = ap is_lt rises.0.0
comes_next (p ∷ q ∷ os) o more rises = comes_next (q ∷ os) o more rises.1

-- ---- the operations so far

fits_more : (os : List Op) (o : Op) → AllByRecursion IsSpelledOp os → IsSpelledOp o → AllByRecursion IsSpelledOp (os ++ o ∷ [])
fits_more [] o each fits = (fits, tt)
fits_more (p ∷ os) o each fits = (each.0, fits_more os o each.1 fits)

bytes_more : (os : List Op) (o : Op) (rest : List ℕ) → batch_bytes os ++ (op_bytes o ++ rest) ≡ batch_bytes (os ++ o ∷ []) ++ rest
bytes_more [] o rest = ap (λ (t : List ℕ). t ++ rest) (sym (append-nil (op_bytes o)))
bytes_more (p ∷ os) o rest =
    append_assoc (op_bytes p) (batch_bytes os) (op_bytes o ++ rest) ∙ ap (λ (t : List ℕ). op_bytes p ++ t) (bytes_more os o rest)
    ∙ sym (append_assoc (op_bytes p) (batch_bytes (os ++ o ∷ [])) rest)

-- the bytes are these operations, whose keys rise to the last one, and a rest
pub record SoFar (bytes : List ℕ) (last : Option (List ℕ)) (rest : List ℕ) (ops : List Op) : Type 0 where
  pub parts : bytes ≡ batch_bytes ops ++ rest
  pub batch : IsBatch ops
  pub last_is : last ≡ last_key None ops
  pub rest_fits : AreBytes rest

pub at_start : (bytes : List ℕ) → AreBytes bytes → SoFar bytes None bytes []
at_start bytes fits = record { parts = refl; batch = record { rises = tt; fits = tt }; last_is = refl; rest_fits = fits }

op_goes_on : (bytes rest after : List ℕ) (last : Option (List ℕ)) (ops : List Op) (o : Op) → SoFar bytes last rest ops → front_op rest ≡ Some (o, after)
    → comes_after last (key_of_op o) ≡ true → SoFar bytes (Some (key_of_op o)) after (ops ++ o ∷ [])
op_goes_on bytes rest after last ops o so e next =
    let t = op_takes rest (o, after) so.rest_fits e in
    let comes : comes_after (last_key None ops) (key_of_op o) ≡ true = ap (λ (k : Option (List ℕ)). comes_after k (key_of_op o)) (sym so.last_is) ∙ next in
    record {
      parts = so.parts ∙ ap (λ (b : List ℕ). batch_bytes ops ++ b) t.0.parts ∙ bytes_more ops o after;
      batch = record { rises = rises_more ops o so.batch.rises comes; fits = fits_more ops o so.batch.fits t.1 };
      last_is = sym (last_key-more None ops o);
      rest_fits = t.0.rest_fits;
    }

-- the key of an operation with a key
pub key_at : (key : List ℕ) (value : Option (List ℕ)) → key_of_op (op_at key value) ≡ key
key_at key None = refl
key_at key (Some value) = refl

let_through : {A : Type 0} (b : Bool) (x y : A) → cond b (Some x) None ≡ Some y → (b ≡ true) × (x ≡ y)
let_through true x y e = (refl, some_is x y e)
let_through false x y e = absurd cc

-- the next operation stands at the front, and its key comes next
pub next_is : (last : Option (List ℕ)) (rest after : List ℕ) (o : Op) → next_op last rest ≡ Some (o, after) → (front_op rest ≡ Some (o, after)) × (comes_after last (key_of_op o) ≡ true)
next_is last rest after o e =
    let a = bind_some (front_op rest) (λ x. cond (comes_after last (key_of_op x.0)) (Some x) None) (o, after) e in
    let b = let_through (comes_after last (key_of_op a.0.0)) a.0 (o, after) a.2 in
    (a.1 ∙ ap Some b.1, ap (λ (x : Op × List ℕ). comes_after last (key_of_op x.0)) (sym b.1) ∙ b.0)

pub goes_on : (bytes rest after : List ℕ) (last : Option (List ℕ)) (ops : List Op) (key : List ℕ) (value : Option (List ℕ)) → SoFar bytes last rest ops
    → next_op last rest ≡ Some (op_at key value, after) → SoFar bytes (Some key) after (ops ++ op_at key value ∷ [])
goes_on bytes rest after last ops key value so e =
    let n = next_is last rest after (op_at key value) e in
    subst (λ (k : List ℕ). SoFar bytes (Some k) after (ops ++ op_at key value ∷ [])) (key_at key value)
    (op_goes_on bytes rest after last ops (op_at key value) so n.0 n.1)

pub at_end : (bytes rest : List ℕ) (last : Option (List ℕ)) (ops : List Op) → SoFar bytes last rest ops → rest ≡ [] → Spells bytes ops
at_end bytes rest last ops so e = record { batch = so.batch; spelled = so.parts ∙ ap (λ (t : List ℕ). batch_bytes ops ++ t) e ∙ append-nil (batch_bytes ops) }

-- ---- bytes that spell no batch

same_front : (o p : Op) (x y : List ℕ) → ◌≡◌ {A = Option (Op × List ℕ)} (Some (o, x)) (Some (p, y)) → (o ≡ p) × (x ≡ y)
same_front o p x y e =
    let both = some_is (o, x) (p, y) e in
    (ap (λ (z : Op × List ℕ). z.0) both, ap (λ (z : Op × List ℕ). z.1) both)

no_op : (o : Op) (x : List ℕ) → [] ≡ op_bytes o ++ x → ⊥
no_op (Put key value) x e = cc
no_op (Delete key) x e = cc

-- the operations that are spelled behind some
pub others : (os ps : List Op) (rest : List ℕ) → AllByRecursion IsSpelledOp os → AllByRecursion IsSpelledOp ps → batch_bytes ps ≡ batch_bytes os ++ rest
    → (more : List Op) × (ps ≡ os ++ more) × (batch_bytes more ≡ rest)
others [] ps rest fit_os fit_ps e = (ps, refl, e)
others (o ∷ os) [] rest fit_os fit_ps e = absurd (no_op o (batch_bytes os ++ rest) (e ∙ append_assoc (op_bytes o) (batch_bytes os) rest))
others (o ∷ os) (p ∷ ps) rest fit_os fit_ps e =
    let whole : op_bytes p ++ batch_bytes ps ≡ op_bytes o ++ (batch_bytes os ++ rest) = e ∙ append_assoc (op_bytes o) (batch_bytes os) rest in
    let same = same_front p o (batch_bytes ps) (batch_bytes os ++ rest) (sym (op_again p (batch_bytes ps) fit_ps.0) ∙ ap front_op whole ∙ op_again o (batch_bytes os ++ rest) fit_os.0) in
    let later = others os ps rest fit_os.1 fit_ps.1 same.1 in
    (later.0, ap (λ (x : Op). x ∷ ps) same.0 ∙ ap (λ (t : List Op). o ∷ t) later.1, later.2)

fits_behind : (os : List Op) (o : Op) (more : List Op) → AllByRecursion IsSpelledOp (os ++ o ∷ more) → IsSpelledOp o
fits_behind [] o more each = each.0
fits_behind (p ∷ os) o more each = fits_behind os o more each.1

-- where the bytes spell a batch, the next of its operations stands at the front of the rest, and its key comes next
next_stands : (os ps more : List Op) (rest : List ℕ) → 0 < length rest → IsBatch ps → ps ≡ os ++ more → batch_bytes more ≡ rest
    → (o : Op) × (after : List ℕ) × (front_op rest ≡ Some (o, after)) × (comes_after (last_key None os) (key_of_op o) ≡ true)
next_stands os ps [] rest some batch e text = absurd (omega (arith, ap length text))
next_stands os ps (o ∷ more) rest some batch e text =
    let fits : IsSpelledOp o = fits_behind os o more (subst (λ (t : List Op). AllByRecursion IsSpelledOp t) e batch.fits) in
    let rises : Rises bytes_cmp (entries_of (os ++ o ∷ more)) = subst (λ (t : List Op). Rises bytes_cmp (entries_of t)) e batch.rises in
    (o, batch_bytes more, ap front_op (sym text) ∙ op_again o (batch_bytes more) fits, comes_next os o more rises)

stands : (bytes rest : List ℕ) (last : Option (List ℕ)) (ops ps : List Op) → SoFar bytes last rest ops → 0 < length rest → Spells bytes ps
    → (o : Op) × (after : List ℕ) × (front_op rest ≡ Some (o, after)) × (comes_after last (key_of_op o) ≡ true)
stands bytes rest last ops ps so some spells =
    let m = others ops ps rest so.batch.fits spells.batch.fits (sym spells.spelled ∙ so.parts) in
    let n = next_stands ops ps m.0 rest some spells.batch m.1 m.2 in
    (n.0, n.1, n.2, ap (λ (k : Option (List ℕ)). comes_after k (key_of_op n.0)) so.last_is ∙ n.3)

pub no_next : (bytes rest : List ℕ) (last : Option (List ℕ)) (ops ps : List Op) → SoFar bytes last rest ops → 0 < length rest → next_op last rest ≡ None → Spells bytes ps → ⊥
no_next bytes rest last ops ps so some none spells =
    let s = stands bytes rest last ops ps so some spells in
    let is : next_op last rest ≡ Some (s.0, s.1) = rw (s.2, s.3) refl in
    let both : ◌≡◌ {A = Option (Op × List ℕ)} None (Some (s.0, s.1)) = sym none ∙ is in
    cc

-- bytes spell at most one batch
none_left : (os ps more : List Op) → ps ≡ os ++ more → batch_bytes more ≡ [] → os ≡ ps
none_left os ps [] e text = sym (e ∙ append-nil os)
none_left os ps (o ∷ more) e text = absurd (no_op o (batch_bytes more) (sym text))

pub one_batch : (bytes : List ℕ) (os ps : List Op) → Spells bytes os → Spells bytes ps → os ≡ ps
one_batch bytes os ps a b =
    let m = others os ps [] a.batch.fits b.batch.fits (sym b.spelled ∙ a.spelled ∙ sym (append-nil (batch_bytes os))) in
    none_left os ps m.0 m.1 m.2

-- ---- the batch of changes

less_behind : (k key : List ℕ) (said : Option (Option (List ℕ))) (ops : List Op) → bytes_cmp k key ≡ Less → AllByRecursion (λ y. bytes_cmp k y.0 ≡ Less) (entries_of ops)
    → AllByRecursion (λ y. bytes_cmp k y.0 ≡ Less) (entries_of (ops_at key said ++ ops))
less_behind k key None ops less each = each
less_behind k key (Some None) ops less each = (less, each)
less_behind k key (Some (Some value)) ops less each = (less, each)

rises_behind : (key : List ℕ) (said : Option (Option (List ℕ))) (ops : List Op) → AllByRecursion (λ y. bytes_cmp key y.0 ≡ Less) (entries_of ops) → Rises bytes_cmp (entries_of ops)
    → Rises bytes_cmp (entries_of (ops_at key said ++ ops))
rises_behind key None ops each rises = rises
rises_behind key (Some None) ops each rises = (each, rises)
rises_behind key (Some (Some value)) ops each rises = (each, rises)

abbrev keyed : List Change → List (List ℕ × Change)
keyed changes = map (λ c. (c.key, c)) changes

less_than_batch : (k : List ℕ) (cs : List Change) → AllByRecursion (λ y. bytes_cmp k y.0 ≡ Less) (keyed cs) → AllByRecursion (λ y. bytes_cmp k y.0 ≡ Less) (entries_of (batch_of cs))
less_than_batch k [] each = tt
less_than_batch k (c ∷ cs) each = less_behind k c.key (said_of c.before c.after) (batch_of cs) each.0 (less_than_batch k cs each.1)

pub batch_rises : (cs : List Change) → Rises bytes_cmp (keyed cs) → Rises bytes_cmp (entries_of (batch_of cs))
batch_rises [] rises = tt
batch_rises (c ∷ cs) rises = rises_behind c.key (said_of c.before c.after) (batch_of cs) (less_than_batch c.key cs rises.0) (batch_rises cs rises.1)

-- ---- bytes of literals that spell no batch

pub no_first : (bytes : List ℕ) → list_all (λ b. ltb b 256) bytes ≡ true → 0 < length bytes → next_op None bytes ≡ None → (ps : List Op) → Spells bytes ps → ⊥
no_first bytes fit some none ps = no_next bytes bytes None [] ps (at_start bytes (are_bytes bytes fit)) some none

pub no_second : (bytes rest key : List ℕ) (value : Option (List ℕ)) → list_all (λ b. ltb b 256) bytes ≡ true → next_op None bytes ≡ Some (op_at key value, rest)
    → 0 < length rest → next_op (Some key) rest ≡ None → (ps : List Op) → Spells bytes ps → ⊥
no_second bytes rest key value fit e some none ps =
    no_next bytes rest (Some key) (op_at key value ∷ []) ps (goes_on bytes bytes rest None [] key value (at_start bytes (are_bytes bytes fit)) e) some none
