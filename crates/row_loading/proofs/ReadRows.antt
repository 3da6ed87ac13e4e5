-- Changes that put rows in the order of their keys, read one after another.
use Rattle.std.proofs.Common.{◌≡◌, ℕ, suc, ◌+◌, ◌<◌, Bool, true, false, cond, ◌&&◌, nat_le, List, [], ◌∷◌, ◌++◌, length, map, take, drop, get_or, Option, None, Some, Err, IsErrOf, refl, sym, ◌∙◌, ap, ap₂, subst, Less, take-append-drop}
use Rattle.std.proofs.lemmas.Bool.{and_parts, and_from, true≢false}
use Rattle.std.proofs.lemmas.List.{map-append, length-map, take_more}
use Rattle.std.proofs.lemmas.List.Folds.{list_all-append}
use Rattle.std.proofs.Math.Seq.{drop-cons}
use Rattle.std.specs.declared.result.Result.{Result}
use Rattle.std.specs.List.{AllByRecursion, list_all}
use Rattle.ctrl_model.specs.declared.formats.Format.{Format}
use Rattle.ctrl_model.specs.InterceptForm.{is_intercept}
use Rattle.row_codec.specs.declared.rows.Row.{Row}
use Rattle.row_codec.specs.declared.rows.Row.TheVariants as row
use Rattle.row_codec.specs.declared.changes.Op.{Op}
use Rattle.row_codec.specs.RowKeys.{Key, key_cmp, key_bytes, is_key, is_long}
use Rattle.row_codec.specs.RowForm.{is_row, is_two, key_of}
use Rattle.row_codec.specs.RowDifference.{Rises}
use Rattle.row_codec.specs.Batches.{bytes_cmp, entry_of, entries_of}
use Rattle.row_codec.specs.BatchReading.{comes_after}
use Rattle.row_codec.proofs.BatchLaws.{key_of_op, last_key, last_key-more, rises_more, comes_next}
use Rattle.row_laws.proofs.KeyOrders.{bytes_order}
use Rattle.state_building.specs.declared.flaws.Flaw.{Flaw}
use Rattle.state_building.specs.declared.flaws.Flaw.TheVariants.{NoRecord, OutOfOrder, NameTaken, Hanging, Unsettled, TooMany, WrongCount}
use Rattle.row_loading.specs.declared.faults.CoreFault.{CoreFault}
use Rattle.row_loading.specs.declared.faults.CoreFault.TheVariants.{NoMemory, NotAState}
use Rattle.row_loading.specs.LoadedRows.{put_of, keyed, Loads}
use Rattle.row_loading.specs.NextPuts.{Puts, PutsNext, PutsEarly, PutsNoNext}
use Rattle.row_loading.specs.RefusedRows.{PutsNoRow, AreUnread}

-- ---- a row that some state can have stands under a key

first_and : (a b : Bool) → (a && b) ≡ true → (a && true) ≡ true
first_and true b e = refl
first_and false b e = e

first_two : (a b c : Bool) → (a && (b && c)) ≡ true → (a && b) ≡ true
first_two true true c e = refl
first_two true false c e = e
first_two false b c e = e

kind_fits : (a b c : Bool) → ((a && b) && c) ≡ true → (a && (b && true)) ≡ true
kind_fits true true c e = refl
kind_fits true false c e = e
kind_fits false b c e = e

pub is_key-key_of : (f : Format) (x : Row) → is_row f x ≡ true → is_key (key_of x) ≡ true
is_key-key_of f (row.Next k next) h = kind_fits (nat_le 1 k) (nat_le k 9) _ h
is_key-key_of f (row.Setting cost) h = refl
is_key-key_of f (row.Identity n name attributes) h = first_and (is_long n.0) _ h
is_key-key_of f (row.Service n name attributes) h = first_and (is_long n.0) _ h
is_key-key_of f (row.Router n name attributes cost through connected) h = first_and (is_long n.0) _ h
is_key-key_of f (row.Link n name a b cost latency_a latency_b up) h = first_and (is_long n.0) _ h
is_key-key_of f (row.ServicePolicy n name relation semantic identities services) h = first_and (is_long n.0) _ h
is_key-key_of f (row.EdgeRouterPolicy n name semantic identities routers) h = first_and (is_long n.0) _ h
is_key-key_of f (row.ServiceEdgeRouterPolicy n name semantic services routers) h = first_and (is_long n.0) _ h
is_key-key_of f (row.Terminator n service router host instance cost precedence) h = first_and (is_long n.0) _ h
is_key-key_of f (row.Circuit n identity service terminator ingress links) h = first_and (is_long n.0) _ h
is_key-key_of f (row.Dial identity service count) h = first_two (is_long identity.0) (is_long service.0) _ h
is_key-key_of f (row.Bind identity service count) h = first_two (is_long identity.0) (is_long service.0) _ h
is_key-key_of f (row.IdentityRouter identity router count) h = first_two (is_long identity.0) (is_long router.0) _ h
is_key-key_of f (row.ServiceRouter service router count) h = first_two (is_long service.0) (is_long router.0) _ h
is_key-key_of f (row.Intercept n i) h = first_and (is_long n.0) _ (and_parts (is_two f) (is_long n.0 && is_intercept i) h).1
is_key-key_of f (row.Serial n) h = refl

-- ---- rows rise where the changes that put them do

above_rows : (f : Format) (k : Key) (xs : List Row) → is_key k ≡ true → list_all (is_row f) xs ≡ true
    → AllByRecursion (λ y. bytes_cmp (key_bytes k) y.0 ≡ Less) (entries_of (map (put_of f) xs)) → AllByRecursion (λ y. key_cmp k y.0 ≡ Less) (keyed f xs)
above_rows f k [] h g a = tt
above_rows f k (x ∷ xs) h g a =
    let parts = and_parts (is_row f x) (list_all (is_row f) xs) g in
    (sym (bytes_order k (key_of x) h (is_key-key_of f x parts.0)) ∙ a.0, above_rows f k xs h parts.1 a.1)

rise_as_rows : (f : Format) (xs : List Row) → list_all (is_row f) xs ≡ true → Rises bytes_cmp (entries_of (map (put_of f) xs)) → Rises key_cmp (keyed f xs)
rise_as_rows f [] g r = tt
rise_as_rows f (x ∷ xs) g r =
    let parts = and_parts (is_row f x) (list_all (is_row f) xs) g in
    (above_rows f (key_of x) xs (is_key-key_of f x parts.0) parts.1 r.0, rise_as_rows f xs parts.1 r.1)

above_puts : (f : Format) (k : Key) (xs : List Row) → is_key k ≡ true → list_all (is_row f) xs ≡ true
    → AllByRecursion (λ y. key_cmp k y.0 ≡ Less) (keyed f xs) → AllByRecursion (λ y. bytes_cmp (key_bytes k) y.0 ≡ Less) (entries_of (map (put_of f) xs))
above_puts f k [] h g a = tt
above_puts f k (x ∷ xs) h g a =
    let parts = and_parts (is_row f x) (list_all (is_row f) xs) g in
    (bytes_order k (key_of x) h (is_key-key_of f x parts.0) ∙ a.0, above_puts f k xs h parts.1 a.1)

rise_as_puts : (f : Format) (xs : List Row) → list_all (is_row f) xs ≡ true → Rises key_cmp (keyed f xs) → Rises bytes_cmp (entries_of (map (put_of f) xs))
rise_as_puts f [] g r = tt
rise_as_puts f (x ∷ xs) g r =
    let parts = and_parts (is_row f x) (list_all (is_row f) xs) g in
    (above_puts f (key_of x) xs (is_key-key_of f x parts.0) parts.1 r.0, rise_as_puts f xs parts.1 r.1)

-- ---- the changes so far

-- they put these rows, and the last key is that of the last one
pub record AreRead (f : Format) (ops : List Op) (last : Option (List ℕ)) (rows : List Row) : Type 0 where
  pub spelled : ops ≡ map (put_of f) rows
  pub form : list_all (is_row f) rows ≡ true
  pub rises : Rises bytes_cmp (entries_of ops)
  pub last_is : last ≡ last_key None ops

all_form : (f : Format) (rows : List Row) (x : Row) → list_all (is_row f) rows ≡ true → is_row f x ≡ true → list_all (is_row f) (rows ++ x ∷ []) ≡ true
all_form f rows x h g = list_all-append (is_row f) rows (x ∷ []) ∙ and_from (list_all (is_row f) rows) (is_row f x && true) h (and_from (is_row f x) true g refl)

pub reads_on : (f : Format) (ops : List Op) (last : Option (List ℕ)) (rows : List Row) (op : Op) (x : Row) → AreRead f ops last rows → PutsNext f last op x
    → AreRead f (ops ++ op ∷ []) (Some (entry_of op).0) (rows ++ x ∷ [])
reads_on f ops last rows op x so next =
    let comes : comes_after (last_key None ops) (key_of_op op) ≡ true =
    ap₂ comes_after (sym so.last_is) (ap key_of_op next.puts.put) ∙ next.comes in
    record {
      spelled = ap₂ (λ (xs : List Op) (y : Op). xs ++ y ∷ []) so.spelled next.puts.put ∙ sym (map-append (put_of f) rows (x ∷ []));
      form = all_form f rows x so.form next.puts.form;
      rises = rises_more ops op so.rises comes;
      last_is = sym (last_key-more None ops op);
    }

pub loads : (f : Format) (ops : List Op) (last : Option (List ℕ)) (rows : List Row) → AreRead f ops last rows → Loads f ops rows
loads f ops last rows so = record {
  spelled = so.spelled;
  form = so.form;
  rises = rise_as_rows f rows so.form (subst (λ (xs : List Op). Rises bytes_cmp (entries_of xs)) so.spelled so.rises);
}

-- a change that puts a row, at a key that comes after the last one
pub puts_next : (f : Format) (last : Option (List ℕ)) (op : Op) (x : Row) (key : List ℕ) (comes : Bool) → Puts f op x → key ≡ (entry_of op).0 → comes ≡ comes_after last key
    → comes ≡ true → PutsNext f last op x
puts_next f last op x key comes puts at told is = record {
  puts = puts;
  comes = ap (λ (o : Op). comes_after last (entry_of o).0) (sym puts.put) ∙ ap (comes_after last) (sym at) ∙ sym told ∙ is;
}

-- a change that puts a row, at a key that does not
puts_early : (f : Format) (last : Option (List ℕ)) (op : Op) (x : Row) (key : List ℕ) (comes : Bool) → Puts f op x → key ≡ (entry_of op).0 → comes ≡ comes_after last key
    → comes ≡ false → PutsEarly f last op
puts_early f last op x key comes puts at told is = record {
  row = x;
  puts = puts;
  early = ap (λ (o : Op). comes_after last (entry_of o).0) (sym puts.put) ∙ ap (comes_after last) (sym at) ∙ sym told ∙ is;
}

-- what is told where memory is wanting for the row of a change
pub record WantsNext (f : Format) (last : Option (List ℕ)) (op : Op) (place : ℕ) (r : Result Row CoreFault) : Type 0 where
  pub place_is : (at : ℕ) (flaw : Flaw) → IsErrOf r (NotAState at flaw) → at ≡ place
  pub flaw_is : (at : ℕ) (flaw : Flaw) → IsErrOf r (NotAState at flaw) → PutsNoNext f flaw last op
  pub memory : IsErrOf r NoMemory → (x : Row) × PutsNext f last op x

pub wants_next : (f : Format) (last : Option (List ℕ)) (op : Op) (x : Row) (key : List ℕ) (comes : Bool) (place : ℕ) (fault : CoreFault) → Puts f op x → key ≡ (entry_of op).0
    → comes ≡ comes_after last key → fault ≡ cond comes NoMemory (NotAState place OutOfOrder) → WantsNext f last op place (Err fault)
wants_next f last op x key true place fault puts at told is = record {
  place_is = λ p flaw e. absurd cc;
  flaw_is = λ p flaw e. absurd cc;
  memory = λ e. (x, puts_next f last op x key true puts at told refl);
}
wants_next f last op x key false place fault puts at told is = record {
  place_is = λ p flaw e. cc;
  flaw_is = λ p flaw e. let same : OutOfOrder ≡ flaw = cc in subst (λ (g : Flaw). PutsNoNext f g last op) same (puts_early f last op x key false puts at told refl);
  memory = λ e. absurd cc;
}

-- ---- a change that puts no row behind them

early : (f : Format) (ops : List Op) (last : Option (List ℕ)) (rows : List Row) (x : Row) → AreRead f ops last rows → is_row f x ≡ true
    → comes_after last (key_bytes (key_of x)) ≡ false → Rises key_cmp (keyed f (rows ++ x ∷ [])) → ⊥
early f ops last rows x so form is rises =
    let puts = rise_as_puts f (rows ++ x ∷ []) (all_form f rows x so.form form) rises in
    let whole : map (put_of f) (rows ++ x ∷ []) ≡ ops ++ put_of f x ∷ [] =
    map-append (put_of f) rows (x ∷ []) ∙ ap (λ (xs : List Op). xs ++ put_of f x ∷ []) (sym so.spelled) in
    let next = comes_next ops (put_of f x) [] (subst (λ (xs : List Op). Rises bytes_cmp (entries_of xs)) whole puts) in
    true≢false (sym next ∙ ap (λ (k : Option (List ℕ)). comes_after k (key_bytes (key_of x))) (sym so.last_is) ∙ is)

puts_no_row : (f : Format) (flaw : Flaw) (ops : List Op) (last : Option (List ℕ)) (rows : List Row) (op : Op) → AreRead f ops last rows → PutsNoNext f flaw last op → PutsNoRow f flaw rows op
puts_no_row f NoRecord ops last rows op so refused = refused
puts_no_row f OutOfOrder ops last rows op so refused = (refused.row, refused.puts.form, refused.puts.put, early f ops last rows refused.row so refused.puts.form refused.early)
puts_no_row f NameTaken ops last rows op so refused = refused
puts_no_row f Hanging ops last rows op so refused = refused
puts_no_row f Unsettled ops last rows op so refused = refused
puts_no_row f TooMany ops last rows op so refused = refused
puts_no_row f WrongCount ops last rows op so refused = refused

pub unread : (f : Format) (all : List Op) (i : ℕ) (last : Option (List ℕ)) (rows : List Row) (op : Op) (place : ℕ) (flaw : Flaw) → AreRead f (take i all) last rows
    → i < length all → op ≡ get_or all i op → place ≡ length rows → PutsNoNext f flaw last op → AreUnread f all place flaw
unread f all i last rows op place flaw so within is at refused = record {
  before = take i all;
  op = op;
  after = drop (suc i) all;
  split = sym (take-append-drop i all) ∙ ap (λ (xs : List Op). take i all ++ xs) (drop-cons all i op within ∙ ap (λ (y : Op). y ∷ drop (suc i) all) (sym is));
  rows = rows;
  loads = loads f (take i all) last rows so;
  place_is = ap length so.spelled ∙ length-map rows (put_of f) ∙ sym at;
  reason = puts_no_row f flaw (take i all) last rows op so refused;
}

pub reads_next : (f : Format) (all : List Op) (i : ℕ) (last : Option (List ℕ)) (rows : List Row) (op : Op) (x : Row) → AreRead f (take i all) last rows
    → i < length all → op ≡ get_or all i op → PutsNext f last op x → AreRead f (take (i + 1) all) (Some (entry_of op).0) (rows ++ x ∷ [])
reads_next f all i last rows op x so within is next =
    subst (λ (xs : List Op). AreRead f xs (Some (entry_of op).0) (rows ++ x ∷ [])) (ap (λ (y : Op). take i all ++ y ∷ []) is ∙ sym (take_more all i op within))
    (reads_on f (take i all) last rows op x so next)

-- an error is handed on
pub handed_on : {T U E : Type 0} (r : Result T E) (e f : E) → r ≡ Err e → IsErrOf r f → IsErrOf {T = U} (Err e) f
handed_on r e f is told = let same : e ≡ f = cc in ap Err same
