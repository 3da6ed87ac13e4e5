-- The row of a state at a key, table by table: which table a key lies in, and that no key elsewhere has a row.
use Rattle.std.proofs.Common.{◌≡◌, ℕ, ◌+◌, ◌<◌, ◌≤◌, ◌==◌, ◌&&◌, nat_le, nat_lt, Bool, true, false, cond, find, List, [], ◌∷◌, ◌++◌, Option, None, Some, option_and_then, refl, ◌∙◌, ap, arith, eqb-true, leb-true, ltb-true}
use Rattle.std.proofs.lemmas.Bool.{and_parts}
use Rattle.std.specs.List.{list_all}
use Rattle.ctrl_model.specs.declared.formats.Format.{Format}
use Rattle.ctrl_model.specs.declared.formats.Format.TheVariants.{One, Two}
use Rattle.ctrl_model.specs.declared.kinds.Kind.{Kind}
use Rattle.ctrl_model.specs.declared.kinds.Kind.TheVariants as kind
use Rattle.ctrl_model.specs.declared.kinds.Relation.TheVariants.{Dial, Bind, IdentityRouter, ServiceRouter}
use Rattle.ctrl_model.specs.Membership.{Among}
use Rattle.ctrl_model.specs.State.{State}
use Rattle.ctrl_model.proofs.Members.{find_passes, find_among, each_among}
use Rattle.row_codec.specs.RowKeys.{RowTable, Key, kind_number, table_number, tables_of_both, tables_of_two, tables_of}
use Rattle.row_codec.specs.RowKeys.RowTable.{Next, Setting, Records, Counts, Intercepts, Serial}
use Rattle.row_codec.specs.StateRows.{row_in, row_at}
use Rattle.row_codec.specs.CoveredTables.{LiesIn}
use Rattle.row_laws.proofs.RisingRows.{All-tested}

-- the numbers of tables are 1 to 17
abbrev is_numbered : RowTable → Bool
is_numbered u = nat_le 1 (table_number u) && nat_lt (table_number u) 18

all_numbered : (f : Format) → list_all is_numbered (tables_of f) ≡ true
all_numbered One = refl
all_numbered Two = refl

table_within : (f : Format) (t : RowTable) → Among t (tables_of f) → (1 ≤ table_number t) × (table_number t < 18)
table_within f t m =
    let all = All-tested is_numbered (tables_of f) (all_numbered f) in
    let both = and_parts (nat_le 1 (table_number t)) (nat_lt (table_number t) 18) (each_among (λ u. is_numbered u ≡ true) (tables_of f) t all m) in
    (leb-true 1 (table_number t) both.0, ltb-true (table_number t) 18 both.1)

-- a key that lies in no table has no row
pub row_at-outside : (f : Format) (s : State) (q : Key) → (LiesIn 1 18 q → ⊥) → row_at f s q ≡ None
row_at-outside f s q out = by (find (λ t. table_number t == q.0) (tables_of f)) refl
  where
    by : (o : Option RowTable) → find (λ t. table_number t == q.0) (tables_of f) ≡ o → option_and_then (λ t. row_in f t s q.1 q.2) o ≡ None
    by None e = refl
    by (Some t) e =
        let same = eqb-true (table_number t) q.0 (find_passes (λ t. table_number t == q.0) (tables_of f) t e) in
        let within = table_within f t (find_among (λ u. table_number u == q.0) (tables_of f) t e) in absurd (out (moved (table_number t) q.0 same within.0 within.1))
      where
        moved : (a b : ℕ) → a ≡ b → 1 ≤ a → a < 18 → (1 ≤ b) × (b < 18)
        moved a b e h k = (omega arith, omega arith)

-- whether a table is one of those of a format that have rows
abbrev pub has_number : Format → RowTable → Bool
has_number f (Records kind.Attribute) = false
has_number One Intercepts = false
has_number One Serial = false
has_number f t = true

-- what is found in a front is found in the whole
find_front : {X : Type 0} (p : X → Bool) (xs ys : List X) (x : X) → find p xs ≡ Some x → find p (xs ++ ys) ≡ Some x
find_front p [] ys x e = absurd (cc)
find_front p (z ∷ xs) ys x e = by (p z) e (find_front p xs ys x)
  where
    by : (b : Bool) → cond b (Some z) (find p xs) ≡ Some x → (find p xs ≡ Some x → find p (xs ++ ys) ≡ Some x) → cond b (Some z) (find p (xs ++ ys)) ≡ Some x
    by true e k = e
    by false e k = k e

find_first : (t : RowTable) → has_number One t ≡ true → find (λ u. table_number u == table_number t) tables_of_both ≡ Some t
find_first Next h = refl
find_first Setting h = refl
find_first (Records kind.Identity) h = refl
find_first (Records kind.Service) h = refl
find_first (Records kind.Router) h = refl
find_first (Records kind.Link) h = refl
find_first (Records kind.ServicePolicy) h = refl
find_first (Records kind.EdgeRouterPolicy) h = refl
find_first (Records kind.ServiceEdgeRouterPolicy) h = refl
find_first (Records kind.Terminator) h = refl
find_first (Records kind.Circuit) h = refl
find_first (Records kind.Attribute) h = absurd (cc)
find_first (Counts Dial) h = refl
find_first (Counts Bind) h = refl
find_first (Counts IdentityRouter) h = refl
find_first (Counts ServiceRouter) h = refl
find_first Intercepts h = absurd (cc)
find_first Serial h = absurd (cc)

pub find_table : (f : Format) (t : RowTable) → has_number f t ≡ true → find (λ u. table_number u == table_number t) (tables_of f) ≡ Some t
find_table One t h = find_first t h
find_table Two Intercepts h = refl
find_table Two Serial h = refl
find_table Two Next h = refl
find_table Two Setting h = refl
find_table Two (Records k) h = find_front (λ u. table_number u == table_number (Records k)) tables_of_both tables_of_two (Records k) (find_first (Records k) (in_both k h))
  where
    in_both : (k : Kind) → has_number Two (Records k) ≡ true → has_number One (Records k) ≡ true
    in_both kind.Attribute h = h
    in_both k h = refl
find_table Two (Counts r) h = find_front (λ u. table_number u == table_number (Counts r)) tables_of_both tables_of_two (Counts r) (find_first (Counts r) refl)

-- the row at a key of a table
pub row_at-table : (f : Format) (t : RowTable) → has_number f t ≡ true → (s : State) (q : Key) → q.0 ≡ table_number t → row_at f s q ≡ row_in f t s q.1 q.2
row_at-table f t h s q e =
    ap (λ n. option_and_then (λ u. row_in f u s q.1 q.2) (find (λ u. table_number u == n) (tables_of f))) e
    ∙ ap (option_and_then (λ u. row_in f u s q.1 q.2)) (find_table f t h)

pub kind_has_number : (f : Format) (k : Kind) → 1 ≤ kind_number k → has_number f (Records k) ≡ true
kind_has_number f kind.Identity h = refl
kind_has_number f kind.Service h = refl
kind_has_number f kind.Router h = refl
kind_has_number f kind.Link h = refl
kind_has_number f kind.ServicePolicy h = refl
kind_has_number f kind.EdgeRouterPolicy h = refl
kind_has_number f kind.ServiceEdgeRouterPolicy h = refl
kind_has_number f kind.Terminator h = refl
kind_has_number f kind.Circuit h = refl
kind_has_number f kind.Attribute h = absurd (omega arith)

-- a key that lies in one table alone has its number
pub lies_in_one : (n m : ℕ) → n ≤ m → m < n + 1 → m ≡ n
lies_in_one n m a b = omega arith
