-- The change at a key of each table, written out: the bytes of its key, and its row in the one state and in the other.
use Rattle.std.proofs.Common.{◌≡◌, ℕ, ◌+◌, ◌≤◌, List, [], ◌∷◌, ◌++◌, Option, option_map, refl, ◌∙◌, arith}
use Rattle.ctrl_model.specs.declared.formats.Format.{Format}
use Rattle.ctrl_model.specs.declared.kinds.Kind.{Kind}
use Rattle.ctrl_model.specs.declared.kinds.Kind.TheVariants as kind
use Rattle.ctrl_model.specs.declared.kinds.Relation.{Relation}
use Rattle.ctrl_model.specs.declared.kinds.Relation.TheVariants.{Dial, Bind, IdentityRouter, ServiceRouter}
use Rattle.ctrl_model.specs.Numbered.{at}
use Rattle.ctrl_model.specs.State.{State}
use Rattle.ctrl_model.specs.Tables.{table}
use Rattle.ctrl_model.specs.Grants.{count}
use Rattle.row_codec.specs.declared.changes.Change.{Change}
use Rattle.row_codec.specs.RowKeys.{kind_number, key_in, key_bytes, number_in_key, table_number}
use Rattle.row_codec.specs.RowKeys.RowTable.{Next, Setting, Records, Counts}
use Rattle.row_codec.specs.RowValues.{record_value}
use Rattle.row_codec.specs.StateRows.{next_value, setting_value, count_value, row_in, row_at}
use Rattle.row_codec.specs.CoveredTables.{change_at}
use Rattle.row_laws.proofs.TableRows.{row_at-table, kind_has_number}

pub row_at-record : (format : Format) (k : Kind) (s : State) (n : ℕ) → 1 ≤ kind_number k → row_at format s (key_in (Records k) n 0) ≡ option_map (record_value k) (at (table k s).rows n)
row_at-record format k s n h = row_at-table format (Records k) (kind_has_number format k h) s (key_in (Records k) n 0) refl

next_in_row : (format : Format) (k : Kind) (s : State) → 1 ≤ kind_number k → row_in format Next s (kind_number k) 0 ≡ next_value (table k s).next
next_in_row format kind.Identity s h = refl
next_in_row format kind.Service s h = refl
next_in_row format kind.Router s h = refl
next_in_row format kind.Link s h = refl
next_in_row format kind.ServicePolicy s h = refl
next_in_row format kind.EdgeRouterPolicy s h = refl
next_in_row format kind.ServiceEdgeRouterPolicy s h = refl
next_in_row format kind.Terminator s h = refl
next_in_row format kind.Circuit s h = refl
next_in_row format kind.Attribute s h = absurd (omega arith)

pub row_at-next : (format : Format) (k : Kind) (s : State) → 1 ≤ kind_number k → row_at format s (key_in Next (kind_number k) 0) ≡ next_value (table k s).next
row_at-next format k s h = row_at-table format Next refl s (key_in Next (kind_number k) 0) refl ∙ next_in_row format k s h

row_at-setting : (format : Format) (s : State) → row_at format s (key_in Setting 0 0) ≡ setting_value s.least_router_cost
row_at-setting format s = row_at-table format Setting refl s (key_in Setting 0 0) refl

pub row_at-count : (format : Format) (r : Relation) (s : State) (a b : ℕ) → row_at format s (key_in (Counts r) a b) ≡ count_value format (count r s a b)
row_at-count format r s a b = row_at-table format (Counts r) refl s (key_in (Counts r) a b) refl

pub key_bytes-record : (k : Kind) (n : ℕ) → 1 ≤ kind_number k → key_bytes (key_in (Records k) n 0) ≡ (kind_number k + 2) ∷ number_in_key n
key_bytes-record kind.Identity n h = refl
key_bytes-record kind.Service n h = refl
key_bytes-record kind.Router n h = refl
key_bytes-record kind.Link n h = refl
key_bytes-record kind.ServicePolicy n h = refl
key_bytes-record kind.EdgeRouterPolicy n h = refl
key_bytes-record kind.ServiceEdgeRouterPolicy n h = refl
key_bytes-record kind.Terminator n h = refl
key_bytes-record kind.Circuit n h = refl
key_bytes-record kind.Attribute n h = absurd (omega arith)

key_bytes-count : (r : Relation) (a b : ℕ) → key_bytes (key_in (Counts r) a b) ≡ table_number (Counts r) ∷ (number_in_key a ++ number_in_key b)
key_bytes-count Dial a b = refl
key_bytes-count Bind a b = refl
key_bytes-count IdentityRouter a b = refl
key_bytes-count ServiceRouter a b = refl

made : (key other : List ℕ) (a b c d : Option (List ℕ)) → key ≡ other → a ≡ c → b ≡ d
    → ◌≡◌ {A = Change} (record { key = key; before = a; after = b }) (record { key = other; before = c; after = d })
made key other a b c d e f g = λ i. record { key = e i; before = f i; after = g i }

pub change_at-next : (format : Format) (k : Kind) (s t : State) → 1 ≤ kind_number k
    → change_at format s t (key_in Next (kind_number k) 0) ≡ record { key = 1 ∷ kind_number k ∷ []; before = next_value (table k s).next; after = next_value (table k t).next }
change_at-next format k s t h = made _ _ _ _ _ _ refl (row_at-next format k s h) (row_at-next format k t h)

pub change_at-setting : (format : Format) (s t : State)
    → change_at format s t (key_in Setting 0 0) ≡ record { key = 2 ∷ []; before = setting_value s.least_router_cost; after = setting_value t.least_router_cost }
change_at-setting format s t = made _ _ _ _ _ _ refl (row_at-setting format s) (row_at-setting format t)

pub change_at-record : (format : Format) (k : Kind) (s t : State) (n : ℕ) → 1 ≤ kind_number k
    → change_at format s t (key_in (Records k) n 0)
    ≡ record { key = (kind_number k + 2) ∷ number_in_key n; before = option_map (record_value k) (at (table k s).rows n); after = option_map (record_value k) (at (table k t).rows n) }
change_at-record format k s t n h = made _ _ _ _ _ _ (key_bytes-record k n h) (row_at-record format k s n h) (row_at-record format k t n h)

pub change_at-count : (format : Format) (r : Relation) (s t : State) (a b : ℕ)
    → change_at format s t (key_in (Counts r) a b)
    ≡ record { key = table_number (Counts r) ∷ (number_in_key a ++ number_in_key b); before = count_value format (count r s a b); after = count_value format (count r t a b) }
change_at-count format r s t a b = made _ _ _ _ _ _ (key_bytes-count r a b) (row_at-count format r s a b) (row_at-count format r t a b)
