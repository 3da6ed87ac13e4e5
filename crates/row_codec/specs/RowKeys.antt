-- The tables of the folder and the keys of their rows (docs/FORMATS.md, "Rows").
use Rattle.std.specs.Prelude.{ℕ, Bool, cond, ◌+◌, ◌^◌, ◌&&◌, ◌==◌, nat_lt, nat_le, List, [], ◌∷◌, ◌++◌}
use Rattle.std.specs.Int.{w32, to_be_bytes}
use Rattle.std.specs.declared.cmp.Ordering.{Ordering}
use Rattle.std.specs.Ordering.{nat_cmp, ordering_then}
use Rattle.ctrl_model.specs.declared.formats.Format.{Format}
use Rattle.ctrl_model.specs.declared.formats.Format.TheVariants.{One, Two}
use Rattle.ctrl_model.specs.declared.kinds.Kind.{Kind}
use Rattle.ctrl_model.specs.declared.kinds.Kind.TheVariants as kind
use Rattle.ctrl_model.specs.declared.kinds.Relation.{Relation}
use Rattle.ctrl_model.specs.declared.kinds.Relation.TheVariants.{Dial, Bind, IdentityRouter, ServiceRouter}

-- A table of the folder: the next numbers, the setting, the records of a kind, the counts of a relation, the intercepts, or the serial.
pub data RowTable : Type 0 where
  Next : RowTable
  Setting : RowTable
  Records : Kind → RowTable
  Counts : Relation → RowTable
  Intercepts : RowTable
  Serial : RowTable

-- The kinds that have records, in the order of their numbers.
abbrev pub kinds : List Kind
kinds = kind.Identity ∷ kind.Service ∷ kind.Router ∷ kind.Link ∷ kind.ServicePolicy ∷ kind.EdgeRouterPolicy
    ∷ kind.ServiceEdgeRouterPolicy ∷ kind.Terminator ∷ kind.Circuit ∷ []

-- The number of a kind: 1 to 9. Attributes have no records, and 0 is no kind's number.
abbrev pub kind_number : Kind → ℕ
kind_number kind.Identity = 1
kind_number kind.Service = 2
kind_number kind.Router = 3
kind_number kind.Link = 4
kind_number kind.ServicePolicy = 5
kind_number kind.EdgeRouterPolicy = 6
kind_number kind.ServiceEdgeRouterPolicy = 7
kind_number kind.Terminator = 8
kind_number kind.Circuit = 9
kind_number kind.Attribute = 0

-- The number of a table: the next numbers 1, the setting 2, the kinds 3 to 11, the relations 12 to 15, the intercepts 16, and the
-- serial 17.
abbrev pub table_number : RowTable → ℕ
table_number Next = 1
table_number Setting = 2
table_number (Records k) = kind_number k + 2
table_number (Counts Dial) = 12
table_number (Counts Bind) = 13
table_number (Counts IdentityRouter) = 14
table_number (Counts ServiceRouter) = 15
table_number Intercepts = 16
table_number Serial = 17

-- The tables of either format, in the order of their numbers.
abbrev pub tables_of_both : List RowTable
tables_of_both = Next ∷ Setting
    ∷ Records kind.Identity ∷ Records kind.Service ∷ Records kind.Router ∷ Records kind.Link
    ∷ Records kind.ServicePolicy ∷ Records kind.EdgeRouterPolicy ∷ Records kind.ServiceEdgeRouterPolicy
    ∷ Records kind.Terminator ∷ Records kind.Circuit
    ∷ Counts Dial ∷ Counts Bind ∷ Counts IdentityRouter ∷ Counts ServiceRouter ∷ []

-- The tables of the second format alone.
abbrev pub tables_of_two : List RowTable
tables_of_two = Intercepts ∷ Serial ∷ []

-- The tables of a format, in the order of their numbers.
abbrev pub tables_of : Format → List RowTable
tables_of One = tables_of_both
tables_of Two = tables_of_both ++ tables_of_two

-- A key: the number of its table, and two numbers. Of the next numbers the first one is a kind's; of records it is the record's; of
-- intercepts it is the service's; of counts the two are those of the pair. A number that a table does not use is 0.
abbrev pub Key : Type 0
Key = ℕ × ℕ × ℕ

-- The key of a row in a table.
abbrev pub key_in : RowTable → ℕ → ℕ → Key
key_in t first second = (table_number t, first, second)

-- A number that fits four bytes.
abbrev pub is_long : ℕ → Bool
is_long n = nat_lt n (2 ^ 32)

-- Whether a key is one of a table: its numbers fit, and those that the table does not use are 0.
abbrev pub is_key : Key → Bool
is_key k =
    nat_le 1 k.0 && (nat_le k.0 17
    && cond (k.0 == 1) (nat_le 1 k.1 && (nat_le k.1 9 && k.2 == 0))
    (cond (k.0 == 2) (k.1 == 0 && k.2 == 0)
    (cond (nat_lt k.0 12) (is_long k.1 && k.2 == 0)
    (cond (nat_lt k.0 16) (is_long k.1 && is_long k.2)
    (cond (k.0 == 16) (is_long k.1 && k.2 == 0) (k.1 == 0 && k.2 == 0))))))

-- The order of keys: by table, then by the first number, then by the second.
abbrev pub key_cmp : Key → Key → Ordering
key_cmp x y = ordering_then (nat_cmp x.0 y.0) (ordering_then (nat_cmp x.1 y.1) (nat_cmp x.2 y.2))

-- A number of a record in a key: four bytes, the greatest first, so that the order of keys as bytes is the order of numbers.
abbrev pub number_in_key : ℕ → List ℕ
number_in_key n = to_be_bytes w32 n

-- The bytes of a key: the table's number, and the numbers that the table uses; a kind's number is one byte.
abbrev pub key_bytes : Key → List ℕ
key_bytes k =
    k.0 ∷ cond (k.0 == 1) (k.1 ∷ [])
    (cond (k.0 == 2) []
    (cond (nat_lt k.0 12) (number_in_key k.1)
    (cond (nat_lt k.0 16) (number_in_key k.1 ++ number_in_key k.2)
    (cond (k.0 == 16) (number_in_key k.1) []))))
