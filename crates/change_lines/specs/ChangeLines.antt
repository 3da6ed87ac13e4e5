-- The lines of the changes between two states (docs/FORMATS.md, "Lines of changes").
use Rattle.std.specs.Prelude.{ℕ, cond, List, [], ◌∷◌, ◌++◌, map, codes, decimal, None, Some}
use Rattle.std.specs.declared.option.Option.{Option}
use Rattle.std.specs.List.{flat_map}
use Rattle.std.specs.Str.{bytes_eq}
use Rattle.ctrl_model.specs.declared.formats.Format.TheVariants.{Two}
use Rattle.ctrl_model.specs.declared.kinds.Kind.{Kind}
use Rattle.ctrl_model.specs.declared.kinds.Kind.TheVariants as kind
use Rattle.ctrl_model.specs.declared.kinds.Relation.{Relation}
use Rattle.ctrl_model.specs.declared.kinds.Relation.TheVariants.{Dial, Bind, IdentityRouter, ServiceRouter}
use Rattle.ctrl_model.specs.Grants.{count, left_numbers, right_numbers}
use Rattle.ctrl_model.specs.State.{State}
use Rattle.ctrl_model.specs.Tables.{table}
use Rattle.row_codec.specs.RowKeys.{Key, RowTable, key_in, kind_number, kinds, tables_of}
use Rattle.row_codec.specs.RowKeys.RowTable.{Next, Setting, Records, Counts, Intercepts, Serial}
use Rattle.row_codec.specs.RowValues.{intercept_value, record_value}
use Rattle.row_codec.specs.StateRows.{count_value, next_value, serial_value, setting_value}
use Rattle.record_lines.specs.RecordLines.{intercept_line, line_of}
use Rattle.record_lines.specs.RecordNames.{name_of}
use Rattle.record_lines.specs.RecordWords.{spaced}
use Rattle.change_lines.specs.SideBySide.{side_by_side}

-- The word of a kind, before the lines of its records: the one that names it in words of the command line.
abbrev pub kind_word : Kind → List ℕ
kind_word kind.Identity = codes "identities"
kind_word kind.Service = codes "services"
kind_word kind.Router = codes "routers"
kind_word kind.Link = codes "links"
kind_word kind.ServicePolicy = codes "service-policies"
kind_word kind.EdgeRouterPolicy = codes "edge-router-policies"
kind_word kind.ServiceEdgeRouterPolicy = codes "service-edge-router-policies"
kind_word kind.Terminator = codes "terminators"
kind_word kind.Circuit = codes "circuits"
kind_word kind.Attribute = []

-- The word of a relation, before the pairs that it grants.
abbrev pub grant_word : Relation → List ℕ
grant_word Dial = codes "dial"
grant_word Bind = codes "bind"
grant_word IdentityRouter = codes "identity-router"
grant_word ServiceRouter = codes "service-router"

-- What stands behind a word.
abbrev pub worded : (word line : List ℕ) → List ℕ
worded word line = word ++ (codes " " ++ line)

-- A number and the end of the line.
abbrev pub number_line : ℕ → List ℕ
number_line n = decimal n ++ codes "\n"

-- The names of a pair: an identity and a service, an identity and a router, or a service and a router.
abbrev pub pair_names : Relation → State → ℕ → ℕ → List ℕ
pair_names Dial s a b = name_of kind.Identity s a ++ spaced (name_of kind.Service s b)
pair_names Bind s a b = name_of kind.Identity s a ++ spaced (name_of kind.Service s b)
pair_names IdentityRouter s a b = name_of kind.Identity s a ++ spaced (name_of kind.Router s b)
pair_names ServiceRouter s a b = name_of kind.Service s a ++ spaced (name_of kind.Router s b)

-- A granted pair: the names of the two, and how many policies grant it.
abbrev pub pair_line : Relation → State → (a b count : ℕ) → List ℕ
pair_line r s a b n = pair_names r s a b ++ (codes " " ++ number_line n)

-- A thing that a state has: the value that the folder keeps of it, by which it is compared, and the line that tells it.
pub record Thing : Type 0 where
  pub value : List ℕ
  pub line : List ℕ

-- Things under the keys of their rows.
abbrev pub Things : Type 0
Things = List (Key × Thing)

-- The thing under a key, if its value is there.
abbrev pub thing_if_some : Key → Option (List ℕ) → List ℕ → Things
thing_if_some key None line = []
thing_if_some key (Some value) line = (key, record { value = value; line = line }) ∷ []

-- What a state has that has a row in a table: next numbers above 1, a least router cost other than that of the start, the records of a
-- kind, the granted pairs of a relation, the intercepts, and a serial above 0.
abbrev pub things_in : RowTable → State → Things
things_in Next s =
    flat_map (λ k. thing_if_some (key_in Next (kind_number k) 0) (next_value (table k s).next) (worded (codes "next") (worded (kind_word k) (number_line (table k s).next)))) kinds
things_in Setting s = thing_if_some (key_in Setting 0 0) (setting_value s.least_router_cost) (worded (codes "least-router-cost") (number_line s.least_router_cost))
things_in (Records k) s = map (λ x. (key_in (Records k) x.0 0, record { value = record_value k x.1; line = worded (kind_word k) (line_of k s x) })) (table k s).rows
things_in (Counts r) s =
    flat_map (λ a. flat_map (λ b. thing_if_some (key_in (Counts r) a b) (count_value Two (count r s a b)) (worded (grant_word r) (pair_line r s a b (count r s a b))))
    (right_numbers r s)) (left_numbers r s)
things_in Intercepts s =
    map (λ x. (key_in Intercepts x.0 0, record { value = intercept_value x.1; line = worded (codes "intercepts") (intercept_line s x.0 x.1) })) s.intercepts
things_in Serial s = thing_if_some (key_in Serial 0 0) (serial_value s.serial) (worded (codes "serial") (number_line s.serial))

-- All things of a state, in the order of their keys.
abbrev pub things : State → Things
things s = flat_map (λ t. things_in t s) (tables_of Two)

-- What is said of a key: the line of a thing that is new, or gone; of one whose value differs its line before and its line after; and
-- nothing of one that is the same.
abbrev pub said : (before after : Option Thing) → List ℕ
said None None = []
said None (Some y) = codes "+ " ++ y.line
said (Some x) None = codes "- " ++ x.line
said (Some x) (Some y) = cond (bytes_eq x.value y.value) [] (codes "~ " ++ (x.line ++ (codes "> " ++ y.line)))

-- The lines of the changes that lead from one state to another.
abbrev pub change_lines : (before after : State) → List ℕ
change_lines s t = side_by_side said (things s) (things t)
