-- A state as a picture in the language of Mermaid (docs/FORMATS.md, "Pictures"). A node is named by the number of its record, and a name
-- has none of the bytes that Mermaid reads within quotes, so it stands there as it is.
use Rattle.std.specs.Prelude.{ℕ, ◌==◌, Bool, cond, List, [], ◌∷◌, ◌++◌, codes, decimal}
use Rattle.std.specs.List.{flat_map, list_any}
use Rattle.std.specs.Str.{bytes_eq}
use Rattle.ctrl_model.specs.declared.kinds.Kind.{Kind}
use Rattle.ctrl_model.specs.declared.kinds.Kind.TheVariants as kind
use Rattle.ctrl_model.specs.declared.kinds.Precedence.{Precedence}
use Rattle.ctrl_model.specs.declared.kinds.Precedence.TheVariants as precedence
use Rattle.ctrl_model.specs.Networks.{link_cost}
use Rattle.ctrl_model.specs.State.{State, Link, Circuit}
use Rattle.ctrl_model.specs.Tables.{Record, table}
use Rattle.record_lines.specs.RecordNames.{name_of}

-- ---- what is marked

-- What is drawn thick: links and terminators, by their numbers.
pub record Marks : Type 0 where
  pub links : List ℕ
  pub terminators : List ℕ

-- Nothing is.
abbrev pub no_marks : Marks
no_marks = record { links = []; terminators = [] }

-- A way is marked by its links and its terminator.
abbrev pub way_marks : List ℕ → ℕ → Marks
way_marks links terminator = record { links = links; terminators = terminator ∷ [] }

-- Whether a number is one of some.
abbrev pub is_marked : List ℕ → ℕ → Bool
is_marked ns n = list_any (λ m. m == n) ns

-- ---- nodes

-- The node of a record, by a letter for its kind.
abbrev pub node : List ℕ → ℕ → List ℕ
node letter n = letter ++ decimal n

-- The class of a router that is not connected. One that is connected has none.
abbrev pub class_drawn : Bool → List ℕ
class_drawn connected = cond connected [] (codes ":::off")

-- The box of a router, with its name.
abbrev pub router_box : ℕ → List ℕ → List ℕ
router_box n name = codes "  " ++ (node (codes "r") n ++ (codes "[\"" ++ (name ++ codes "\"]")))

-- A router: its box, and its class.
abbrev pub router_drawn : ℕ → List ℕ → Bool → List ℕ
router_drawn n name connected = router_box n name ++ (class_drawn connected ++ codes "\n")

-- A service: its name in a rounded box.
abbrev pub service_drawn : ℕ → List ℕ → List ℕ
service_drawn n name = codes "  " ++ (node (codes "s") n ++ (codes "([\"" ++ (name ++ codes "\"])\n")))

-- ---- edges

-- What the line of an edge begins with: the router from which it goes, and its stroke.
abbrev pub edge_from : ℕ → List ℕ → List ℕ
edge_from n stroke = codes "  " ++ (node (codes "r") n ++ stroke)

-- What it ends with: the cost that is written on it, and the node to which it goes.
abbrev pub edge_to : ℕ → List ℕ → ℕ → List ℕ
edge_to cost letter n = codes ": " ++ (decimal cost ++ (codes "\"| " ++ (node letter n ++ codes "\n")))

-- The stroke of a link: thick where it is marked, else plain where it is up and dashed where it is down.
abbrev pub link_stroke : Bool → Bool → List ℕ
link_stroke marked up = cond marked (codes " ===") (cond up (codes " ---") (codes " -.-"))

-- A link between its two routers, with its name and what it costs.
abbrev pub link_drawn : Bool → Link → List ℕ
link_drawn marked l = edge_from l.a (link_stroke marked l.up) ++ (codes "|\"" ++ (l.name ++ edge_to (link_cost l) (codes "r") l.b))

-- The stroke of a terminator that is not marked: dashed where its precedence is failed.
abbrev pub offer_stroke : Precedence → List ℕ
offer_stroke precedence.Failed = codes " -.->"
offer_stroke p = codes " -->"

-- The stroke of a terminator: thick where it is marked.
abbrev pub terminator_stroke : Bool → Precedence → List ℕ
terminator_stroke marked p = cond marked (codes " ==>") (offer_stroke p)

-- What is written on the edge of a terminator before its cost.
abbrev pub terminator_word : ℕ → List ℕ
terminator_word n = codes "|\"terminator " ++ decimal n

-- A terminator of a number from its router to its service, with the number and its cost.
abbrev pub terminator_drawn : Bool → ℕ → ℕ → ℕ → ℕ → Precedence → List ℕ
terminator_drawn marked n router service cost p =
    edge_from router (terminator_stroke marked p) ++ (terminator_word n ++ edge_to cost (codes "s") service)

-- ---- pictures

-- The line of a record. What is no router, service, link or terminator has none.
abbrev pub drawn : Marks → (k : Kind) → ℕ × Record k → List ℕ
drawn m kind.Router x = router_drawn x.0 x.1.name x.1.connected
drawn m kind.Service x = service_drawn x.0 x.1.name
drawn m kind.Link x = link_drawn (is_marked m.links x.0) x.1
drawn m kind.Terminator x = terminator_drawn (is_marked m.terminators x.0) x.0 x.1.router x.1.service x.1.cost x.1.precedence
drawn m k x = []

-- The kinds that are drawn: what an edge joins is drawn before it.
abbrev pub drawn_kinds : List Kind
drawn_kinds = kind.Router ∷ kind.Service ∷ kind.Link ∷ kind.Terminator ∷ []

-- The lines of the records of a kind, in the order of their numbers.
abbrev pub kind_drawn : Marks → State → Kind → List ℕ
kind_drawn m s k = flat_map (drawn m k) (table k s).rows

-- What a picture begins with: its direction, and the class of routers that are not connected, whose boxes are dashed.
abbrev pub picture_head : List ℕ
picture_head = codes "flowchart LR\n  classDef off stroke-dasharray:5 5\n"

-- The routers, links, services and terminators of a state.
abbrev pub network_drawn : Marks → State → List ℕ
network_drawn m s = picture_head ++ flat_map (kind_drawn m s) drawn_kinds

-- A circuit: the name of its identity, and a thick edge to the router at which it enters.
abbrev pub circuit_drawn : List ℕ → ℕ → ℕ → List ℕ
circuit_drawn identity n ingress =
    codes "  " ++ (node (codes "c") n ++ (codes "([\"" ++ (identity ++ (codes "\"]) ==> " ++ (node (codes "r") ingress ++ codes "\n")))))

-- The picture of a state.
abbrev pub picture_of : State → List ℕ
picture_of s = network_drawn no_marks s

-- The picture of a state in which a way is marked, and behind it the circuit of a number that goes this way.
abbrev pub way_picture : State → List ℕ → ℕ → (n identity ingress : ℕ) → List ℕ
way_picture s links terminator n identity ingress =
    network_drawn (way_marks links terminator) s ++ circuit_drawn (name_of kind.Identity s identity) n ingress

-- The picture of a state in which the way of a circuit is marked.
abbrev pub circuit_picture : State → ℕ × Circuit → List ℕ
circuit_picture s x = way_picture s x.1.links x.1.terminator x.0 x.1.identity x.1.ingress

-- That of the circuit whose number a word is in decimal; nothing where no circuit has it.
abbrev pub picture_asked : List ℕ → State → List ℕ
picture_asked word s = flat_map (λ (x : ℕ × Circuit). cond (bytes_eq (decimal x.0) word) (circuit_picture s x) []) s.circuits.rows
