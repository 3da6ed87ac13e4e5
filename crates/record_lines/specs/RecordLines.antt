-- The lines that say the records of a state, kind by kind, and its intercepts (docs/FORMATS.md, "Lines of records").
use Rattle.std.specs.Prelude.{ℕ, not, cond, List, [], ◌∷◌, ◌++◌, codes, decimal}
use Rattle.std.specs.List.{flat_map}
use Rattle.std.specs.Option.{option_map}
use Rattle.std.specs.Str.{bytes_eq}
use Rattle.ctrl_model.specs.declared.intercepts.Intercept.{Intercept}
use Rattle.ctrl_model.specs.declared.kinds.Kind.{Kind}
use Rattle.ctrl_model.specs.declared.kinds.Kind.TheVariants as kind
use Rattle.ctrl_model.specs.State.{State, Entity, Router, Link, Policy, Terminator, Circuit}
use Rattle.ctrl_model.specs.Tables.{Record, table, has_names, record_name}
use Rattle.command_bodies.specs.WrittenWords.{relation_word, semantic_word, precedence_word}
use Rattle.record_lines.specs.declared.listing.Listed.{Listed}
use Rattle.record_lines.specs.declared.listing.Listed.TheVariants as listed
use Rattle.record_lines.specs.RecordNames.{name_of, router_behind}
use Rattle.record_lines.specs.RecordWords.{keyed, keyed_if_any, flag_word, head, attribute_words, side_words, protocols_word, addresses_word, ports_word}

-- An identity or a service: its number, its name and its attributes.
abbrev pub entity_line : ℕ → Entity → List ℕ
entity_line n e = head n e.name ++ (attribute_words e.attributes ++ codes "\n")

-- What a path pays to enter a router, whether no path may pass through it, and whether it is connected.
abbrev pub router_fields : Router → List ℕ
router_fields r =
    keyed (codes "cost") (decimal r.cost) ++ (keyed (codes "no_traversal") (flag_word (not r.through)) ++ keyed (codes "connected") (flag_word r.connected))

-- An edge router: its number, its name, its fields and its attributes.
abbrev pub router_line : ℕ → Router → List ℕ
router_line n r = head n r.name ++ (router_fields r ++ (attribute_words r.attributes ++ codes "\n"))

-- A link: the names of the routers at its two ends, its costs, and whether it is up.
abbrev pub link_line : State → ℕ → Link → List ℕ
link_line s n l =
    head n l.name
    ++ (keyed (codes "a") (name_of kind.Router s l.a)
    ++ (keyed (codes "b") (name_of kind.Router s l.b)
    ++ (keyed (codes "cost") (decimal l.cost)
    ++ (keyed (codes "latency_a") (decimal l.latency_a)
    ++ (keyed (codes "latency_b") (decimal l.latency_b)
    ++ (keyed (codes "up") (flag_word l.up) ++ codes "\n"))))))

-- The two sides of a policy, how they take attributes standing before them.
abbrev pub sides_line : Policy → List ℕ
sides_line p = keyed (codes "semantic") (semantic_word p.semantic) ++ (side_words p.left ++ (codes " ->" ++ (side_words p.right ++ codes "\n")))

-- A service policy: what it grants, and its identities and services.
abbrev pub service_policy_line : ℕ → Policy → List ℕ
service_policy_line n p = head n p.name ++ (keyed (codes "type") (relation_word p.relation) ++ sides_line p)

-- A policy that gives routers to the entities of its left side.
abbrev pub router_policy_line : ℕ → Policy → List ℕ
router_policy_line n p = head n p.name ++ sides_line p

-- Where a terminator stands: the names of its service and its router.
abbrev pub terminator_place : State → Terminator → List ℕ
terminator_place s e = keyed (codes "service") (name_of kind.Service s e.service) ++ keyed (codes "router") (name_of kind.Router s e.router)

-- What it offers: its instance, its cost and its precedence.
abbrev pub terminator_fields : Terminator → List ℕ
terminator_fields e = keyed (codes "instance") e.instance ++ (keyed (codes "cost") (decimal e.cost) ++ keyed (codes "precedence") (precedence_word e.precedence))

-- A terminator, which has no name: its number, where it stands, what it offers, and its host if it has one.
abbrev pub terminator_line : State → ℕ → Terminator → List ℕ
terminator_line s n e =
    decimal n ++ (terminator_place s e ++ (terminator_fields e ++ (keyed_if_any (codes "host") (option_map (name_of kind.Identity s) e.host) ++ codes "\n")))

-- The way over some links from a router on: for each link its name, and that of the router behind it.
abbrev pub way_on : State → ℕ → List ℕ → List ℕ
way_on s v [] = []
way_on s v (n ∷ ns) =
    codes "," ++ (name_of kind.Link s n ++ (codes "," ++ (name_of kind.Router s (router_behind s v n) ++ way_on s (router_behind s v n) ns)))

-- Whose a circuit is: the names of its identity and its service.
abbrev pub circuit_user : State → Circuit → List ℕ
circuit_user s c = keyed (codes "identity") (name_of kind.Identity s c.identity) ++ keyed (codes "service") (name_of kind.Service s c.service)

-- Its route: the router at which it enters, and the way over its links.
abbrev pub circuit_route : State → Circuit → List ℕ
circuit_route s c = keyed (codes "route") (name_of kind.Router s c.ingress) ++ way_on s c.ingress c.links

-- A circuit: its number, whose it is, the number of its terminator, and its route.
abbrev pub circuit_line : State → ℕ → Circuit → List ℕ
circuit_line s n c = decimal n ++ (circuit_user s c ++ (keyed (codes "terminator") (decimal c.terminator) ++ (circuit_route s c ++ codes "\n")))

-- The line of a record of a kind, with its newline.
abbrev pub line_of : (k : Kind) → State → ℕ × Record k → List ℕ
line_of kind.Identity s x = entity_line x.0 x.1
line_of kind.Service s x = entity_line x.0 x.1
line_of kind.Router s x = router_line x.0 x.1
line_of kind.Link s x = link_line s x.0 x.1
line_of kind.ServicePolicy s x = service_policy_line x.0 x.1
line_of kind.EdgeRouterPolicy s x = router_policy_line x.0 x.1
line_of kind.ServiceEdgeRouterPolicy s x = router_policy_line x.0 x.1
line_of kind.Terminator s x = terminator_line s x.0 x.1
line_of kind.Circuit s x = circuit_line s x.0 x.1
line_of kind.Attribute s x = []

-- What an intercept claims, each field as the body of SetIntercept has it.
abbrev pub claim_fields : Intercept → List ℕ
claim_fields i =
    keyed (codes "protocols") (protocols_word i) ++ (keyed (codes "addresses") (addresses_word i) ++ keyed (codes "ports") (ports_word i))

-- An intercept: the number and the name of its service, and what it claims.
abbrev pub intercept_line : State → ℕ → Intercept → List ℕ
intercept_line s n i = head n (name_of kind.Service s n) ++ (claim_fields i ++ codes "\n")

-- What is listed, each under a number: a record of a kind, or an intercept.
abbrev pub Entry : Listed → Type 0
Entry (listed.Records k) = Record k
Entry listed.Intercepts = Intercept

-- What a state has of it: the records of a kind under their numbers, or the intercepts under those of their services.
abbrev pub entries : (l : Listed) → State → List (ℕ × Entry l)
entries (listed.Records k) s = (table k s).rows
entries listed.Intercepts s = s.intercepts

-- The line of one, with its newline.
abbrev pub entry_line : (l : Listed) → State → ℕ × Entry l → List ℕ
entry_line (listed.Records k) s x = line_of k s x
entry_line listed.Intercepts s x = intercept_line s x.0 x.1

-- The lines of what is listed, in the order of the numbers.
abbrev pub lines_of : Listed → State → List ℕ
lines_of l s = flat_map (entry_line l s) (entries l s)

-- The word that asks for a record under its number: its name, or the number where records of the kind have no names.
abbrev pub record_word : (k : Kind) → ℕ × Record k → List ℕ
record_word k x = cond (has_names k) (record_name k x.1) (decimal x.0)

-- The word that asks for one of what is listed: that of a record, or the name of the service of an intercept.
abbrev pub entry_word : (l : Listed) → State → ℕ × Entry l → List ℕ
entry_word (listed.Records k) s x = record_word k x
entry_word listed.Intercepts s x = name_of kind.Service s x.0

-- The line of one, if the word asks for it.
abbrev pub line_asked : (l : Listed) → List ℕ → State → ℕ × Entry l → List ℕ
line_asked l word s x = cond (bytes_eq (entry_word l s x) word) (entry_line l s x) []

-- The lines of those that a word asks for: in a valid state one, or none.
abbrev pub lines_asked : Listed → List ℕ → State → List ℕ
lines_asked l word s = flat_map (line_asked l word s) (entries l s)
