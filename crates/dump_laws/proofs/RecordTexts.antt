-- The line of each record and each intercept of a valid state is one line: its only newline is its last byte.
use Rattle.std.proofs.Common.{◌≡◌, ℕ, ◌+◌, ◌≤◌, ◌==◌, ◌&&◌, ◌||◌, nat_le, Bool, true, false, not, cond, List, [], ◌∷◌, ◌++◌, length, flat_map, codes, decimal, Option, None, Some, refl, sym, ap, ◌∙◌, subst, append_assoc, arith, lit≤, leb-true, eqb-true}
use Rattle.std.specs.List.{list_all}
use Rattle.std.specs.Option.{option_map, option_map_or}
use Rattle.std.proofs.lemmas.Bool.{and_parts}
use Rattle.std.proofs.lemmas.Bool.Decides.{nat_tests}
use Rattle.ctrl_model.specs.declared.commands.Command.TheVariants as command
use Rattle.ctrl_model.specs.declared.intercepts.Intercept.{Intercept}
use Rattle.ctrl_model.specs.declared.kinds.Kind.{Kind}
use Rattle.ctrl_model.specs.declared.kinds.Kind.TheVariants as kind
use Rattle.ctrl_model.specs.declared.kinds.Precedence.{Precedence}
use Rattle.ctrl_model.specs.declared.kinds.Precedence.TheVariants.{Required, Normal, Failed}
use Rattle.ctrl_model.specs.declared.kinds.Relation.{Relation}
use Rattle.ctrl_model.specs.declared.kinds.Relation.TheVariants.{Dial, Bind, IdentityRouter, ServiceRouter}
use Rattle.ctrl_model.specs.declared.kinds.Semantic.{Semantic}
use Rattle.ctrl_model.specs.declared.kinds.Semantic.TheVariants.{AnyOf, AllOf}
use Rattle.ctrl_model.specs.declared.kinds.Side.{Side}
use Rattle.ctrl_model.specs.InterceptForm.{is_intercept}
use Rattle.ctrl_model.specs.Matches.{is_nothing}
use Rattle.ctrl_model.specs.Membership.{Among}
use Rattle.ctrl_model.specs.NameForm.{is_instance, is_name, is_name_byte}
use Rattle.ctrl_model.specs.Numbered.{at, is_present}
use Rattle.ctrl_model.specs.State.{State, Entity, Router, Link, Policy, Terminator, Circuit}
use Rattle.ctrl_model.specs.Tables.{Record, left_kind, named, record_name, right_kind, table}
use Rattle.ctrl_model.specs.ValidState.{ValidState, are_found, is_valid, is_valid_intercept, is_valid_policy, may_relate}
use Rattle.ctrl_model.specs.ValueForms.{are_attributes, are_names, is_cost, is_distinct, is_latency, is_link_cost, is_stored_side}
use Rattle.ctrl_model.proofs.Members.{at-row, list_all-among}
use Rattle.command_bodies.specs.BodyTexts.{body_object, body_text}
use Rattle.command_bodies.specs.WrittenWords.{precedence_word, relation_word, semantic_word}
use Rattle.record_lines.specs.declared.listing.Listed.{Listed}
use Rattle.record_lines.specs.declared.listing.Listed.TheVariants as listed
use Rattle.record_lines.specs.RecordLines.{Entry, circuit_line, circuit_route, circuit_user, claim_fields, entity_line, entries, entry_line, intercept_line, line_of, link_line, router_fields, router_line, router_policy_line, service_policy_line, sides_line, terminator_fields, terminator_line, terminator_place, way_on}
use Rattle.record_lines.specs.RecordNames.{name_of, router_behind}
use Rattle.record_lines.specs.RecordWords.{addresses_word, attribute_words, flag_word, head, keyed, keyed_if_any, ports_word, protocols_word, quoted_word, side_words}
use Rattle.record_lines.proofs.CopiedFields.{body_of_fields}
use Rattle.dump_laws.proofs.ClearTexts.{IsClear, clear_both, decimal_clear, written_clear}

-- ---- one line

-- bytes from a space on, and a newline behind them
pub record OneLine (text : List ℕ) : Type 0 where
  pub line : List ℕ
  pub clear : IsClear line
  pub whole : text ≡ line ++ 10 ∷ []

newline_alone : OneLine (codes "\n")
newline_alone = record { line = []; clear = tt; whole = refl }

before : (words text : List ℕ) → IsClear words → OneLine text → OneLine (words ++ text)
before words text c one = record {
  line = words ++ one.line;
  clear = clear_both words one.line c one.clear;
  whole = ap (λ (t : List ℕ). words ++ t) one.whole ∙ sym (append_assoc words one.line (10 ∷ []));
}

clear_where : (text : List ℕ) → list_all (λ b. nat_le 32 b) text ≡ true → IsClear text
clear_where [] h = tt
clear_where (b ∷ text) h = let p = and_parts (nat_le 32 b) (list_all (λ b. nat_le 32 b) text) h in (leb-true 32 b p.0, clear_where text p.1)

clear_front : (xs ys : List ℕ) → IsClear (xs ++ ys) → IsClear xs
clear_front [] ys c = tt
clear_front (x ∷ xs) ys c = (c.0, clear_front xs ys c.1)

clear_back : (xs ys : List ℕ) → IsClear (xs ++ ys) → IsClear ys
clear_back [] ys c = c
clear_back (x ∷ xs) ys c = clear_back xs ys c.1

-- ---- words

keyed_clear : (key value : List ℕ) → IsClear key → IsClear value → IsClear (keyed key value)
keyed_clear key value k v = (lit≤ tt, clear_both key (61 ∷ value) k (lit≤ tt, v))

flag_clear : (b : Bool) → IsClear (flag_word b)
flag_clear true = clear_where (codes "true") refl
flag_clear false = clear_where (codes "false") refl

name_byte : (b : ℕ) → is_name_byte b ≡ true → 32 ≤ b
name_byte b h = grind (arith, nat_tests)

bytes_clear : (bytes : List ℕ) → list_all is_name_byte bytes ≡ true → IsClear bytes
bytes_clear [] h = tt
bytes_clear (b ∷ bytes) h = let p = and_parts (is_name_byte b) (list_all is_name_byte bytes) h in (name_byte b p.0, bytes_clear bytes p.1)

name_clear : (name : List ℕ) → is_name name ≡ true → IsClear name
name_clear name h = bytes_clear name (and_parts (nat_le 1 (length name) && nat_le (length name) 64) (list_all is_name_byte name) h).1

nothing_clear : (bytes : List ℕ) → length bytes ≡ 0 → IsClear bytes
nothing_clear [] none = tt
nothing_clear (b ∷ bytes) none = absurd (omega (arith, none))

instance_clear : (bytes : List ℕ) → is_instance bytes ≡ true → IsClear bytes
instance_clear bytes h = by (length bytes == 0) refl h
  where
    by : (t : Bool) → (length bytes == 0) ≡ t → (t || is_name bytes) ≡ true → IsClear bytes
    by true e h = nothing_clear bytes (eqb-true (length bytes) 0 e)
    by false e h = name_clear bytes h

marked_clear : (mark : List ℕ) → IsClear mark → (names : List (List ℕ)) → list_all is_name names ≡ true → IsClear (flat_map (λ name. mark ++ name) names)
marked_clear mark m [] h = tt
marked_clear mark m (name ∷ names) h =
    let p = and_parts (is_name name) (list_all is_name names) h in
    clear_both (mark ++ name) (flat_map (λ name. mark ++ name) names) (clear_both mark name m (name_clear name p.0)) (marked_clear mark m names p.1)

names_clear : (names : List (List ℕ)) → are_names names ≡ true → IsClear (attribute_words names)
names_clear names h = marked_clear (codes " #") (clear_where (codes " #") refl) names (and_parts (list_all is_name names) (is_distinct names) h).0

attributes_clear : (names : List (List ℕ)) → are_attributes names ≡ true → IsClear (attribute_words names)
attributes_clear names h = names_clear names (and_parts (nat_le (length names) 64) (are_names names) h).1

side_at : (all : Bool) (ids names : List (List ℕ)) → are_names ids ≡ true → are_names names ≡ true
    → IsClear (cond all (codes " #all") (flat_map (λ name. codes " @" ++ name) ids ++ attribute_words names))
side_at true ids names g h = clear_where (codes " #all") refl
side_at false ids names g h =
    clear_both (flat_map (λ name. codes " @" ++ name) ids) (attribute_words names)
    (marked_clear (codes " @") (clear_where (codes " @") refl) ids (and_parts (list_all is_name ids) (is_distinct ids) g).0) (names_clear names h)

side_clear : (side : Side) → is_stored_side side ≡ true → IsClear (side_words side)
side_clear side h =
    let p = and_parts (not side.all || (is_nothing side.ids && is_nothing side.attributes)) (nat_le (length side.ids + length side.attributes) 64 && (are_names side.ids && are_names side.attributes)) h in
    let q = and_parts (nat_le (length side.ids + length side.attributes) 64) (are_names side.ids && are_names side.attributes) p.1 in
    let r = and_parts (are_names side.ids) (are_names side.attributes) q.1 in
    side_at side.all side.ids side.attributes r.0 r.1

relation_clear : (r : Relation) → IsClear (relation_word r)
relation_clear Dial = clear_where (codes "Dial") refl
relation_clear Bind = clear_where (codes "Bind") refl
relation_clear IdentityRouter = tt
relation_clear ServiceRouter = tt

semantic_clear : (s : Semantic) → IsClear (semantic_word s)
semantic_clear AnyOf = clear_where (codes "AnyOf") refl
semantic_clear AllOf = clear_where (codes "AllOf") refl

precedence_clear : (p : Precedence) → IsClear (precedence_word p)
precedence_clear Required = clear_where (codes "required") refl
precedence_clear Normal = clear_where (codes "default") refl
precedence_clear Failed = clear_where (codes "failed") refl

head_clear : (n : ℕ) (name : List ℕ) → IsClear name → IsClear (head n name)
head_clear n name c = clear_both (decimal n) (32 ∷ name) (decimal_clear n) (lit≤ tt, c)

-- ---- names of a state

valid_record : (k : Kind) (s : State) → ValidState s → (x : ℕ × Record k) → Among x (table k s).rows → is_valid k s x.1 ≡ true
valid_record k s v x m = list_all-among (λ (y : ℕ × Record k). is_valid k s y.1) (table k s).rows x (v.kinds k).each m

abbrev policy_rest : Kind → State → Policy → Bool
policy_rest k s p = may_relate k p.relation && (are_found (named (left_kind k) s) p.left && are_found (named (right_kind k) s) p.right)

-- a policy has a name and two sides as they may be stored
record HasSides (p : Policy) : Type 0 where
  name : is_name p.name ≡ true
  left : is_stored_side p.left ≡ true
  right : is_stored_side p.right ≡ true

has_sides : (k : Kind) (s : State) (p : Policy) → (is_valid_policy p && policy_rest k s p) ≡ true → HasSides p
has_sides k s p h =
    let all = and_parts (is_valid_policy p) (policy_rest k s p) h in
    let named = and_parts (is_name p.name) (is_stored_side p.left && is_stored_side p.right) all.0 in
    let sides = and_parts (is_stored_side p.left) (is_stored_side p.right) named.1 in
    record { name = named.0; left = sides.0; right = sides.1 }

record_clear : (k : Kind) (s : State) (r : Record k) → is_valid k s r ≡ true → IsClear (record_name k r)
record_clear kind.Identity s e h = name_clear e.name (and_parts (is_name e.name) (are_attributes e.attributes) h).0
record_clear kind.Service s e h = name_clear e.name (and_parts (is_name e.name) (are_attributes e.attributes) h).0
record_clear kind.Router s r h = name_clear r.name (and_parts (is_name r.name) (are_attributes r.attributes && is_cost r.cost) h).0
record_clear kind.Link s l h =
    name_clear l.name (and_parts (is_name l.name) (not (l.a == l.b) && (is_link_cost l.cost && (is_latency l.latency_a && is_latency l.latency_b))) h).0
record_clear kind.ServicePolicy s p h = name_clear p.name (has_sides kind.ServicePolicy s p h).name
record_clear kind.EdgeRouterPolicy s p h = name_clear p.name (has_sides kind.EdgeRouterPolicy s p h).name
record_clear kind.ServiceEdgeRouterPolicy s p h = name_clear p.name (has_sides kind.ServiceEdgeRouterPolicy s p h).name
record_clear kind.Terminator s e h = tt
record_clear kind.Circuit s c h = tt
record_clear kind.Attribute s u h = tt

-- the name of the record of a number; where none has it there is none
referred : (s : State) → ValidState s → (k : Kind) (n : ℕ) → IsClear (name_of k s n)
referred s v k n = by (at (table k s).rows n) refl
  where
    by : (o : Option (Record k)) → at (table k s).rows n ≡ o → IsClear (option_map_or (record_name k) o [])
    by None e = tt
    by (Some r) e = record_clear k s r (valid_record k s v (n, r) (at-row (table k s).rows n r e))

-- ---- lines of records

keyed_line : (key value text : List ℕ) → list_all (λ b. nat_le 32 b) key ≡ true → IsClear value → OneLine text → OneLine (keyed key value ++ text)
keyed_line key value text k v one = before (keyed key value) text (keyed_clear key value (clear_where key k) v) one

entity_one : (n : ℕ) (e : Entity) → is_name e.name ≡ true → are_attributes e.attributes ≡ true → OneLine (entity_line n e)
entity_one n e name attributes =
    before (head n e.name) (attribute_words e.attributes ++ codes "\n") (head_clear n e.name (name_clear e.name name))
    (before (attribute_words e.attributes) (codes "\n") (attributes_clear e.attributes attributes) newline_alone)

router_clear : (r : Router) → IsClear (router_fields r)
router_clear r =
    clear_both (keyed (codes "cost") (decimal r.cost)) (keyed (codes "no_traversal") (flag_word (not r.through)) ++ keyed (codes "connected") (flag_word r.connected))
    (keyed_clear (codes "cost") (decimal r.cost) (clear_where (codes "cost") refl) (decimal_clear r.cost))
    (clear_both (keyed (codes "no_traversal") (flag_word (not r.through))) (keyed (codes "connected") (flag_word r.connected))
    (keyed_clear (codes "no_traversal") (flag_word (not r.through)) (clear_where (codes "no_traversal") refl) (flag_clear (not r.through)))
    (keyed_clear (codes "connected") (flag_word r.connected) (clear_where (codes "connected") refl) (flag_clear r.connected)))

router_one : (n : ℕ) (r : Router) → (is_name r.name && (are_attributes r.attributes && is_cost r.cost)) ≡ true → OneLine (router_line n r)
router_one n r h =
    let p = and_parts (is_name r.name) (are_attributes r.attributes && is_cost r.cost) h in
    let q = and_parts (are_attributes r.attributes) (is_cost r.cost) p.1 in
    before (head n r.name) (router_fields r ++ (attribute_words r.attributes ++ codes "\n")) (head_clear n r.name (name_clear r.name p.0))
    (before (router_fields r) (attribute_words r.attributes ++ codes "\n") (router_clear r)
    (before (attribute_words r.attributes) (codes "\n") (attributes_clear r.attributes q.0) newline_alone))

link_one : (s : State) → ValidState s → (n : ℕ) (l : Link) → IsClear l.name → OneLine (link_line s n l)
link_one s v n l name =
    before (head n l.name) _ (head_clear n l.name name)
    (keyed_line (codes "a") (name_of kind.Router s l.a) _ refl (referred s v kind.Router l.a)
    (keyed_line (codes "b") (name_of kind.Router s l.b) _ refl (referred s v kind.Router l.b)
    (keyed_line (codes "cost") (decimal l.cost) _ refl (decimal_clear l.cost)
    (keyed_line (codes "latency_a") (decimal l.latency_a) _ refl (decimal_clear l.latency_a)
    (keyed_line (codes "latency_b") (decimal l.latency_b) _ refl (decimal_clear l.latency_b)
    (keyed_line (codes "up") (flag_word l.up) (codes "\n") refl (flag_clear l.up) newline_alone))))))

sides_one : (p : Policy) → HasSides p → OneLine (sides_line p)
sides_one p h =
    keyed_line (codes "semantic") (semantic_word p.semantic) _ refl (semantic_clear p.semantic)
    (before (side_words p.left) (codes " ->" ++ (side_words p.right ++ codes "\n")) (side_clear p.left h.left)
    (before (codes " ->") (side_words p.right ++ codes "\n") (clear_where (codes " ->") refl)
    (before (side_words p.right) (codes "\n") (side_clear p.right h.right) newline_alone)))

service_policy_one : (n : ℕ) (p : Policy) → HasSides p → OneLine (service_policy_line n p)
service_policy_one n p h =
    before (head n p.name) (keyed (codes "type") (relation_word p.relation) ++ sides_line p) (head_clear n p.name (name_clear p.name h.name))
    (keyed_line (codes "type") (relation_word p.relation) (sides_line p) refl (relation_clear p.relation) (sides_one p h))

router_policy_one : (n : ℕ) (p : Policy) → HasSides p → OneLine (router_policy_line n p)
router_policy_one n p h = before (head n p.name) (sides_line p) (head_clear n p.name (name_clear p.name h.name)) (sides_one p h)

if_any_clear : (key : List ℕ) (o : Option ℕ) (name : ℕ → List ℕ) → IsClear key → ((n : ℕ) → IsClear (name n)) → IsClear (keyed_if_any key (option_map name o))
if_any_clear key None name k each = tt
if_any_clear key (Some n) name k each = keyed_clear key (name n) k (each n)

place_clear : (s : State) → ValidState s → (e : Terminator) → IsClear (terminator_place s e)
place_clear s v e =
    clear_both (keyed (codes "service") (name_of kind.Service s e.service)) (keyed (codes "router") (name_of kind.Router s e.router))
    (keyed_clear (codes "service") (name_of kind.Service s e.service) (clear_where (codes "service") refl) (referred s v kind.Service e.service))
    (keyed_clear (codes "router") (name_of kind.Router s e.router) (clear_where (codes "router") refl) (referred s v kind.Router e.router))

offer_clear : (e : Terminator) → is_instance e.instance ≡ true → IsClear (terminator_fields e)
offer_clear e h =
    clear_both (keyed (codes "instance") e.instance) (keyed (codes "cost") (decimal e.cost) ++ keyed (codes "precedence") (precedence_word e.precedence))
    (keyed_clear (codes "instance") e.instance (clear_where (codes "instance") refl) (instance_clear e.instance h))
    (clear_both (keyed (codes "cost") (decimal e.cost)) (keyed (codes "precedence") (precedence_word e.precedence))
    (keyed_clear (codes "cost") (decimal e.cost) (clear_where (codes "cost") refl) (decimal_clear e.cost))
    (keyed_clear (codes "precedence") (precedence_word e.precedence) (clear_where (codes "precedence") refl) (precedence_clear e.precedence)))

terminator_one : (s : State) → ValidState s → (n : ℕ) (e : Terminator) → is_instance e.instance ≡ true → OneLine (terminator_line s n e)
terminator_one s v n e h =
    before (decimal n) _ (decimal_clear n)
    (before (terminator_place s e) _ (place_clear s v e)
    (before (terminator_fields e) _ (offer_clear e h)
    (before (keyed_if_any (codes "host") (option_map (name_of kind.Identity s) e.host)) (codes "\n")
    (if_any_clear (codes "host") e.host (name_of kind.Identity s) (clear_where (codes "host") refl) (referred s v kind.Identity)) newline_alone)))

way_clear : (s : State) → ValidState s → (from : ℕ) (links : List ℕ) → IsClear (way_on s from links)
way_clear s v from [] = tt
way_clear s v from (n ∷ ns) =
    let next = router_behind s from n in (
      lit≤ tt,
      clear_both (name_of kind.Link s n) (44 ∷ (name_of kind.Router s next ++ way_on s next ns)) (referred s v kind.Link n)
          (lit≤ tt, clear_both (name_of kind.Router s next) (way_on s next ns) (referred s v kind.Router next) (way_clear s v next ns)),
    )

user_clear : (s : State) → ValidState s → (c : Circuit) → IsClear (circuit_user s c)
user_clear s v c =
    clear_both (keyed (codes "identity") (name_of kind.Identity s c.identity)) (keyed (codes "service") (name_of kind.Service s c.service))
    (keyed_clear (codes "identity") (name_of kind.Identity s c.identity) (clear_where (codes "identity") refl) (referred s v kind.Identity c.identity))
    (keyed_clear (codes "service") (name_of kind.Service s c.service) (clear_where (codes "service") refl) (referred s v kind.Service c.service))

route_clear : (s : State) → ValidState s → (c : Circuit) → IsClear (circuit_route s c)
route_clear s v c =
    clear_both (keyed (codes "route") (name_of kind.Router s c.ingress)) (way_on s c.ingress c.links)
    (keyed_clear (codes "route") (name_of kind.Router s c.ingress) (clear_where (codes "route") refl) (referred s v kind.Router c.ingress))
    (way_clear s v c.ingress c.links)

circuit_one : (s : State) → ValidState s → (n : ℕ) (c : Circuit) → OneLine (circuit_line s n c)
circuit_one s v n c =
    before (decimal n) _ (decimal_clear n)
    (before (circuit_user s c) _ (user_clear s v c)
    (keyed_line (codes "terminator") (decimal c.terminator) (circuit_route s c ++ codes "\n") refl (decimal_clear c.terminator)
    (before (circuit_route s c) (codes "\n") (route_clear s v c) newline_alone)))

-- ---- lines of intercepts

body_clear : (name : List ℕ) (i : Intercept) → IsClear (body_text (command.SetIntercept name i))
body_clear name i = written_clear (body_object (command.SetIntercept name i))

-- what it claims stands in the body that sets it
claims_clear : (i : Intercept) → is_intercept i ≡ true → IsClear (claim_fields i)
claims_clear i h =
    let service = codes ",\"service\":" ++ (quoted_word (codes "a") ++ codes "}") in
    let protocols = codes ",\"protocols\":" ++ (protocols_word i ++ service) in
    let ports = codes ",\"ports\":" ++ (ports_word i ++ protocols) in
    let body = subst IsClear (body_of_fields (codes "a") i refl h) (body_clear (codes "a") i) in
    let from_addresses = clear_back (codes "{\"addresses\":") (addresses_word i ++ ports) body in
    let from_ports = clear_back (codes ",\"ports\":") (ports_word i ++ protocols) (clear_back (addresses_word i) ports from_addresses) in
    let from_protocols = clear_back (codes ",\"protocols\":") (protocols_word i ++ service) (clear_back (ports_word i) protocols from_ports) in
    clear_both (keyed (codes "protocols") (protocols_word i)) (keyed (codes "addresses") (addresses_word i) ++ keyed (codes "ports") (ports_word i))
    (keyed_clear (codes "protocols") (protocols_word i) (clear_where (codes "protocols") refl) (clear_front (protocols_word i) service from_protocols))
    (clear_both (keyed (codes "addresses") (addresses_word i)) (keyed (codes "ports") (ports_word i))
    (keyed_clear (codes "addresses") (addresses_word i) (clear_where (codes "addresses") refl) (clear_front (addresses_word i) ports from_addresses))
    (keyed_clear (codes "ports") (ports_word i) (clear_where (codes "ports") refl) (clear_front (ports_word i) protocols from_ports)))

intercept_one : (s : State) → ValidState s → (n : ℕ) (i : Intercept) → is_intercept i ≡ true → OneLine (intercept_line s n i)
intercept_one s v n i h =
    before (head n (name_of kind.Service s n)) (claim_fields i ++ codes "\n") (head_clear n (name_of kind.Service s n) (referred s v kind.Service n))
    (before (claim_fields i) (codes "\n") (claims_clear i h) newline_alone)

-- ---- each line

record_one : (k : Kind) (s : State) → ValidState s → (x : ℕ × Record k) → Among x (table k s).rows → is_valid k s x.1 ≡ true → OneLine (line_of k s x)
record_one kind.Identity s v x m h = let p = and_parts (is_name x.1.name) (are_attributes x.1.attributes) h in entity_one x.0 x.1 p.0 p.1
record_one kind.Service s v x m h = let p = and_parts (is_name x.1.name) (are_attributes x.1.attributes) h in entity_one x.0 x.1 p.0 p.1
record_one kind.Router s v x m h = router_one x.0 x.1 h
record_one kind.Link s v x m h = link_one s v x.0 x.1 (record_clear kind.Link s x.1 h)
record_one kind.ServicePolicy s v x m h = service_policy_one x.0 x.1 (has_sides kind.ServicePolicy s x.1 h)
record_one kind.EdgeRouterPolicy s v x m h = router_policy_one x.0 x.1 (has_sides kind.EdgeRouterPolicy s x.1 h)
record_one kind.ServiceEdgeRouterPolicy s v x m h = router_policy_one x.0 x.1 (has_sides kind.ServiceEdgeRouterPolicy s x.1 h)
record_one kind.Terminator s v x m h = terminator_one s v x.0 x.1 (and_parts (is_instance x.1.instance) (is_cost x.1.cost) h).0
record_one kind.Circuit s v x m h = circuit_one s v x.0 x.1
record_one kind.Attribute s v x m h = absurd m

pub one_line : (l : Listed) (s : State) → ValidState s → (x : ℕ × Entry l) → Among x (entries l s) → OneLine (entry_line l s x)
one_line (listed.Records k) s v x m = record_one k s v x m (valid_record k s v x m)
one_line listed.Intercepts s v x m =
    intercept_one s v x.0 x.1 (and_parts (is_present s.services.rows x.0) (is_intercept x.1) (list_all-among (is_valid_intercept s) s.intercepts x v.intercepts m)).1
