-- How long the body of a command gets: of each that is spelled at most 1,048,576 bytes.
use Rattle.std.proofs.Common.{◌≡◌, ℕ, zero, suc, ◌+◌, ◌*◌, ◌/◌, ◌%◌, ◌≤◌, ◌==◌, ◌&&◌, ◌||◌, nat_le, Bool, true, false, not, cond, List, [], ◌∷◌, ◌++◌, length, map, codes, decimal, Ordering, Less, Equal, Greater, Option, None, Some, refl, ap, arith, length-append, lit≤, leb-true, le-leb, eqb-true}
use Rattle.std.specs.List.{list_all}
use Rattle.std.specs.Ordering.{nat_cmp, match_ordering}
use Rattle.std.specs.Cmp.Lexicographic.{slice_cmp}
use Rattle.std.specs.Fmt.{digits, digits_onto, digit_glyph}
use Rattle.std.proofs.Math.Nat.{suc-mul}
use Rattle.std.proofs.lemmas.Bool.{and_parts, and_from}
use Rattle.std.proofs.lemmas.Fmt.{length-decimal-le}
use Rattle.json.specs.Print.{quoted}
use Rattle.serde_json.specs.Data.{Data, null, boolean, string, object, Members, no_members, member, put}
use Rattle.serde_json.specs.View.{items_of}
use Rattle.serde_json.specs.Written.{comma_if, compact_text, items_text, members_text}
use Rattle.ctrl_model.specs.declared.claims.Reach.{Reach}
use Rattle.ctrl_model.specs.declared.commands.Command.{Command}
use Rattle.ctrl_model.specs.declared.commands.Command.TheVariants as command
use Rattle.ctrl_model.specs.declared.intercepts.PortRange.{PortRange}
use Rattle.ctrl_model.specs.declared.kinds.Precedence.{Precedence}
use Rattle.ctrl_model.specs.declared.kinds.Precedence.TheVariants.{Required, Normal, Failed}
use Rattle.ctrl_model.specs.declared.kinds.Relation.{Relation}
use Rattle.ctrl_model.specs.declared.kinds.Relation.TheVariants.{Dial, Bind, IdentityRouter, ServiceRouter}
use Rattle.ctrl_model.specs.declared.kinds.Role.TheVariants as role
use Rattle.ctrl_model.specs.declared.kinds.Semantic.{Semantic}
use Rattle.ctrl_model.specs.declared.kinds.Semantic.TheVariants.{AnyOf, AllOf}
use Rattle.ctrl_model.specs.declared.kinds.Side.{Side}
use Rattle.ctrl_model.specs.declared.refusals.Field.{Field}
use Rattle.ctrl_model.specs.declared.refusals.Field.TheVariants as field
use Rattle.ctrl_model.specs.declared.value_kinds.ValueKind.{ValueKind}
use Rattle.ctrl_model.specs.declared.value_kinds.ValueKind.TheVariants as value
use Rattle.ctrl_model.specs.AddressForm.{address_text, is_address, same_address}
use Rattle.ctrl_model.specs.BodyForms.{Form, Values, fields_in}
use Rattle.ctrl_model.specs.Claims.{no_path}
use Rattle.ctrl_model.specs.CommandValues.{form_of, values_of}
use Rattle.ctrl_model.specs.ContentTypes.{content_of}
use Rattle.ctrl_model.specs.InterceptForm.{is_claim, is_port_range, is_without_repeats, same_ports}
use Rattle.ctrl_model.specs.Matches.{has_name, is_nothing}
use Rattle.ctrl_model.specs.NameForm.{is_instance, is_name, is_name_byte}
use Rattle.ctrl_model.specs.SpelledCommands.{all_checks, is_spelled}
use Rattle.ctrl_model.specs.ValueForms.{are_names, is_distinct, is_number, is_one_place, is_reach, is_side, is_stored_side, is_value}
use Rattle.ctrl_model.specs.ValueKinds.{Said, checks}
use Rattle.ctrl_model.specs.Words.{word_of}
use Rattle.ctrl_model.proofs.AddressLaws.{text_short}
use Rattle.role_expr.specs.RoleSpelling.{role_spelling}
use Rattle.command_codec.proofs.KindLaws.{AllTrue, hold_parts, true_parts}
use Rattle.command_bodies.specs.BodyTexts.{body_text}
use Rattle.command_bodies.specs.CommandFields.{GivenFields, each_written, fields_of, given_fields, with_given, written}
use Rattle.command_bodies.specs.RoleEntries.{role_texts}
use Rattle.command_bodies.specs.WrittenFields.{Given, data_of, list_of, natural, potential, two_ports, value_or_null, with_field, with_fields}
use Rattle.command_bodies.specs.WrittenWords.{precedence_word, protocol_word, protocol_words, relation_word, semantic_word}
use Rattle.dump_laws.proofs.ClearTexts.{quoted_length}

-- ---- numbers

digits_length : (k n : ℕ) (behind : List ℕ) → length (digits_onto k 10 false n behind) ≤ k + length behind
digits_length zero n behind = omega arith
digits_length (suc k) n behind = by (n / 10 == 0) (digits_length k (n / 10) (digit_glyph false (n % 10) ∷ behind))
  where
    by : (t : Bool) → length (digits_onto k 10 false (n / 10) (digit_glyph false (n % 10) ∷ behind)) ≤ k + length (digit_glyph false (n % 10) ∷ behind)
        → length (cond t (digit_glyph false (n % 10) ∷ behind) (digits_onto k 10 false (n / 10) (digit_glyph false (n % 10) ∷ behind))) ≤ suc k + length behind
    by true h = omega arith
    by false h = omega (arith, h)

decimal_length : (n : ℕ) → length (decimal n) ≤ 64
unfolding digits
decimal_length n = let h = digits_length 64 n [] in omega (arith, h)

small_decimal : (n : ℕ) → nat_le n 4294967295 ≡ true → length (decimal n) ≤ 10
small_decimal n h = let most : n ≤ 4294967295 = leb-true n 4294967295 h in length-decimal-le 10 n (omega arith) (omega (arith, most)) (omega (arith, most))

-- ---- lists

-- room for each of some things, with a comma
abbrev rooms : {X : Type 0} → ℕ → List X → ℕ
rooms n [] = 0
rooms n (x ∷ xs) = (n + 1) + rooms n xs

-- room for a list of so many things at most
abbrev list_room : ℕ → ℕ → ℕ
list_room most n = most * (n + 1) + 2

rooms_within : {X : Type 0} (n most : ℕ) (xs : List X) → length xs ≤ most → rooms n xs ≤ most * (n + 1)
rooms_within n most [] h = omega arith
rooms_within n zero (x ∷ xs) h = absurd (omega arith)
rooms_within n (suc most) (x ∷ xs) h =
    let later = rooms_within n most xs (omega arith) in
    let step = suc-mul most (n + 1) in
    omega (arith, later, step)

comma_length : (later : Bool) → length (comma_if later) ≤ 1
comma_length true = lit≤ tt
comma_length false = lit≤ tt

items_length : {X : Type 0} (f : X → Data) (form : X → Bool) (n : ℕ) → ((x : X) → form x ≡ true → length (compact_text (f x)) ≤ n) → (xs : List X) → list_all form xs ≡ true
    → (later : Bool) → length (items_text later (items_of (map f xs))) ≤ rooms n xs + 1
items_length f form n each [] h later = omega arith
items_length f form n each (x ∷ xs) h later =
    let p = and_parts (form x) (list_all form xs) h in
    let rest : List ℕ = items_text true (items_of (map f xs)) in
    let one = each x p.0 in
    let more = items_length f form n each xs p.1 true in
    let comma = comma_length later in
    let first = length-append (comma_if later) (compact_text (f x) ++ rest) in
    let second = length-append (compact_text (f x)) rest in
    omega (arith, one, more, comma, first, second)

list_length : {X : Type 0} (f : X → Data) (form : X → Bool) (n most : ℕ) → ((x : X) → form x ≡ true → length (compact_text (f x)) ≤ n) → (xs : List X) → length xs ≤ most
    → list_all form xs ≡ true → length (compact_text (list_of f xs)) ≤ list_room most n
list_length f form n most each xs few h =
    let all = items_length f form n each xs h false in
    let within = rooms_within n most xs few in
    omega (arith, all, within)

-- ---- texts

-- so many texts at most, each of so many bytes at most
record AreShort (most n : ℕ) (texts : List (List ℕ)) : Type 0 where
  few : length texts ≤ most
  each : list_all (λ t. nat_le (length t) n) texts ≡ true

texts_length : (most n : ℕ) (texts : List (List ℕ)) → AreShort most n texts → length (compact_text (list_of (λ t. string t) texts)) ≤ list_room most (6 * n + 2)
texts_length most n texts short =
    list_length (λ t. string t) (λ t. nat_le (length t) n) (6 * n + 2) most (λ t h. quoted_length t n (leb-true (length t) n h)) texts short.few short.each

mapped_few : {X : Type 0} (word : X → List ℕ) (xs : List X) (most : ℕ) → length xs ≤ most → length (map word xs) ≤ most
mapped_few word [] most h = omega arith
mapped_few word (x ∷ xs) zero h = absurd (omega arith)
mapped_few word (x ∷ xs) (suc most) h = let later = mapped_few word xs most (omega arith) in omega (arith, later)

mapped_short : {X : Type 0} (word : X → List ℕ) (form : X → Bool) (n : ℕ) → ((x : X) → form x ≡ true → length (word x) ≤ n) → (xs : List X) → list_all form xs ≡ true
    → list_all (λ t. nat_le (length t) n) (map word xs) ≡ true
mapped_short word form n each [] h = refl
mapped_short word form n each (x ∷ xs) h =
    let p = and_parts (form x) (list_all form xs) h in
    and_from (nat_le (length (word x)) n) _ (le-leb (length (word x)) n (each x p.0)) (mapped_short word form n each xs p.1)

name_length : (name : List ℕ) → is_name name ≡ true → length name ≤ 64
name_length name h =
    leb-true (length name) 64 (and_parts (nat_le 1 (length name)) (nat_le (length name) 64) (and_parts (nat_le 1 (length name) && nat_le (length name) 64) (list_all is_name_byte name) h).0).1

instance_length : (bytes : List ℕ) → is_instance bytes ≡ true → length bytes ≤ 64
instance_length bytes h = by (length bytes == 0) refl h
  where
    by : (t : Bool) → (length bytes == 0) ≡ t → (t || is_name bytes) ≡ true → length bytes ≤ 64
    by true e h = let none : length bytes ≡ 0 = eqb-true (length bytes) 0 e in omega (arith, none)
    by false e h = name_length bytes h

names_short : (names : List (List ℕ)) → list_all is_name names ≡ true → list_all (λ t. nat_le (length t) 64) names ≡ true
names_short [] h = refl
names_short (x ∷ xs) h =
    let p = and_parts (is_name x) (list_all is_name xs) h in
    and_from (nat_le (length x) 64) _ (le-leb (length x) 64 (name_length x p.0)) (names_short xs p.1)

-- ---- sides

attributes_marked : (ns : List (List ℕ)) → list_all is_name ns ≡ true
    → (length (map role_spelling (map (λ n. role.Attribute n) ns)) ≡ length ns) × (list_all (λ t. nat_le (length t) 65) (map role_spelling (map (λ n. role.Attribute n) ns)) ≡ true)
attributes_marked [] h = (refl, refl)
attributes_marked (n ∷ ns) h =
    let p = and_parts (is_name n) (list_all is_name ns) h in
    let later = attributes_marked ns p.1 in
    let short = name_length n p.0 in
    (ap suc later.0, and_from (nat_le (length (35 ∷ n)) 65) _ (le-leb (length (35 ∷ n)) 65 (omega (arith, short))) later.1)

ids_marked : (ids ns : List (List ℕ)) → list_all is_name ids ≡ true → list_all is_name ns ≡ true
    → (length (map role_spelling (map (λ n. role.Id n) ids ++ map (λ n. role.Attribute n) ns)) ≡ length ids + length ns)
    × (list_all (λ t. nat_le (length t) 65) (map role_spelling (map (λ n. role.Id n) ids ++ map (λ n. role.Attribute n) ns)) ≡ true)
ids_marked [] ns g h = let all = attributes_marked ns h in (omega (arith, all.0), all.1)
ids_marked (n ∷ ids) ns g h =
    let p = and_parts (is_name n) (list_all is_name ids) g in
    let later = ids_marked ids ns p.1 h in
    let short = name_length n p.0 in
    (omega (arith, later.0), and_from (nat_le (length (64 ∷ n)) 65) _ (le-leb (length (64 ∷ n)) 65 (omega (arith, short))) later.1)

side_short : (all : Bool) (ids ns : List (List ℕ)) → length ids + length ns ≤ 64 → list_all is_name ids ≡ true → list_all is_name ns ≡ true
    → AreShort 64 65 (map role_spelling (cond all (role.All ∷ []) (map (λ n. role.Id n) ids ++ map (λ n. role.Attribute n) ns)))
side_short true ids ns few g h = record { few = lit≤ tt; each = refl }
side_short false ids ns few g h = let both = ids_marked ids ns g h in record { few = omega (arith, both.0, few); each = both.1 }

side_length : (side : Side) → is_side side ≡ true → length (compact_text (list_of (λ t. string t) (role_texts side))) ≤ list_room 64 392
side_length side h =
    let stored = and_parts (is_stored_side side) (not (has_name side.attributes (codes "all"))) h in
    let p = and_parts (not side.all || (is_nothing side.ids && is_nothing side.attributes)) (nat_le (length side.ids + length side.attributes) 64 && (are_names side.ids && are_names side.attributes)) stored.0 in
    let q = and_parts (nat_le (length side.ids + length side.attributes) 64) (are_names side.ids && are_names side.attributes) p.1 in
    let r = and_parts (are_names side.ids) (are_names side.attributes) q.1 in
    texts_length 64 65 (role_texts side)
    (side_short side.all side.ids side.attributes (leb-true (length side.ids + length side.attributes) 64 q.0)
    (and_parts (list_all is_name side.ids) (is_distinct side.ids) r.0).0 (and_parts (list_all is_name side.attributes) (is_distinct side.attributes) r.1).0)

-- ---- words

relation_length : (r : Relation) → length (relation_word r) ≤ 8
relation_length Dial = lit≤ tt
relation_length Bind = lit≤ tt
relation_length IdentityRouter = lit≤ tt
relation_length ServiceRouter = lit≤ tt

semantic_length : (s : Semantic) → length (semantic_word s) ≤ 8
semantic_length AnyOf = lit≤ tt
semantic_length AllOf = lit≤ tt

precedence_length : (p : Precedence) → length (precedence_word p) ≤ 8
precedence_length Required = lit≤ tt
precedence_length Normal = lit≤ tt
precedence_length Failed = lit≤ tt

protocol_length : (udp : Bool) → length (protocol_word udp) ≤ 8
protocol_length true = lit≤ tt
protocol_length false = lit≤ tt

protocols_short : (tcp udp : Bool) → AreShort 2 8 (protocol_words tcp udp)
protocols_short true true = record { few = lit≤ tt; each = refl }
protocols_short true false = record { few = lit≤ tt; each = refl }
protocols_short false true = record { few = lit≤ tt; each = refl }
protocols_short false false = record { few = lit≤ tt; each = refl }

flag_length : (b : Bool) → length (compact_text (boolean b)) ≤ 8
flag_length true = lit≤ tt
flag_length false = lit≤ tt

-- ---- intercepts

-- a list of what an intercept claims
claimed : {A : Type 0} (form : A → Bool) (same : A → A → Bool) (xs : List A) → is_claim form same xs ≡ true → (length xs ≤ 32) × (list_all form xs ≡ true)
claimed form same xs h =
    let p = and_parts (nat_le 1 (length xs)) (nat_le (length xs) 32 && (list_all form xs && is_without_repeats same xs)) h in
    let q = and_parts (nat_le (length xs) 32) (list_all form xs && is_without_repeats same xs) p.1 in
    (leb-true (length xs) 32 q.0, (and_parts (list_all form xs) (is_without_repeats same xs) q.1).0)

ports_length : (r : PortRange) → length (compact_text (two_ports r)) ≤ list_room 2 64
ports_length r = list_length natural (λ n. true) 64 2 (λ n h. decimal_length n) (r.low ∷ r.high ∷ []) (lit≤ tt) refl

-- ---- potentials

value_length : (n : ℕ) → is_value n ≡ true → length (compact_text (value_or_null n)) ≤ 10
value_length n h = by (n == no_path) (nat_le n 4294967295) h (small_decimal n)
  where
    by : (far small : Bool) → (small || far) ≡ true → (small ≡ true → length (decimal n) ≤ 10) → length (compact_text (cond far null (natural n))) ≤ 10
    by true small h short = lit≤ tt
    by false true h short = short refl
    by false false h short = absurd cc

-- ---- members

abbrev members_room : Members → ℕ
members_room no_members = 0
members_room (member k d ms) = (length (quoted k) + length (compact_text d) + 2) + members_room ms

members_length : (later : Bool) (ms : Members) → length (members_text later ms) ≤ members_room ms + 1
members_length later no_members = omega arith
members_length later (member k d ms) =
    let rest : List ℕ = members_text true ms in
    let more = members_length true ms in
    let comma = comma_length later in
    let first = length-append (comma_if later) (quoted k ++ 58 ∷ (compact_text d ++ rest)) in
    let second = length-append (quoted k) (58 ∷ (compact_text d ++ rest)) in
    let third = length-append (compact_text d) rest in
    omega (arith, more, comma, first, second, third)

put_room : (k : List ℕ) (d : Data) (ms : Members) → members_room (put k d ms) ≤ members_room ms + (length (quoted k) + length (compact_text d) + 2)
put_room k d no_members = omega arith
put_room k d (member l e ms) = by (slice_cmp nat_cmp k l) (put_room k d ms)
  where
    by : (o : Ordering) → members_room (put k d ms) ≤ members_room ms + (length (quoted k) + length (compact_text d) + 2)
        → members_room (match_ordering o (member k d (member l e ms)) (member l d ms) (member l e (put k d ms)))
        ≤ members_room (member l e ms) + (length (quoted k) + length (compact_text d) + 2)
    by Less h = omega arith
    by Equal h = omega arith
    by Greater h = omega (arith, h)

reach_length : (e : Reach) → is_reach e ≡ true → length (compact_text (potential e)) ≤ 3000
reach_length e h =
    let p = and_parts (is_number e.router.0) (nat_le (length e.values) 256 && list_all is_value e.values) h in
    let q = and_parts (nat_le (length e.values) 256) (list_all is_value e.values) p.1 in
    let values : length (compact_text (list_of value_or_null e.values)) ≤ 2818 = list_length value_or_null is_value 10 256 value_length e.values (leb-true (length e.values) 256 q.0) q.1 in
    let router = decimal_length e.router.0 in
    let first = quoted_length (word_of field.Router) 6 (lit≤ tt) in
    let second = quoted_length (codes "values") 6 (lit≤ tt) in
    let all = members_length false (member (word_of field.Router) (natural e.router.0) (member (codes "values") (list_of value_or_null e.values) no_members)) in
    omega (arith, values, router, first, second, all)

-- ---- kinds of values

-- room for what is written of a value of a kind
abbrev room : ValueKind → ℕ
room value.Name = 386
room value.NameOrNone = 386
room value.Attributes = list_room 64 386
room value.Side = list_room 64 392
room (value.Number low high) = 64
room value.Flag = 8
room value.Relation = 50
room value.Semantic = 50
room value.Precedence = 50
room value.Instance = 386
room (value.Numbers most) = list_room most 64
room value.Potentials = list_room 256 3000
room value.Protocol = 50
room value.Protocols = list_room 2 50
room value.Destination = 1532
room value.Addresses = list_room 32 1532
room value.Ranges = list_room 32 (list_room 2 64)

abbrev given_length : Option Given → ℕ
given_length None = 0
given_length (Some g) = length (compact_text (data_of g))

none_length : (name : Option (List ℕ)) → AllTrue (checks value.NameOrNone name) → given_length (written value.NameOrNone name) ≤ 386
none_length None h = omega arith
none_length (Some name) h = quoted_length name 64 (name_length name h.0)

written_length : (k : ValueKind) (x : Said k) → AllTrue (checks k x) → given_length (written k x) ≤ room k
written_length value.Name name h = quoted_length name 64 (name_length name h.0)
written_length value.NameOrNone name h = none_length name h
written_length value.Attributes names h =
    let p = and_parts (nat_le (length names) 64) (are_names names) h.0 in
    texts_length 64 64 names (record { few = leb-true (length names) 64 p.0; each = names_short names (and_parts (list_all is_name names) (is_distinct names) p.1).0 })
written_length value.Side side h = side_length side h.0
written_length (value.Number low high) n h = decimal_length n
written_length value.Flag b h = flag_length b
written_length value.Relation r h = quoted_length (relation_word r) 8 (relation_length r)
written_length value.Semantic s h = quoted_length (semantic_word s) 8 (semantic_length s)
written_length value.Precedence p h = quoted_length (precedence_word p) 8 (precedence_length p)
written_length value.Instance i h = quoted_length i 64 (instance_length i h.0)
written_length (value.Numbers most) ns h =
    let p = and_parts (nat_le (length ns) most) (list_all is_number ns) h.0 in
    list_length natural is_number 64 most (λ n e. decimal_length n) ns (leb-true (length ns) most p.0) p.1
written_length value.Potentials es h = list_length potential is_reach 3000 256 reach_length es (leb-true (length es) 256 h.0) h.1.0
written_length value.Protocol udp h = quoted_length (protocol_word udp) 8 (protocol_length udp)
written_length value.Protocols p h = texts_length 2 8 (protocol_words p.tcp p.udp) (protocols_short p.tcp p.udp)
written_length value.Destination a h = quoted_length (address_text a) 255 (text_short a (and_parts (is_address a) (is_one_place a) h.0).0)
written_length value.Addresses xs h =
    let c = claimed is_address same_address xs h.0 in
    texts_length 32 255 (map address_text xs) (record { few = mapped_few address_text xs 32 c.0; each = mapped_short address_text is_address 255 text_short xs c.1 })
written_length value.Ranges rs h =
    let c = claimed is_port_range same_ports rs h.0 in
    list_length two_ports is_port_range (list_room 2 64) 32 (λ r e. ports_length r) rs c.0 c.1

-- ---- fields

word_short : (f : Field) → nat_le (length (word_of f)) 16 ≡ true
word_short field.Name = refl
word_short f = refl

word_length : (f : Field) → length (quoted (word_of f)) ≤ 98
word_length f = quoted_length (word_of f) 16 (leb-true (length (word_of f)) 16 (word_short f))

abbrev fields_room : GivenFields → ℕ
fields_room [] = 0
fields_room (f ∷ fs) = (length (quoted (word_of f.0)) + length (compact_text (data_of f.1)) + 2) + fields_room fs

with_fields_room : (fs : GivenFields) (ms : Members) → members_room (with_fields fs ms) ≤ members_room ms + fields_room fs
with_fields_room [] ms = omega arith
with_fields_room (f ∷ fs) ms =
    let later = with_fields_room fs (with_field f ms) in
    let one = put_room (word_of f.0) (data_of f.1) ms in
    omega (arith, later, one)

with_given_room : (f : Field) (g : Option Given) (fs : GivenFields) → fields_room (with_given f g fs) ≤ (given_length g + 100) + fields_room fs
with_given_room f None fs = omega arith
with_given_room f (Some g) fs = let word = word_length f in omega (arith, word)

-- room for the fields of a form
abbrev form_room : Form → ℕ
form_room [] = 0
form_room (f ∷ fs) = (room f.kind + 100) + form_room fs

fields_length : (form : Form) (xs : Values form) → AllTrue (all_checks form xs) → fields_room (given_fields (fields_in form) (each_written form xs)) ≤ form_room form
fields_length [] xs h = omega arith
fields_length (f ∷ fs) xs h =
    let p = true_parts (checks f.kind xs.0) (all_checks fs xs.1) h in
    let one = written_length f.kind xs.0 p.0 in
    let more = fields_length fs xs.1 p.1 in
    let both = with_given_room f.of_field (written f.kind xs.0) (given_fields (fields_in fs) (each_written fs xs.1)) in
    omega (arith, one, more, both)

-- ---- commands

form_small : (c : Command) → nat_le (form_room (form_of c)) 1048000 ≡ true
form_small command.Hello = refl
form_small c = refl

-- the body of a command that is spelled is within the limit of bodies
pub body_length : (c : Command) → is_spelled c ≡ true → length (body_text c) ≤ 1048576
body_length c h = by (content_of c == 0)
  where
    whole : length (compact_text (object (with_fields (fields_of c) no_members))) ≤ 1048576
    whole =
        let each = fields_length (form_of c) (values_of c) (hold_parts (all_checks (form_of c) (values_of c)) h) in
        let most : form_room (form_of c) ≤ 1048000 = leb-true (form_room (form_of c)) 1048000 (form_small c) in
        let fields = with_fields_room (fields_of c) no_members in
        let members = members_length false (with_fields (fields_of c) no_members) in
        omega (arith, each, most, fields, members)

    by : (t : Bool) → length (cond t [] (compact_text (object (with_fields (fields_of c) no_members)))) ≤ 1048576
    by true = lit≤ tt
    by false = whole
