-- The object of a command's fields has no float and nests little, so its text reads as the object.
use Rattle.std.proofs.Common.{◌≡◌, ℕ, ◌==◌, ◌≤◌, Bool, true, false, cond, ◌||◌, List, [], ◌∷◌, map, Ordering, Less, Equal, Greater, refl, arith, lit≤}
use Rattle.std.specs.Ordering.{nat_cmp, match_ordering}
use Rattle.std.specs.Cmp.Lexicographic.{slice_cmp}
use Rattle.serde_json.specs.Data.{Data, null, string, Members, no_members, member, put, depth, items_depth, members_depth}
use Rattle.serde_json.specs.View.{items_of}
use Rattle.serde_json.specs.Written.{has_float, items_have_float, members_have_float}
use Rattle.ctrl_model.specs.Claims.{no_path}
use Rattle.ctrl_model.specs.Words.{word_of}
use Rattle.ctrl_model.specs.declared.claims.Reach.{Reach}
use Rattle.ctrl_model.specs.declared.commands.Command.{Command}
use Rattle.ctrl_model.specs.declared.refusals.Field.{Field}
use Rattle.command_bodies.specs.WrittenFields.{natural, value_or_null, potential, two_ports}
use Rattle.command_bodies.specs.BodyTexts.{body_object}
use Rattle.command_bodies.specs.CommandFields.{fields_of}
use Rattle.command_bodies.specs.WrittenFields.{Given, a_text, a_number, a_flag, some_texts, some_numbers, some_reaches, some_ranges, data_of, with_field, with_fields}

-- ---- the values of fields

items_plain : {X : Type 0} (f : X → Data) → ((x : X) → has_float (f x) ≡ false) → (xs : List X) → items_have_float (items_of (map f xs)) ≡ false
items_plain f each [] = refl
items_plain f each (x ∷ xs) = rw (each x) (items_plain f each xs)

items_shallow : {X : Type 0} (f : X → Data) (n : ℕ) → ((x : X) → depth (f x) ≤ n) → (xs : List X) → items_depth (items_of (map f xs)) ≤ n
items_shallow f n each [] = omega arith
items_shallow f n each (x ∷ xs) = omega (arith, each x, items_shallow f n each xs)

cost_plain : (n : ℕ) → has_float (value_or_null n) ≡ false
cost_plain n = by (n == no_path)
  where
    by : (b : Bool) → has_float (cond b null (natural n)) ≡ false
    by true = refl
    by false = refl

cost_shallow : (n : ℕ) → depth (value_or_null n) ≤ 0
cost_shallow n = by (n == no_path)
  where
    by : (b : Bool) → depth (cond b null (natural n)) ≤ 0
    by true = lit≤ tt
    by false = lit≤ tt

reach_plain : (e : Reach) → has_float (potential e) ≡ false
reach_plain e = rw (items_plain value_or_null cost_plain e.values) refl

reach_shallow : (e : Reach) → depth (potential e) ≤ 2
reach_shallow e = omega (arith, items_shallow value_or_null 0 cost_shallow e.values)

given_plain : (g : Given) → has_float (data_of g) ≡ false
given_plain (a_text bytes) = refl
given_plain (a_number n) = refl
given_plain (a_flag b) = refl
given_plain (some_texts texts) = items_plain (λ s. string s) (λ s. refl) texts
given_plain (some_numbers ns) = items_plain natural (λ n. refl) ns
given_plain (some_reaches es) = items_plain potential reach_plain es
given_plain (some_ranges rs) = items_plain two_ports (λ r. refl) rs

given_shallow : (g : Given) → depth (data_of g) ≤ 3
given_shallow (a_text bytes) = lit≤ tt
given_shallow (a_number n) = lit≤ tt
given_shallow (a_flag b) = lit≤ tt
given_shallow (some_texts texts) = omega (arith, items_shallow (λ s. string s) 0 (λ s. lit≤ tt) texts)
given_shallow (some_numbers ns) = omega (arith, items_shallow natural 0 (λ n. lit≤ tt) ns)
given_shallow (some_reaches es) = omega (arith, items_shallow potential 2 reach_shallow es)
given_shallow (some_ranges rs) = omega (arith, items_shallow two_ports 1 (λ r. lit≤ tt) rs)

-- ---- one more member

neither : (a b : Bool) → (a || b) ≡ false → (a ≡ false) × (b ≡ false)
neither true b h = absurd (cc)
neither false b h = (refl, h)

put_plain : (k : List ℕ) (d : Data) (ms : Members) → has_float d ≡ false → members_have_float ms ≡ false → members_have_float (put k d ms) ≡ false
put_plain k d no_members p q = rw p refl
put_plain k d (member l e ms) p q = by (slice_cmp nat_cmp k l) (neither (has_float e) (members_have_float ms) q) (put_plain k d ms p)
  where
    by : (o : Ordering) → (has_float e ≡ false) × (members_have_float ms ≡ false) → (members_have_float ms ≡ false → members_have_float (put k d ms) ≡ false)
        → members_have_float (match_ordering o (member k d (member l e ms)) (member l d ms) (member l e (put k d ms))) ≡ false
    by Less each more = rw (p, each.0, each.1) refl
    by Equal each more = rw (p, each.1) refl
    by Greater each more = rw (each.0, more each.1) refl

put_shallow : (k : List ℕ) (d : Data) (ms : Members) (n : ℕ) → depth d ≤ n → members_depth ms ≤ n → members_depth (put k d ms) ≤ n
put_shallow k d no_members n p q = omega arith
put_shallow k d (member l e ms) n p q = by (slice_cmp nat_cmp k l) (omega arith) (omega arith) (put_shallow k d ms n p)
  where
    by : (o : Ordering) → depth e ≤ n → members_depth ms ≤ n → (members_depth ms ≤ n → members_depth (put k d ms) ≤ n)
        → members_depth (match_ordering o (member k d (member l e ms)) (member l d ms) (member l e (put k d ms))) ≤ n
    by Less a b more = omega arith
    by Equal a b more = omega arith
    by Greater a b more = omega (arith, more b)

fields_plain : (fs : List (Field × Given)) (ms : Members) → members_have_float ms ≡ false → members_have_float (with_fields fs ms) ≡ false
fields_plain [] ms h = h
fields_plain (f ∷ fs) ms h = fields_plain fs (with_field f ms) (put_plain (word_of f.0) (data_of f.1) ms (given_plain f.1) h)

fields_shallow : (fs : List (Field × Given)) (ms : Members) → members_depth ms ≤ 3 → members_depth (with_fields fs ms) ≤ 3
fields_shallow [] ms h = h
fields_shallow (f ∷ fs) ms h = fields_shallow fs (with_field f ms) (put_shallow (word_of f.0) (data_of f.1) ms 3 (given_shallow f.1) h)

-- ---- the object of a command

pub body_object-plain : (c : Command) → has_float (body_object c) ≡ false
body_object-plain c = fields_plain (fields_of c) no_members refl

pub body_object-shallow : (c : Command) → depth (body_object c) ≤ 127
body_object-shallow c = omega (arith, fields_shallow (fields_of c) no_members (lit≤ tt))
