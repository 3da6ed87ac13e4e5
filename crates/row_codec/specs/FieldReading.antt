-- Fields as they are read: what stands at the front of some bytes, and what follows it (docs/FORMATS.md, "Rows").
use Rattle.std.specs.Prelude.{ℕ, zero, suc, Bool, true, false, cond, nat_lt, nat_le, ◌==◌, List, [], ◌∷◌, length, take, drop, None, Some}
use Rattle.std.specs.declared.option.Option.{Option}
use Rattle.std.specs.Option.{option_map, option_and_then}
use Rattle.std.specs.Int.{w16, w32, w64, from_le_bytes, from_be_bytes}
use Rattle.ctrl_model.specs.declared.formats.Format.{Format}
use Rattle.ctrl_model.specs.declared.formats.Format.TheVariants.{One, Two}
use Rattle.ctrl_model.specs.NameForm.{is_name, is_instance}
use Rattle.ctrl_model.specs.Limits.{most_entries}
use Rattle.ctrl_model.specs.declared.kinds.Side.{Side}
use Rattle.ctrl_model.specs.declared.kinds.Semantic.{Semantic}
use Rattle.ctrl_model.specs.declared.kinds.Semantic.TheVariants.{AnyOf, AllOf}
use Rattle.ctrl_model.specs.declared.kinds.Relation.{Relation}
use Rattle.ctrl_model.specs.declared.kinds.Relation.TheVariants as relation
use Rattle.ctrl_model.specs.declared.kinds.Precedence.{Precedence}
use Rattle.ctrl_model.specs.declared.kinds.Precedence.TheVariants.{Required, Normal, Failed}

-- What is read at the front, and the bytes that follow it; none where nothing of the kind stands there.
abbrev pub Front : Type 0 → Type 0
Front A = Option (A × List ℕ)

-- The first byte.
abbrev pub front_byte : List ℕ → Front ℕ
front_byte [] = None
front_byte (b ∷ bytes) = Some (b, bytes)

-- So many bytes.
abbrev pub front_part : ℕ → List ℕ → Front (List ℕ)
front_part n bytes = cond (nat_lt (length bytes) n) None (Some (take n bytes, drop n bytes))

-- A number of four bytes, the least first.
abbrev pub front_long : List ℕ → Front ℕ
front_long bytes = option_map (λ p. (from_le_bytes w32 p.0, p.1)) (front_part 4 bytes)

-- A number of two bytes, the least first.
abbrev pub front_short : List ℕ → Front ℕ
front_short bytes = option_map (λ p. (from_le_bytes w16 p.0, p.1)) (front_part 2 bytes)

-- A number of eight bytes, the least first.
abbrev pub front_wide : List ℕ → Front ℕ
front_wide bytes = option_map (λ p. (from_le_bytes w64 p.0, p.1)) (front_part 8 bytes)

-- A count, as many bytes as the format gives it.
abbrev pub front_count : Format → List ℕ → Front ℕ
front_count One bytes = front_long bytes
front_count Two bytes = front_short bytes

-- A number of a key: four bytes, the greatest first.
abbrev pub front_number : List ℕ → Front ℕ
front_number bytes = option_map (λ p. (from_be_bytes w32 p.0, p.1)) (front_part 4 bytes)

-- A text: its length as one byte, and its bytes.
abbrev pub front_text : List ℕ → Front (List ℕ)
front_text bytes = option_and_then (λ n. front_part n.0 n.1) (front_byte bytes)

-- What is read, where it passes a test.
abbrev pub kept : {A : Type 0} → (A → Bool) → (List ℕ → Front A) → List ℕ → Front A
kept test front bytes = option_and_then (λ x. cond (test x.0) (Some x) None) (front bytes)

-- One thing, and another behind it.
abbrev pub both : {A B : Type 0} → (List ℕ → Front A) → (List ℕ → Front B) → List ℕ → Front (A × B)
both first second bytes = option_and_then (λ x. option_map (λ y. ((x.0, y.0), y.1)) (second x.1)) (first bytes)

-- What is read, as another thing.
abbrev pub mapped : {A B : Type 0} → (A → B) → (List ℕ → Front A) → List ℕ → Front B
mapped make front bytes = option_map (λ x. (make x.0, x.1)) (front bytes)

-- What one byte means.
abbrev pub front_code : {A : Type 0} → (ℕ → Option A) → List ℕ → Front A
front_code meaning bytes = option_and_then (λ b. option_map (λ a. (a, b.1)) (meaning b.0)) (front_byte bytes)

-- So many things, one behind the other.
abbrev pub front_each : {A : Type 0} → (List ℕ → Front A) → ℕ → List ℕ → Front (List A)
front_each front zero bytes = Some ([], bytes)
front_each front (suc n) bytes = option_and_then (λ x. option_map (λ y. (x.0 ∷ y.0, y.1)) (front_each front n x.1)) (front bytes)

-- A list: how many things there are as one byte, at most so many, and the things.
abbrev pub front_list : {A : Type 0} → ℕ → (List ℕ → Front A) → List ℕ → Front (List A)
front_list most front bytes = option_and_then (λ n. cond (nat_le n.0 most) (front_each front n.0 n.1) None) (front_byte bytes)

-- What follows a thing that is read.
abbrev pub behind : {A : Type 0} → Front A → Option (List ℕ)
behind front = option_map (λ x. x.1) front

-- What is left, where nothing follows.
abbrev pub at_end : {A : Type 0} → A → List ℕ → Option A
at_end x [] = Some x
at_end x (b ∷ rest) = None

-- What the bytes are read as, all of them.
abbrev pub alone : {A : Type 0} → (List ℕ → Front A) → List ℕ → Option A
alone front bytes = option_and_then (λ x. at_end x.0 x.1) (front bytes)

-- A name as a text.
abbrev pub front_name : List ℕ → Front (List ℕ)
front_name bytes = kept is_name front_text bytes

-- An instance as a text.
abbrev pub front_instance : List ℕ → Front (List ℕ)
front_instance bytes = kept is_instance front_text bytes

-- A list of names.
abbrev pub front_names : List ℕ → Front (List (List ℕ))
front_names bytes = front_list most_entries front_name bytes

-- The truth value of a byte.
abbrev pub flag_meant : ℕ → Option Bool
flag_meant n = cond (n == 0) (Some false) (cond (n == 1) (Some true) None)

-- A truth value.
abbrev pub front_flag : List ℕ → Front Bool
front_flag bytes = front_code flag_meant bytes

-- The side of some parts.
abbrev pub side_of : Bool × (List (List ℕ) × List (List ℕ)) → Side
side_of x = record { all = x.0; ids = x.1.0; attributes = x.1.1 }

-- A side.
abbrev pub front_side : List ℕ → Front Side
front_side bytes = mapped side_of (both front_flag (both front_names front_names)) bytes

-- The relation of a service policy that a byte means.
abbrev pub relation_meant : ℕ → Option Relation
relation_meant n = cond (n == 1) (Some relation.Dial) (cond (n == 2) (Some relation.Bind) None)

-- The semantic that a byte means.
abbrev pub semantic_meant : ℕ → Option Semantic
semantic_meant n = cond (n == 1) (Some AnyOf) (cond (n == 2) (Some AllOf) None)

-- The precedence that a byte means.
abbrev pub precedence_meant : ℕ → Option Precedence
precedence_meant n = cond (n == 1) (Some Required) (cond (n == 2) (Some Normal) (cond (n == 3) (Some Failed) None))

-- Whether a path may pass through a router, and whether it is connected, as its marks say.
abbrev pub marks_meant : ℕ → Option (Bool × Bool)
marks_meant n =
    cond (n == 0) (Some (true, false)) (cond (n == 1) (Some (false, false)) (cond (n == 2) (Some (true, true)) (cond (n == 3) (Some (false, true)) None)))
