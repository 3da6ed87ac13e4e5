-- Which bytes are a name, and which an instance (docs/RULES.md, "Names").
use Rattle.std.specs.Prelude.{ℕ, Bool, ◌&&◌, ◌||◌, ◌==◌, nat_le, List, length}
use Rattle.std.specs.List.{list_all}
use Rattle.ctrl_model.specs.Limits.{longest_name}

-- A byte of a name: a letter or digit of ASCII, a dot, a low line or a hyphen.
abbrev pub is_name_byte : ℕ → Bool
is_name_byte b =
    (nat_le 65 b && nat_le b 90) || (nat_le 97 b && nat_le b 122) || (nat_le 48 b && nat_le b 57) || (b == 46) || (b == 95) || (b == 45)

-- A name is at least one such byte, and at most as many as a name may have.
abbrev pub is_name : List ℕ → Bool
is_name bytes = nat_le 1 (length bytes) && nat_le (length bytes) longest_name && list_all is_name_byte bytes

-- An instance is the empty text or a name.
abbrev pub is_instance : List ℕ → Bool
is_instance bytes = (length bytes == 0) || is_name bytes
