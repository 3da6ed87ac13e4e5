-- The words of the command line, and what they run (docs/FORMATS.md, "Words").
use Rattle.std.specs.Prelude.{ℕ, ◌^◌, ◌&&◌, ◌||◌, ◌==◌, nat_lt, Bool, true, false, List, [], ◌∷◌, codes, decimal, map, if◌then◌else◌, None, Some}
use Rattle.std.specs.declared.option.Option.{Option}
use Rattle.std.specs.Option.{option_map}
use Rattle.std.specs.Str.{bytes_eq}
use Rattle.std.specs.Str.Parse.{digits_value}
use Rattle.std.specs.String.{string_bytes}
use Rattle.std.specs.declared.string.String.{String}
use Rattle.ctrl_model.specs.NameForm.{is_name}
use Rattle.ctrl_serve.specs.declared.command_line.Form.{Form}
use Rattle.ctrl_serve.specs.declared.command_line.Form.TheVariants.{Dry, Replay, Audit, Compact, Load, Advise, Ship, Follow}
use Rattle.session_mux.specs.declared.sessions.Form.TheVariants.{Plain, Trace}

-- The bytes of each word.
abbrev pub texts : {A : Type 0} → List (String A) → List (List ℕ)
texts words = map string_bytes words

-- A word is the decimal text of a number below a bound.
abbrev pub is_text_of : (bound : ℕ) → List ℕ → ℕ → Bool
is_text_of bound word number = bytes_eq word (decimal number) && nat_lt number bound

-- The number below a bound whose decimal text a word is: no sign stands before its digits, and no zero before another digit.
abbrev pub number_below : (bound : ℕ) → List ℕ → Option ℕ
number_below bound word = if is_text_of bound word (digits_value 10 word) then Some (digits_value 10 word) else None

-- A text begins with a plus, or with a zero before another byte. Private contracts alone cite it.
abbrev pub is_padded : List ℕ → Bool
is_padded [] = false
is_padded (first ∷ []) = first == 43
is_padded (first ∷ second ∷ rest) = first == 43 || first == 48

-- What the words run, if they are a line of the table of words.
abbrev pub form_of : List (List ℕ) → Option Form
form_of [] = None
form_of (word ∷ []) =
    if bytes_eq word (codes "dry") then Some Dry
    else if bytes_eq word (codes "replay") then Some (Replay Plain)
    else if bytes_eq word (codes "audit") then Some Audit
    else if bytes_eq word (codes "compact") then Some Compact
    else if bytes_eq word (codes "follow") then Some Follow else None
form_of (word ∷ next ∷ []) =
    if bytes_eq word (codes "load") then option_map Load (number_below (2 ^ 32) next)
    else if bytes_eq word (codes "ship") then option_map Ship (number_below (2 ^ 64) next)
    else if bytes_eq word (codes "replay") && bytes_eq next (codes "--sessions") then Some (Replay Trace) else None
form_of (word ∷ next ∷ third ∷ []) = if bytes_eq word (codes "advise") && (is_name next && is_name third) then Some Advise else None
form_of (word ∷ next ∷ third ∷ fourth ∷ words) = None

-- Whether what is asked for reads the input.
abbrev pub reads_input : Form → Bool
reads_input Dry = true
reads_input (Replay form) = true
reads_input Audit = false
reads_input Compact = false
reads_input (Load number) = false
reads_input Advise = false
reads_input (Ship from) = false
reads_input Follow = true
