-- How long the texts of values are.
use Rattle.std.proofs.Common.{◌≡◌, ℕ, ◌+◌, ◌*◌, ◌^◌, ◌<◌, ◌≤◌, Bool, true, false, cond, List, [], ◌∷◌, ◌++◌, length, get_or, map, take, refl, sym, subst, arith, lit<, lit≤, leb-true, length-append}
use Rattle.std.specs.Prelude.{◌==◌, ◌||◌, nat_le}
use Rattle.std.proofs.lemmas.Bool.{false≢true}
use Rattle.std.proofs.lemmas.Fmt.{length-decimal-le}
use Rattle.std.proofs.lemmas.List.{map_more}
use Rattle.std.proofs.lemmas.Bool.Decides.{nat_tests}
use Rattle.serde_json.proofs.OnLiterals.{serde_json_on_literals}
use Rattle.serde_json.specs.Data.{Data, null, string}
use Rattle.serde_json.specs.View.{items_of}
use Rattle.serde_json.specs.Written.{comma_if, compact_text, items_text}
use Rattle.ctrl_model.specs.Claims.{no_path}
use Rattle.ctrl_model.specs.ValueForms.{is_value}
use Rattle.reply_codec.specs.ReplyBody.{natural, cost_or_null}

-- a number below 2 ^ 32 has at most 10 digits
pub length-natural : (n : ℕ) → n < 2 ^ 32 → length (compact_text (natural n)) ≤ 10
length-natural n h = length-decimal-le 10 n (lit< tt) (omega arith) (omega arith)

-- a number below 2 ^ 64 has at most 20 digits
pub length-wide_natural : (n : ℕ) → n < 2 ^ 64 → length (compact_text (natural n)) ≤ 20
length-wide_natural n h = length-decimal-le 20 n (lit< tt) (omega arith) (omega arith)

cost_step : (n : ℕ) (b c : Bool) → (n == no_path) ≡ b → nat_le n 4294967295 ≡ c → (c || b) ≡ true → length (compact_text (cond b null (natural n))) ≤ 10
cost_step n true c e f h = lit≤ tt
cost_step n false true e f h = length-natural n (omega (arith, leb-true n 4294967295 f))
cost_step n false false e f h = absurd (false≢true h)

-- a cost, or null, has at most 10 bytes
pub length-cost : (n : ℕ) → is_value n ≡ true → length (compact_text (cost_or_null n)) ≤ 10
length-cost n h = cost_step n (n == no_path) (nat_le n 4294967295) refl refl h

-- a byte more in a text is at most 6 bytes more
length-string_step : (x : ℕ) (s : List ℕ) → length (compact_text (string (x ∷ s))) ≤ 6 + length (compact_text (string s))
unfolding serde_json_on_literals
length-string_step x s = grind (arith, nat_tests, length-append)

-- a text has at most 6 bytes for each of its own, and its quotes
pub length-string : (s : List ℕ) → length (compact_text (string s)) ≤ 6 * length s + 2
length-string [] = lit≤ tt
length-string (x ∷ s) = omega (arith, length-string_step x s, length-string s)

pub length-comma : (later : Bool) → length (comma_if later) ≤ 1
length-comma true = lit≤ tt
length-comma false = lit≤ tt

-- one item more is its text and at most a comma
items_more : (later : Bool) (ds : List Data) (d : Data) → length (items_text later (items_of (ds ++ d ∷ []))) ≤ length (items_text later (items_of ds)) + (1 + length (compact_text d))
items_more later [] d = omega (arith, length-append (comma_if later) (compact_text d ++ 93 ∷ []), length-append (compact_text d) (93 ∷ []), length-comma later)
items_more later (e ∷ ds) d =
    omega (
      arith,
      items_more true ds d,
      length-append (comma_if later) (compact_text e ++ items_text true (items_of (ds ++ d ∷ []))),
      length-append (compact_text e) (items_text true (items_of (ds ++ d ∷ []))),
      length-append (comma_if later) (compact_text e ++ items_text true (items_of ds)),
      length-append (compact_text e) (items_text true (items_of ds)),
    )

-- the items before the next index, where each has at most n bytes
pub items_before : {X : Type 0} (f : X → Data) (xs ys : List X) (n k i : ℕ) (x : X) → ys ≡ xs → i < length ys → length (compact_text (f (get_or ys i x))) ≤ n → 1 + n ≡ k →
    length (items_text false (items_of (map f (take i xs)))) ≤ 1 + k * i → length (items_text false (items_of (map f (take (i + 1) xs)))) ≤ 1 + k * (i + 1)
items_before f xs ys n k i x same within few e before =
    subst (λ zs. length (items_text false (items_of (map f (take (i + 1) zs)))) ≤ 1 + k * (i + 1)) same
    (one_more f ys n k i x within few e (subst (λ zs. length (items_text false (items_of (map f (take i zs)))) ≤ 1 + k * i) (sym same) before))
  where
    one_more : {X : Type 0} (f : X → Data) (xs : List X) (n k i : ℕ) (x : X) → i < length xs → length (compact_text (f (get_or xs i x))) ≤ n → 1 + n ≡ k →
        length (items_text false (items_of (map f (take i xs)))) ≤ 1 + k * i → length (items_text false (items_of (map f (take (i + 1) xs)))) ≤ 1 + k * (i + 1)
    one_more f xs n k i x within few e before =
        let more = items_more false (map f (take i xs)) (f (get_or xs i x)) in
        rw (map_more f xs i x within) (grind arith)
