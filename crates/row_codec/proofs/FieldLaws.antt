-- Fields: what is written is read again, and what is read is what was written.
use Rattle.std.proofs.Common.{◌≡◌, ℕ, zero, suc, ◌+◌, ◌^◌, ◌<◌, ◌≤◌, Bool, true, false, cond, ltb, ◌&&◌, List, [], ◌∷◌, ◌++◌, length, get_or, take, drop, Option, Some, None, inl, inr, refl, sym, ap, subst, ◌∙◌, append_assoc, arith}
use Rattle.std.specs.Int.{w32, from_le_bytes}
use Rattle.std.specs.List.{list_all}
use Rattle.std.specs.Option.{option_map, option_and_then}
use Rattle.std.proofs.lemmas.Bool.{cases_lt, ltb-false, ltb-true, le-ltb}
use Rattle.std.proofs.lemmas.List.{take_at, drop_at, take-append-drop, length-append, length-take, get_or-drop, get_or-take, get_or_past}
use Rattle.std.proofs.lemmas.Nat.{le_bytes_4, from_le_bytes-to_le_bytes_4}
use Rattle.row_codec.specs.RowValues.{long, text}
use Rattle.row_codec.specs.FieldReading.{front_byte, front_part, front_long, front_text}

-- each number is a byte
abbrev pub AreBytes : List ℕ → Type 0
AreBytes bytes = (i : ℕ) → get_or bytes i 0 < 256

pub AreBytes-drop : (n : ℕ) (bytes : List ℕ) → AreBytes bytes → AreBytes (drop n bytes)
AreBytes-drop n bytes h i = rw get_or-drop (h (n + i))

pub AreBytes-take : (n : ℕ) (bytes : List ℕ) → AreBytes bytes → AreBytes (take n bytes)
AreBytes-take n bytes h i =
    elim (cases_lt i n) [
      | inl lt ↦ rw (get_or-take n bytes i 0 lt) (h i)
      | inr le ↦ rw (get_or_past (take n bytes) i 0 (omega (arith, length-take n bytes))) (omega arith)
    ]

pub AreBytes-rest : (b : ℕ) (bytes : List ℕ) → AreBytes (b ∷ bytes) → AreBytes bytes
AreBytes-rest b bytes h i = h (suc i)

-- the value that a step went on with
pub bind_some : {A B : Type 0} (o : Option A) (f : A → Option B) (y : B) → option_and_then f o ≡ Some y → (x : A) × (o ≡ Some x) × (f x ≡ Some y)
bind_some (Some x) f y e = (x, refl, e)
bind_some None f y e = absurd cc

pub map_some : {A B : Type 0} (o : Option A) (f : A → B) (y : B) → option_map f o ≡ Some y → (x : A) × (o ≡ Some x) × (f x ≡ y)
map_some (Some x) f y e = (x, refl, cc)
map_some None f y e = absurd cc

-- a test that let go on
pub guard_some : {A : Type 0} (b : Bool) (x y : A) → cond b None (Some x) ≡ Some y → (b ≡ false) × (x ≡ y)
guard_some true x y e = absurd cc
guard_some false x y e = (refl, cc)

pub and_left : (b c : Bool) → (b && c) ≡ true → b ≡ true
and_left true c e = refl
and_left false c e = absurd cc

pub and_right : (b c : Bool) → (b && c) ≡ true → c ≡ true
and_right true c e = e
and_right false c e = absurd cc

-- what a reader took from the front
pub record Takes (bytes text rest : List ℕ) : Type 0 where
  pub parts : bytes ≡ text ++ rest
  pub rest_fits : AreBytes rest

pub Takes-then : (a x b y c : List ℕ) → Takes a x b → Takes b y c → Takes a (x ++ y) c
Takes-then a x b y c p q = record { parts = p.parts ∙ ap (λ (t : List ℕ). x ++ t) q.parts ∙ sym (append_assoc x y c); rest_fits = q.rest_fits }

pub behind_byte : (b : ℕ) (bytes text rest : List ℕ) → Takes bytes text rest → Takes (b ∷ bytes) (b ∷ text) rest
behind_byte b bytes text rest t = record { parts = ap (λ (xs : List ℕ). b ∷ xs) t.parts; rest_fits = t.rest_fits }

pub are_bytes : (bytes : List ℕ) → list_all (λ b. ltb b 256) bytes ≡ true → AreBytes bytes
are_bytes [] e i = omega arith
are_bytes (b ∷ bytes) e zero = ltb-true b 256 (and_left (ltb b 256) (list_all (λ x. ltb x 256) bytes) e)
are_bytes (b ∷ bytes) e (suc i) = are_bytes bytes (and_right (ltb b 256) (list_all (λ x. ltb x 256) bytes) e) i

-- ---- bytes and parts

pub some_is : {A : Type 0} (x y : A) → ◌≡◌ {A = Option A} (Some x) (Some y) → x ≡ y
some_is x y e = cc

pub byte_takes : (bytes : List ℕ) (x : ℕ × List ℕ) → AreBytes bytes → front_byte bytes ≡ Some x → Takes bytes (x.0 ∷ []) x.1 × (x.0 < 256)
byte_takes [] x fits e = absurd cc
byte_takes (a ∷ bytes) x fits e =
    subst (λ (y : ℕ × List ℕ). Takes (a ∷ bytes) (y.0 ∷ []) y.1 × (y.0 < 256)) (some_is (a, bytes) x e)
    (record { parts = refl; rest_fits = AreBytes-rest a bytes fits }, fits 0)

-- a part of the front
pub record IsPart (n : ℕ) (bytes part rest : List ℕ) : Type 0 where
  pub takes : Takes bytes part rest
  pub len : length part ≡ n
  pub fits : AreBytes part

pub part_takes : (n : ℕ) (bytes : List ℕ) (x : List ℕ × List ℕ) → AreBytes bytes → front_part n bytes ≡ Some x → IsPart n bytes x.0 x.1
part_takes n bytes x fits e =
    let g = guard_some (ltb (length bytes) n) (take n bytes, drop n bytes) x e in
    let long : n ≤ length bytes = ltb-false _ _ g.0 in
    subst (λ (p : List ℕ × List ℕ). IsPart n bytes p.0 p.1) g.1
    (record {
      takes = record { parts = sym (take-append-drop n bytes); rest_fits = AreBytes-drop n bytes fits };
      len = omega (arith, length-take n bytes);
      fits = AreBytes-take n bytes fits;
    })

pub part_again : (part rest : List ℕ) (n : ℕ) → length part ≡ n → front_part n (part ++ rest) ≡ Some (part, rest)
part_again part rest n len =
    let long : ltb (length (part ++ rest)) n ≡ false = le-ltb _ _ (omega (arith, length-append part rest)) in
    rw (long, take_at part rest n len, drop_at part rest n len) refl

-- ---- numbers

long_part : (bytes part rest : List ℕ) → IsPart 4 bytes part rest → Takes bytes (long (from_le_bytes w32 part)) rest × (from_le_bytes w32 part < 2 ^ 32)
long_part bytes part rest p =
    let is : long (from_le_bytes w32 part) ≡ part = le_bytes_4 part (from_le_bytes w32 part) p.len p.fits refl in
    (subst (λ (t : List ℕ). Takes bytes t rest) (sym is) p.takes, omega (arith, p.fits 0, p.fits 1, p.fits 2, p.fits 3))

pub long_takes : (bytes : List ℕ) (x : ℕ × List ℕ) → AreBytes bytes → front_long bytes ≡ Some x → Takes bytes (long x.0) x.1 × (x.0 < 2 ^ 32)
long_takes bytes x fits e =
    let a = map_some (front_part 4 bytes) (λ p. (from_le_bytes w32 p.0, p.1)) x e in
    subst (λ (y : ℕ × List ℕ). Takes bytes (long y.0) y.1 × (y.0 < 2 ^ 32)) a.2 (long_part bytes a.0.0 a.0.1 (part_takes 4 bytes a.0 fits a.1))

abbrev some_front : ℕ × List ℕ → Option (ℕ × List ℕ)
some_front x = Some x

pub long_again : (n : ℕ) (rest : List ℕ) → n < 2 ^ 32 → front_long (long n ++ rest) ≡ Some (n, rest)
long_again n rest lt =
    ap (option_map {U = ℕ × List ℕ} (λ p. (from_le_bytes w32 p.0, p.1))) (part_again (long n) rest 4 refl)
    ∙ ap (λ (m : ℕ). some_front (m, rest)) (from_le_bytes-to_le_bytes_4 n lt)

-- ---- texts

pub text_takes : (bytes : List ℕ) (x : List ℕ × List ℕ) → AreBytes bytes → front_text bytes ≡ Some x → Takes bytes (text x.0) x.1 × (length x.0 ≤ 255)
text_takes bytes x fits e =
    let a = bind_some (front_byte bytes) (λ n. front_part n.0 n.1) x e in
    let b = byte_takes bytes a.0 fits a.1 in
    let p = part_takes a.0.0 a.0.1 x b.0.rest_fits a.2 in
    let both = Takes-then bytes (a.0.0 ∷ []) a.0.1 x.0 x.1 b.0 p.takes in
    (subst (λ (n : ℕ). Takes bytes (n ∷ x.0) x.1) (sym p.len) both, omega (arith, b.1, p.len))

pub text_again : (name rest : List ℕ) → front_text (text name ++ rest) ≡ Some (name, rest)
text_again name rest = part_again name rest (length name) refl
