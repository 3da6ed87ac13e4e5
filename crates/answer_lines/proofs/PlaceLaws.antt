-- The reply to a request, by its place among the replies.
use Rattle.std.proofs.Common.{◌≡◌, ℕ, ◌+◌, ◌<◌, suc, Bool, true, false, cond, eqb, List, [], ◌∷◌, ◌++◌, length, get_or, take, drop, None, Some, inl, inr, refl, sym, ap, subst, ◌∙◌, arith}
use Prim.Native.Nat.{zero}
use Rattle.std.proofs.lemmas.Bool.{cases_lt}
use Rattle.std.proofs.lemmas.List.{get_or_read}
use Rattle.std.specs.declared.option.Option.{Option}
use Rattle.answer_lines.specs.declared.replies.ReplyLine.{ReplyLine}
use Rattle.answer_lines.specs.AnswerLines.{reply_to, without_reply}
use Rattle.answer_lines.specs.ReplyPlaces.{AreOthers, StandsAt}

others_behind : (s : ℕ) (r : ReplyLine) (rs : List ReplyLine) (n : ℕ) → AreOthers s (r ∷ rs) (suc n) → AreOthers s rs n
others_behind s r rs n others = λ k any low. others (suc k) any (omega (arith, low))

none_at : (t : Bool) (r : ReplyLine) (later : Option ReplyLine) (left rs : List ReplyLine) → t ≡ false → later ≡ None → left ≡ rs
    → (cond t (Some r) later ≡ None) × (cond t rs (r ∷ left) ≡ r ∷ rs)
none_at true r later left rs is none same = absurd cc
none_at false r later left rs is none same = (none, ap (λ (xs : List ReplyLine). r ∷ xs) same)

-- no reply has the number
pub none_to : (s : ℕ) (rs : List ReplyLine) → AreOthers s rs (length rs) → (reply_to s rs ≡ None) × (without_reply s rs ≡ rs)
none_to s [] others = (refl, refl)
none_to s (r ∷ rs) others =
    let later = none_to s rs (others_behind s r rs (length rs) others) in
    none_at (eqb r.sequence s) r (reply_to s rs) (without_reply s rs) rs (others 0 r (omega arith)) later.0 later.1

here : (t : Bool) (r : ReplyLine) (later : Option ReplyLine) (left rs : List ReplyLine) → t ≡ true
    → (cond t (Some r) later ≡ Some r) × (cond t rs (r ∷ left) ≡ rs)
here true r later left rs is = (refl, refl)
here false r later left rs is = absurd cc

behind : (t : Bool) (r x : ReplyLine) (later : Option ReplyLine) (left rs front back : List ReplyLine) → t ≡ false → later ≡ Some x → left ≡ front ++ back
    → (cond t (Some r) later ≡ Some x) × (cond t rs (r ∷ left) ≡ r ∷ (front ++ back))
behind true r x later left rs front back is found same = absurd cc
behind false r x later left rs front back is found same = (found, ap (λ (xs : List ReplyLine). r ∷ xs) same)

-- the first reply with the number stands at this place
pub found_to : (s : ℕ) (rs : List ReplyLine) (i : ℕ) (any : ReplyLine) → StandsAt s rs i
    → (reply_to s rs ≡ Some (get_or rs i any)) × (without_reply s rs ≡ take i rs ++ drop (suc i) rs)
found_to s [] i any at = absurd (omega (arith, at.within))
found_to s (r ∷ rs) zero any at = here (eqb r.sequence s) r (reply_to s rs) (without_reply s rs) rs (at.this any)
found_to s (r ∷ rs) (suc i) any at =
    let stands : StandsAt s rs i = record { within = omega (arith, at.within); others = others_behind s r rs i at.others; this = at.this } in
    let later = found_to s rs i any stands in
    behind (eqb r.sequence s) r (get_or rs i any) (reply_to s rs) (without_reply s rs) rs (take i rs) (drop (suc i) rs) (at.others 0 any (omega arith)) later.0 later.1

-- ---- the look for the place

read_any : (s : ℕ) (rs : List ReplyLine) (place : ℕ) (r : ReplyLine) (t : Bool) → place < length rs → r ≡ get_or rs place r → eqb r.sequence s ≡ t
    → (any : ReplyLine) → eqb (get_or rs place any).sequence s ≡ t
read_any s rs place r t low is test any = ap (λ (x : ReplyLine). eqb x.sequence s) (sym (get_or_read rs place r low is any)) ∙ test

-- one more is to another request
pub others_more : (s : ℕ) (rs : List ReplyLine) (place : ℕ) (r : ReplyLine) → place < length rs → r ≡ get_or rs place r → eqb r.sequence s ≡ false
    → AreOthers s rs place → AreOthers s rs (place + 1)
others_more s rs place r low is other others = λ k any lt. elim (cases_lt k place) [
  | inl before ↦ others k any before
  | inr behind ↦
      let same : place ≡ k = omega (arith, lt, behind) in
      subst (λ (n : ℕ). eqb (get_or rs n any).sequence s ≡ false) same (read_any s rs place r false low is other any)
]

-- this one is to the request
pub stands : (s : ℕ) (rs : List ReplyLine) (place : ℕ) (r : ReplyLine) → place < length rs → r ≡ get_or rs place r → eqb r.sequence s ≡ true
    → AreOthers s rs place → StandsAt s rs place
stands s rs place r low is this others = record { within = low; others = others; this = read_any s rs place r true low is this }
