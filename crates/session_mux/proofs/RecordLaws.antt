-- What stands at the front of a trace, and the records a step at a time.
use Rattle.std.proofs.Common.{◌≡◌, ℕ, zero, suc, ◌+◌, ◌-◌, ◌<◌, ◌≤◌, Bool, true, false, cond, ltb, eqb, List, [], ◌∷◌, ◌++◌, length, take, drop, set, get_or, Option, None, Some, refl, sym, ap, ◌∙◌, arith}
use Rattle.std.specs.Prelude.{◌||◌}
use Rattle.std.proofs.lemmas.Bool.{ltb-false, le-ltb, ne_eqb}
use Rattle.std.proofs.lemmas.List.{get_or_append_left, take-append-le, drop-append-le, length-append, length-drop}
use Rattle.ctrl_model.specs.declared.kinds.Who.{Who}
use Rattle.ctrl_model.specs.declared.kinds.Who.TheVariants.{Admin, Router, Identity}
use Rattle.ctrl_model.specs.NameForm.{is_name}
use Rattle.channel_frame.proofs.ReadingLaws.{drop_before}
use Rattle.session_mux.specs.declared.sessions.Stage.{Stage}
use Rattle.session_mux.specs.declared.sessions.Stage.TheVariants.{Unopened, Opened, Closed}
use Rattle.session_mux.specs.RecordSteps.{is_unopened, is_opened, says_role, IsLook, Passes}
use Rattle.session_mux.specs.declared.records.Look.TheVariants as look
use Rattle.session_mux.specs.Arrivals.{Arrival, Open, Data, Close, RecordFront, Unfinished, Bad, Whole, stage_at, stages_after, role_at, opening, within, data_len, open_at, data_at, close_at, record_front, and_then_records, records_past, records_of, and_then_tail, tail_past, tail_of}

-- what stands whole or bad stands so whatever follows
abbrev pub Stays : RecordFront → RecordFront → Type 0
Stays x y = (x ≡ Unfinished → ⊥) → y ≡ x

-- ---- tests

none_true : (p q : Bool) → (p || q) ≡ false → (p ≡ false) × (q ≡ false)
none_true true q e = absurd cc
none_true false q e = (refl, e)

both_false : (p q : Bool) → p ≡ false → q ≡ false → (p || q) ≡ false
both_false p q a b = rw (a, b) refl

past_test : (b : Bool) (x : RecordFront) → (cond b Unfinished x ≡ Unfinished → ⊥) → b ≡ false
past_test true x stands = absurd (stands refl)
past_test false x stands = refl

test_false : (b : Bool) (x : RecordFront) → b ≡ false → cond b Unfinished x ≡ x
test_false b x e = rw e refl

same_cell : (bytes more : List ℕ) (i : ℕ) → i < length bytes → get_or (bytes ++ more) i 0 ≡ get_or bytes i 0
same_cell bytes more i lt = get_or_append_left bytes more 0 i lt

same_part : (bytes more : List ℕ) (n : ℕ) → 4 + n ≤ length bytes → take n (drop 4 (bytes ++ more)) ≡ take n (drop 4 bytes)
same_part bytes more n le =
    let here : 4 ≤ length bytes = omega arith in
    let there : n ≤ length (drop 4 bytes) = omega (arith, length-drop 4 bytes) in
    ap (take n) (drop-append-le 4 bytes more here) ∙ take-append-le n (drop 4 bytes) more there

-- ---- each kind

opening_parts : (stages : List Stage) (s s' role role' n n' : ℕ) (name name' : List ℕ) → s ≡ s' → role ≡ role' → n ≡ n' → name ≡ name'
    → opening (stage_at stages s) s (role_at role name) (4 + n) ≡ opening (stage_at stages s') s' (role_at role' name') (4 + n')
opening_parts stages s s' role role' n n' name name' a b c d = rw (a, b, c, d) refl

data_parts : (stages : List Stage) (s s' n n' : ℕ) (part part' : List ℕ) → s ≡ s' → n ≡ n' → part ≡ part'
    → within (stage_at stages s) (Data s part) (4 + n) ≡ within (stage_at stages s') (Data s' part') (4 + n')
data_parts stages s s' n n' part part' a b c = rw (a, b, c) refl

pub open_is : (stages : List Stage) (bytes : List ℕ) → 4 + get_or bytes 3 0 ≤ length bytes
    → open_at stages bytes ≡ opening (stage_at stages (get_or bytes 1 0)) (get_or bytes 1 0) (role_at (get_or bytes 2 0) (take (get_or bytes 3 0) (drop 4 bytes))) (4 + get_or bytes 3 0)
open_is stages bytes le =
    test_false _ _ (both_false (ltb (length bytes) 4) (ltb (length bytes) (4 + get_or bytes 3 0)) (le-ltb _ _ (omega arith)) (le-ltb _ _ le))

pub open_long : (stages : List Stage) (bytes : List ℕ) → (open_at stages bytes ≡ Unfinished → ⊥) → 4 + get_or bytes 3 0 ≤ length bytes
open_long stages bytes stands = ltb-false _ _ (none_true (ltb (length bytes) 4) (ltb (length bytes) (4 + get_or bytes 3 0)) (past_test _ _ stands)).1

open_stays : (stages : List Stage) (bytes more : List ℕ) → Stays (open_at stages bytes) (open_at stages (bytes ++ more))
open_stays stages bytes more stands =
    let long = open_long stages bytes stands in
    let a = same_cell bytes more 1 (omega arith) in
    let b = same_cell bytes more 2 (omega arith) in
    let c = same_cell bytes more 3 (omega arith) in
    let d : take (get_or (bytes ++ more) 3 0) (drop 4 (bytes ++ more)) ≡ take (get_or bytes 3 0) (drop 4 bytes) = ap (λ (n : ℕ). take n (drop 4 (bytes ++ more))) c ∙ same_part bytes more (get_or bytes 3 0) long in
    let len : 4 + get_or (bytes ++ more) 3 0 ≤ length (bytes ++ more) = omega (arith, c, length-append bytes more) in
    open_is stages (bytes ++ more) len ∙ opening_parts stages _ _ _ _ _ _ _ _ a b c d ∙ sym (open_is stages bytes long)

same_len : (bytes more : List ℕ) → 4 ≤ length bytes → data_len (bytes ++ more) ≡ data_len bytes
same_len bytes more le =
    let a = same_cell bytes more 2 (omega arith) in
    let b = same_cell bytes more 3 (omega arith) in
    rw (a, b) refl

pub data_is : (stages : List Stage) (bytes : List ℕ) → 4 + data_len bytes ≤ length bytes
    → data_at stages bytes ≡ within (stage_at stages (get_or bytes 1 0)) (Data (get_or bytes 1 0) (take (data_len bytes) (drop 4 bytes))) (4 + data_len bytes)
data_is stages bytes le =
    test_false _ _ (both_false (ltb (length bytes) 4) (ltb (length bytes) (4 + data_len bytes)) (le-ltb _ _ (omega arith)) (le-ltb _ _ le))

pub data_long : (stages : List Stage) (bytes : List ℕ) → (data_at stages bytes ≡ Unfinished → ⊥) → 4 + data_len bytes ≤ length bytes
data_long stages bytes stands = ltb-false _ _ (none_true (ltb (length bytes) 4) (ltb (length bytes) (4 + data_len bytes)) (past_test _ _ stands)).1

data_stays : (stages : List Stage) (bytes more : List ℕ) → Stays (data_at stages bytes) (data_at stages (bytes ++ more))
data_stays stages bytes more stands =
    let long = data_long stages bytes stands in
    let a = same_cell bytes more 1 (omega arith) in
    let c = same_len bytes more (omega arith) in
    let d : take (data_len (bytes ++ more)) (drop 4 (bytes ++ more)) ≡ take (data_len bytes) (drop 4 bytes) = ap (λ (n : ℕ). take n (drop 4 (bytes ++ more))) c ∙ same_part bytes more (data_len bytes) long in
    let len : 4 + data_len (bytes ++ more) ≤ length (bytes ++ more) = omega (arith, c, length-append bytes more) in
    data_is stages (bytes ++ more) len ∙ data_parts stages _ _ _ _ _ _ a c d ∙ sym (data_is stages bytes long)

pub close_is : (stages : List Stage) (bytes : List ℕ) → 2 ≤ length bytes → close_at stages bytes ≡ within (stage_at stages (get_or bytes 1 0)) (Close (get_or bytes 1 0)) 2
close_is stages bytes le = test_false _ _ (le-ltb _ _ le)

pub close_long : (stages : List Stage) (bytes : List ℕ) → (close_at stages bytes ≡ Unfinished → ⊥) → 2 ≤ length bytes
close_long stages bytes stands = ltb-false _ _ (past_test _ _ stands)

close_stays : (stages : List Stage) (bytes more : List ℕ) → Stays (close_at stages bytes) (close_at stages (bytes ++ more))
close_stays stages bytes more stands =
    let long = close_long stages bytes stands in
    let a = same_cell bytes more 1 (omega arith) in
    close_is stages (bytes ++ more) (omega (arith, length-append bytes more)) ∙ ap (λ (s : ℕ). within (stage_at stages s) (Close s) 2) a ∙ sym (close_is stages bytes long)

-- ---- all kinds

abbrev pub by_kind : Bool → Bool → Bool → RecordFront → RecordFront → RecordFront → RecordFront
by_kind p q r x y z = cond p x (cond q y (cond r z Bad))

kinds_stay : (p q r : Bool) (x y z x' y' z' : RecordFront) → Stays x x' → Stays y y' → Stays z z' → Stays (by_kind p q r x y z) (by_kind p q r x' y' z')
kinds_stay true q r x y z x' y' z' a b c stands = a stands
kinds_stay false true r x y z x' y' z' a b c stands = b stands
kinds_stay false false true x y z x' y' z' a b c stands = c stands
kinds_stay false false false x y z x' y' z' a b c stands = refl

pub front_is : (stages : List Stage) (bytes : List ℕ) → 0 < length bytes
    → record_front stages bytes ≡ by_kind (eqb (get_or bytes 0 0) 1) (eqb (get_or bytes 0 0) 2) (eqb (get_or bytes 0 0) 3) (open_at stages bytes) (data_at stages bytes) (close_at stages bytes)
front_is stages [] some = absurd (omega arith)
front_is stages (b ∷ bytes) some =
    ap (λ (t : Bool). cond t Unfinished (by_kind (eqb b 1) (eqb b 2) (eqb b 3) (open_at stages (b ∷ bytes)) (data_at stages (b ∷ bytes)) (close_at stages (b ∷ bytes))))
    (ne_eqb (length (b ∷ bytes)) 0 (λ e. absurd (omega arith)))

pub front_some : (stages : List Stage) (bytes : List ℕ) → (record_front stages bytes ≡ Unfinished → ⊥) → 0 < length bytes
front_some stages [] stands = absurd (stands refl)
front_some stages (b ∷ bytes) stands = omega arith

pub record_stays : (stages : List Stage) (bytes more : List ℕ) → Stays (record_front stages bytes) (record_front stages (bytes ++ more))
record_stays stages bytes more stands =
    let some = front_some stages bytes stands in
    let kind : get_or (bytes ++ more) 0 0 ≡ get_or bytes 0 0 = same_cell bytes more 0 some in
    front_is stages (bytes ++ more) (omega (arith, length-append bytes more))
    ∙ ap (λ (k : ℕ). by_kind (eqb k 1) (eqb k 2) (eqb k 3) (open_at stages (bytes ++ more)) (data_at stages (bytes ++ more)) (close_at stages (bytes ++ more))) kind
    ∙ kinds_stay (eqb (get_or bytes 0 0) 1) (eqb (get_or bytes 0 0) 2) (eqb (get_or bytes 0 0) 3) _ _ _ _ _ _ (open_stays stages bytes more) (data_stays stages bytes more) (close_stays stages bytes more) (λ e. stands (front_is stages bytes some ∙ e))
    ∙ sym (front_is stages bytes some)

-- ---- a record at a time

pub records_past-drop : (bytes : List ℕ) (stages : List Stage) (n : ℕ) → records_past bytes stages n ≡ records_of stages (drop n bytes)
records_past-drop [] stages zero = refl
records_past-drop [] stages (suc n) = refl
records_past-drop (b ∷ bytes) stages zero = refl
records_past-drop (b ∷ bytes) stages (suc n) = records_past-drop bytes stages n

pub tail_past-drop : (bytes : List ℕ) (stages : List Stage) (n : ℕ) → tail_past bytes stages n ≡ tail_of stages (drop n bytes)
tail_past-drop [] stages zero = refl
tail_past-drop [] stages (suc n) = refl
tail_past-drop (b ∷ bytes) stages zero = refl
tail_past-drop (b ∷ bytes) stages (suc n) = tail_past-drop bytes stages n

pub record_step : (stages : List Stage) (bytes : List ℕ) (a : Arrival) (n : ℕ) → record_front stages bytes ≡ Whole a n → 0 < n
    → (records_of stages bytes ≡ a ∷ records_of (stages_after a stages) (drop n bytes)) × (tail_of stages bytes ≡ tail_of (stages_after a stages) (drop n bytes))
record_step stages [] a n e some = absurd cc
record_step stages (b ∷ bytes) a n e some = (
  ap (λ (at : RecordFront). and_then_records stages at (records_past bytes)) e
      ∙ ap (λ (later : List Arrival). a ∷ later) (records_past-drop bytes (stages_after a stages) (n - 1) ∙ ap (records_of (stages_after a stages)) (sym (drop_before n b bytes some))),
  ap (λ (at : RecordFront). and_then_tail (b ∷ bytes) stages at (tail_past bytes)) e
      ∙ tail_past-drop bytes (stages_after a stages) (n - 1)
      ∙ ap (tail_of (stages_after a stages)) (sym (drop_before n b bytes some)),
)

stop_at : (stages : List Stage) (b : ℕ) (bytes : List ℕ) (at : RecordFront) → ((a : Arrival) (n : ℕ) → at ≡ Whole a n → ⊥)
    → (and_then_records stages at (records_past bytes) ≡ []) × (and_then_tail (b ∷ bytes) stages at (tail_past bytes) ≡ b ∷ bytes)
stop_at stages b bytes Unfinished none = (refl, refl)
stop_at stages b bytes Bad none = (refl, refl)
stop_at stages b bytes (Whole a n) none = absurd (none a n refl)

pub record_stop : (stages : List Stage) (bytes : List ℕ) → ((a : Arrival) (n : ℕ) → record_front stages bytes ≡ Whole a n → ⊥) → (records_of stages bytes ≡ []) × (tail_of stages bytes ≡ bytes)
record_stop stages [] none = (refl, refl)
record_stop stages (b ∷ bytes) none = stop_at stages b bytes (record_front stages (b ∷ bytes)) none

within_at : (b : ℕ) (bytes : List ℕ) (stages : List Stage) (at : RecordFront) → ((stages : List Stage) (n : ℕ) → length (tail_past bytes stages n) ≤ length bytes)
    → length (and_then_tail (b ∷ bytes) stages at (tail_past bytes)) ≤ length (b ∷ bytes)
within_at b bytes stages Unfinished le = omega arith
within_at b bytes stages Bad le = omega arith
within_at b bytes stages (Whole a n) le = omega (arith, le (stages_after a stages) (n - 1))

pub tail_within : (bytes : List ℕ) (stages : List Stage) (n : ℕ) → length (tail_past bytes stages n) ≤ length bytes
tail_within [] stages n = omega arith
tail_within (b ∷ bytes) stages (suc n) = omega (arith, tail_within bytes stages n)
tail_within (b ∷ bytes) stages zero = within_at b bytes stages (record_front stages (b ∷ bytes)) (λ stages n. tail_within bytes stages n)

-- ---- what the stage refuses

pub opened_before : (st : Stage) (s : ℕ) (who : Option Who) (n : ℕ) → is_unopened st ≡ false → opening st s who n ≡ Bad
opened_before Unopened s who n e = absurd cc
opened_before Opened s who n e = refl
opened_before Closed s who n e = refl

pub not_open : (st : Stage) (a : Arrival) (n : ℕ) → is_opened st ≡ false → within st a n ≡ Bad
not_open Unopened a n e = refl
not_open Opened a n e = absurd cc
not_open Closed a n e = refl

pub unopened_is : (st : Stage) → is_unopened st ≡ true → st ≡ Unopened
unopened_is Unopened e = refl
unopened_is Opened e = absurd cc
unopened_is Closed e = absurd cc

pub opened_is : (st : Stage) → is_opened st ≡ true → st ≡ Opened
opened_is Unopened e = absurd cc
opened_is Opened e = refl
opened_is Closed e = absurd cc

-- ---- a role that is said is some role

says_at : (p q r e n : Bool) (name : List ℕ) → cond p e (cond q n (cond r n false)) ≡ true
    → (who : Who) × (cond p (cond e (Some Admin) None) (cond q (cond n (Some (Router name)) None) (cond r (cond n (Some (Identity name)) None) None)) ≡ Some who)
says_at true q r true n name h = (Admin, refl)
says_at true q r false n name h = absurd cc
says_at false true r e true name h = (Router name, refl)
says_at false true r e false name h = absurd cc
says_at false false true e true name h = (Identity name, refl)
says_at false false true e false name h = absurd cc
says_at false false false e n name h = absurd cc

pub says_some : (role : ℕ) (name : List ℕ) → says_role role name ≡ true → (who : Who) × (role_at role name ≡ Some who)
says_some role name h = says_at (eqb role 0) (eqb role 1) (eqb role 2) (eqb (length name) 0) (is_name name) name h

-- ---- a record is passed over

pub open_passes : (stages new : List Stage) (bytes : List ℕ) (s role len : ℕ) → IsLook bytes (look.Opens s role len) → is_unopened (stage_at stages s) ≡ true → new ≡ set stages s Opened
    → Passes stages new bytes (Some (4 + len))
open_passes stages new bytes s role len is stage after =
    let says = says_some role (take len (drop 4 bytes)) is.fits.1 in
    let first : stage_at stages s ≡ Unopened = unopened_is (stage_at stages s) stage in (
      Open s says.0,
      is.front stages ∙ ap (λ (st : Stage). opening st s (role_at role (take len (drop 4 bytes))) (4 + len)) first ∙ ap (λ (o : Option Who). opening Unopened s o (4 + len)) says.1,
      after,
      omega arith,
      is.fits.0,
    )

pub data_passes : (stages new : List Stage) (bytes : List ℕ) (s len : ℕ) → IsLook bytes (look.Brings s len) → is_opened (stage_at stages s) ≡ true → new ≡ stages → Passes stages new bytes (Some (4 + len))
data_passes stages new bytes s len is stage after =
    let first : stage_at stages s ≡ Opened = opened_is (stage_at stages s) stage in
    let a : Arrival = Data s (take len (drop 4 bytes)) in
    (a, is.front stages ∙ ap (λ (st : Stage). within st a (4 + len)) first, after, omega arith, is.fits)

pub close_passes : (stages new : List Stage) (bytes : List ℕ) (s : ℕ) → IsLook bytes (look.Closes s) → is_opened (stage_at stages s) ≡ true → new ≡ set stages s Closed → Passes stages new bytes (Some 2)
close_passes stages new bytes s is stage after =
    let first : stage_at stages s ≡ Opened = opened_is (stage_at stages s) stage in
    (Close s, is.front stages ∙ ap (λ (st : Stage). within st (Close s) 2) first, after, omega arith, is.fits)

pub passes_tail : (old new : List Stage) (bytes : List ℕ) (n : ℕ) → Passes old new bytes (Some n) → tail_of old bytes ≡ tail_of new (drop n bytes)
passes_tail old new bytes n p = (record_step old bytes p.0 n p.1 p.3).1 ∙ ap (λ (ss : List Stage). tail_of ss (drop n bytes)) (sym p.2)

pub stops_tail : (old new : List Stage) (bytes : List ℕ) → Passes old new bytes None → tail_of old bytes ≡ bytes
stops_tail old new bytes p = (record_stop old bytes p.1).1
