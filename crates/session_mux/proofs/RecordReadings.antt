-- A trace has one reading as records and a tail.
use Rattle.std.proofs.Common.{◌≡◌, ℕ, zero, suc, ◌+◌, ◌-◌, ◌<◌, ◌≤◌, ◌^◌, Bool, true, false, cond, eqb, List, [], ◌∷◌, ◌++◌, length, take, drop, get_or, Option, None, Some, refl, sym, ap, subst, ◌∙◌, append_assoc, arith}
use Rattle.std.specs.Int.{w16, to_le_bytes, from_le_bytes}
use Rattle.std.specs.List.{flat_map}
use Rattle.std.proofs.lemmas.Bool.{eqb-true}
use Rattle.std.proofs.lemmas.List.{take-append-drop, drop_at, take_at, length-append, length-drop, length-take-le}
use Rattle.std.proofs.lemmas.Nat.{le_bytes_2, from_le_bytes-to_le_bytes_2}
use Rattle.ctrl_model.specs.declared.kinds.Who.{Who}
use Rattle.ctrl_model.specs.declared.kinds.Who.TheVariants.{Admin, Router, Identity}
use Rattle.ctrl_model.specs.NameForm.{is_name}
use Rattle.channel_frame.specs.StreamReading.{AreBytes}
use Rattle.channel_frame.proofs.NumberLaws.{byte_fits}
use Rattle.channel_frame.proofs.ReadingLaws.{drop_before}
use Rattle.session_mux.specs.declared.sessions.Stage.{Stage}
use Rattle.session_mux.specs.declared.sessions.Stage.TheVariants.{Unopened, Opened, Closed}
use Rattle.session_mux.specs.Arrivals.{Arrival, Open, Data, Close, RecordFront, Unfinished, Bad, Whole, role_byte, name_bytes, record_bytes, stage_at, stages_after, stages_along, IsRole, IsAllowed, AreAllowed, IsRecordTail, ReadsRecords, role_at, opening, within, data_len, open_at, data_at, close_at, record_front, and_then_records, records_past, records_of, and_then_tail, tail_past, tail_of}
use Rattle.session_mux.proofs.RecordLaws.{by_kind, front_is, front_some, open_is, open_long, data_is, data_long, close_is, close_long, record_step, record_stop}

-- ---- what is spelled stands there

role_again : (who : Who) → IsRole who → role_at (role_byte who) (name_bytes who) ≡ Some who
role_again Admin is = refl
role_again (Router name) is = ap (λ (b : Bool). cond b (Some (Router name)) None) is
role_again (Identity name) is = ap (λ (b : Bool). cond b (Some (Identity name)) None) is

front_of_open : (stages : List Stage) (s role n : ℕ) (rest : List ℕ) → n ≤ length rest
    → record_front stages (1 ∷ s ∷ role ∷ n ∷ rest) ≡ opening (stage_at stages s) s (role_at role (take n rest)) (4 + n)
front_of_open stages s role n rest le =
    front_is stages (1 ∷ s ∷ role ∷ n ∷ rest) (omega arith) ∙ open_is stages (1 ∷ s ∷ role ∷ n ∷ rest) (omega arith)

open_again : (stages : List Stage) (s : ℕ) (who : Who) (more : List ℕ) → IsAllowed stages (Open s who)
    → record_front stages (record_bytes (Open s who) ++ more) ≡ Whole (Open s who) (length (record_bytes (Open s who)))
open_again stages s who more allowed =
    let name : List ℕ = name_bytes who in
    let len : 4 + length name ≡ length (record_bytes (Open s who)) = omega arith in
    front_of_open stages s (role_byte who) (length name) (name ++ more) (omega (arith, length-append name more))
    ∙ ap (λ (part : List ℕ). opening (stage_at stages s) s (role_at (role_byte who) part) (4 + length name)) (take_at name more (length name) refl)
    ∙ ap (λ (o : Option Who). opening (stage_at stages s) s o (4 + length name)) (role_again who allowed.1)
    ∙ ap (λ (st : Stage). opening st s (Some who) (4 + length name)) allowed.2
    ∙ ap (Whole (Open s who)) len

front_of_data : (stages : List Stage) (s a b n : ℕ) (rest : List ℕ) → from_le_bytes w16 (a ∷ b ∷ []) ≡ n → n ≤ length rest
    → record_front stages (2 ∷ s ∷ a ∷ b ∷ rest) ≡ within (stage_at stages s) (Data s (take n rest)) (4 + n)
front_of_data stages s a b n rest e le =
    let long : 4 + data_len (2 ∷ s ∷ a ∷ b ∷ rest) ≤ length (2 ∷ s ∷ a ∷ b ∷ rest) = omega (arith, e, le) in
    front_is stages (2 ∷ s ∷ a ∷ b ∷ rest) (omega arith) ∙ data_is stages (2 ∷ s ∷ a ∷ b ∷ rest) long
    ∙ ap (λ (m : ℕ). within (stage_at stages s) (Data s (take m rest)) (4 + m)) e

data_again : (stages : List Stage) (s : ℕ) (bytes more : List ℕ) → IsAllowed stages (Data s bytes)
    → record_front stages (record_bytes (Data s bytes) ++ more) ≡ Whole (Data s bytes) (length (record_bytes (Data s bytes)))
data_again stages s bytes more allowed =
    let n : ℕ = length bytes in
    let small : n < 2 ^ 16 = omega (arith, allowed.1) in
    let spelled : from_le_bytes w16 (to_le_bytes w16 n) ≡ n = from_le_bytes-to_le_bytes_2 n small in
    let len : 4 + n ≡ length (record_bytes (Data s bytes)) = omega arith in
    front_of_data stages s _ _ n (bytes ++ more) spelled (omega (arith, length-append bytes more))
    ∙ ap (λ (part : List ℕ). within (stage_at stages s) (Data s part) (4 + n)) (take_at bytes more n refl)
    ∙ ap (λ (st : Stage). within st (Data s bytes) (4 + n)) allowed.2
    ∙ ap (Whole (Data s bytes)) len

close_again : (stages : List Stage) (s : ℕ) (more : List ℕ) → IsAllowed stages (Close s) → record_front stages (record_bytes (Close s) ++ more) ≡ Whole (Close s) 2
close_again stages s more allowed =
    front_is stages (3 ∷ s ∷ more) (omega arith) ∙ close_is stages (3 ∷ s ∷ more) (omega arith) ∙ ap (λ (st : Stage). within st (Close s) 2) allowed.1

pub record_again : (stages : List Stage) (a : Arrival) (more : List ℕ) → IsAllowed stages a → record_front stages (record_bytes a ++ more) ≡ Whole a (length (record_bytes a))
record_again stages (Open s who) more allowed = open_again stages s who more allowed
record_again stages (Data s bytes) more allowed = data_again stages s bytes more allowed
record_again stages (Close s) more allowed = close_again stages s more allowed

-- ---- what stands there is spelled so

-- a record that bytes spell at their front
pub record RecordTakes (stages : List Stage) (a : Arrival) (n : ℕ) (bytes : List ℕ) : Type 0 where
  pub allowed : IsAllowed stages a
  pub some : 0 < n
  pub there : n ≤ length bytes
  pub text : record_bytes a ≡ take n bytes

-- the parts of a role that is said
pub record RoleSaid (role : ℕ) (name : List ℕ) (who : Who) : Type 0 where
  pub is_role : IsRole who
  pub byte : role_byte who ≡ role
  pub bytes : name_bytes who ≡ name

no_bytes_of : (name : List ℕ) → length name ≡ 0 → [] ≡ name
no_bytes_of [] e = refl
no_bytes_of (b ∷ name) e = absurd (omega arith)

same_who : (a b : Who) → ◌≡◌ {A = Option Who} (Some a) (Some b) → a ≡ b
same_who a b e = cc

role_said_at : (p e q n r : Bool) (role : ℕ) (name : List ℕ) (who : Who) → eqb role 0 ≡ p → eqb (length name) 0 ≡ e → eqb role 1 ≡ q → is_name name ≡ n → eqb role 2 ≡ r
    → cond p (cond e (Some Admin) None) (cond q (cond n (Some (Router name)) None) (cond r (cond n (Some (Identity name)) None) None)) ≡ Some who → RoleSaid role name who
role_said_at true true q n r role name who a b c d f h =
    subst (RoleSaid role name) (same_who Admin who h) (record { is_role = tt; byte = sym (eqb-true role 0 a); bytes = no_bytes_of name (eqb-true (length name) 0 b) })
role_said_at true false q n r role name who a b c d f h = absurd cc
role_said_at false e true true r role name who a b c d f h = subst (RoleSaid role name) (same_who (Router name) who h) (record { is_role = d; byte = sym (eqb-true role 1 c); bytes = refl })
role_said_at false e true false r role name who a b c d f h = absurd cc
role_said_at false e false true true role name who a b c d f h = subst (RoleSaid role name) (same_who (Identity name) who h) (record { is_role = d; byte = sym (eqb-true role 2 f); bytes = refl })
role_said_at false e false false true role name who a b c d f h = absurd cc
role_said_at false e false n false role name who a b c d f h = absurd cc

role_said : (role : ℕ) (name : List ℕ) (who : Who) → role_at role name ≡ Some who → RoleSaid role name who
role_said role name who h =
    role_said_at (eqb role 0) (eqb (length name) 0) (eqb role 1) (is_name name) (eqb role 2) role name who refl refl refl refl refl h

-- an open that stands whole
opening_whole : (st : Stage) (s : ℕ) (o : Option Who) (m : ℕ) (a : Arrival) (n : ℕ) → opening st s o m ≡ Whole a n
    → (who : Who) × (st ≡ Unopened) × (o ≡ Some who) × (Open s who ≡ a) × (m ≡ n)
opening_whole Unopened s None m a n e = absurd cc
opening_whole Unopened s (Some who) m a n e = (who, refl, refl, cc, cc)
opening_whole Opened s o m a n e = absurd cc
opening_whole Closed s o m a n e = absurd cc

within_whole : (st : Stage) (b : Arrival) (m : ℕ) (a : Arrival) (n : ℕ) → within st b m ≡ Whole a n → (st ≡ Opened) × (b ≡ a) × (m ≡ n)
within_whole Unopened b m a n e = absurd cc
within_whole Opened b m a n e = (refl, cc, cc)
within_whole Closed b m a n e = absurd cc

-- bytes of which the first four are known
four_first : (n : ℕ) (bytes : List ℕ) → 4 + n ≤ length bytes
    → take (4 + n) bytes ≡ get_or bytes 0 0 ∷ get_or bytes 1 0 ∷ get_or bytes 2 0 ∷ get_or bytes 3 0 ∷ take n (drop 4 bytes)
four_first n [] le = absurd (omega arith)
four_first n (a ∷ []) le = absurd (omega arith)
four_first n (a ∷ b ∷ []) le = absurd (omega arith)
four_first n (a ∷ b ∷ c ∷ []) le = absurd (omega arith)
four_first n (a ∷ b ∷ c ∷ d ∷ bytes) le =
    let e : 4 + n ≡ suc (suc (suc (suc n))) = omega arith in
    rw e refl

two_first : (bytes : List ℕ) → 2 ≤ length bytes → take 2 bytes ≡ get_or bytes 0 0 ∷ get_or bytes 1 0 ∷ []
two_first [] le = absurd (omega arith)
two_first (a ∷ []) le = absurd (omega arith)
two_first (a ∷ b ∷ bytes) le = refl

open_text : (s r r' n n' : ℕ) (name name' : List ℕ) → r ≡ r' → n ≡ n' → name ≡ name' → 1 ∷ s ∷ r ∷ n ∷ name ≡ 1 ∷ s ∷ r' ∷ n' ∷ name'
open_text s r r' n n' name name' a b c = rw (a, b, c) refl

open_takes : (stages : List Stage) (bytes : List ℕ) (a : Arrival) (n : ℕ) → AreBytes bytes → get_or bytes 0 0 ≡ 1 → open_at stages bytes ≡ Whole a n → RecordTakes stages a n bytes
open_takes stages bytes a n fits kind e =
    let long = open_long stages bytes (λ u. absurd cc) in
    let s : ℕ = get_or bytes 1 0 in
    let len : ℕ = get_or bytes 3 0 in
    let name : List ℕ = take len (drop 4 bytes) in
    let w = opening_whole (stage_at stages s) s (role_at (get_or bytes 2 0) name) (4 + len) a n (sym (open_is stages bytes long) ∙ e) in
    let said = role_said (get_or bytes 2 0) name w.0 w.2 in
    let name_len : length name ≡ len = length-take-le len (drop 4 bytes) (omega (arith, length-drop 4 bytes)) in
    let who_len : length (name_bytes w.0) ≡ len = ap length said.bytes ∙ name_len in
    let text : record_bytes (Open s w.0) ≡ take (4 + len) bytes =
    open_text s (role_byte w.0) (get_or bytes 2 0) (length (name_bytes w.0)) len (name_bytes w.0) name said.byte who_len said.bytes
    ∙ ap (λ (k : ℕ). k ∷ s ∷ get_or bytes 2 0 ∷ len ∷ name) (sym kind) ∙ sym (four_first len bytes long)
    in
    subst (λ (m : ℕ). RecordTakes stages a m bytes) w.4
    (subst (λ (x : Arrival). RecordTakes stages x (4 + len) bytes) w.3
    (record { allowed = (byte_fits bytes fits 1, said.is_role, w.1); some = omega arith; there = long; text = text }))

data_takes : (stages : List Stage) (bytes : List ℕ) (a : Arrival) (n : ℕ) → AreBytes bytes → get_or bytes 0 0 ≡ 2 → data_at stages bytes ≡ Whole a n → RecordTakes stages a n bytes
data_takes stages bytes a n fits kind e =
    let long = data_long stages bytes (λ u. absurd cc) in
    let s : ℕ = get_or bytes 1 0 in
    let len : ℕ = data_len bytes in
    let part : List ℕ = take len (drop 4 bytes) in
    let w = within_whole (stage_at stages s) (Data s part) (4 + len) a n (sym (data_is stages bytes long) ∙ e) in
    let part_len : length part ≡ len = length-take-le len (drop 4 bytes) (omega (arith, length-drop 4 bytes)) in
    let c = byte_fits bytes fits 2 in
    let d = byte_fits bytes fits 3 in
    let two : List ℕ = get_or bytes 2 0 ∷ get_or bytes 3 0 ∷ [] in
    let two_fit : AreBytes two = (c, (d, tt)) in
    let spelled : to_le_bytes w16 len ≡ two = le_bytes_2 two len refl (byte_fits two two_fit) refl in
    let few : len ≤ 65535 = omega (arith, c, d) in
    let again : to_le_bytes w16 (length part) ≡ two = ap (to_le_bytes w16) part_len ∙ spelled in
    let text : record_bytes (Data s part) ≡ take (4 + len) bytes =
    ap (λ (x : List ℕ). 2 ∷ s ∷ (x ++ part)) again ∙ ap (λ (k : ℕ). k ∷ s ∷ get_or bytes 2 0 ∷ get_or bytes 3 0 ∷ part) (sym kind) ∙ sym (four_first len bytes long)
    in
    subst (λ (m : ℕ). RecordTakes stages a m bytes) w.2
    (subst (λ (x : Arrival). RecordTakes stages x (4 + len) bytes) w.1
    (record { allowed = (byte_fits bytes fits 1, omega (arith, part_len, few), w.0); some = omega arith; there = long; text = text }))

close_takes : (stages : List Stage) (bytes : List ℕ) (a : Arrival) (n : ℕ) → AreBytes bytes → get_or bytes 0 0 ≡ 3 → close_at stages bytes ≡ Whole a n → RecordTakes stages a n bytes
close_takes stages bytes a n fits kind e =
    let long = close_long stages bytes (λ u. absurd cc) in
    let s : ℕ = get_or bytes 1 0 in
    let w = within_whole (stage_at stages s) (Close s) 2 a n (sym (close_is stages bytes long) ∙ e) in
    let text : record_bytes (Close s) ≡ take 2 bytes = ap (λ (k : ℕ). k ∷ s ∷ []) (sym kind) ∙ sym (two_first bytes long) in
    subst (λ (m : ℕ). RecordTakes stages a m bytes) w.2
    (subst (λ (x : Arrival). RecordTakes stages x 2 bytes) w.1
    (record { allowed = (byte_fits bytes fits 1, w.0); some = omega arith; there = long; text = text }))

kind_takes : (p q r : Bool) (stages : List Stage) (bytes : List ℕ) (a : Arrival) (n : ℕ) → AreBytes bytes → eqb (get_or bytes 0 0) 1 ≡ p → eqb (get_or bytes 0 0) 2 ≡ q → eqb (get_or bytes 0 0) 3 ≡ r
    → by_kind p q r (open_at stages bytes) (data_at stages bytes) (close_at stages bytes) ≡ Whole a n → RecordTakes stages a n bytes
kind_takes true q r stages bytes a n fits x y z e = open_takes stages bytes a n fits (eqb-true (get_or bytes 0 0) 1 x) e
kind_takes false true r stages bytes a n fits x y z e = data_takes stages bytes a n fits (eqb-true (get_or bytes 0 0) 2 y) e
kind_takes false false true stages bytes a n fits x y z e = close_takes stages bytes a n fits (eqb-true (get_or bytes 0 0) 3 z) e
kind_takes false false false stages bytes a n fits x y z e = absurd cc

pub record_takes : (stages : List Stage) (bytes : List ℕ) (a : Arrival) (n : ℕ) → AreBytes bytes → record_front stages bytes ≡ Whole a n → RecordTakes stages a n bytes
record_takes stages bytes a n fits e =
    let some = front_some stages bytes (λ u. absurd cc) in
    kind_takes (eqb (get_or bytes 0 0) 1) (eqb (get_or bytes 0 0) 2) (eqb (get_or bytes 0 0) 3) stages bytes a n fits refl refl refl (sym (front_is stages bytes some) ∙ e)

-- ---- every input has a reading

-- no whole record stands at the front
abbrev pub HasNoRecord : List Stage → List ℕ → Type 0
HasNoRecord stages bytes = (a : Arrival) (n : ℕ) → record_front stages bytes ≡ Whole a n → ⊥

tail_from : (stages : List Stage) (bytes : List ℕ) → HasNoRecord stages bytes → IsRecordTail stages bytes
tail_from stages bytes none a more allowed e = none a (length (record_bytes a)) (ap (record_front stages) e ∙ record_again stages a more allowed)

tail_has_none : (stages : List Stage) (bytes : List ℕ) → AreBytes bytes → IsRecordTail stages bytes → HasNoRecord stages bytes
tail_has_none stages bytes fits tail a n e =
    let t = record_takes stages bytes a n fits e in
    tail a (drop n bytes) t.allowed (sym (ap (λ (xs : List ℕ). xs ++ drop n bytes) t.text ∙ take-append-drop n bytes))

regrouped : (xs a b c d : List ℕ) → a ++ b ≡ xs → c ≡ a → b ≡ d → xs ≡ c ++ d
regrouped xs a b c d p q r = cc

nothing_reads : (stages : List Stage) → ReadsRecords stages [] [] []
nothing_reads stages = record { text = refl; each = tt; tail_is = tail_from stages [] (λ a n e. absurd cc) }

reads_at : (stages : List Stage) (bytes : List ℕ) (at : RecordFront) (next : List Stage → ℕ → List Arrival) (rest : List Stage → ℕ → List ℕ) → AreBytes bytes → record_front stages bytes ≡ at
    → ((after : List Stage) (n : ℕ) → 0 < n → ReadsRecords after (drop n bytes) (next after (n - 1)) (rest after (n - 1)))
    → ReadsRecords stages bytes (and_then_records stages at next) (and_then_tail bytes stages at rest)
reads_at stages bytes Unfinished next rest fits e later = record { text = refl; each = tt; tail_is = tail_from stages bytes (λ a n w. absurd cc) }
reads_at stages bytes Bad next rest fits e later = record { text = refl; each = tt; tail_is = tail_from stages bytes (λ a n w. absurd cc) }
reads_at stages bytes (Whole a n) next rest fits e later =
    let t = record_takes stages bytes a n fits e in
    let r = later (stages_after a stages) n t.some in
    let behind : List ℕ = flat_map record_bytes (next (stages_after a stages) (n - 1)) in
    record {
      text =
          regrouped bytes (take n bytes) (drop n bytes) (record_bytes a) (behind ++ rest (stages_after a stages) (n - 1)) (take-append-drop n bytes) t.text r.text
          ∙ sym (append_assoc (record_bytes a) behind (rest (stages_after a stages) (n - 1)));
      each = (t.allowed, r.each);
      tail_is = r.tail_is;
    }

reads_past : (bytes : List ℕ) (stages : List Stage) (n : ℕ) → AreBytes bytes → ReadsRecords stages (drop n bytes) (records_past bytes stages n) (tail_past bytes stages n)
reads_past [] stages zero fits = nothing_reads stages
reads_past [] stages (suc n) fits = nothing_reads stages
reads_past (b ∷ bytes) stages (suc n) fits = reads_past bytes stages n fits.1
reads_past (b ∷ bytes) stages zero fits =
    reads_at stages (b ∷ bytes) (record_front stages (b ∷ bytes)) (records_past bytes) (tail_past bytes) fits refl
    (λ after n lt. rw (drop_before n b bytes lt) (reads_past bytes after (n - 1) fits.1))

pub has_reading : (stages : List Stage) (input : List ℕ) → AreBytes input → ReadsRecords stages input (records_of stages input) (tail_of stages input)
has_reading stages input fits = reads_past input stages 0 fits

-- ---- and no other

spelled_some : (a : Arrival) → 0 < length (record_bytes a)
spelled_some (Open s who) = omega arith
spelled_some (Data s bytes) = omega arith
spelled_some (Close s) = omega arith

spelled_step : (stages : List Stage) (a : Arrival) (more : List ℕ) → IsAllowed stages a
    → (records_of stages (record_bytes a ++ more) ≡ a ∷ records_of (stages_after a stages) more) × (tail_of stages (record_bytes a ++ more) ≡ tail_of (stages_after a stages) more)
spelled_step stages a more allowed =
    let n : ℕ = length (record_bytes a) in
    let step = record_step stages (record_bytes a ++ more) a n (record_again stages a more allowed) (spelled_some a) in
    let behind : drop n (record_bytes a ++ more) ≡ more = drop_at (record_bytes a) more n refl in
    (step.0 ∙ ap (λ (xs : List ℕ). a ∷ records_of (stages_after a stages) xs) behind, step.1 ∙ ap (tail_of (stages_after a stages)) behind)

spelled_reads : (stages : List Stage) (arrivals : List Arrival) (tail : List ℕ) → AreAllowed stages arrivals → HasNoRecord (stages_along stages arrivals) tail
    → (records_of stages (flat_map record_bytes arrivals ++ tail) ≡ arrivals) × (tail_of stages (flat_map record_bytes arrivals ++ tail) ≡ tail)
spelled_reads stages [] tail each none = record_stop stages tail none
spelled_reads stages (a ∷ arrivals) tail each none =
    let others : List ℕ = flat_map record_bytes arrivals ++ tail in
    let parts : flat_map record_bytes (a ∷ arrivals) ++ tail ≡ record_bytes a ++ others = append_assoc (record_bytes a) (flat_map record_bytes arrivals) tail in
    let step = spelled_step stages a others each.0 in
    let later = spelled_reads (stages_after a stages) arrivals tail each.1 none in
    (ap (records_of stages) parts ∙ step.0 ∙ ap (λ (xs : List Arrival). a ∷ xs) later.0, ap (tail_of stages) parts ∙ step.1 ∙ later.1)

pub has_one_reading : (stages : List Stage) (input : List ℕ) (arrivals : List Arrival) (tail : List ℕ) → AreBytes tail → ReadsRecords stages input arrivals tail
    → (records_of stages input ≡ arrivals) × (tail_of stages input ≡ tail)
has_one_reading stages input arrivals tail fits reads =
    let only = spelled_reads stages arrivals tail reads.each (tail_has_none (stages_along stages arrivals) tail fits reads.tail_is) in
    (ap (records_of stages) reads.text ∙ only.0, ap (tail_of stages) reads.text ∙ only.1)
