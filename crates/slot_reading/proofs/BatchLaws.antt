-- Batches: what they make of rows one operation after another, when they are true differences, and how many bytes they have.
use Rattle.std.proofs.Common.{◌≡◌, ◌↔◌, ◌⊎◌, inl, inr, ℕ, ◌+◌, ◌≤◌, Bool, true, false, IsTrue, cond, ◌&&◌, List, [], ◌∷◌, ◌++◌, length, map, take, Option, None, Some, refl, sym, ◌∙◌, ap, subst, is_eq, arith, append-nil, length-append, ◌<◌, drop, get_or, take-append-drop, Ok, Err, IfOk}
use Rattle.std.specs.declared.result.Result.{Result}
use Rattle.std.proofs.lemmas.List.{take_more}
use Rattle.std.proofs.lemmas.Cmp.{nat_list_cmp_total}
use Rattle.std.proofs.lemmas.Map.Lookups.{exact_bytes}
use Rattle.std.proofs.lemmas.Bool.{and_parts, and_from}
use Rattle.std.specs.Option.{is_some}
use Rattle.std.specs.List.{list_all}
use Rattle.std.specs.Cmp.{Equal-is}
use Rattle.ctrl_model.specs.declared.formats.Format.{Format}
use Rattle.journal_core.specs.Slots.{record_of, records_of, slot_end}
use Rattle.row_codec.specs.declared.changes.Op.{Op}
use Rattle.row_codec.specs.declared.changes.Op.TheVariants.{Put, Delete}
use Rattle.row_codec.specs.RowDifference.{Entry, Rises, value_at, said_of, with_entry, IsTrueDifference}
use Rattle.row_codec.specs.Batches.{bytes_cmp, entry_of, entries_of, op_bytes, batch_bytes, IsBatch, Spells}
use Rattle.row_codec.proofs.BatchLaws.{one_batch}
use Rattle.row_laws.proofs.RisingRows.{Above, value_at-above, value_at-first}
use Rattle.row_laws.proofs.Differences.{said_of-same, said_of-other, true_says, true_from_says, Rises-with_batch}
use Rattle.slot_reading.specs.BatchRows.{ByteRows, Leads, GoesBy, MayLead, LeadFrom, Give, rows_after}
use Rattle.slot_reading.specs.Changes.{is_change}
use Rattle.slot_reading.specs.SlotReading.{Makes, MakesAt, Adds}

-- ---- one operation more

pub after-push : (rows : ByteRows) (ops : List Op) (op : Op) → rows_after rows (ops ++ op ∷ []) ≡ with_entry bytes_cmp (rows_after rows ops) (entry_of op)
after-push rows [] op = refl
after-push rows (first ∷ ops) op = after-push (with_entry bytes_cmp rows (entry_of first)) ops op

pub bytes-push : (ops : List Op) (op : Op) → length (batch_bytes (ops ++ op ∷ [])) ≡ length (batch_bytes ops) + length (op_bytes op)
bytes-push [] op = let e = ap length (append-nil (op_bytes op)) in omega (arith, e)
bytes-push (first ∷ ops) op =
    let whole = length-append (op_bytes first) (batch_bytes (ops ++ op ∷ [])) in
    let less = length-append (op_bytes first) (batch_bytes ops) in
    let rest = bytes-push ops op in
    omega arith

-- A batch of some operations has some bytes.
op_some : (op : Op) (rest : List ℕ) → 1 ≤ length (op_bytes op ++ rest)
op_some (Put key value) rest = omega arith
op_some (Delete key) rest = omega arith

pub bytes_some : (ops : List Op) → (ops ≡ [] → ⊥) → 1 ≤ length (batch_bytes ops)
bytes_some [] some = absurd (some refl)
bytes_some (op ∷ ops) some = op_some op (batch_bytes ops)

-- What a true difference says is something.
pub says_some : (rows : ByteRows) (ops : List Op) → IsTrueDifference bytes_cmp rows (entries_of ops) → ops ≡ [] → ⊥
says_some rows ops d e = d.some (ap entries_of e)

-- ---- true differences

is_said : (o : Option (Option (List ℕ))) → o ≡ None → is_some o ≡ true → ⊥
is_said o e s = let both : true ≡ false = sym s ∙ ap is_some e in cc

-- Where each operation changes the rows, no value that is said stands there.
pub each_says : (rows : ByteRows) (entries : List (Entry (List ℕ))) → list_all (is_change rows) entries ≡ true
    → (q : List ℕ) (said : Option (List ℕ)) → value_at bytes_cmp entries q ≡ Some said → value_at bytes_cmp rows q ≡ said → ⊥
each_says rows [] all q said here stands = let both : ◌≡◌ {A = Option (Option (List ℕ))} None (Some said) = here in cc
each_says rows (e ∷ es) all q said here stands =
    let parts = and_parts (is_change rows e) (list_all (is_change rows) es) all in
    by (is_eq (bytes_cmp e.0 q)) refl here (each_says rows es parts.1 q said) parts.0
  where
    by : (b : Bool) → is_eq (bytes_cmp e.0 q) ≡ b → cond b (Some e.1) (value_at bytes_cmp es q) ≡ Some said
        → (value_at bytes_cmp es q ≡ Some said → value_at bytes_cmp rows q ≡ said → ⊥) → is_change rows e ≡ true → ⊥
    by true is found later change =
        let key : e.0 ≡ q = exact_bytes e.0 q ((Equal-is (bytes_cmp e.0 q)).0 is) in
        let value : e.1 ≡ said = cc in
        is_said (said_of (value_at bytes_cmp rows e.0) e.1)
        (ap (λ (p : List ℕ). said_of (value_at bytes_cmp rows p) e.1) key ∙ ap (λ (o : Option (List ℕ)). said_of o e.1) (stands ∙ sym value) ∙ said_of-same e.1) change
    by false is found later change = later found stands

-- Where no value that is said stands there, each operation changes the rows.
pub says_each : (rows : ByteRows) (entries : List (Entry (List ℕ))) → Rises bytes_cmp entries
    → ((q : List ℕ) (said : Option (List ℕ)) → value_at bytes_cmp entries q ≡ Some said → value_at bytes_cmp rows q ≡ said → ⊥)
    → list_all (is_change rows) entries ≡ true
says_each rows [] r says = refl
says_each rows (e ∷ es) r says =
    and_from (is_change rows e) (list_all (is_change rows) es)
    (ap is_some (said_of-other (value_at bytes_cmp rows e.0) e.1 (says e.0 e.1 (value_at-first nat_list_cmp_total e es))))
    (says_each rows es r.1 (λ q said here. says q said (later q said here)))
  where
    later : (q : List ℕ) (said : Option (List ℕ)) → value_at bytes_cmp es q ≡ Some said → value_at bytes_cmp (e ∷ es) q ≡ Some said
    later q said here = by (is_eq (bytes_cmp e.0 q)) refl
      where
        by : (b : Bool) → is_eq (bytes_cmp e.0 q) ≡ b → cond b (Some e.1) (value_at bytes_cmp es q) ≡ Some said
        by true is =
            let key : e.0 ≡ q = exact_bytes e.0 q ((Equal-is (bytes_cmp e.0 q)).0 is) in
            let none : value_at bytes_cmp es q ≡ None = value_at-above nat_list_cmp_total es q (subst (λ (p : List ℕ). Above bytes_cmp p es) key r.0) in
            let both : ◌≡◌ {A = Option (Option (List ℕ))} None (Some said) = sym none ∙ here in
            absurd cc
        by false is = here

-- A batch that changes the rows in each operation is a true difference, and no other is.
pub is_true : (rows : ByteRows) (ops : List Op) → Rises bytes_cmp rows → IsBatch ops → (ops ≡ [] → ⊥) → list_all (is_change rows) (entries_of ops) ≡ true
    → IsTrueDifference bytes_cmp rows (entries_of ops)
is_true rows [] r batch some all = absurd (some refl)
is_true rows (op ∷ ops) r batch some all = true_from_says nat_list_cmp_total exact_bytes rows (entries_of (op ∷ ops)) r (record {
  some = λ e. cc;
  rises = batch.rises;
  changes = each_says rows (entries_of (op ∷ ops)) all;
})

pub true_each : (rows : ByteRows) (ops : List Op) → Rises bytes_cmp rows → IsTrueDifference bytes_cmp rows (entries_of ops) → list_all (is_change rows) (entries_of ops) ≡ true
true_each rows ops r d =
    let says = true_says nat_list_cmp_total exact_bytes rows (entries_of ops) r d in
    says_each rows (entries_of ops) says.rises says.changes

-- ---- what payloads lead to

pub Leads-of : (rows next : ByteRows) (payload : List ℕ) (ops : List Op) → Spells payload ops → IsTrueDifference bytes_cmp rows (entries_of ops) → next ≡ rows_after rows ops → Leads rows payload next
Leads-of rows next payload ops s d e = record { ops = ops; spelled = s; changes = d; after = e }

-- A payload that spells a batch leads on only where that is a true difference.
pub leads_nowhere : (rows : ByteRows) (payload : List ℕ) (ops : List Op) → Spells payload ops → (IsTrueDifference bytes_cmp rows (entries_of ops) → ⊥)
    → (next : ByteRows) → Leads rows payload next → ⊥
leads_nowhere rows payload ops s false_one next l =
    false_one (subst (λ (os : List Op). IsTrueDifference bytes_cmp rows (entries_of os)) (one_batch payload l.ops ops l.spelled s) l.changes)

-- A payload leads to one list of rows.
pub one_lead : (rows : ByteRows) (payload : List ℕ) (these others : ByteRows) → Leads rows payload these → Leads rows payload others → these ≡ others
one_lead rows payload these others l m =
    l.after ∙ ap (rows_after rows) (one_batch payload l.ops m.ops l.spelled m.spelled) ∙ sym m.after

-- So do several.
pub one_after : (f : Format) (rows : ByteRows) (payloads : List (List ℕ)) (these others : ByteRows) → LeadFrom f rows payloads these → LeadFrom f rows payloads others → these ≡ others
one_after f rows [] these others l m = l ∙ sym m
one_after f rows (payload ∷ payloads) these others l m =
    let same : l.0 ≡ m.0 = one_lead rows payload l.0 m.0 l.1 m.1 in
    one_after f m.0 payloads these others (subst (λ (r : ByteRows). LeadFrom f r payloads these) same l.3) m.3

-- One payload more.
lead-push : (f : Format) (rows : ByteRows) (payloads : List (List ℕ)) (payload : List ℕ) (here next : ByteRows) → LeadFrom f rows payloads here → Leads here payload next → GoesBy f here next
    → LeadFrom f rows (payloads ++ payload ∷ []) next
lead-push f rows [] payload here next l m g = (next, subst (λ (r : ByteRows). Leads r payload next) l m, subst (λ (r : ByteRows). GoesBy f r next) l g, refl)
lead-push f rows (first ∷ payloads) payload here next l m g = (l.0, l.1, l.2, lead-push f l.0 payloads payload here next l.3 m g)

-- Payloads in two parts.
lead_on : (f : Format) (rows : ByteRows) (payloads more : List (List ℕ)) (last : ByteRows) → LeadFrom f rows (payloads ++ more) last
    → (here : ByteRows) × LeadFrom f rows payloads here × LeadFrom f here more last
lead_on f rows [] more last l = (rows, refl, l)
lead_on f rows (payload ∷ payloads) more last l =
    let rest = lead_on f l.0 payloads more last l.3 in
    (rest.0, (l.0, l.1, l.2, rest.1), rest.2)

-- ---- what payloads give

-- Payloads give one list of rows.
pub one_give : (f : Format) (payloads : List (List ℕ)) (these others : ByteRows) → Give f payloads these → Give f payloads others → these ≡ others
one_give f [] these others p q = p ∙ sym q
one_give f (payload ∷ payloads) these others p q =
    let same : p.0 ≡ q.0 = one_lead [] payload p.0 q.0 p.1 q.1 in
    one_after f q.0 payloads these others (subst (λ (r : ByteRows). LeadFrom f r payloads these) same p.2) q.2

-- Behind a payload the next one goes by the format.
goes_behind : (f : Format) (first : List ℕ) (payloads : List (List ℕ)) (here next : ByteRows) → MayLead f (slot_end (first ∷ payloads)) here next → GoesBy f here next
goes_behind f first payloads here next (inl e) = absurd (omega (arith, e))
goes_behind f first payloads here next (inr g) = g

-- One payload more.
pub give-push : (f : Format) (payloads : List (List ℕ)) (payload : List ℕ) (here next : ByteRows) → Give f payloads here → Leads here payload next
    → MayLead f (slot_end payloads) here next → Give f (payloads ++ payload ∷ []) next
give-push f [] payload here next p l m = (next, subst (λ (r : ByteRows). Leads r payload next) p l, refl)
give-push f (first ∷ payloads) payload here next p l m = (p.0, p.1, lead-push f p.0 payloads payload here next p.2 l (goes_behind f first payloads here next m))

-- What the payloads before one give, and what that one leads to.
pub record GivesOn (f : Format) (payloads : List (List ℕ)) (payload : List ℕ) : Type 0 where
  pub here : ByteRows
  pub next : ByteRows
  pub give : Give f payloads here
  pub leads : Leads here payload next
  pub may : MayLead f (slot_end payloads) here next

pub give_on : (f : Format) (payloads : List (List ℕ)) (payload : List ℕ) (more : List (List ℕ)) (last : ByteRows) → Give f (payloads ++ payload ∷ more) last → GivesOn f payloads payload
give_on f [] payload more last p = record { here = []; next = p.0; give = refl; leads = p.1; may = inl refl }
give_on f (first ∷ payloads) payload more last p =
    let rest = lead_on f p.0 payloads (payload ∷ more) last p.2 in
    record { here = rest.0; next = rest.2.0; give = (p.0, p.1, rest.1); leads = rest.2.1; may = inr rest.2.2 }

-- The rows rise along the way.
pub rows_rise : (rows : ByteRows) (ops : List Op) → Rises bytes_cmp rows → Rises bytes_cmp (rows_after rows ops)
rows_rise rows ops r = Rises-with_batch nat_list_cmp_total exact_bytes rows (entries_of ops) r

-- Some operations were made.
pub record Changed (old now : ByteRows) (ops : List Op) : Type 0 where
  pub rises : Rises bytes_cmp now
  pub rows : now ≡ rows_after old ops

pub changed_none : (rows : ByteRows) → Rises bytes_cmp rows → Changed rows rows []
changed_none rows r = record { rises = r; rows = refl }

-- One more was made.
pub changed_next : (old now next : ByteRows) (ops : List Op) (op : Op) → Changed old now ops → Rises bytes_cmp next → next ≡ with_entry bytes_cmp now (entry_of op)
    → Changed old next (ops ++ op ∷ [])
changed_next old now next ops op c r e = record {
  rises = r;
  rows = e ∙ ap (λ (l : ByteRows). with_entry bytes_cmp l (entry_of op)) c.rows ∙ sym (after-push old ops op);
}

-- ---- operations so far

list_all-map : {X Y : Type 0} (f : Y → Bool) (g : X → Y) (xs : List X) → list_all f (map g xs) ≡ list_all (λ x. f (g x)) xs
list_all-map f g [] = refl
list_all-map f g (x ∷ xs) = ap (λ (b : Bool). f (g x) && b) (list_all-map f g xs)

-- What the test of a true difference answers for operations of which there are some.
pub tells_true : (rows : ByteRows) (ops : List Op) (all : Bool) → Rises bytes_cmp rows → IsBatch ops → (ops ≡ [] → ⊥)
    → all ≡ list_all (λ op. is_change rows (entry_of op)) ops → IsTrue all ↔ IsTrueDifference bytes_cmp rows (entries_of ops)
tells_true rows ops all r batch some e =
    let whole : list_all (is_change rows) (entries_of ops) ≡ all = list_all-map (is_change rows) entry_of ops ∙ sym e in
    (λ t. is_true rows ops r batch some (whole ∙ t), λ d. sym whole ∙ true_each rows ops r d)

-- Where operations were made, whether the serial allows them decides, and where they were not nothing does.
pub makes_at : (f : Format) (at : ℕ) (rows : ByteRows) (ops : List Op) (next : ByteRows) (may : Bool) → Makes rows ops next true → IsTrue may ↔ MayLead f at rows next → MakesAt f at rows ops next may
makes_at f at rows ops next true m tells = (m.0, m.1, tells.0 refl)
makes_at f at rows ops next false m tells = λ d l. let none : false ≡ true = tells.1 (subst (λ (r : ByteRows). MayLead f at rows r) (sym m.1) l) in absurd cc

pub makes_not : (f : Format) (at : ℕ) (rows : ByteRows) (ops : List Op) (next : ByteRows) → Makes rows ops next false → MakesAt f at rows ops next false
makes_not f at rows ops next m = λ d l. m d

-- A payload that spells a batch leads on, as far as a batch at a place of a slot may, only where its operations do.
leads_not : (f : Format) (at : ℕ) (rows : ByteRows) (payload : List ℕ) (ops : List Op) → Spells payload ops
    → (IsTrueDifference bytes_cmp rows (entries_of ops) → MayLead f at rows (rows_after rows ops) → ⊥) → (next : ByteRows) → Leads rows payload next → MayLead f at rows next → ⊥
leads_not f at rows payload ops s none next l m =
    let same : l.ops ≡ ops = one_batch payload l.ops ops l.spelled s in
    none (subst (λ (os : List Op). IsTrueDifference bytes_cmp rows (entries_of os)) same l.changes)
    (subst (λ (r : ByteRows). MayLead f at rows r) (l.after ∙ ap (rows_after rows) same) m)

-- What an addition tells, from what its operations do.
pub adds_from : {E : Type 0} (f : Format) (at : ℕ) (rows : ByteRows) (payload : List ℕ) (ops : List Op) (next : ByteRows) (result : Result Bool E) → Spells payload ops
    → IfOk result (λ made. MakesAt f at rows ops next made) → IfOk result (λ added. Adds f at rows payload next added)
adds_from f at rows payload ops next (Ok true) s m = (Leads-of rows next payload ops s m.0 m.1, m.2)
adds_from f at rows payload ops next (Ok false) s m = leads_not f at rows payload ops s m
adds_from f at rows payload ops next (Err e) s m = tt

-- ---- how many bytes the first operations have

bytes_behind : (ops more : List Op) → length (batch_bytes (ops ++ more)) ≡ length (batch_bytes ops) + length (batch_bytes more)
bytes_behind [] more = omega arith
bytes_behind (op ∷ ops) more =
    let whole = length-append (op_bytes op) (batch_bytes (ops ++ more)) in
    let less = length-append (op_bytes op) (batch_bytes ops) in
    let rest = bytes_behind ops more in
    omega arith

pub bytes_step : (ops : List Op) (i : ℕ) (op : Op) → i < length ops → op ≡ get_or ops i op → length (batch_bytes (take (i + 1) ops)) ≡ length (batch_bytes (take i ops)) + length (op_bytes op)
bytes_step ops i op within is =
    ap (λ (os : List Op). length (batch_bytes os)) (take_more ops i op within ∙ ap (λ (o : Op). take i ops ++ o ∷ []) (sym is)) ∙ bytes-push (take i ops) op

-- Where the next operation has no room, the whole has none.
pub no_room : (ops : List Op) (i : ℕ) (op : Op) (left room size : ℕ) → i < length ops → op ≡ get_or ops i op → size ≡ length (op_bytes op)
    → left + length (batch_bytes (take i ops)) ≡ room → left < size → length (batch_bytes ops) ≤ room → ⊥
no_room ops i op left room size within is e kept small fits =
    let step = bytes_step ops i op within is in
    let whole = bytes_behind (take (i + 1) ops) (drop (i + 1) ops) in
    let all : length (batch_bytes (take (i + 1) ops ++ drop (i + 1) ops)) ≡ length (batch_bytes ops) = ap (λ (os : List Op). length (batch_bytes os)) (take-append-drop (i + 1) ops) in
    omega arith
