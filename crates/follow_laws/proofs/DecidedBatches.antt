-- What becomes of the batches of a history that a copy of it receives.
use Rattle.std.proofs.Common.{◌≡◌, ℕ, zero, suc, ◌+◌, ◌<◌, ◌≤◌, ◌==◌, ◌&&◌, ◌||◌, nat_lt, nat_le, Bool, true, false, not, cond, List, [], ◌∷◌, ◌++◌, length, None, Some, refl, sym, ap, ◌∙◌, subst, inl, inr, arith}
use Rattle.std.specs.Prelude.{⊤, ◌⊎◌}
use Rattle.std.specs.declared.option.Option.{Option}
use Rattle.std.specs.Option.{option_map_or, unwrap_or}
use Rattle.std.specs.Cmp.Derive.{both_true}
use Rattle.std.proofs.lemmas.Bool.{eq-eqb, eqb-true, and_parts, lt-ltb}
use Rattle.std.proofs.lemmas.Bool.Decides.{nat_tests}
use Rattle.ctrl_model.specs.declared.formats.Format.TheVariants.{Two}
use Rattle.ctrl_model.specs.State.{State, start}
use Rattle.ctrl_model.proofs.DistinctLaws.{same_bytes}
use Rattle.ship_frames.specs.declared.shipments.Shipment.{Shipment}
use Rattle.ship_frames.specs.declared.shipments.Sort.{Sort}
use Rattle.ship_frames.specs.declared.shipments.Sort.TheVariants.{Whole, Next}
use Rattle.ship_frames.specs.GatheredPieces.{Parts}
use Rattle.row_codec.specs.declared.changes.Op.{Op}
use Rattle.slot_reading.specs.BatchRows.{ByteRows, rows_after, serial_of}
use Rattle.row_store.specs.declared.bounds.StoreBounds.{StoreBounds}
use Rattle.row_store.specs.OpenedStates.{byte_rows_of}
use Rattle.row_store.proofs.StateRows.{start_rows}
use Rattle.row_judging.proofs.SerialRows.{serial_of_state}
use Rattle.follow_core.specs.declared.taken.Taken.{Taken}
use Rattle.follow_core.specs.declared.taken.Taken.TheVariants.{Took, Repeat, Ahead, BadBatch, Differs, Full, MarkFull}
use Rattle.follow_core.specs.BatchBytes.{batch_in, is_true_difference}
use Rattle.follow_core.specs.Following.{Copy, own_serial, has_record, record_of, kept_of, first_other, rows_before, rows_behind, copy_behind, is_whole_of, is_no_whole, is_past, beside, is_ahead, are_of_serial, leads_nowhere, fills_slot, fills_mark, decided, received}
use Rattle.follow_laws.specs.Histories.{IsHistory, state_at, state_before, history_of, shipment_of, nexts_behind, IsAt, IsNotBefore, IsOfHistory}
use Rattle.follow_laws.proofs.HistoryStates.{LeadsTo, IsBatchFrom, valid_at, batch_from}

-- ---- tests

by_test : (P : Taken × Copy → Type 0) (b : Bool) (x y : Taken × Copy) → (b ≡ true → P x) → (b ≡ false → P y) → P (cond b x y)
by_test P true x y so other = so refl
by_test P false x y so other = other refl

and_second : (a b : Bool) → a ≡ true → (a && b) ≡ false → b ≡ false
and_second true b e f = f
and_second false b e f = absurd cc

or_false : (a b : Bool) → (a || b) ≡ false → (a ≡ false) × (b ≡ false)
or_false true b e = absurd cc
or_false false b e = (refl, e)

not_false : (b : Bool) → not b ≡ false → b ≡ true
not_false true e = refl
not_false false e = absurd cc

true_not : (b : Bool) → b ≡ true → not b ≡ false
true_not true e = refl
true_not false e = absurd cc

above : (a b : ℕ) → nat_le a b ≡ false → b < a
above a b e = grind (arith, nat_tests)

upto : (a b : ℕ) → nat_lt a b ≡ false → b ≤ a
upto a b e = grind (arith, nat_tests)

-- ---- a copy that stands at a serial

-- As many Nexts as were counted.
nexts_len : (states : List State) (serial count : ℕ) → length (nexts_behind states serial count) ≡ count
nexts_len states serial zero = refl
nexts_len states serial (suc count) = ap suc (nexts_len states (serial + 1) count)

-- One Next more.
nexts_push : (states : List State) (serial count : ℕ)
    → nexts_behind states serial count ++ history_of states Next (suc (serial + count)) ∷ [] ≡ nexts_behind states serial (suc count)
nexts_push states serial zero =
    let at : suc (serial + 0) ≡ serial + 1 = omega arith in
    ap (λ (n : ℕ). history_of states Next n ∷ []) at
nexts_push states serial (suc count) =
    let at : suc (serial + suc count) ≡ suc (serial + 1 + count) = omega arith in
    ap (λ (n : ℕ). history_of states Next (serial + 1) ∷ (nexts_behind states (serial + 1) count ++ history_of states Next n ∷ [])) at
    ∙ ap (λ (l : List (List ℕ)). history_of states Next (serial + 1) ∷ l) (nexts_push states (serial + 1) count)

-- The copy has a record, and the serial is its own.
at_record : (states : List State) (serial : ℕ) (c : Copy) → IsAt states (Some serial) c → has_record c ≡ true
at_record states serial c at =
    ap (λ (l : List (List ℕ)). nat_lt 0 (length l)) at.kept ∙ lt-ltb 0 (suc (length (nexts_behind states at.first at.behind))) (omega arith)

at_serial : (states : List State) (serial : ℕ) (c : Copy) → IsHistory states → IsAt states (Some serial) c → own_serial c ≡ serial
at_serial states serial c history at =
    let found = valid_at states serial at.state history at.there in
    ap (λ (r : ByteRows). unwrap_or (serial_of r) 0) at.rows_are ∙ ap (λ (o : Option ℕ). unwrap_or o 0) (serial_of_state at.state found.0) ∙ found.1

-- A kept batch of a sort and a serial is the one of the history.
abbrev IsSame : List ℕ → Option (List ℕ) → Type 0
IsSame bytes None = ⊤
IsSame bytes (Some kept) = kept ≡ bytes

one_kept : (bytes kept : List ℕ) (b : Bool) (other : Option (List ℕ)) → (b ≡ true → kept ≡ bytes) → IsSame bytes other → IsSame bytes (cond b (Some kept) other)
one_kept bytes kept true other same rest = same refl
one_kept bytes kept false other same rest = rest

next_kept : (states : List State) (serial own from count : ℕ) → from + count ≡ own → IsSame (history_of states Next serial) (record_of serial own (nexts_behind states from count))
next_kept states serial own from zero last = tt
next_kept states serial own from (suc count) last =
    let more = nexts_behind states (from + 1) count in
    one_kept (history_of states Next serial) (history_of states Next (from + 1)) (serial + length more == own) (record_of serial own more)
    (λ e. ap (history_of states Next) (same (length more) (eqb-true (serial + length more) own e) (nexts_len states (from + 1) count)))
    (next_kept states serial own (from + 1) count (omega (arith, last)))
  where
    same : (len : ℕ) → serial + len ≡ own → len ≡ count → from + 1 ≡ serial
    same len e many = omega (arith, e, many, last)

kept_same : (states : List State) (sort : Sort) (serial own first behind : ℕ) → first + behind ≡ own
    → IsSame (history_of states sort serial) (kept_of sort serial own (history_of states Whole first ∷ nexts_behind states first behind))
kept_same states Whole serial own first behind last =
    let more = nexts_behind states first behind in
    one_kept (history_of states Whole serial) (history_of states Whole first) (serial + length more == own) None
    (λ e. ap (history_of states Whole) (same (length more) (eqb-true (serial + length more) own e) (nexts_len states first behind))) tt
  where
    same : (len : ℕ) → serial + len ≡ own → len ≡ behind → first ≡ serial
    same len e many = omega (arith, e, many, last)
kept_same states Next serial own first behind last = next_kept states serial own first behind last

-- What it is told beside a batch is no fault.
beside_fine : (s : Shipment) (kept : Option (List ℕ)) → IsSame s.bytes kept → IsOfHistory (beside s kept)
beside_fine s None same = tt
beside_fine s (Some kept) same =
    subst (λ (b : Bool). IsOfHistory (cond b Repeat (Differs s.serial (first_other kept s.bytes)))) (sym (same_bytes kept s.bytes same)) tt

-- ---- the cases

-- What is left of the cases behind each of them.
abbrev if_room : StoreBounds → Shipment → List Op → Copy → Taken × Copy
if_room bounds s ops c = cond (fills_slot bounds s c) (Full, c) (cond (fills_mark bounds s c) (MarkFull, c) (Took, copy_behind s ops c))

abbrev if_leads : StoreBounds → Shipment → List Op → Copy → Taken × Copy
if_leads bounds s ops c = cond (leads_nowhere s ops c) (BadBatch, c) (if_room bounds s ops c)

abbrev if_next : StoreBounds → Shipment → List Op → Copy → Taken × Copy
if_next bounds s ops c = cond (is_ahead s c) (Ahead, c) (if_leads bounds s ops c)

abbrev if_new : StoreBounds → Shipment → List Op → Copy → Taken × Copy
if_new bounds s ops c = cond (is_past s c) (beside s (kept_of s.sort s.serial (own_serial c) c.records), c) (if_next bounds s ops c)

-- A batch was taken, and the copy stands at its serial; or there was no room, and the copy stays.
pub record Keeps (states : List State) (serial : ℕ) (c : Copy) (x : Taken × Copy) : Type 0 where
  pub either : ((x.0 ≡ Took) × IsAt states (Some serial) x.1) ⊎ ((x.1 ≡ c) × ((x.0 ≡ Full) ⊎ (x.0 ≡ MarkFull)))
  pub parts : x.1.parts ≡ c.parts

keeps : (states : List State) (bounds : StoreBounds) (s : Shipment) (ops : List Op) (c : Copy) → IsAt states (Some s.serial) (copy_behind s ops c)
    → Keeps states s.serial c (if_room bounds s ops c)
keeps states bounds s ops c at =
    by_test (Keeps states s.serial c) (fills_slot bounds s c) (Full, c) (cond (fills_mark bounds s c) (MarkFull, c) (Took, copy_behind s ops c))
    (λ e. record { either = inr (refl, inl refl); parts = refl })
    (λ e. by_test (Keeps states s.serial c) (fills_mark bounds s c) (MarkFull, c) (Took, copy_behind s ops c)
    (λ f. record { either = inr (refl, inr refl); parts = refl })
    (λ f. record { either = inl (refl, at); parts = refl }))

-- A batch was answered as one of the history, and the copy stands at no earlier serial.
pub record Goes (states : List State) (at : Option ℕ) (parts : Option Parts) (x : Taken × Copy) : Type 0 where
  pub fine : IsOfHistory x.0
  pub later : Option ℕ
  pub further : IsNotBefore at later
  pub there : IsAt states later x.1
  pub parts_stay : x.1.parts ≡ parts

not_before_itself : (at : Option ℕ) → IsNotBefore at at
not_before_itself None = tt
not_before_itself (Some serial) = omega arith

pub stays : (states : List State) (at : Option ℕ) (c : Copy) (taken : Taken) → IsAt states at c → IsOfHistory taken → Goes states at c.parts (taken, c)
stays states at c taken here fine = record { fine = fine; later = at; further = not_before_itself at; there = here; parts_stay = refl }

kept_goes : (states : List State) (at : Option ℕ) (serial : ℕ) (c : Copy) (x : Taken × Copy) → IsAt states at c → IsNotBefore at (Some serial) → Keeps states serial c x → Goes states at c.parts x
kept_goes states at serial c x here further k =
    elim k.either [
      | inl took ↦ record { fine = subst IsOfHistory (sym took.0) tt; later = Some serial; further = further; there = took.1; parts_stay = k.parts }
      | inr full ↦ record {
        fine = elim full.1 [ inl e ↦ subst IsOfHistory (sym e) tt | inr e ↦ subst IsOfHistory (sym e) tt ];
        later = at;
        further = not_before_itself at;
        there = subst (IsAt states at) (sym full.0) here;
        parts_stay = k.parts;
      }
    ]

-- What a batch does that comes neither too late nor too early.
pub record LeadsOn (states : List State) (at : Option ℕ) (s : Shipment) (ops : List Op) (c : Copy) : Type 0 where
  pub leads : leads_nowhere s ops c ≡ false
  pub behind : IsAt states (Some s.serial) (copy_behind s ops c)
  pub further : IsNotBefore at (Some s.serial)

-- A batch that is past is told beside the kept one.
past_goes : (states : List State) (at : Option ℕ) (s : Shipment) (c : Copy) → IsHistory states → IsAt states at c → s.bytes ≡ history_of states s.sort s.serial → is_past s c ≡ true
    → Goes states at c.parts (beside s (kept_of s.sort s.serial (own_serial c) c.records), c)
past_goes states None s c history here same past =
    let record_none : has_record c ≡ false = ap (λ (l : List (List ℕ)). nat_lt 0 (length l)) here.1 in
    let record_some : has_record c ≡ true = (and_parts (has_record c) (nat_le s.serial (own_serial c)) past).0 in
    absurd cc
past_goes states (Some serial) s c history here same past =
    let own : own_serial c ≡ serial = at_serial states serial c history here in
    let last : here.first + here.behind ≡ own_serial c = here.last ∙ sym own in
    let kept = kept_same states s.sort s.serial (own_serial c) here.first here.behind last in
    let found : IsSame s.bytes (kept_of s.sort s.serial (own_serial c) c.records) =
    subst (λ (l : List (List ℕ)). IsSame s.bytes (kept_of s.sort s.serial (own_serial c) l)) (sym here.kept)
    (subst (λ (b : List ℕ). IsSame b (kept_of s.sort s.serial (own_serial c) (history_of states Whole here.first ∷ nexts_behind states here.first here.behind))) (sym same) kept) in
    stays states (Some serial) c (beside s (kept_of s.sort s.serial (own_serial c) c.records)) here (beside_fine s (kept_of s.sort s.serial (own_serial c) c.records) found)

decided_goes : (states : List State) (at : Option ℕ) (bounds : StoreBounds) (s : Shipment) (ops : List Op) (c : Copy) → IsHistory states → IsAt states at c
    → s.bytes ≡ history_of states s.sort s.serial → is_no_whole s ops ≡ false → (is_past s c ≡ false → is_ahead s c ≡ false → LeadsOn states at s ops c)
    → Goes states at c.parts (decided bounds s ops c)
decided_goes states at bounds s ops c history here same no_whole on =
    by_test G (is_no_whole s ops) (BadBatch, c) (if_new bounds s ops c) (λ e. absurd cc)
    (λ e. by_test G (is_past s c) (beside s (kept_of s.sort s.serial (own_serial c) c.records), c) (if_next bounds s ops c) (past_goes states at s c history here same)
    (λ new. by_test G (is_ahead s c) (Ahead, c) (if_leads bounds s ops c) (λ f. stays states at c Ahead here tt)
    (λ next. by_test G (leads_nowhere s ops c) (BadBatch, c) (if_room bounds s ops c)
    (λ f. let no = (on new next).leads in absurd cc)
    (λ f. kept_goes states at s.serial c (if_room bounds s ops c) here (on new next).further (keeps states bounds s ops c (on new next).behind)))))
  where
    G : Taken × Copy → Type 0
    G = Goes states at c.parts

decided_keeps : (states : List State) (at : Option ℕ) (bounds : StoreBounds) (s : Shipment) (ops : List Op) (c : Copy) → is_no_whole s ops ≡ false → is_past s c ≡ false → is_ahead s c ≡ false
    → LeadsOn states at s ops c → Keeps states s.serial c (decided bounds s ops c)
decided_keeps states at bounds s ops c no_whole new next on =
    by_test K (is_no_whole s ops) (BadBatch, c) (if_new bounds s ops c) (λ e. absurd cc)
    (λ e. by_test K (is_past s c) (beside s (kept_of s.sort s.serial (own_serial c) c.records), c) (if_next bounds s ops c) (λ f. absurd cc)
    (λ f. by_test K (is_ahead s c) (Ahead, c) (if_leads bounds s ops c) (λ g. absurd cc)
    (λ g. by_test K (leads_nowhere s ops c) (BadBatch, c) (if_room bounds s ops c) (λ h. let no = on.leads in absurd cc)
    (λ h. keeps states bounds s ops c on.behind))))
  where
    K : Taken × Copy → Type 0
    K = Keeps states s.serial c

-- ---- the two sorts

leads_somewhere : (s : Shipment) (ops : List Op) (c : Copy) (after : State) → LeadsTo (rows_before s.sort c) ops s.serial after → leads_nowhere s ops c ≡ false
leads_somewhere s ops c after leads =
    true_not (is_true_difference (rows_before s.sort c) ops && are_of_serial s.serial (rows_behind s.sort ops c)) (both_true leads.change (ap (are_of_serial s.serial) leads.after ∙ leads.are))

-- A Whole leads on from whatever the copy has.
whole_leads : (states : List State) (serial : ℕ) → (batch : IsBatchFrom states Whole serial) → LeadsTo [] batch.ops serial batch.after
whole_leads states serial batch =
    let from = batch.from in
    let same : start ≡ batch.before = cc in
    subst (λ (r : ByteRows). LeadsTo r batch.ops serial batch.after) (ap (byte_rows_of Two) (sym same) ∙ start_rows Two) batch.leads

no_bad_whole : (states : List State) (serial : ℕ) → (batch : IsBatchFrom states Whole serial) → is_no_whole (shipment_of states Whole serial) batch.ops ≡ false
no_bad_whole states serial batch =
    let leads = whole_leads states serial batch in
    let tells : option_map_or (λ n. n == serial) (serial_of (rows_after [] batch.ops)) false ≡ true =
    ap (λ (r : ByteRows). option_map_or (λ n. n == serial) (serial_of r) false) leads.after ∙ ap (λ (o : Option ℕ). option_map_or (λ n. n == serial) o false) leads.tells ∙ eq-eqb serial serial refl in
    true_not (is_whole_of serial batch.ops) (both_true leads.change tells)

not_past : (at : Option ℕ) (states : List State) (s : Shipment) (c : Copy) → IsHistory states → IsAt states at c → is_past s c ≡ false → IsNotBefore at (Some s.serial)
not_past None states s c history here new = tt
not_past (Some serial) states s c history here new =
    let later : own_serial c < s.serial = above s.serial (own_serial c) (and_second (has_record c) (nat_le s.serial (own_serial c)) (at_record states serial c here) new) in
    let own : own_serial c ≡ serial = at_serial states serial c history here in
    below (own_serial c) s.serial serial later own
  where
    below : (a b n : ℕ) → a < b → a ≡ n → n ≤ b
    below a b n less e = omega (arith, less, e)

whole_on : (states : List State) (at : Option ℕ) (serial : ℕ) (c : Copy) (batch : IsBatchFrom states Whole serial) → IsHistory states → IsAt states at c
    → is_past (shipment_of states Whole serial) c ≡ false → LeadsOn states at (shipment_of states Whole serial) batch.ops c
whole_on states at serial c batch history here new =
    let leads = whole_leads states serial batch in
    record {
      leads = leads_somewhere (shipment_of states Whole serial) batch.ops c batch.after leads;
      behind = record { state = batch.after; there = batch.there; rows_are = leads.after; first = serial; behind = 0; last = omega arith; kept = refl };
      further = not_past at states (shipment_of states Whole serial) c history here new;
    }

-- A Next leads on where the copy stands at the serial before.
next_on_at : (states : List State) (own serial : ℕ) (c : Copy) (batch : IsBatchFrom states Next serial) → IsAt states (Some own) c → serial ≡ suc own
    → LeadsOn states (Some own) (shipment_of states Next serial) batch.ops c
next_on_at states own serial c batch here is =
    let found : state_at states own ≡ Some batch.before = ap (state_before states Next) (sym is) ∙ batch.from in
    let there = here.there in
    let same : batch.before ≡ here.state = cc in
    let rows : byte_rows_of Two batch.before ≡ c.rows = ap (byte_rows_of Two) same ∙ sym here.rows_are in
    let leads : LeadsTo c.rows batch.ops serial batch.after = subst (λ (r : ByteRows). LeadsTo r batch.ops serial batch.after) rows batch.leads in
    let last : serial ≡ suc (here.first + here.behind) = is ∙ ap suc (sym here.last) in
    record {
      leads = leads_somewhere (shipment_of states Next serial) batch.ops c batch.after leads;
      behind = record {
        state = batch.after;
        there = batch.there;
        rows_are = leads.after;
        first = here.first;
        behind = suc here.behind;
        last = one_more here.first here.behind serial last;
        kept = ap (λ (l : List (List ℕ)). l ++ history_of states Next serial ∷ []) here.kept
            ∙ ap (λ (n : ℕ). history_of states Whole here.first ∷ (nexts_behind states here.first here.behind ++ history_of states Next n ∷ [])) last
            ∙ ap (λ (l : List (List ℕ)). history_of states Whole here.first ∷ l) (nexts_push states here.first here.behind);
      };
      further = not_less own serial is;
    }
  where
    one_more : (a b n : ℕ) → n ≡ suc (a + b) → a + suc b ≡ n
    one_more a b n e = omega (arith, e)

    not_less : (a b : ℕ) → b ≡ suc a → a ≤ b
    not_less a b e = omega (arith, e)

next_on : (states : List State) (at : Option ℕ) (serial : ℕ) (c : Copy) (batch : IsBatchFrom states Next serial) → IsHistory states → IsAt states at c
    → is_past (shipment_of states Next serial) c ≡ false → is_ahead (shipment_of states Next serial) c ≡ false → LeadsOn states at (shipment_of states Next serial) batch.ops c
next_on states None serial c batch history here new next =
    let parts = or_false (not (has_record c)) (nat_lt (own_serial c + 1) serial) next in
    let record_some : has_record c ≡ true = not_false (has_record c) parts.0 in
    let record_none : has_record c ≡ false = ap (λ (l : List (List ℕ)). nat_lt 0 (length l)) here.1 in
    absurd cc
next_on states (Some own) serial c batch history here new next =
    let parts = or_false (not (has_record c)) (nat_lt (own_serial c + 1) serial) next in
    let later : own_serial c < serial = above serial (own_serial c) (and_second (has_record c) (nat_le serial (own_serial c)) (at_record states own c here) new) in
    let near : serial ≤ own_serial c + 1 = upto (own_serial c + 1) serial parts.1 in
    next_on_at states own serial c batch here (one_more (own_serial c) own serial later near (at_serial states own c history here))
  where
    one_more : (a b n : ℕ) → a < n → n ≤ a + 1 → a ≡ b → n ≡ suc b
    one_more a b n less near e = omega (arith, less, near, e)

-- ---- what is received

-- A batch whose bytes spell operations.
received_ops : (bounds : StoreBounds) (s : Shipment) (c : Copy) (ops : List Op) → batch_in s.bytes ≡ Some ops → received bounds s c ≡ decided bounds s ops c
received_ops bounds s c ops read = ap (λ (o : Option (List Op)). option_map_or (λ l. decided bounds s l c) o (BadBatch, c)) read

sort_goes : (sort : Sort) (states : List State) (at : Option ℕ) (bounds : StoreBounds) (serial : ℕ) (c : Copy) (batch : IsBatchFrom states sort serial) → IsHistory states → IsAt states at c
    → Goes states at c.parts (decided bounds (shipment_of states sort serial) batch.ops c)
sort_goes Whole states at bounds serial c batch history here =
    decided_goes states at bounds (shipment_of states Whole serial) batch.ops c history here refl (no_bad_whole states serial batch) (λ new next. whole_on states at serial c batch history here new)
sort_goes Next states at bounds serial c batch history here =
    decided_goes states at bounds (shipment_of states Next serial) batch.ops c history here refl refl (next_on states at serial c batch history here)

pub received_goes : (states : List State) (at : Option ℕ) (bounds : StoreBounds) (s : Shipment) (c : Copy) → IsHistory states → IsAt states at c
    → s.bytes ≡ history_of states s.sort s.serial → 1 ≤ length s.bytes → Goes states at c.parts (received bounds s c)
received_goes states at bounds s c history here same some =
    let bytes : 1 ≤ length (history_of states s.sort s.serial) = subst (λ (b : List ℕ). 1 ≤ length b) same some in
    let batch = batch_from states s.sort s.serial history bytes in
    let shipment : s ≡ shipment_of states s.sort s.serial = ap (λ (b : List ℕ). record s { bytes = b }) same in
    subst (λ (x : Shipment). Goes states at c.parts (received bounds x c)) (sym shipment)
    (subst (Goes states at c.parts) (sym (received_ops bounds (shipment_of states s.sort s.serial) c batch.ops batch.read))
    (sort_goes s.sort states at bounds s.serial c batch history here))

-- The Whole of a serial, where the copy has no record, and the Next behind the serial at which it stands: they are taken where there is room.
pub whole_keeps : (states : List State) (bounds : StoreBounds) (serial : ℕ) (c : Copy) → IsHistory states → IsAt states None c → 1 ≤ length (history_of states Whole serial)
    → Keeps states serial c (received bounds (shipment_of states Whole serial) c)
whole_keeps states bounds serial c history here some =
    let batch = batch_from states Whole serial history some in
    let none : has_record c ≡ false = ap (λ (l : List (List ℕ)). nat_lt 0 (length l)) here.1 in
    let new : is_past (shipment_of states Whole serial) c ≡ false = ap (λ (b : Bool). b && nat_le serial (own_serial c)) none in
    subst (Keeps states serial c) (sym (received_ops bounds (shipment_of states Whole serial) c batch.ops batch.read))
    (decided_keeps states None bounds (shipment_of states Whole serial) batch.ops c (no_bad_whole states serial batch) new refl (whole_on states None serial c batch history here new))

pub next_keeps : (states : List State) (bounds : StoreBounds) (own serial : ℕ) (c : Copy) → IsHistory states → IsAt states (Some own) c → serial ≡ suc own
    → 1 ≤ length (history_of states Next serial) → Keeps states serial c (received bounds (shipment_of states Next serial) c)
next_keeps states bounds own serial c history here is some =
    let batch = batch_from states Next serial history some in
    let kept : has_record c ≡ true = at_record states own c here in
    let stands : own_serial c ≡ own = at_serial states own c history here in
    let late : nat_le serial (own_serial c) ≡ false = no_le serial (own_serial c) (less serial own (own_serial c) is stands) in
    let early : nat_lt (own_serial c + 1) serial ≡ false = no_lt (own_serial c + 1) serial (near serial own (own_serial c) is stands) in
    let new : is_past (shipment_of states Next serial) c ≡ false = ap (λ (b : Bool). has_record c && b) late ∙ and_none (has_record c) in
    let next : is_ahead (shipment_of states Next serial) c ≡ false = ap (λ (b : Bool). not b || nat_lt (own_serial c + 1) serial) kept ∙ early in
    subst (Keeps states serial c) (sym (received_ops bounds (shipment_of states Next serial) c batch.ops batch.read))
    (decided_keeps states (Some own) bounds (shipment_of states Next serial) batch.ops c refl new next (next_on_at states own serial c batch here is))
  where
    less : (n a b : ℕ) → n ≡ suc a → b ≡ a → b < n
    less n a b e f = omega (arith, e, f)

    near : (n a b : ℕ) → n ≡ suc a → b ≡ a → n ≤ b + 1
    near n a b e f = omega (arith, e, f)

    no_le : (a b : ℕ) → b < a → nat_le a b ≡ false
    no_le a b e = grind (arith, nat_tests)

    no_lt : (a b : ℕ) → b ≤ a → nat_lt a b ≡ false
    no_lt a b e = grind (arith, nat_tests)

    and_none : (b : Bool) → (b && false) ≡ false
    and_none true = refl
    and_none false = refl
