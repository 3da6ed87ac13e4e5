-- Laws on loads that are counted anew.
use Rattle.std.proofs.Common.{◌≡◌, ◌≢◌, ℕ, ◌+◌, ◌<◌, ◌==◌, ◌||◌, Bool, true, false, cond, List, length, take, get_or, unwrap_or, refl, sym, ◌∙◌, ap, arith, eqb-true, eq-eqb}
use Rattle.std.proofs.lemmas.Bool.{false≢true}
use Rattle.std.proofs.lemmas.List.{take_more}
use Rattle.std.proofs.lemmas.List.Sums.{count_by-le-length}
use Rattle.ctrl_model.specs.declared.kinds.Kind.TheVariants as kind
use Rattle.ctrl_model.specs.Limits.{limit}
use Rattle.ctrl_model.specs.Networks.{open_circuits}
use Rattle.ctrl_model.specs.Numbered.{is_present, numbers}
use Rattle.ctrl_model.specs.Walks.{is_among}
use Rattle.ctrl_model.proofs.NumberedLaws.{among_present, at-edit_at-other}
use Rattle.record_tables.proofs.GoneLaws.{among-append}
use Rattle.terminators.specs.TermTables.{TermTables, KeepsTerms, with_open, open_at}
use Rattle.core_stores.specs.OpenCircuits.{ChangesLoads, CountsAnew, CountsMore, EndThere, SetsEach}
use Rattle.core_stores.specs.declared.stores.Stores.{Stores}
use Rattle.core_stores.specs.StoredState.{state_of}

-- one more of some numbers is looked at
is_among-more : (n : ℕ) (xs : List ℕ) (i : ℕ) → i < length xs → is_among n (take (i + 1) xs) ≡ (is_among n (take i xs) || (n == get_or xs i 0))
is_among-more n xs i h = ap (is_among n) (take_more xs i 0 h) ∙ among-append n (get_or xs i 0) (take i xs)

-- one more load is set
pub set-more : (loads : ℕ → ℕ) (ns : List ℕ) (i : ℕ) → i < length ns → (old mid new : TermTables) → SetsEach loads (take i ns) old mid
    → new ≡ with_open (get_or ns i 0) (loads (get_or ns i 0)) mid → open_at new (get_or ns i 0) ≡ loads (get_or ns i 0) → SetsEach loads (take (i + 1) ns) old new
set-more loads ns i below old mid new so_far is here = record {
  terminators = ap (λ (t : TermTables). t.terminators) is ∙ so_far.terminators;
  each = λ n. by n (n == get_or ns i 0) refl ∙ ap (λ b. cond b (loads n) (open_at old n)) (sym (is_among-more n ns i below));
}
  where
    by : (n : ℕ) (b : Bool) → (n == get_or ns i 0) ≡ b → open_at new n ≡ cond (is_among n (take i ns) || (n == get_or ns i 0)) (loads n) (open_at old n)
    by n true e =
        ap (open_at new) (eqb-true n (get_or ns i 0) e) ∙ here ∙ ap loads (sym (eqb-true n (get_or ns i 0) e))
        ∙ sym (ap (λ b. cond (is_among n (take i ns) || b) (loads n) (open_at old n)) e ∙ set (is_among n (take i ns)))
      where
        set : (b : Bool) → cond (b || true) (loads n) (open_at old n) ≡ loads n
        set true = refl
        set false = refl
    by n false e =
        ap (λ t. open_at t n) is
        ∙ ap (λ o. unwrap_or o 0) (at-edit_at-other mid.loads (get_or ns i 0) n (λ old. loads (get_or ns i 0)) (apart n (get_or ns i 0) e))
        ∙ so_far.each n
        ∙ sym (ap (λ b. cond (is_among n (take i ns) || b) (loads n) (open_at old n)) e ∙ kept (is_among n (take i ns)))
      where
        apart : (a b : ℕ) → (a == b) ≡ false → a ≢ b
        apart a b t s = absurd (false≢true (sym t ∙ eq-eqb a b s))

        kept : (b : Bool) → cond (b || false) (loads n) (open_at old n) ≡ cond b (loads n) (open_at old n)
        kept true = refl
        kept false = refl

-- stores of which the terminators are others
abbrev pub with_terminators : TermTables → Stores → Stores
with_terminators t st = record st { terminators = t }

-- only the loads are others where the table of terminators is the same
only_loads : (st : Stores) (new : TermTables) → new.terminators ≡ st.terminators.terminators → ChangesLoads st (with_terminators new st)
only_loads st new is = record { same = λ i. record (state_of st) { terminators = is i }; entities = refl; policies = refl; counts = refl }

-- the loads of all present terminators are set to what is counted
pub counted_anew : (st : Stores) (loads : ℕ → ℕ) (new : TermTables) → KeepsTerms st.terminators → ((n : ℕ) → loads n ≡ open_circuits (state_of st) n)
    → SetsEach loads (numbers st.terminators.terminators.rows) st.terminators new → CountsAnew st (with_terminators new st)
counted_anew st loads new kept counted each = record { changes = only_loads st new each.terminators; counted = λ n. each.each n ∙ by n (is_present st.terminators.terminators.rows n) refl }
  where
    there : ℕ → Bool
    there n = is_among n (numbers st.terminators.terminators.rows)

    by : (n : ℕ) (b : Bool) → is_present st.terminators.terminators.rows n ≡ b → cond (there n) (loads n) (open_at st.terminators n) ≡ cond (is_present st.terminators.terminators.rows n) (open_circuits (state_of st) n) 0
    by n true is =
        ap (λ b. cond b (loads n) (open_at st.terminators n)) (among_present st.terminators.terminators.rows n ∙ is) ∙ counted n
        ∙ sym (ap (λ b. cond b (open_circuits (state_of st) n) 0) is)
    by n false is =
        ap (λ b. cond b (loads n) (open_at st.terminators n)) (among_present st.terminators.terminators.rows n ∙ is) ∙ kept.absent n is
        ∙ sym (ap (λ b. cond b (open_circuits (state_of st) n) 0) is)

-- the load of one terminator is one higher
pub counted_more : (st : Stores) (n load : ℕ) (new : TermTables) → load ≡ open_at st.terminators n → new ≡ with_open n (load + 1) st.terminators → open_at new n ≡ load + 1
    → CountsMore n st (with_terminators new st)
counted_more st n load new before is here = record {
  changes = only_loads st new (ap (λ (t : TermTables). t.terminators) is);
  more = here ∙ ap (λ m. m + 1) before;
  others = λ m apart. ap (λ t. open_at t m) is ∙ ap (λ o. unwrap_or o 0) (at-edit_at-other st.terminators.loads n m (λ old. load + 1) apart);
}

-- ---- one circuit that is not counted yet

-- its terminator is there
pub ends_there : (st : Stores) (n : ℕ) → EndThere (state_of st) → open_at st.terminators n + cond (n == n) 1 0 ≡ open_circuits (state_of st) n → is_present st.terminators.terminators.rows n ≡ true
ends_there st n ends lacks = by (is_present st.terminators.terminators.rows n) refl
  where
    by : (b : Bool) → is_present st.terminators.terminators.rows n ≡ b → is_present st.terminators.terminators.rows n ≡ true
    by true is = is
    by false is =
        let none = ends.absent n is in
        let itself : ◌≡◌ {A = ℕ} (cond (n == n) 1 0) 1 = ap (λ b. cond b 1 0) (eq-eqb n n refl) in
        absurd (omega (arith, none, itself, lacks))

-- and there is room for it
pub has_room : (st : Stores) (n : ℕ) → EndThere (state_of st) → open_at st.terminators n + cond (n == n) 1 0 ≡ open_circuits (state_of st) n → open_at st.terminators n < limit kind.Circuit
has_room st n ends lacks =
    let few = ends.few in
    let itself : ◌≡◌ {A = ℕ} (cond (n == n) 1 0) 1 = ap (λ b. cond b 1 0) (eq-eqb n n refl) in
    let all = count_by-le-length (λ row. row.1.terminator == n) st.circuits.circuits.rows in
    omega (arith, few, itself, all, lacks)
