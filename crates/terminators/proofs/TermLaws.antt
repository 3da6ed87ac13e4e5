-- Laws of the table of terminators: what one more terminator, other marks and a removal keep.
use Rattle.std.proofs.Common.{◌≡◌, ℕ, ◌≤◌, ◌<◌, ◌==◌, ◌&&◌, Bool, true, false, cond, not, nat_lt, List, [], ◌∷◌, length, refl, sym, ◌∙◌, ap, subst, arith, ltb-true, nat_le}
use Rattle.std.proofs.lemmas.Bool.{and_parts, cond-true, cond-false, le-leb}
use Rattle.std.proofs.lemmas.List.{length-map}
use Rattle.std.specs.List.{filter}
use Rattle.ctrl_model.specs.declared.kinds.Precedence.{Precedence}
use Rattle.ctrl_model.specs.declared.kinds.Kind.TheVariants as kind
use Rattle.ctrl_model.specs.ValueForms.{is_cost}
use Rattle.ctrl_model.specs.Limits.{limit}
use Rattle.ctrl_model.specs.Numbered.{Table, with_new, with_edit, with_removed, with_kept}
use Rattle.ctrl_model.specs.State.{Terminator}
use Rattle.ctrl_model.specs.Walks.{is_among}
use Rattle.ctrl_model.proofs.NumberedLaws.{length-with_last, length-filter-le}
use Rattle.ctrl_model.proofs.TableLaws.{each_passes-with_last, each_passes-map, each_passes-filter}
use Rattle.record_tables.specs.AfterChange.{without_numbers}
use Rattle.terminators.specs.declared.kept.KeptTerm.{KeptTerm}
use Rattle.terminators.specs.TermTables.{AreFit, tables_of}
use Rattle.terminators.specs.TermRules.{has_term_room}

pub room_left : (t : Table KeptTerm) → has_term_room (tables_of t) ≡ true → (length t.rows < 4096) × (t.next < 4294967295)
room_left t room =
    let parts = and_parts (nat_lt (length (tables_of t).terminators.rows) 4096) (nat_lt t.next 4294967295) room in
    let few : length t.rows < 4096 = subst (λ n. n < 4096) (length-map {B = ℕ × Terminator} t.rows (λ x. (x.0, x.1.term))) (ltb-true (length (tables_of t).terminators.rows) 4096 parts.0) in
    (few, ltb-true t.next 4294967295 parts.1)

-- no circuit is open at a new terminator
pub fit_new : (e : Terminator) (t : Table KeptTerm) → AreFit t → has_term_room (tables_of t) ≡ true → is_cost e.cost ≡ true → AreFit (with_new (record { term = e; load = 0 }) t)
fit_new e t k room cost =
    let more = length-with_last t.rows t.next (record { term = e; load = 0 }) in
    let left = (room_left t room).0 in
    record {
      few = omega arith;
      costs = each_passes-with_last (λ (k : KeptTerm). is_cost k.term.cost) t.rows t.next (record { term = e; load = 0 }) k.costs cost;
      loads = each_passes-with_last (λ (k : KeptTerm). nat_le k.load (limit kind.Circuit)) t.rows t.next (record { term = e; load = 0 }) k.loads refl;
    }

-- a change of one terminator that leaves costs and loads in their ranges
pub fit_edit : (n : ℕ) (h : KeptTerm → KeptTerm) → ((k : KeptTerm) → is_cost k.term.cost ≡ true → is_cost (h k).term.cost ≡ true)
    → ((k : KeptTerm) → nat_le k.load (limit kind.Circuit) ≡ true → nat_le (h k).load (limit kind.Circuit) ≡ true) → (t : Table KeptTerm) → AreFit t → AreFit (with_edit n h t)
fit_edit n h costs loads t k =
    let set : ℕ × KeptTerm → KeptTerm = λ x. cond (x.0 == n) (h x.1) x.1 in
    record {
      few = rw (length-map {B = ℕ × KeptTerm} t.rows (λ x. (x.0, set x))) k.few;
      costs = each_passes-map (λ (k : KeptTerm). is_cost k.term.cost) (λ (k : KeptTerm). is_cost k.term.cost) set (λ x passes. cost (x.0 == n) x.1 passes) t.rows k.costs;
      loads = each_passes-map (λ (k : KeptTerm). nat_le k.load (limit kind.Circuit)) (λ (k : KeptTerm). nat_le k.load (limit kind.Circuit)) set (λ x passes. load (x.0 == n) x.1 passes) t.rows k.loads;
    }
  where
    cost : (b : Bool) (e : KeptTerm) → is_cost e.term.cost ≡ true → is_cost (cond b (h e) e).term.cost ≡ true
    cost true e passes = costs e passes
    cost false e passes = passes

    load : (b : Bool) (e : KeptTerm) → nat_le e.load (limit kind.Circuit) ≡ true → nat_le (cond b (h e) e).load (limit kind.Circuit) ≡ true
    load true e passes = loads e passes
    load false e passes = passes

pub fit_set : (n cost : ℕ) (precedence : Precedence) (t : Table KeptTerm) → AreFit t → is_cost cost ≡ true
    → AreFit (with_edit n (λ k. record k { term = record k.term { cost = cost; precedence = precedence } }) t)
fit_set n cost precedence t k c = fit_edit n (λ k. record k { term = record k.term { cost = cost; precedence = precedence } }) (λ e passes. c) (λ e passes. passes) t k

pub fit_open : (n count : ℕ) (t : Table KeptTerm) → AreFit t → count ≤ limit kind.Circuit → AreFit (with_edit n (λ k. record k { load = count }) t)
fit_open n count t k most = fit_edit n (λ k. record k { load = count }) (λ e passes. passes) (λ e passes. le-leb count (limit kind.Circuit) most) t k

-- what a filter leaves
fit_filter : (p : ℕ × KeptTerm → Bool) (t : Table KeptTerm) → AreFit t → AreFit (with_kept p t)
fit_filter p t k =
    let fewer : length (filter p t.rows) ≤ length t.rows = length-filter-le p t.rows in
    let few = k.few in
    record {
      few = omega arith;
      costs = each_passes-filter (λ (k : KeptTerm). is_cost k.term.cost) p t.rows k.costs;
      loads = each_passes-filter (λ (k : KeptTerm). nat_le k.load (limit kind.Circuit)) p t.rows k.loads;
    }

pub fit_removed : (n : ℕ) (t : Table KeptTerm) → AreFit t → AreFit (with_removed n t)
fit_removed n t k = fit_filter (λ x. not (x.0 == n)) t k

pub fit_without : (gone : List ℕ) (t : Table KeptTerm) → AreFit t → AreFit (without_numbers gone t)
fit_without gone t k = fit_filter (λ x. not (is_among x.0 gone)) t k

-- two filters in a row are one by both tests
pub filter-both : {X : Type 0} (p q : X → Bool) (xs : List X) → filter (λ x. p x && q x) xs ≡ filter q (filter p xs)
filter-both p q [] = refl
filter-both p q (x ∷ xs) = by (p x) (q x) refl (filter-both p q xs)
  where
    by : (b c : Bool) → q x ≡ c → filter (λ x. p x && q x) xs ≡ filter q (filter p xs)
        → cond (b && c) (x ∷ filter (λ x. p x && q x) xs) (filter (λ x. p x && q x) xs) ≡ filter q (cond b (x ∷ filter p xs) (filter p xs))
    by true true is h = ap (λ ys. x ∷ ys) h ∙ sym (cond-true (q x) (x ∷ filter q (filter p xs)) (filter q (filter p xs)) is)
    by true false is h = h ∙ sym (cond-false (q x) (x ∷ filter q (filter p xs)) (filter q (filter p xs)) is)
    by false c is h = h
