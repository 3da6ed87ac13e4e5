-- A valid state stays valid where a record without a flaw joins it.
use Rattle.std.proofs.Common.{◌≡◌, ℕ, ◌<◌, ◌≤◌, Bool, true, false, not, ◌&&◌, [], ◌∷◌, length, is_some, Option, None, Some, refl, ◌∙◌, arith, ltb-false}
use Rattle.std.proofs.lemmas.Bool.{and_parts, and_from, or_parts, leb-false, not-false}
use Rattle.std.proofs.lemmas.List.Folds.{list_all-append}
use Rattle.std.specs.List.{list_all}
use Rattle.ctrl_model.specs.declared.kinds.Kind.{Kind}
use Rattle.ctrl_model.specs.declared.kinds.Kind.TheVariants as kind
use Rattle.ctrl_model.specs.Limits.{limit, last_next}
use Rattle.ctrl_model.specs.Numbered.{with_new, with_last}
use Rattle.ctrl_model.specs.State.{State, Policy}
use Rattle.ctrl_model.specs.Tables.{Record, table, has_names, record_name, named}
use Rattle.ctrl_model.specs.Rules.{attributes_full}
use Rattle.ctrl_model.specs.RecordCommands.{after_create}
use Rattle.ctrl_model.specs.ValidState.{ValidState, is_valid, is_valid_policy, is_valid_policy_in, may_relate}
use Rattle.model_laws.proofs.KindLaws.{with_table-holds}
use Rattle.model_laws.proofs.ValidLaws.{Orderly-from_valid, Orderly-create}
use Rattle.state_building.specs.declared.flaws.Flaw.{Flaw}
use Rattle.state_building.specs.JoinedRecords.{skipped, joined, is_sound, is_sound_policy, is_supported, are_both_found, flaw_if, flaw_of, is_out_of_order, is_name_taken, is_one_too_many, unsupported}
use Rattle.state_building.proofs.GrownStates.{Grown, Keeps, Keeps-with_last, valid_still}
use Rattle.state_building.proofs.StandingRecords.{stays, AllStay, IsStanding, stays_still, all_still, IsStanding-repaired, repaired-standing}
use Rattle.state_building.proofs.SkippedStates.{Grown-skipped, skipped-valid}

-- ---- a record without a flaw

-- where no flaw comes, none of its tests holds
pub flaw_if-none : (test : Bool) (flaw : Flaw) (later : Option Flaw) → flaw_if test flaw later ≡ None → (test ≡ false) × (later ≡ None)
flaw_if-none true flaw later e = absurd (cc)
flaw_if-none false flaw later e = (refl, e)

-- what a record that joins a state has to be
pub record IsFlawless (nexts : Kind → ℕ) (k : Kind) (n : ℕ) (r : Record k) (s : State) : Type 0 where
  pub above : (table k s).next ≤ n
  pub below : n < nexts k
  pub sound : is_sound k r ≡ true
  pub new : has_names k ≡ true → named k s (record_name k r) ≡ None
  pub supported : is_supported k s (n, r) ≡ true
  pub few : length (table k s).rows < limit k
  pub attributes : attributes_full (joined k n r s) ≡ false

pub IsFlawless-from : (nexts : Kind → ℕ) (k : Kind) (n : ℕ) (r : Record k) (s : State) → flaw_of nexts k n r s ≡ None → IsFlawless nexts k n r s
IsFlawless-from nexts k n r s e =
    let order = flaw_if-none (is_out_of_order nexts k n s) _ _ e in
    let sound = flaw_if-none (not (is_sound k r)) _ _ order.1 in
    let name = flaw_if-none (is_name_taken k r s) _ _ sound.1 in
    let support = flaw_if-none (not (is_supported k s (n, r))) (unsupported k) _ name.1 in
    let many = flaw_if-none (is_one_too_many k n r s) _ _ support.1 in
    let numbers = or_parts _ _ order.0 in
    let limits = or_parts _ _ many.0 in
    record {
      above = ltb-false n (table k s).next numbers.0;
      below = leb-false (nexts k) n numbers.1;
      sound = not-false (is_sound k r) sound.0;
      new = λ has. free (has_names k) (named k s (record_name k r)) has name.0;
      supported = not-false (is_supported k s (n, r)) support.0;
      few = leb-false (limit k) (length (table k s).rows) limits.0;
      attributes = limits.1;
    }
  where
    free : (b : Bool) (o : Option ℕ) → b ≡ true → (b && is_some o) ≡ false → o ≡ None
    free false o has e = absurd (cc)
    free true None has e = refl
    free true (Some m) has e = absurd (cc)

-- ---- what the record is in the state that it joins

-- a sound record that is supported is a valid one
valid_policy : (k : Kind) (s : State) (p : Policy) → is_sound_policy k p ≡ true → are_both_found k s p ≡ true → is_valid_policy_in k s p ≡ true
valid_policy k s p sound found =
    let both = and_parts (is_valid_policy p) (may_relate k p.relation) sound in
    and_from (is_valid_policy p) _ both.0 (and_from (may_relate k p.relation) (are_both_found k s p) both.1 found)

valid_record : (k : Kind) (n : ℕ) (r : Record k) (s : State) → is_sound k r ≡ true → is_supported k s (n, r) ≡ true → is_valid k s r ≡ true
valid_record kind.ServicePolicy n r s sound found = valid_policy kind.ServicePolicy s r sound found
valid_record kind.EdgeRouterPolicy n r s sound found = valid_policy kind.EdgeRouterPolicy s r sound found
valid_record kind.ServiceEdgeRouterPolicy n r s sound found = valid_policy kind.ServiceEdgeRouterPolicy s r sound found
valid_record kind.Circuit n r s sound found = refl
valid_record kind.Attribute n r s sound found = refl
valid_record k n r s sound found = sound

-- and it stays
record_stays : (k : Kind) (n m : ℕ) (r : Record k) (s : State) → is_supported k s (n, r) ≡ true → stays k s (m, r) ≡ true
record_stays kind.Link n m r s found = found
record_stays kind.Terminator n m r s found = found
record_stays kind.Circuit n m r s found = found
record_stays k n m r s found = refl

-- another next number changes no name, and leaves room
named_skipped : (k : Kind) (n : ℕ) (s : State) (name : _) → named k s name ≡ None → named k (skipped k n s) name ≡ None
named_skipped kind.Attribute n s name e = e
named_skipped k n s name e = e

room_skipped : (k : Kind) (n : ℕ) (s : State) → length (table k s).rows < limit k → n < last_next
    → (length (table k (skipped k n s)).rows < limit k) × ((table k (skipped k n s)).next < last_next)
room_skipped kind.Attribute n s few below = (few, omega arith)
room_skipped k n s few below = (few, below)

-- ---- the state with the record

Grown-created : (k : Kind) (r : Record k) (s : State) → Grown s (after_create k r s)
Grown-created k r s =
    with_table-holds (λ j t. Keeps (table j s).rows t.rows) s k (with_new r (table k s)) (λ m q e. e) (Keeps-with_last (table k s).rows (table k s).next r) (λ j m q e. e)

-- where a record that stays is added, every record stays
IsStanding-created : (k : Kind) (r : Record k) (s : State) → IsStanding s → stays k s ((table k s).next, r) ≡ true → IsStanding (after_create k r s)
IsStanding-created k r s stand new =
    with_table-holds (λ j t. AllStay j u t.rows) s k (with_new r (table k s)) refl added still
  where
    u : State
    u = after_create k r s

    still : (j : Kind) → AllStay j u (table j s).rows
    still j = all_still s u (Grown-created k r s) j (table j s).rows (stand j)

    row : ℕ × Record k
    row = ((table k s).next, r)

    added : AllStay k u (with_last (table k s).rows (table k s).next r)
    added = list_all-append (stays k u) (table k s).rows (row ∷ [])
        ∙ and_from (list_all (stays k u) (table k s).rows) (stays k u row && true) (still k) (and_from (stays k u row) true (stays_still s u (Grown-created k r s) k row new) refl)

pub flawless-valid : (nexts : Kind → ℕ) (k : Kind) (n : ℕ) (r : Record k) (s : State) → ValidState s → nexts k ≤ last_next → IsFlawless nexts k n r s → ValidState (joined k n r s)
flawless-valid nexts k n r s v last f =
    let below = f.below in
    let t : State = skipped k n s in
    let valid : ValidState t = skipped-valid k n s v f.above (omega arith) in
    let passes = valid_still s t (Grown-skipped k n s) v.kinds k r (valid_record k n r s f.sound f.supported) in
    let o = Orderly-create k r t (Orderly-from_valid t valid) (λ has. named_skipped k n s (record_name k r) (f.new has)) (room_skipped k n s f.few (omega arith)) passes f.attributes in
    let stay = stays_still s t (Grown-skipped k n s) k ((table k t).next, r) (record_stays k n (table k t).next r s f.supported) in
    record {
      kinds = o.kinds;
      setting = o.setting;
      attributes = o.attributes;
      repaired = repaired-standing (after_create k r t) (IsStanding-created k r t (IsStanding-repaired t valid.repaired) stay);
      ordered = o.claims.ordered;
      intercepts = o.claims.intercepts;
      counted = o.claims.counted;
    }

pub joined-valid : (nexts : Kind → ℕ) (k : Kind) (n : ℕ) (r : Record k) (s : State) → ValidState s → nexts k ≤ last_next → flaw_of nexts k n r s ≡ None → ValidState (joined k n r s)
joined-valid nexts k n r s v last e = flawless-valid nexts k n r s v last (IsFlawless-from nexts k n r s e)
