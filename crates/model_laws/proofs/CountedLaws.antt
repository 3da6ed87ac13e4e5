-- What counting the changes does to a state, and that no command changes the serial by itself.
use Rattle.std.proofs.Common.{◌≡◌, ℕ, ◌+◌, ◌<◌, ◌≤◌, true, false, ◌⊎◌, inl, inr, List, [], refl, sym, ◌∙◌, ap, arith}
use Rattle.std.proofs.lemmas.Bool.{cond-true, cond-false, true≢false, false_from_ne_true}
use Rattle.ctrl_model.specs.declared.commands.Command.{Command}
use Rattle.ctrl_model.specs.declared.commands.Command.TheVariants as command
use Rattle.ctrl_model.specs.declared.intercepts.Intercept.{Intercept}
use Rattle.ctrl_model.specs.declared.kinds.Kind.{Kind}
use Rattle.ctrl_model.specs.declared.kinds.Kind.TheVariants as kind
use Rattle.ctrl_model.specs.declared.kinds.Who.{Who}
use Rattle.ctrl_model.specs.SpelledCommands.{is_spelled}
use Rattle.ctrl_model.specs.Controller.{answer, counted, numbered}
use Rattle.ctrl_model.specs.InterceptCommands.{is_intercept_command}
use Rattle.ctrl_model.specs.Limits.{last_serial}
use Rattle.ctrl_model.specs.Numbered.{without}
use Rattle.ctrl_model.specs.RecordCommands.{forgotten, without_intercept}
use Rattle.ctrl_model.specs.Rules.{at_number}
use Rattle.ctrl_model.specs.SameStates.{same_state}
use Rattle.ctrl_model.specs.State.{State}
use Rattle.ctrl_model.specs.Tables.{table}
use Rattle.ctrl_model.specs.ValidState.{ValidState, ValidTable, is_valid_intercept}
use Rattle.ctrl_model.proofs.Members.{list_all-among, list_all-from_among}
use Rattle.ctrl_model.proofs.TableLaws.{valid-more}
use Rattle.model_laws.specs.TouchedTables.{Touched, Added, Changed, Deleted, Setting, OneIntercept, Nothing, touched_by, records_back, put_back, forgetting, ChangesOnly}
use Rattle.model_laws.proofs.KindLaws.{with_table-intercepts, with_table-serial}
use Rattle.model_laws.proofs.RefusalLaws.{at_number-holds, cond-holds}
use Rattle.model_laws.proofs.SameStateLaws.{same_state-Decides}
use Rattle.model_laws.proofs.TouchedLaws.{answer-changes}
use Rattle.model_laws.proofs.ValidCommands.{answer-valid}

-- ---- a state counted

pub counted-same : (s : State) → counted s s ≡ s
counted-same s = cond-true (same_state s s) s (record s { serial = s.serial + 1 }) ((same_state-Decides s s).1 refl)

pub counted-another : (s t : State) → (s ≡ t → ⊥) → counted s t ≡ record t { serial = s.serial + 1 }
counted-another s t apart =
    cond-false (same_state s t) s (record t { serial = s.serial + 1 }) (false_from_ne_true (same_state s t) (λ is. apart ((same_state-Decides s t).0 is)))

-- another serial keeps a state valid
with_serial-valid : (n : ℕ) (t : State) → n ≤ last_serial → ValidState t → ValidState (record t { serial = n })
with_serial-valid n t upto v = record {
  kinds = kinds;
  setting = v.setting;
  attributes = v.attributes;
  repaired = ap (λ (u : State). record u { serial = n }) v.repaired;
  ordered = v.ordered;
  intercepts = list_all-from_among (is_valid_intercept (record t { serial = n })) t.intercepts (λ x m. list_all-among (is_valid_intercept t) t.intercepts x v.intercepts m);
  counted = upto;
}
  where
    kinds : (k : Kind) → ValidTable k (record t { serial = n }) (table k (record t { serial = n }))
    kinds kind.Link = valid-more (v.kinds kind.Link) (record t { serial = n }) (λ q e. e)
    kinds k = valid-more (v.kinds k) (record t { serial = n }) (λ q e. e)

-- below the last serial a valid state that follows a valid one is valid once it is counted
pub counted-valid : (s t : State) → ValidState s → ValidState t → s.serial < last_serial → ValidState (counted s t)
counted-valid s t v w below =
    cond-holds ValidState (same_state s t) s (record t { serial = s.serial + 1 }) v (with_serial-valid (s.serial + 1) t (omega arith) w)

pub numbered-valid : (who : Who) (c : Command) (s : State) → is_spelled c ≡ true → ValidState s → s.serial < last_serial → ValidState (numbered s (answer who c s)).1
numbered-valid who c s e v below = counted-valid s (answer who c s).1 v (answer-valid who c s e v) below

-- ---- what no command changes

records_back-serial : (k : Kind) (old new : State) → (records_back k old new).serial ≡ new.serial
records_back-serial k old new = with_table-serial k _ new

put_back-serial : (touched : Touched) (old new : State) → (put_back touched old new).serial ≡ new.serial
put_back-serial (Added k) old new = with_table-serial k (table k old) new
put_back-serial (Changed k n) old new = records_back-serial k old new
put_back-serial (Deleted k name n) old new = records_back-serial k old new
put_back-serial Setting old new = refl
put_back-serial (OneIntercept n) old new = refl
put_back-serial Nothing old new = refl

forgotten-serial : (k : Kind) (name : List ℕ) (s : State) → (forgotten k name s).serial ≡ s.serial
forgotten-serial kind.Identity name s = refl
forgotten-serial k name s = refl

without_intercept-serial : (k : Kind) (n : ℕ) (s : State) → (without_intercept k n s).serial ≡ s.serial
without_intercept-serial kind.Service n s = refl
without_intercept-serial k n s = refl

forgetting-serial : (touched : Touched) (s : State) → (forgetting touched s).serial ≡ s.serial
forgetting-serial (Deleted k name n) s =
    forgotten-serial k name (at_number n s (λ m. without_intercept k m s))
    ∙ at_number-holds (λ t. t.serial ≡ s.serial) n s (λ m. without_intercept k m s) refl (λ m is. without_intercept-serial k m s)
forgetting-serial (Added k) s = refl
forgetting-serial (Changed k n) s = refl
forgetting-serial Setting s = refl
forgetting-serial (OneIntercept n) s = refl
forgetting-serial Nothing s = refl

pub answer-serial : (who : Who) (c : Command) (s : State) → (answer who c s).1.serial ≡ s.serial
answer-serial who c s = by (answer-changes who c s)
  where
    by : ((answer who c s).1 ≡ s) ⊎ ChangesOnly (touched_by c s) s (answer who c s).1 → (answer who c s).1.serial ≡ s.serial
    by (inl same) = ap (λ (t : State). t.serial) same
    by (inr one) =
        ap (λ (t : State). t.serial) one.is_next
        ∙ sym (put_back-serial (touched_by c s) s one.effect) ∙ ap (λ (t : State). t.serial) one.changes.all_else_stays ∙ forgetting-serial (touched_by c s) s

-- ---- where there are no intercepts, the other commands make none

-- a change that is none of an intercept
abbrev IsOfAnother : Touched → Type 0
IsOfAnother (OneIntercept n) = ⊥
IsOfAnother touched = Unit {0}

touches_another : (c : Command) (s : State) → is_intercept_command c ≡ false → IsOfAnother (touched_by c s)
touches_another (command.SetIntercept service intercept) s e = absurd (true≢false e)
touches_another (command.ClearIntercept service) s e = absurd (true≢false e)
touches_another c s e = tt

put_back-intercepts : (touched : Touched) (old new : State) → IsOfAnother touched → (put_back touched old new).intercepts ≡ new.intercepts
put_back-intercepts (OneIntercept n) old new is = absurd is
put_back-intercepts (Added k) old new is = with_table-intercepts k (table k old) new
put_back-intercepts (Changed k n) old new is = with_table-intercepts k _ new
put_back-intercepts (Deleted k name n) old new is = with_table-intercepts k _ new
put_back-intercepts Setting old new is = refl
put_back-intercepts Nothing old new is = refl

forgotten-intercepts : (k : Kind) (name : List ℕ) (s : State) → (forgotten k name s).intercepts ≡ s.intercepts
forgotten-intercepts kind.Identity name s = refl
forgotten-intercepts k name s = refl

without_none : (k : Kind) (n : ℕ) (s : State) → s.intercepts ≡ [] → (without_intercept k n s).intercepts ≡ []
without_none kind.Service n s none = ap (λ (xs : List (ℕ × Intercept)). without xs n) none
without_none k n s none = none

forgetting-none : (touched : Touched) (s : State) → s.intercepts ≡ [] → (forgetting touched s).intercepts ≡ []
forgetting-none (Deleted k name n) s none =
    forgotten-intercepts k name (at_number n s (λ m. without_intercept k m s))
    ∙ at_number-holds (λ t. t.intercepts ≡ []) n s (λ m. without_intercept k m s) none (λ m is. without_none k m s none)
forgetting-none (Added k) s none = none
forgetting-none (Changed k n) s none = none
forgetting-none Setting s none = none
forgetting-none (OneIntercept n) s none = none
forgetting-none Nothing s none = none

pub answer-no_intercepts : (who : Who) (c : Command) (s : State) → is_intercept_command c ≡ false → s.intercepts ≡ [] → (answer who c s).1.intercepts ≡ []
answer-no_intercepts who c s other none = by (answer-changes who c s)
  where
    by : ((answer who c s).1 ≡ s) ⊎ ChangesOnly (touched_by c s) s (answer who c s).1 → (answer who c s).1.intercepts ≡ []
    by (inl same) = ap (λ (t : State). t.intercepts) same ∙ none
    by (inr one) =
        ap (λ (t : State). t.intercepts) one.is_next
        ∙ sym (put_back-intercepts (touched_by c s) s one.effect (touches_another c s other))
        ∙ ap (λ (t : State). t.intercepts) one.changes.all_else_stays ∙ forgetting-none (touched_by c s) s none
