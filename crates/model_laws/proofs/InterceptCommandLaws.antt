-- The commands on intercepts keep a state valid.
use Rattle.std.proofs.Common.{◌≡◌, ℕ, ◌<◌, ◌≤◌, nat_lt, ◌==◌, Bool, true, false, cond, List, [], ◌∷◌, Some, is_some, refl, ap}
use Rattle.std.proofs.lemmas.Bool.{and_parts, and_from}
use Rattle.std.specs.List.{list_all}
use Rattle.ctrl_model.specs.declared.intercepts.Intercept.{Intercept}
use Rattle.ctrl_model.specs.declared.kinds.Kind.{Kind}
use Rattle.ctrl_model.specs.declared.kinds.Kind.TheVariants as kind
use Rattle.ctrl_model.specs.declared.replies.Reply.TheVariants.{Done}
use Rattle.ctrl_model.specs.InterceptForm.{is_intercept}
use Rattle.ctrl_model.specs.InterceptCommands.{no_such_service, set_intercept, after_set_intercept, clear_intercept, after_clear_intercept}
use Rattle.ctrl_model.specs.Numbered.{is_present, with_at, without}
use Rattle.ctrl_model.specs.State.{State}
use Rattle.ctrl_model.specs.Tables.{table, named, record_name}
use Rattle.ctrl_model.specs.ValidState.{ValidState, ValidTable, is_valid_intercept}
use Rattle.ctrl_model.proofs.NumberedLaws.{at-within, Between-with_at, Between-without}
use Rattle.ctrl_model.proofs.TableLaws.{found-named, list_all-filter, valid-more}
use Rattle.model_laws.proofs.RefusalLaws.{at_number-holds}
use Rattle.model_laws.proofs.ValidLaws.{Follows, Orderly, AreClaimed, Orderly-from_valid, carried_out-follows}

-- a test that all records pass, and a new one, all pass with it
list_all-with_at : {R : Type 0} (p : ℕ × R → Bool) (n : ℕ) (r : R) (xs : List (ℕ × R)) → list_all p xs ≡ true → p (n, r) ≡ true → list_all p (with_at n r xs) ≡ true
list_all-with_at p n r [] e t = and_from (p (n, r)) true t refl
list_all-with_at p n r (x ∷ xs) e t = by (nat_lt x.0 n) (x.0 == n) (and_parts (p x) (list_all p xs) e) (list_all-with_at p n r xs)
  where
    by : (c d : Bool) → (p x ≡ true) × (list_all p xs ≡ true) → (list_all p xs ≡ true → p (n, r) ≡ true → list_all p (with_at n r xs) ≡ true)
        → list_all p (cond c (x ∷ with_at n r xs) ((n, r) ∷ cond d xs (x ∷ xs))) ≡ true
    by true d both h = and_from (p x) _ both.0 (h both.1 t)
    by false true both h = and_from (p (n, r)) _ t both.1
    by false false both h = and_from (p (n, r)) _ t (and_from (p x) _ both.0 both.1)

-- a state with other intercepts is as orderly as before, if these are
with_intercepts : (xs : List (ℕ × Intercept)) (s : State) → Orderly s → AreClaimed (record s { intercepts = xs }) → Orderly (record s { intercepts = xs })
with_intercepts xs s o claims = record { kinds = kinds; setting = o.setting; attributes = o.attributes; claims = claims }
  where
    kinds : (k : Kind) → ValidTable k (record s { intercepts = xs }) (table k (record s { intercepts = xs }))
    kinds kind.Link = valid-more (o.kinds kind.Link) (record s { intercepts = xs }) (λ q e. e)
    kinds k = valid-more (o.kinds k) (record s { intercepts = xs }) (λ q e. e)

-- the service of a name is present, from 1 on and below the next number
is_there : (s : State) (name : List ℕ) (n : ℕ) → Orderly s → named kind.Service s name ≡ Some n → (is_present s.services.rows n ≡ true) × (1 ≤ n) × (n < s.services.next)
is_there s name n o is =
    let ordered = (o.kinds kind.Service).numbers.ordered in
    let found = found-named (record_name kind.Service) s.services.rows n name s.services.next 1 ordered is in
    let within = at-within s.services.next s.services.rows 1 n found.0 ordered found.1 in
    (ap is_some found.1, within.0, within.1)

pub set_intercept-follows : (service : List ℕ) (i : Intercept) (s : State) → is_intercept i ≡ true → ValidState s → Follows s (set_intercept service i s).1
set_intercept-follows service i s fits v =
    let o = Orderly-from_valid s v in
    carried_out-follows (no_such_service service s) s Done (after_set_intercept service i s) (λ none.
    at_number-holds Orderly (named kind.Service s service) s _ o (λ n is.
    let there = is_there s service n o is in
    with_intercepts (with_at n i s.intercepts) s o (record {
      ordered = Between-with_at s.services.next s.intercepts 1 n i there.1 there.2 o.claims.ordered;
      intercepts = list_all-with_at (is_valid_intercept s) n i s.intercepts o.claims.intercepts (and_from (is_present s.services.rows n) (is_intercept i) there.0 fits);
      counted = o.claims.counted;
    })))

pub clear_intercept-follows : (service : List ℕ) (s : State) → ValidState s → Follows s (clear_intercept service s).1
clear_intercept-follows service s v =
    let o = Orderly-from_valid s v in
    carried_out-follows (no_such_service service s) s Done (after_clear_intercept service s) (λ none.
    at_number-holds Orderly (named kind.Service s service) s _ o (λ n is.
    with_intercepts (without s.intercepts n) s o (record {
      ordered = Between-without s.services.next s.intercepts 1 n o.claims.ordered;
      intercepts = list_all-filter _ (is_valid_intercept s) (is_valid_intercept s) (λ x other t. t) s.intercepts o.claims.intercepts;
      counted = o.claims.counted;
    })))
