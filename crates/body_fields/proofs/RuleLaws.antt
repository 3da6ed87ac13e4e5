-- Fields that are gone through one by one: where one breaks its rule, that is the first one that does.
use Rattle.std.proofs.Common.{◌≡◌, ℕ, zero, suc, ◌<◌, Bool, true, false, cond, Result, Ok, Err, List, [], ◌∷◌, ◌++◌, map, length, get_or, take, refl, sym, ap, ◌∙◌, subst, arith, inl, inr}
use Rattle.std.specs.Prelude.{⊤, OnOk, IfErr}
use Rattle.std.specs.List.{AllByRecursion}
use Rattle.std.proofs.lemmas.Bool.{false≢true}
use Rattle.serde_json.specs.Data.{Data}
use Rattle.ctrl_model.specs.declared.refusals.Field.{Field}
use Rattle.json_body.specs.declared.fields.FieldFault.{FieldFault}
use Rattle.json_body.specs.declared.fields.FieldFault.TheVariants.{Unknown}
use Rattle.json_body.specs.FieldKinds.{has_only, finished}
use Rattle.body_fields.specs.FieldRules.{FieldRule, Keeps, IsFirstAmong}

-- What lies before and behind a place of a list.
pub at_place : {A B : Type 0} (f : A → B) (xs : List A) (i : ℕ) (d : A) → i < length xs → (more : List B) × (map f xs ≡ map f (take i xs) ++ f (get_or xs i d) ∷ more)
at_place f [] i d lt = absurd (omega arith)
at_place f (x ∷ xs) zero d lt = (map f xs, refl)
at_place f (x ∷ xs) (suc i) d lt = let r = at_place f xs i d (omega arith) in (r.0, ap (λ l. f x ∷ l) r.1)

-- What holds of all, and of one more.
pub all_more : {A B : Type 0} (P : B → Type 0) (f : A → B) (xs : List A) (x : A) → AllByRecursion P (map f xs) → P (f x) → AllByRecursion P (map f (xs ++ x ∷ []))
all_more P f [] x all more = (more, tt)
all_more P f (y ∷ ys) x all more = (all.0, all_more P f ys x all.1 more)

-- What holds of all holds of one among them.
all_at : {B : Type 0} (P : B → Type 0) (before : List B) (x : B) (behind : List B) → AllByRecursion P (before ++ x ∷ behind) → P x
all_at P [] x behind all = all.0
all_at P (y ∷ ys) x behind all = all_at P ys x behind all.1

-- An object that keeps all the rules and has no other key has no fault.
pub no_fault : (rules : List FieldRule) (fields : List Field) (o : Data) → AllByRecursion (Keeps o) rules → has_only fields o ≡ true → (f : FieldFault) → IsFirstAmong rules fields o f → ⊥
no_fault rules fields o kept only f (inr h) = false≢true (sym h.other ∙ only)
no_fault rules fields o kept only f (inl h) = all_at (Keeps o) h.before h.rule h.behind (subst (AllByRecursion (Keeps o)) h.place kept) f h.breaks

-- ---- the end of an object whose fields keep their rules

has_no_other : (b : Bool) (t : ⊤) → ◌≡◌ {A = Result ⊤ FieldFault} (Ok t) (cond b (Ok tt) (Err Unknown)) → b ≡ true
has_no_other true t e = refl
has_no_other false t e = absurd (cc)

has_another : (b : Bool) (f : FieldFault) → ◌≡◌ {A = Result ⊤ FieldFault} (Err f) (cond b (Ok tt) (Err Unknown)) → (b ≡ false) × (f ≡ Unknown)
has_another true f e = absurd (cc)
has_another false f e = let same : f ≡ Unknown = cc in (refl, same)

pub end_kept : (rules : List FieldRule) (fields : List Field) (o : Data) (r : Result ⊤ FieldFault) → r ≡ finished fields o → AllByRecursion (Keeps o) rules
    → OnOk r ((f : FieldFault) → IsFirstAmong rules fields o f → ⊥)
end_kept rules fields o (Ok t) e kept = no_fault rules fields o kept (has_no_other (has_only fields o) t e)
end_kept rules fields o (Err f) e kept = tt

pub end_fault : (rules : List FieldRule) (fields : List Field) (o : Data) (r : Result ⊤ FieldFault) → r ≡ finished fields o → AllByRecursion (Keeps o) rules
    → IfErr r (λ f. IsFirstAmong rules fields o f)
end_fault rules fields o (Ok t) e kept = tt
end_fault rules fields o (Err f) e kept = let p = has_another (has_only fields o) f e in inr (record { kept = kept; other = p.0; told = p.1 })
