-- What the fields of an object give: numbers in their range, and faults that what is read behind them hands on.
use Rattle.std.proofs.Common.{◌≡◌, ℕ, nat_le, true, ◌&&◌, List, Option, Result, Some, None, Ok, Err, sym, ap, ◌∙◌, subst}
use Rattle.std.specs.Prelude.{is_some, option_and_then, option_map}
use Rattle.std.specs.Option.{ok_or}
use Rattle.std.specs.Result.{IsErrAnd}
use Rattle.std.proofs.lemmas.Bool.{false≢true}
use Rattle.std.proofs.lemmas.Option.{cond_some, option_and_then_some}
use Rattle.serde_json.specs.Data.{Data}
use Rattle.serde_json.specs.Find.{as_number, as_u64}
use Rattle.ctrl_model.specs.declared.refusals.Field.{Field}
use Rattle.ctrl_model.specs.ValueForms.{in_range}
use Rattle.json_body.specs.declared.fields.FieldFault.{FieldFault}
use Rattle.json_body.specs.declared.fields.FieldFault.TheVariants.{Missing, WrongKind, NoMemory}
use Rattle.json_body.specs.FieldKinds.{as_name, as_number_in, within, member_of, required_from, required, optional_from, optional}
use Rattle.body_fields.specs.FieldValues.{as_some_name}

-- A number is in its range.
pub number_form : (low high : ℕ) (d : Data) (n : ℕ) → as_number_in low high d ≡ Some n → in_range low high n ≡ true
number_form low high d n e =
    option_and_then_some (within low high) (option_and_then as_u64 (as_number d)) n e (λ m is h.
    let p = cond_some (nat_le low m && nat_le m high) m n h in subst (λ k. in_range low high k ≡ true) p.1 p.0)

-- ---- want of memory

-- Whether a field that is required is there and of its kind takes no memory.
required-never_wanting : {A : Type 0} (kind : Data → Option A) (of_field : Field) (o : Data) → required kind of_field o ≡ Err NoMemory → ⊥
required-never_wanting {A} kind of_field o e = by (member_of of_field o) e
  where
    said : (q : Option A) → ◌≡◌ {A = Result A FieldFault} (ok_or q (WrongKind of_field)) (Err NoMemory) → ⊥
    said None e = absurd (cc)
    said (Some x) e = absurd (cc)

    by : (v : Option Data) → required_from of_field kind v ≡ Err NoMemory → ⊥
    by None e = absurd (cc)
    by (Some d) e = said (kind d) e

-- So what hands its fault on tells no want of memory.
pub never_wanting : {A T : Type 0} (kind : Data → Option A) (of_field : Field) (o : Data) (r : Result T FieldFault) (fault : FieldFault) → IsErrAnd r (λ y. y ≡ fault)
    → required kind of_field o ≡ Err fault → r ≡ Err NoMemory → ⊥
never_wanting kind of_field o (Ok x) fault handed told wanting = absurd handed
never_wanting {T = T} kind of_field o (Err y) fault handed told wanting = required-never_wanting kind of_field o (told ∙ ap Err (sym handed ∙ same y NoMemory wanting))
  where
    same : (a b : FieldFault) → ◌≡◌ {A = Result T FieldFault} (Err a) (Err b) → a ≡ b
    same a b e = cc

-- ---- faults that are handed on

-- Where a field says nothing of a kind, it says nothing of what is read from it.
pub required_behind : {A B : Type 0} (kind : Data → Option A) (more : A → Option B) (of_field : Field) (o : Data) (f : FieldFault)
    → required kind of_field o ≡ Err f → required (λ d. option_and_then more (kind d)) of_field o ≡ Err f
required_behind {A} {B} kind more of_field o f e = by (member_of of_field o) e
  where
    told : (q : Option A) → ok_or q (WrongKind of_field) ≡ Err f → ok_or (option_and_then more q) (WrongKind of_field) ≡ Err f
    told None e = let same : WrongKind of_field ≡ f = cc in ap (λ g. Err g) same
    told (Some x) e = absurd (cc)

    by : (v : Option Data) → required_from of_field kind v ≡ Err f → required_from of_field (λ d. option_and_then more (kind d)) v ≡ Err f
    by None e = let same : Missing of_field ≡ f = cc in ap (λ g. Err g) same
    by (Some d) e = told (kind d) e

-- Where a field that is there gives no name, it gives none that may be left out.
pub some_name_fault : (of_field : Field) (o : Data) (f : FieldFault) → is_some (member_of of_field o) ≡ true → required as_name of_field o ≡ Err f → optional as_some_name None of_field o ≡ Err f
some_name_fault of_field o f there e = by (member_of of_field o) there e
  where
    told : (n : Option (List ℕ)) → ok_or n (WrongKind of_field) ≡ Err f → ok_or (option_map (λ m. Some m) n) (WrongKind of_field) ≡ Err f
    told None e = let same : WrongKind of_field ≡ f = cc in ap (λ g. Err g) same
    told (Some n) e = absurd (cc)

    by : (v : Option Data) → is_some v ≡ true → required_from of_field as_name v ≡ Err f → optional_from of_field as_some_name None v ≡ Err f
    by None there e = absurd (false≢true there)
    by (Some d) there e = told (as_name d) e
