-- Which bytes spell a role entry.
use Rattle.std.proofs.Common.{◌≡◌, ◌==◌, ℕ, Bool, true, false, not, cond, List, [], ◌∷◌, Option, None, Some, codes, refl, sym, ap, ◌∙◌, subst, bytes_eq, eqb-true}
use Rattle.std.specs.Prelude.{option_map, ◌↔◌, IsErrOf, IsSome, Ok, Err}
use Rattle.std.specs.declared.result.Result.{Result}
use Rattle.std.specs.Option.{ok_or}
use Rattle.std.proofs.lemmas.Bool.{and_from, and_parts, false≢true, not_from_false}
use Rattle.std.proofs.lemmas.Option.{none-some, same_Some}
use Rattle.ctrl_model.specs.declared.kinds.Role.{Role}
use Rattle.ctrl_model.specs.declared.kinds.Role.TheVariants.{All, Id, Attribute}
use Rattle.ctrl_model.specs.NameForm.{is_name}
use Rattle.ctrl_model.proofs.DistinctLaws.{same_name}
use Rattle.role_expr.specs.ReadRoles.{attribute_from, name_in, role_in}
use Rattle.role_expr.specs.declared.roles.RoleFault.{RoleFault}
use Rattle.role_expr.specs.declared.roles.RoleFault.TheVariants as fault
use Rattle.role_expr.specs.RoleSides.{attribute_in, id_in}
use Rattle.role_expr.specs.RoleSpelling.{is_role, role_spelling}

-- An entry is read from its spelling.
pub read_again : (r : Role) → is_role r ≡ true → role_in (role_spelling r) ≡ Some r
read_again All form = refl
read_again (Id name) form = ap (λ b. option_map Id (cond b (Some name) None)) form
read_again (Attribute name) form =
    let parts = and_parts (is_name name) (not (bytes_eq name (codes "all"))) form in
    other (bytes_eq name (codes "all")) parts.1 ∙ ap (λ b. option_map Attribute (cond b (Some name) None)) parts.0
  where
    other : (b : Bool) → not b ≡ true → cond b (Some All) (option_map Attribute (name_in name)) ≡ option_map Attribute (name_in name)
    other true e = absurd (cc)
    other false e = refl

-- Bytes of which no entry is read are the spelling of none.
pub spells_none : (bytes : List ℕ) → role_in bytes ≡ None → (r : Role) → is_role r ≡ true → role_spelling r ≡ bytes → ⊥
spells_none bytes none r form is = none-some r (sym none ∙ ap role_in (sym is) ∙ read_again r form)

-- What is read behind `@`, and behind `#`.
id_reads : (x : ℕ) (rest : List ℕ) (r : Role) (b : Bool) → x ≡ 64 → is_name rest ≡ b → option_map Id (cond b (Some rest) None) ≡ Some r
    → (is_role r ≡ true) × (role_spelling r ≡ x ∷ rest)
id_reads x rest r true at form e =
    subst (λ (s : Role). (is_role s ≡ true) × (role_spelling s ≡ x ∷ rest)) (same_Some (Id rest) r e) (form, ap (λ (y : ℕ). y ∷ rest) (sym at))
id_reads x rest r false at form e = absurd (none-some r e)

name_reads : (x : ℕ) (rest : List ℕ) (r : Role) (b : Bool) → x ≡ 35 → bytes_eq rest (codes "all") ≡ false → is_name rest ≡ b
    → option_map Attribute (cond b (Some rest) None) ≡ Some r → (is_role r ≡ true) × (role_spelling r ≡ x ∷ rest)
name_reads x rest r true at other form e =
    subst (λ (s : Role). (is_role s ≡ true) × (role_spelling s ≡ x ∷ rest)) (same_Some (Attribute rest) r e)
    (and_from (is_name rest) (not (bytes_eq rest (codes "all"))) form (not_from_false (bytes_eq rest (codes "all")) other), ap (λ (y : ℕ). y ∷ rest) (sym at))
name_reads x rest r false at other form e = absurd (none-some r e)

attribute_reads : (x : ℕ) (rest : List ℕ) (r : Role) (b : Bool) → x ≡ 35 → bytes_eq rest (codes "all") ≡ b
    → cond b (Some All) (option_map Attribute (name_in rest)) ≡ Some r → (is_role r ≡ true) × (role_spelling r ≡ x ∷ rest)
attribute_reads x rest r true at is e =
    subst (λ (s : Role). (is_role s ≡ true) × (role_spelling s ≡ x ∷ rest)) (same_Some All r e)
    (refl, ap (λ (l : List ℕ). 35 ∷ l) (sym (same_name rest (codes "all") is)) ∙ ap (λ (y : ℕ). y ∷ rest) (sym at))
attribute_reads x rest r false at is e = name_reads x rest r (is_name rest) at is refl e

-- An entry that is read is spelled so.
pub reads : (bytes : List ℕ) (r : Role) → role_in bytes ≡ Some r → (is_role r ≡ true) × (role_spelling r ≡ bytes)
reads [] r e = absurd (none-some r e)
reads (x ∷ rest) r e = by (x == 64) (x == 35) refl refl e
  where
    by : (b c : Bool) → (x == 64) ≡ b → (x == 35) ≡ c → cond b (option_map Id (name_in rest)) (cond c (attribute_from rest) None) ≡ Some r
        → (is_role r ≡ true) × (role_spelling r ≡ x ∷ rest)
    by true c at more f = id_reads x rest r (is_name rest) (eqb-true x 64 at) refl f
    by false true at more f = attribute_reads x rest r (bytes_eq rest (codes "all")) (eqb-true x 35 more) refl f
    by false false at more f = absurd (none-some r f)

-- Where an entry is read, the bytes are the spelling of one.
pub spells_one : (bytes : List ℕ) (o : Option Role) → role_in bytes ≡ o → IsSome o → ((r : Role) → is_role r ≡ true → role_spelling r ≡ bytes → ⊥) → ⊥
spells_one bytes None e some none = absurd (false≢true some)
spells_one bytes (Some r) e some none = let p = reads bytes r e in none r p.0 p.1

-- Whether a reading was refused as no entry.
abbrev is_bad : Result Role RoleFault → Bool
is_bad (Ok r) = false
is_bad (Err fault.BadRole) = true
is_bad (Err fault.AllNotAlone) = false
is_bad (Err fault.NoMemory) = false

-- The bytes are the spelling of no entry.
abbrev pub IsNone : List ℕ → Type 0
IsNone bytes = (r : Role) → is_role r ≡ true → role_spelling r ≡ bytes → ⊥

-- Where memory was wanting, some entry is read.
pub bad_for_memory : (bytes : List ℕ) (res : Result Role RoleFault) → (y : RoleFault) × (res ≡ Err y) × (y ≡ fault.NoMemory) → IsSome (role_in bytes)
    → IsErrOf res fault.BadRole ↔ IsNone bytes
bad_for_memory bytes res p some =
    (λ bad. absurd (false≢true (sym (ap is_bad (p.1 ∙ ap Err p.2)) ∙ ap is_bad bad)), λ none. absurd (spells_one bytes (role_in bytes) refl some none))

-- Otherwise the answer says whether one is.
pub bad_for_none : (bytes : List ℕ) (o : Option Role) (res : Result Role RoleFault) → o ≡ role_in bytes → res ≡ ok_or o fault.BadRole
    → IsErrOf res fault.BadRole ↔ IsNone bytes
bad_for_none bytes None res e is = (λ bad. spells_none bytes (sym e), λ none. is)
bad_for_none bytes (Some r) res e is =
    (λ bad. absurd (false≢true (sym (ap is_bad is) ∙ ap is_bad bad)), λ none. absurd (spells_one bytes (Some r) (sym e) refl none))

-- What is no entry of a kind gives no name of the kind.
pub id_in-none : (r : Role) → ((name : List ℕ) → r ≡ Id name → ⊥) → id_in r ≡ []
id_in-none All other = refl
id_in-none (Id name) other = absurd (other name refl)
id_in-none (Attribute name) other = refl

pub attribute_in-none : (r : Role) → ((name : List ℕ) → r ≡ Attribute name → ⊥) → attribute_in r ≡ []
attribute_in-none All other = refl
attribute_in-none (Id name) other = refl
attribute_in-none (Attribute name) other = absurd (other name refl)
