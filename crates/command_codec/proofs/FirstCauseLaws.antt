-- What a body says is a fault exactly where that is the first one: the fields are gone through one by one.
use Rattle.std.proofs.Common.{◌≡◌, Bool, true, false, cond, List, [], ◌∷◌, ◌++◌, Option, Some, None, Result, Ok, Err, refl, sym, ap, ◌∙◌, subst, inl, inr, ◌⊎◌}
use Rattle.std.specs.Prelude.{◌↔◌, ⊤, is_some}
use Rattle.std.specs.List.{AllByRecursion}
use Rattle.std.specs.Option.{ok_or}
use Rattle.serde_json.specs.Data.{Data}
use Rattle.ctrl_model.specs.declared.commands.Command.{Command}
use Rattle.ctrl_model.specs.declared.refusals.Field.{Field}
use Rattle.json_body.specs.declared.fields.FieldFault.{FieldFault}
use Rattle.json_body.specs.declared.fields.FieldFault.TheVariants.{Missing, WrongKind, Unknown}
use Rattle.json_body.specs.FieldKinds.{member_of, required_from, required, optional_from, optional, has_only}
use Rattle.command_codec.specs.BodyObjects.{◌>>=◌}
use Rattle.body_fields.specs.FieldRules.{FieldRule, needs, may_have, Breaks, Keeps, BreaksFirst, HasAnotherKey, rule_of}
use Rattle.ctrl_model.specs.BodyForms.{BodyField, Form, Makes}
use Rattle.command_codec.specs.FormRules.{asked_by, rules_in, is_of_body_kind}
use Rattle.ctrl_model.specs.declared.value_kinds.ValueKind.{ValueKind}
use Rattle.ctrl_model.specs.declared.value_kinds.ValueKind.TheVariants as value
use Rattle.ctrl_model.specs.ValueKinds.{Said}
use Rattle.command_codec.specs.BodyKinds.{as_kind, is_of_kind}
use Rattle.command_codec.specs.BodyMeaning.{said_of, field_said, given, ended}

-- What is said is a fault exactly where an object that is to keep these rules, and to have the words of these fields alone, has it
-- as its first one.
abbrev pub TellsFirst : List Field → List FieldRule → Data → Result Command FieldFault → Type 0
TellsFirst fields rules o r = (f : FieldFault) → ((r ≡ Err f) ↔ (BreaksFirst rules o f ⊎ HasAnotherKey rules fields o f))

-- ---- one rule more

same_fault : {T : Type 0} (f g : FieldFault) → ◌≡◌ {A = Result T FieldFault} (Err f) (Err g) → f ≡ g
same_fault f g e = cc

same_value : (d e : Data) → ◌≡◌ {A = Option Data} (Some d) (Some e) → d ≡ e
same_value d e h = cc

no_value : {P : Type 0} (d : Data) → ◌≡◌ {A = Option Data} (Some d) None → P
no_value d e = absurd (cc)

no_bool : {P : Type 0} → true ≡ false → P
no_bool e = absurd (cc)

first_rule : (r s : FieldRule) (rs ss : List FieldRule) → ◌≡◌ {A = List FieldRule} (r ∷ rs) (s ∷ ss) → r ≡ s
first_rule r s rs ss e = cc

other_rules : (r s : FieldRule) (rs ss : List FieldRule) → ◌≡◌ {A = List FieldRule} (r ∷ rs) (s ∷ ss) → rs ≡ ss
other_rules r s rs ss e = cc

-- A rule is broken by one fault alone.
one_fault : (rule : FieldRule) (o : Data) (f g : FieldFault) → Breaks rule o f → Breaks rule o g → f ≡ g
one_fault rule o f g (inl a) (inl b) = a.told ∙ sym b.told
one_fault rule o f g (inl a) (inr b) = no_value b.value (sym b.there ∙ a.absent)
one_fault rule o f g (inr a) (inl b) = no_value a.value (sym a.there ∙ b.absent)
one_fault rule o f g (inr a) (inr b) = a.told ∙ sym b.told

broken : (rule : FieldRule) (rules : List FieldRule) (o : Data) (f : FieldFault) → Breaks rule o f → BreaksFirst (rule ∷ rules) o f
broken rule rules o f b = record { before = []; rule = rule; behind = rules; place = refl; kept = tt; breaks = b }

broken_once : (rule : FieldRule) (fields : List Field) (rules : List FieldRule) (o : Data) (f g : FieldFault) → Breaks rule o g
    → BreaksFirst (rule ∷ rules) o f ⊎ HasAnotherKey (rule ∷ rules) fields o f → f ≡ g
broken_once rule fields rules o f g b (inr h) = absurd (h.kept.0 g b)
broken_once rule fields rules o f g b (inl h) = at h.before h.place h.kept
  where
    at : (before : List FieldRule) → rule ∷ rules ≡ before ++ h.rule ∷ h.behind → AllByRecursion (Keeps o) before → f ≡ g
    at [] place kept = one_fault rule o f g (subst (λ r. Breaks r o f) (sym (first_rule rule h.rule rules h.behind place)) h.breaks) b
    at (r ∷ rs) place kept = absurd (kept.0 g (subst (λ s. Breaks s o g) (first_rule rule r rules (rs ++ h.rule ∷ h.behind) place) b))

kept_more : (rule : FieldRule) (fields : List Field) (rules : List FieldRule) (o : Data) (f : FieldFault) → Keeps o rule
    → BreaksFirst rules o f ⊎ HasAnotherKey rules fields o f → BreaksFirst (rule ∷ rules) o f ⊎ HasAnotherKey (rule ∷ rules) fields o f
kept_more rule fields rules o f keeps (inl h) =
    inl (record { before = rule ∷ h.before; rule = h.rule; behind = h.behind; place = ap (λ rs. rule ∷ rs) h.place; kept = (keeps, h.kept); breaks = h.breaks })
kept_more rule fields rules o f keeps (inr h) = inr (record { kept = (keeps, h.kept); other = h.other; told = h.told })

kept_less : (rule : FieldRule) (fields : List Field) (rules : List FieldRule) (o : Data) (f : FieldFault) → Keeps o rule
    → BreaksFirst (rule ∷ rules) o f ⊎ HasAnotherKey (rule ∷ rules) fields o f → BreaksFirst rules o f ⊎ HasAnotherKey rules fields o f
kept_less rule fields rules o f keeps (inr h) = inr (record { kept = h.kept.1; other = h.other; told = h.told })
kept_less rule fields rules o f keeps (inl h) = at h.before h.place h.kept
  where
    at : (before : List FieldRule) → rule ∷ rules ≡ before ++ h.rule ∷ h.behind → AllByRecursion (Keeps o) before
        → BreaksFirst rules o f ⊎ HasAnotherKey rules fields o f
    at [] place kept = absurd (keeps f (subst (λ r. Breaks r o f) (sym (first_rule rule h.rule rules h.behind place)) h.breaks))
    at (r ∷ rs) place kept =
        inl (record { before = rs; rule = h.rule; behind = h.behind; place = other_rules rule r rules (rs ++ h.rule ∷ h.behind) place; kept = kept.1; breaks = h.breaks })

stops_here : (rule : FieldRule) (fields : List Field) (rules : List FieldRule) (o : Data) (g : FieldFault) → Breaks rule o g → TellsFirst fields (rule ∷ rules) o (Err g)
stops_here rule fields rules o g b f =
    (λ e. inl (broken rule rules o f (subst (λ h. Breaks rule o h) (same_fault {T = Command} g f e) b)), λ first. ap (λ h. Err h) (sym (broken_once rule fields rules o f g b first)))

goes_on : (rule : FieldRule) (fields : List Field) (rules : List FieldRule) (o : Data) (r : Result Command FieldFault) → Keeps o rule → TellsFirst fields rules o r
    → TellsFirst fields (rule ∷ rules) o r
goes_on rule fields rules o r keeps tells f =
    (λ e. kept_more rule fields rules o f keeps ((tells f).0 e), λ first. (tells f).1 (kept_less rule fields rules o f keeps first))

-- A value of the kind keeps the rule.
keeps_by : {A : Type 0} (kind : Data → Option A) (needed : Bool) (of_field : Field) (o d : Data) (x : A) → member_of of_field o ≡ Some d → kind d ≡ Some x
    → Keeps o (record { of_field = of_field; is_needed = needed; is_of_kind = λ d. is_some (kind d) })
keeps_by kind needed of_field o d x there said f (inl b) = no_value d (sym there ∙ b.absent)
keeps_by kind needed of_field o d x there said f (inr b) =
    no_bool (sym (ap is_some said) ∙ ap (λ e. is_some (kind e)) (same_value d b.value (sym there ∙ b.there)) ∙ b.other)

-- ---- one field after another

required_first : {A : Type 0} (kind : Data → Option A) (of_field : Field) (fields : List Field) (rules : List FieldRule) (o : Data) (k : A → Result Command FieldFault)
    → ((x : A) → TellsFirst fields rules o (k x)) → TellsFirst fields (needs kind of_field ∷ rules) o (required kind of_field o >>= k)
required_first {A} kind of_field fields rules o k rest = by (member_of of_field o) refl
  where
    said : (d : Data) → member_of of_field o ≡ Some d → (q : Option A) → kind d ≡ q → TellsFirst fields (needs kind of_field ∷ rules) o (ok_or q (WrongKind of_field) >>= k)
    said d there None is = stops_here (needs kind of_field) fields rules o (WrongKind of_field) (inr (record { value = d; there = there; other = ap is_some is; told = refl }))
    said d there (Some x) is = goes_on (needs kind of_field) fields rules o (k x) (keeps_by kind true of_field o d x there is) (rest x)

    by : (v : Option Data) → member_of of_field o ≡ v → TellsFirst fields (needs kind of_field ∷ rules) o (required_from of_field kind v >>= k)
    by None is = stops_here (needs kind of_field) fields rules o (Missing of_field) (inl (record { needed = refl; absent = is; told = refl }))
    by (Some d) is = said d is (kind d) refl

optional_first : {A : Type 0} (kind : Data → Option A) (otherwise : A) (of_field : Field) (fields : List Field) (rules : List FieldRule) (o : Data) (k : A → Result Command FieldFault)
    → ((x : A) → TellsFirst fields rules o (k x)) → TellsFirst fields (may_have kind of_field ∷ rules) o (optional kind otherwise of_field o >>= k)
optional_first {A} kind otherwise of_field fields rules o k rest = by (member_of of_field o) refl
  where
    said : (d : Data) → member_of of_field o ≡ Some d → (q : Option A) → kind d ≡ q → TellsFirst fields (may_have kind of_field ∷ rules) o (ok_or q (WrongKind of_field) >>= k)
    said d there None is = stops_here (may_have kind of_field) fields rules o (WrongKind of_field) (inr (record { value = d; there = there; other = ap is_some is; told = refl }))
    said d there (Some x) is = goes_on (may_have kind of_field) fields rules o (k x) (keeps_by kind false of_field o d x there is) (rest x)

    absent : member_of of_field o ≡ None → Keeps o (may_have kind of_field)
    absent is f (inl b) = no_bool (sym b.needed)
    absent is f (inr b) = no_value b.value (sym b.there ∙ is)

    by : (v : Option Data) → member_of of_field o ≡ v → TellsFirst fields (may_have kind of_field ∷ rules) o (optional_from of_field kind otherwise v >>= k)
    by None is = goes_on (may_have kind of_field) fields rules o (k otherwise) (absent is) (rest otherwise)
    by (Some d) is = said d is (kind d) refl

-- What is said of no more fields.
none_first : (fields : List Field) (o : Data) (c : Command) → TellsFirst fields [] o (ended fields o c)
none_first fields o c f = by (has_only fields o) refl
  where
    by : (b : Bool) → has_only fields o ≡ b → ((cond b (Ok tt) (Err Unknown) >>= λ (end : ⊤). Ok c) ≡ Err f) ↔ (BreaksFirst [] o f ⊎ HasAnotherKey [] fields o f)
    by true is = (λ e. absurd (cc), λ first. all is first)
      where
        nothing : (before : List FieldRule) (rule : FieldRule) (behind : List FieldRule) → ◌≡◌ {A = List FieldRule} [] (before ++ rule ∷ behind) → ⊥
        nothing [] rule behind e = cc
        nothing (r ∷ rs) rule behind e = cc

        all : has_only fields o ≡ true → BreaksFirst [] o f ⊎ HasAnotherKey [] fields o f → Ok c ≡ Err f
        all is (inl h) = absurd (nothing h.before h.rule h.behind h.place)
        all is (inr h) = no_bool (sym is ∙ h.other)
    by false is = (λ e. inr (record { kept = tt; other = is; told = sym (same_fault {T = Command} Unknown f e) }), λ first. other first)
      where
        nothing : (before : List FieldRule) (rule : FieldRule) (behind : List FieldRule) → ◌≡◌ {A = List FieldRule} [] (before ++ rule ∷ behind) → ⊥
        nothing [] rule behind e = cc
        nothing (r ∷ rs) rule behind e = cc

        other : BreaksFirst [] o f ⊎ HasAnotherKey [] fields o f → ◌≡◌ {A = Result Command FieldFault} (Err Unknown) (Err f)
        other (inl h) = absurd (nothing h.before h.rule h.behind h.place)
        other (inr h) = ap (λ g. Err g) (sym h.told)

-- ---- a form

-- A value is of a kind where it says something of it.
same_kind : (k : ValueKind) (d : Data) → is_some (as_kind k d) ≡ is_of_kind k d
same_kind value.Name d = refl
same_kind value.NameOrNone d = refl
same_kind value.Attributes d = refl
same_kind value.Side d = refl
same_kind (value.Number low high) d = refl
same_kind value.Flag d = refl
same_kind value.Relation d = refl
same_kind value.Semantic d = refl
same_kind value.Precedence d = refl
same_kind value.Instance d = refl
same_kind (value.Numbers most) d = refl
same_kind value.Potentials d = refl
same_kind value.Protocol d = refl
same_kind value.Protocols d = refl
same_kind value.Destination d = refl
same_kind value.Addresses d = refl
same_kind value.Ranges d = refl

-- What is said of a field, with the rule of it.
field_first : (f : BodyField) (fields : List Field) (rules : List FieldRule) (o : Data) (k : Said f.kind → Result Command FieldFault) → ((x : Said f.kind) → TellsFirst fields rules o (k x))
    → TellsFirst fields (rule_of is_of_body_kind (asked_by f.kind f.otherwise f.of_field) ∷ rules) o (field_said f o >>= k)
field_first f fields rules o k rest = by f.otherwise
  where
    by : (w : Option (Said f.kind)) → TellsFirst fields (rule_of is_of_body_kind (asked_by f.kind w f.of_field) ∷ rules) o (said_of f.kind w f.of_field o >>= k)
    by None =
        subst (λ (is_of : Data → Bool). TellsFirst fields (record { of_field = f.of_field; is_needed = true; is_of_kind = is_of } ∷ rules) o (required (as_kind f.kind) f.of_field o >>= k))
        (λ i d. same_kind f.kind d i) (required_first (as_kind f.kind) f.of_field fields rules o k rest)
    by (Some x) =
        subst (λ (is_of : Data → Bool). TellsFirst fields (record { of_field = f.of_field; is_needed = false; is_of_kind = is_of } ∷ rules) o (optional (as_kind f.kind) x f.of_field o >>= k))
        (λ i d. same_kind f.kind d i) (optional_first (as_kind f.kind) x f.of_field fields rules o k rest)

behind : {A : Type 0} (r : Result A FieldFault) (g : A → Result Command FieldFault) (k : Command → Result Command FieldFault) → ((r >>= g) >>= k) ≡ (r >>= λ x. g x >>= k)
behind (Ok x) g k = refl
behind (Err e) g k = refl

-- What an object says under a form is a fault exactly where that is its first one.
pub form_first : (fields : List Field) (form : Form) (make : Makes form) (o : Data) → TellsFirst fields (rules_in form) o (given form make o >>= ended fields o)
form_first fields [] c o = none_first fields o c
form_first fields (f ∷ fs) make o =
    subst (TellsFirst fields (rules_in (f ∷ fs)) o) (sym (behind (field_said f o) (λ x. given fs (make x) o) (ended fields o)))
    (field_first f fields (rules_in fs) o (λ x. given fs (make x) o >>= ended fields o) (λ x. form_first fields fs (make x) o))
