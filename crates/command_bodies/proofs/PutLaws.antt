-- What is put of the values of a command, one more at a time.
use Rattle.std.proofs.Common.{◌≡◌, ◌⊎◌, inl, inr, ℕ, ◌+◌, ◌<◌, List, [], ◌∷◌, drop, get_or, length, map, Option, Some, None, OnOk, Result, refl, sym, ap, ◌∙◌, subst}
use Rattle.std.proofs.lemmas.List.{drop_more}
use Rattle.serde_json.specs.Data.{Members}
use Rattle.serde_json.specs.View.{members_view}
use Rattle.ctrl_model.specs.declared.commands.Command.{Command}
use Rattle.ctrl_model.specs.declared.commands.Command.TheVariants as command
use Rattle.ctrl_model.specs.declared.refusals.Field.{Field}
use Rattle.command_bodies.specs.declared.field_values.BodyMembers.{BodyMembers}
use Rattle.command_bodies.specs.declared.field_values.FieldValue.{FieldValue}
use Rattle.command_bodies.specs.CommandFields.{each_written, given_fields, values_between, with_given}
use Rattle.ctrl_model.specs.CommandValues.{form_of, values_of}
use Rattle.command_bodies.specs.ValueTexts.{given_by}
use Rattle.command_bodies.specs.WrittenFields.{Given, with_fields}

one_put : (f : Field) (w : Option Given) (fs : List Field) (gs : List (Option Given)) (ms : Members)
    → with_fields (with_given f w (given_fields fs gs)) ms ≡ with_fields (given_fields fs gs) (with_fields (with_given f w []) ms)
one_put f None fs gs ms = refl
one_put f (Some g) fs gs ms = refl

-- What is left to put, put beside what was put before it.
abbrev pub put_from : List Field → List FieldValue → ℕ → Members → Members
put_from fs vs i ms = with_fields (given_fields (drop i fs) (map given_by (drop i vs))) ms

pub put_step : (fs : List Field) (vs : List FieldValue) (i : ℕ) (f : Field) (v : FieldValue) (ms new : Members) → i < length fs → i < length vs → f ≡ get_or fs i f → v ≡ get_or vs i v
    → new ≡ with_fields (with_given f (given_by v) []) ms → put_from fs vs (i + 1) new ≡ put_from fs vs i ms
put_step fs vs i f v ms new few fewer field value put =
    ap (put_from fs vs (i + 1)) put ∙ sym (one_put f (given_by v) (drop (i + 1) fs) (map given_by (drop (i + 1) vs)) ms)
    ∙ sym (ap (λ l. with_fields (given_fields l (map given_by (drop i vs))) ms) (drop_more fs i f few ∙ ap (λ g. g ∷ drop (i + 1) fs) (sym field))
    ∙ ap (λ l. with_fields (given_fields (f ∷ drop (i + 1) fs) (map given_by l)) ms) (drop_more vs i v fewer ∙ ap (λ u. u ∷ drop (i + 1) vs) (sym value)))

-- ---- the values of a command of a family

-- These values were put.
abbrev pub PutValues : {T E : Type 0} → Result T E → BodyMembers → BodyMembers → List (Option Given) → Type 0
PutValues r old new gs = OnOk r (members_view new.members.entries ≡ with_fields (given_fields old.fields.now gs) (members_view old.members.entries))

-- Those of a command of a family were put.
abbrev pub PutBetween : {T E : Type 0} → Result T E → ℕ → ℕ → BodyMembers → BodyMembers → Command → Type 0
PutBetween r first past old new c = PutValues r old new (values_between first past c)

-- what holds of a command holds of one that is it, or of one that is one of several
pub of_one : (P : Command → Type 0) {c d : Command} → c ≡ d → P d → P c
of_one P is p = subst P (sym is) p

pub of_two : (P : Command → Type 0) {c d e : Command} → (c ≡ d) ⊎ (c ≡ e) → P d → P e → P c
of_two P (inl is) p q = of_one P is p
of_two P (inr is) p q = of_one P is q

pub of_three : (P : Command → Type 0) {c d e f : Command} → (c ≡ d) ⊎ ((c ≡ e) ⊎ (c ≡ f)) → P d → P e → P f → P c
of_three P (inl is) p q r = of_one P is p
of_three P (inr is) p q r = of_two P is q r

pub of_four : (P : Command → Type 0) {c d e f g : Command} → (c ≡ d) ⊎ ((c ≡ e) ⊎ ((c ≡ f) ⊎ (c ≡ g))) → P d → P e → P f → P g → P c
of_four P (inl is) p q r s = of_one P is p
of_four P (inr is) p q r s = of_three P is q r s

pub of_five : (P : Command → Type 0) {c d e f g h : Command} → (c ≡ d) ⊎ ((c ≡ e) ⊎ ((c ≡ f) ⊎ ((c ≡ g) ⊎ (c ≡ h)))) → P d → P e → P f → P g → P h → P c
of_five P (inl is) p q r s t = of_one P is p
of_five P (inr is) p q r s t = of_four P is q r s t

-- ---- the values of each command, family after family

-- What a family of commands puts.
abbrev pub put_between : ℕ → ℕ → Command → List Field → Members → Members
put_between first past c fs ms = with_fields (given_fields fs (values_between first past c)) ms

-- What the families put, one after another.
abbrev pub put_by_all : Command → List Field → Members → Members
put_by_all c fs ms =
    put_between 1600 1700 c fs (put_between 1400 1600 c fs (put_between 1300 1400 c fs (put_between 1200 1300 c fs
    (put_between 1110 1200 c fs (put_between 1100 1110 c fs (put_between 1000 1100 c fs ms))))))

-- a command is of one family, or has no fields
pub all_put : (c : Command) (fs : List Field) (ms : Members) → put_by_all c fs ms ≡ with_fields (given_fields fs (each_written (form_of c) (values_of c))) ms
all_put command.Hello fs ms = refl
all_put (command.CreateIdentity _ _) fs ms = refl
all_put (command.UpdateIdentity _ _) fs ms = refl
all_put (command.DeleteIdentity _) fs ms = refl
all_put (command.CreateService _ _) fs ms = refl
all_put (command.UpdateService _ _) fs ms = refl
all_put (command.DeleteService _) fs ms = refl
all_put (command.CreateRouter _ _ _ _) fs ms = refl
all_put (command.UpdateRouter _ _ _ _) fs ms = refl
all_put (command.DeleteRouter _) fs ms = refl
all_put (command.ConnectRouter _) fs ms = refl
all_put (command.DisconnectRouter _) fs ms = refl
all_put (command.CreateServicePolicy _ _ _ _ _) fs ms = refl
all_put (command.UpdateServicePolicy _ _ _ _ _) fs ms = refl
all_put (command.DeleteServicePolicy _) fs ms = refl
all_put (command.CreateEdgeRouterPolicy _ _ _ _) fs ms = refl
all_put (command.UpdateEdgeRouterPolicy _ _ _ _) fs ms = refl
all_put (command.DeleteEdgeRouterPolicy _) fs ms = refl
all_put (command.CreateServiceEdgeRouterPolicy _ _ _ _) fs ms = refl
all_put (command.UpdateServiceEdgeRouterPolicy _ _ _ _) fs ms = refl
all_put (command.DeleteServiceEdgeRouterPolicy _) fs ms = refl
all_put (command.CreateLink _ _ _ _ _ _) fs ms = refl
all_put (command.SetLinkCost _ _) fs ms = refl
all_put (command.ReportLatency _ _ _) fs ms = refl
all_put (command.ReportState _ _ _) fs ms = refl
all_put (command.DeleteLink _) fs ms = refl
all_put (command.SetLeastRouterCost _) fs ms = refl
all_put (command.CreateTerminator _ _ _ _ _ _) fs ms = refl
all_put (command.UpdateTerminator _ _ _) fs ms = refl
all_put (command.DeleteTerminator _) fs ms = refl
all_put (command.CreateCircuit _ _ _ _) fs ms = refl
all_put (command.DeleteCircuit _) fs ms = refl
all_put (command.Explain _ _ _ _) fs ms = refl
all_put (command.VerifyRoute _ _ _ _ _ _ _ _ _ _) fs ms = refl
all_put (command.ShowGrants _) fs ms = refl
all_put (command.ListServices _) fs ms = refl
all_put command.ShowCounts fs ms = refl
all_put (command.ShowCircuit _) fs ms = refl
all_put command.Compact fs ms = refl
all_put (command.SetIntercept _ _) fs ms = refl
all_put (command.ClearIntercept _) fs ms = refl
all_put (command.Pick _ _ _ _) fs ms = refl
all_put (command.ListClashes _ _) fs ms = refl

-- what one more family puts beside what was put before it
pub then_put : (first past : ℕ) (c : Command) (fs : List Field) (ms : Members) (old new : BodyMembers) → old.fields.now ≡ fs → members_view old.members.entries ≡ ms
    → members_view new.members.entries ≡ put_between first past c old.fields.now (members_view old.members.entries)
    → members_view new.members.entries ≡ put_between first past c fs ms
then_put first past c fs ms old new fields before put =
    put ∙ ap (λ l. put_between first past c l (members_view old.members.entries)) fields ∙ ap (put_between first past c fs) before
