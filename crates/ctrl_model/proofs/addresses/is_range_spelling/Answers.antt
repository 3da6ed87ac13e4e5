use Rattle.std.proofs.Common.{◌≡◌, ◌∙◌, ap, sym, refl, not, false, [], ◌∷◌, Option, None, Some}
use Rattle.std.proofs.lemmas.Bool.{false≢true}
use Rattle.std.specs.Option.{option_map_or, is_some}
use Rattle.ctrl_model.specs.AddressForm.{parts_at}
use Rattle.ctrl_model.proofs.RangeTexts.{whole_spelled, part_spelled}
use Rattle.ctrl_model.proofs.addresses.is_range_spelling.Goals as goal

none_there : {A : Type 0} (o : Option A) → is_some o ≡ false → o ≡ None
none_there None e = refl
none_there (Some x) e = absurd (false≢true (sym e))

pub returns-in_default : goal.returns-in_default
returns-in_default c =
    c.is_some.ensures ∙ ap is_some c.ip_of.ensures
    ∙ whole_spelled c.args.bytes.now c.cut_at.result.0.now
    (c.cut_at.ensures.parts ∙ ap (λ o. c.cut_at.result.0.now ∷ option_map_or (λ rest. parts_at 47 rest.now) o []) c.in_default.is)

pub returns-then-is_none : goal.returns-then-is_none
returns-then-is_none c =
    let none = none_there c.cut_at-2.result.1 (c.is_none.ensures ∙ ap not c.if-is_none.true) in
    let behind = c.cut_at-2.ensures.parts ∙ ap (λ o. c.cut_at-2.result.0.now ∷ option_map_or (λ rest. parts_at 47 rest.now) o []) none in
    let parts =
    c.cut_at.ensures.parts ∙ ap (λ o. c.cut_at.result.0.now ∷ option_map_or (λ rest. parts_at 47 rest.now) o []) c.in-Some.is
    ∙ ap (λ ps. c.cut_at.result.0.now ∷ ps) behind in
    c.is_own_range.ensures ∙ part_spelled c.args.bytes.now c.cut_at.result.0.now c.cut_at-2.result.0.now parts
