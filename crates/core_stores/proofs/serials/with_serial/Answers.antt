use Rattle.std.proofs.Common.{◌++◌, sym, ◌∙◌, ap}
use Rattle.std.proofs.lemmas.Bool.{true≢false}
use Rattle.core_stores.specs.Serials.{with_serial}
use Rattle.core_stores.proofs.SerialLaws.{with_some}
use Rattle.core_stores.proofs.serials.with_serial.Goals as goal

pub returns-then-is_empty : goal.returns-then-is_empty
returns-then-is_empty c = let none = c.is_empty.ensures.0 c.if-is_empty.true in none ∙ sym (ap (with_serial c.args.serial) none)

pub returns : goal.returns
returns c =
    c.of.ensures ∙ c.in_ok-append.ensures.items ∙ (λ i. c.batch.view_is i ++ (c.next.view_is ∙ c.in_ok-next.ensures) i)
    ∙ sym (with_some c.args.serial c.args.batch (λ none. true≢false (sym (c.is_empty.ensures.1 none) ∙ c.if-is_empty.false)))
