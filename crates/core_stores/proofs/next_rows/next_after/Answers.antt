use Rattle.std.proofs.Common.{◌+◌, cond, sym, ◌∙◌}
use Rattle.core_stores.proofs.next_rows.next_after.Goals as goal

pub next_if-requires : goal.next_if-requires
next_if-requires c = λ e. rw (c.next_of.ensures) (c.requires.room (sym c.adds.ensures ∙ e))

pub returns : goal.returns
returns c = c.next_if.ensures ∙ (λ i. c.next_of.ensures i + cond (c.adds.ensures i) 1 0)
