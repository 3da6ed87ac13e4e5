use Rattle.std.proofs.Common.{inl, inr, Some, refl, sym, ap, ◌∙◌}
use Rattle.follow_core.specs.declared.taken.Taken.{Taken}
use Rattle.follow_core.proofs.deciding.answered.Goals as goal

pub returns-then-bad-clause-answers : goal.returns-then-bad-clause-answers
returns-then-bad-clause-answers g c = inl (sym c.in_ok-bad.ensures ∙ c.if-bad.true, refl)

pub beside_kept-requires-clause-late : goal.beside_kept-requires-clause-late
beside_kept-requires-clause-late g c = sym c.comes_late.ensures ∙ c.if-comes_late.true

pub returns-then-comes_late-clause-answers : goal.returns-then-comes_late-clause-answers
returns-then-comes_late-clause-answers g c =
    let b = c.in_ok-taken.ensures.beside in
    inr (sym c.in_ok-bad.ensures ∙ c.if-bad.false, inl (sym c.comes_late.ensures ∙ c.if-comes_late.true, (b.0, b.2, ap (λ (t : Taken). Some t) b.1)))

pub returns-then-comes_early-clause-answers : goal.returns-then-comes_early-clause-answers
returns-then-comes_early-clause-answers g c =
    inr (sym c.in_ok-bad.ensures ∙ c.if-bad.false, inr (sym c.comes_late.ensures ∙ c.if-comes_late.false, inl (sym c.comes_early.ensures ∙ c.if-comes_early.true, refl)))

pub returns-then-nowhere-clause-answers : goal.returns-then-nowhere-clause-answers
returns-then-nowhere-clause-answers g c =
    inr (
      sym c.in_ok-bad.ensures ∙ c.if-bad.false,
      inr (
        sym c.comes_late.ensures ∙ c.if-comes_late.false,
        inr (
          sym c.comes_early.ensures ∙ c.if-comes_early.false,
          inl (λ on. c.in_ok-nowhere.ensures.nowhere c.if-nowhere.true on, refl),
        ),
      ),
    )

pub returns-clause-answers : goal.returns-clause-answers
returns-clause-answers g c =
    inr (
      sym c.in_ok-bad.ensures ∙ c.if-bad.false,
      inr (
        sym c.comes_late.ensures ∙ c.if-comes_late.false,
        inr (
          sym c.comes_early.ensures ∙ c.if-comes_early.false,
          inr (c.in_ok-nowhere.ensures.on c.if-nowhere.false, refl),
        ),
      ),
    )
