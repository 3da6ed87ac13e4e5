use Rattle.std.proofs.Common.{◌≡◌, ℕ, List, sym, ◌∙◌, ap, subst, arith}
use Rattle.std.proofs.lemmas.Bool.{false≢true}
use Rattle.std.specs.Option.{is_some}
use Rattle.ctrl_model.specs.declared.intercepts.Intercept.{Intercept}
use Rattle.ctrl_model.specs.Numbered.{is_present, with_at, Between}
use Rattle.ctrl_model.proofs.NumberedLaws.{Between-with_at}
use Rattle.record_tables.proofs.RecordLaws.{at-lookup}
use Rattle.intercepts.proofs.ClaimLaws.{insert_entry-with_at}
use Rattle.intercepts.proofs.store.Intercepts.set.Goals as goal

pub returns-in_err-insert-clause-there : goal.returns-in_err-insert-clause-there
returns-in_err-insert-clause-there c = λ there.
    absurd (false≢true (sym (ap is_some (at-lookup c.self.inside.claims.entries c.args.service ∙ c.in_err-insert.ensures.absent))
    ∙ ap (λ (xs : List (ℕ × Intercept)). is_present xs c.args.service) c.self.view_is ∙ there))

pub invariant_of-self-2 : goal.invariant_of-self-2
invariant_of-self-2 c =
    let es : List (ℕ × Intercept) = c.self.inside.claims.entries in
    let put : c.insert.new.self.entries ≡ with_at c.args.service c.args.intercept es = c.in_ok-insert.ensures.entries ∙ insert_entry-with_at es c.args.service c.args.intercept in
    let fits = c.ranges.service.fits in
    subst (λ (xs : List (ℕ × Intercept)). Between 0 4294967296 xs) (sym put)
    (Between-with_at 4294967296 es 0 c.args.service c.args.intercept (omega arith) (omega arith) c.self.invariant)

pub returns-clause-ok : goal.returns-clause-ok
returns-clause-ok c =
    c.in_ok-insert.ensures.entries ∙ insert_entry-with_at c.self.inside.claims.entries c.args.service c.args.intercept
    ∙ ap (with_at c.args.service c.args.intercept) c.self.view_is
