use Rattle.std.proofs.Common.{◌≡◌, ℕ, List, sym, ◌∙◌, ap, subst}
use Rattle.ctrl_model.specs.declared.intercepts.Intercept.{Intercept}
use Rattle.ctrl_model.specs.Numbered.{without, Between}
use Rattle.ctrl_model.proofs.NumberedLaws.{Between-without}
use Rattle.record_tables.proofs.RecordLaws.{remove_entry-without}
use Rattle.intercepts.proofs.store.Intercepts.remove.Goals as goal

pub invariant_of-self : goal.invariant_of-self
invariant_of-self c =
    let es : List (ℕ × Intercept) = c.self.inside.claims.entries in
    let left : c.remove-removed.new.self.entries ≡ without es c.args.service =
    c.remove-removed.ensures.entries ∙ remove_entry-without 4294967296 es 0 c.args.service c.self.invariant in
    subst (λ (xs : List (ℕ × Intercept)). Between 0 4294967296 xs) (sym left) (Between-without 4294967296 es 0 c.args.service c.self.invariant)

pub returns : goal.returns
returns c =
    c.remove-removed.ensures.entries ∙ remove_entry-without 4294967296 c.self.inside.claims.entries 0 c.args.service c.self.invariant
    ∙ ap (λ (xs : List (ℕ × Intercept)). without xs c.args.service) c.self.view_is
