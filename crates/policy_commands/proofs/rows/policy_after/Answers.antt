use Rattle.std.proofs.Common.{◌≡◌, Option, Some, None, sym, ◌∙◌, ap, subst}
use Rattle.std.proofs.lemmas.Result.{IfOk-weaker}
use Rattle.ctrl_model.specs.Numbered.{at}
use Rattle.ctrl_model.specs.State.{Policy}
use Rattle.policy_store.specs.declared.changes.PolicyChange.{PolicyChange}
use Rattle.policy_store.specs.PolicyChanges.{CanChangePolicies, after_policy_change}
use Rattle.policy_commands.specs.PolicyRows.{touched_kind, touched_number}
use Rattle.policy_store.specs.PolicyTables.{PolicyTables, policies}
use Rattle.policy_commands.proofs.PolicyRowLaws.{added_at, replaced_at, removed_at}
use Rattle.policy_commands.proofs.rows.policy_after.Goals as goal

-- the policy that a change touches, as it will be
abbrev Touched : PolicyTables → Option Policy → PolicyChange → Type 0
Touched p o c = o ≡ at (policies (touched_kind c) (after_policy_change c p)) (touched_number c p)

pub returns-in_ok-copy_policy-in-Add : goal.returns-in_ok-copy_policy-in-Add
returns-in_ok-copy_policy-in-Add c =
    let p = c.args.kept.now in
    subst (Touched p (Some c.in_ok-copy_policy-in-Add.field-0)) (sym c.in-Add.is)
    (ap Some c.in_ok-copy_policy-in-Add.ensures ∙ added_at c.in-Add.kind c.in-Add.policy p (subst (λ (d : PolicyChange). CanChangePolicies d p) c.in-Add.is c.requires) c.next-next.ensures.numbers)

pub returns-in-Replace : goal.returns-in-Replace
returns-in-Replace c =
    let p = c.args.kept.now in
    IfOk-weaker c.with_parts.result _ _ (λ o is.
    subst (Touched p o) (sym c.in-Replace.is)
    (is ∙ replaced_at c.in-Replace.kind c.in-Replace.number c.in-Replace.policy p (subst (λ (d : PolicyChange). CanChangePolicies d p) c.in-Replace.is c.requires).0)) c.with_parts.ensures

pub returns-in-Remove : goal.returns-in-Remove
returns-in-Remove c =
    let p = c.args.kept.now in
    subst (Touched p None) (sym c.in-Remove.is) (removed_at c.in-Remove.kind c.in-Remove.number p (subst (λ (d : PolicyChange). CanChangePolicies d p) c.in-Remove.is c.requires).0)
