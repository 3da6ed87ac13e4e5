use Rattle.std.proofs.Common.{◌≡◌, true, List, ◌++◌, sym, ◌∙◌, ap, subst}
use Rattle.ctrl_model.specs.declared.kinds.Kind.{Kind}
use Rattle.row_codec.specs.declared.changes.Change.{Change}
use Rattle.row_codec.specs.CoveredTables.{Covers}
use Rattle.policy_store.specs.declared.records.Hand.{Hand}
use Rattle.policy_store.specs.PolicyTables.{is_policy_kind}
use Rattle.policy_commands.specs.PolicyRows.{forgotten_rows}
use Rattle.policy_commands.proofs.PolicyRowLaws.{StillFit, naming_policies, naming_fit, forgotten_pair, covers_forgotten}
use Rattle.policy_commands.proofs.rows.forgotten_changes.Goals as goal

pub push_forgotten-requires-clause-kind : goal.push_forgotten-requires-clause-kind
push_forgotten-requires-clause-kind c =
    subst (λ (on : (Kind × Hand) × (Kind × Hand)). is_policy_kind on.0.0 ≡ true) (sym c.naming.ensures) (naming_policies c.args.kind c.requires.kind).0

pub push_forgotten-requires-clause-after : goal.push_forgotten-requires-clause-after
push_forgotten-requires-clause-after c =
    subst (λ (on : (Kind × Hand) × (Kind × Hand)). StillFit c.args.kept.now c.args.name.now on.0) (sym c.naming.ensures)
    (naming_fit c.args.kind c.args.name.now c.args.kept.now c.requires.kind c.requires.after).0

pub push_forgotten-requires-2-clause-kind : goal.push_forgotten-requires-2-clause-kind
push_forgotten-requires-2-clause-kind c =
    subst (λ (on : (Kind × Hand) × (Kind × Hand)). is_policy_kind on.1.0 ≡ true) (sym c.naming.ensures) (naming_policies c.args.kind c.requires.kind).1

pub push_forgotten-requires-2-clause-after : goal.push_forgotten-requires-2-clause-after
push_forgotten-requires-2-clause-after c =
    subst (λ (on : (Kind × Hand) × (Kind × Hand)). StillFit c.args.kept.now c.args.name.now on.1) (sym c.naming.ensures)
    (naming_fit c.args.kind c.args.name.now c.args.kept.now c.requires.kind c.requires.after).1

pub returns : goal.returns
returns c = λ f s t es et.
    let p = c.args.kept.now in
    let name = c.args.name.now in
    let on = c.naming.result in
    let made : c.of.result ≡ forgotten_pair p name on =
    c.of.ensures ∙ c.in_ok-push_forgotten-2.ensures
    ∙ ap (λ (xs : List Change). xs ++ forgotten_rows on.1.0 on.1.1 name p) (c.in_ok-push_forgotten.ensures ∙ ap (λ (xs : List Change). xs ++ forgotten_rows on.0.0 on.0.1 name p) c.new-changes.ensures.items) in
    subst (λ (cs : List Change). Covers f 7 10 s t cs) (sym (made ∙ ap (forgotten_pair p name) c.naming.ensures))
    (covers_forgotten f c.args.kind name p s t c.requires.kind c.requires.before es et)
