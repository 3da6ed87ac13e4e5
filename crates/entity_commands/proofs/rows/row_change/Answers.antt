use Rattle.std.proofs.Common.{◌≡◌, IfOk, sym, ◌∙◌, refl, subst}
use Rattle.ctrl_model.specs.declared.kinds.Kind.{Kind}
use Rattle.ctrl_model.specs.declared.kinds.Kind.TheVariants as kinds
use Rattle.entity_store.specs.TableRules.{KeepsNumbers}
use Rattle.row_codec.specs.declared.changes.Change.{Change}
use Rattle.entity_commands.proofs.RowLaws.{change_there, fits_there}
use Rattle.entity_commands.proofs.rows.row_change.Goals as goal

pub plain_change-requires-clause-after : goal.plain_change-requires-clause-after
plain_change-requires-clause-after c =
    let keeps = subst (λ (k : Kind). KeepsNumbers k c.args.entities.now) c.in-Identity.is c.next-next.ensures.numbers in
    fits_there c.args.change.now c.args.entities.now c.requires.can kinds.Identity c.touched-kind.result.1 (sym c.touched-kind.ensures.kind ∙ c.in-Identity.is) c.touched-kind.ensures.number refl keeps c.requires.after

pub plain_change-requires-in-Service-clause-after : goal.plain_change-requires-in-Service-clause-after
plain_change-requires-in-Service-clause-after c =
    let keeps = subst (λ (k : Kind). KeepsNumbers k c.args.entities.now) c.in-Service.is c.next-next.ensures.numbers in
    fits_there c.args.change.now c.args.entities.now c.requires.can kinds.Service c.touched-kind.result.1 (sym c.touched-kind.ensures.kind ∙ c.in-Service.is) c.touched-kind.ensures.number refl keeps c.requires.after

pub router_change-requires-clause-after : goal.router_change-requires-clause-after
router_change-requires-clause-after c =
    let keeps = subst (λ (k : Kind). KeepsNumbers k c.args.entities.now) c.in-Router.is c.next-next.ensures.numbers in
    fits_there c.args.change.now c.args.entities.now c.requires.can kinds.Router c.touched-kind.result.1 (sym c.touched-kind.ensures.kind ∙ c.in-Router.is) c.touched-kind.ensures.number refl keeps c.requires.after

pub returns-in-Identity-clause-made : goal.returns-in-Identity-clause-made
returns-in-Identity-clause-made c =
    let keeps = subst (λ (k : Kind). KeepsNumbers k c.args.entities.now) c.in-Identity.is c.next-next.ensures.numbers in
    subst (λ (x : Change). IfOk c.plain_change.result (λ made. made ≡ x))
    (change_there c.args.change.now c.args.entities.now c.requires.can kinds.Identity c.touched-kind.result.1 (sym c.touched-kind.ensures.kind ∙ c.in-Identity.is) c.touched-kind.ensures.number refl keeps) c.plain_change.ensures

pub returns-in-Service-clause-made : goal.returns-in-Service-clause-made
returns-in-Service-clause-made c =
    let keeps = subst (λ (k : Kind). KeepsNumbers k c.args.entities.now) c.in-Service.is c.next-next.ensures.numbers in
    subst (λ (x : Change). IfOk c.plain_change-in-Service.result (λ made. made ≡ x))
    (change_there c.args.change.now c.args.entities.now c.requires.can kinds.Service c.touched-kind.result.1 (sym c.touched-kind.ensures.kind ∙ c.in-Service.is) c.touched-kind.ensures.number refl keeps) c.plain_change-in-Service.ensures

pub returns-in-Router-clause-made : goal.returns-in-Router-clause-made
returns-in-Router-clause-made c =
    let keeps = subst (λ (k : Kind). KeepsNumbers k c.args.entities.now) c.in-Router.is c.next-next.ensures.numbers in
    subst (λ (x : Change). IfOk c.router_change.result (λ made. made ≡ x))
    (change_there c.args.change.now c.args.entities.now c.requires.can kinds.Router c.touched-kind.result.1 (sym c.touched-kind.ensures.kind ∙ c.in-Router.is) c.touched-kind.ensures.number refl keeps) c.router_change.ensures
