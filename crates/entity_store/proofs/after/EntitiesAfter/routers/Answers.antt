use Rattle.ctrl_model.specs.State.{Router, as_entity}
use Rattle.std.proofs.Common.{ℕ}
use Rattle.entity_store.proofs.AfterLaws.{seen-after}
use Rattle.entity_store.proofs.TimesLaws.{Between-from_map}
use Rattle.entity_store.proofs.after.EntitiesAfter.routers.Goals as goal

pub returns-in-Some : goal.returns-in-Some
returns-in-Some c =
    let t = c.self.inside.entities.now in
    let ordered = Between-from_map (λ (row : ℕ × Router). as_entity row.1) t.routers.next t.routers.rows 1 c.next.ensures.numbers.ordered in
    rw (← c.self.view_is, c.in-Some.is, seen-after c.in-Some.change.now t ordered, ← c.next.ensures.next, ← c.in_ok-routers.ensures) c.routers_after.ensures
