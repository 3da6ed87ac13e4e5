use Rattle.std.proofs.Common.{◌≡◌, None, map, rules}
use Rattle.std.proofs.lemmas.List.Sorted.{answers_always}
use Rattle.ctrl_model.specs.Numbered.{at}
use Rattle.record_tables.proofs.PlaceLaws.{searched_place}
use Rattle.record_tables.proofs.ChangedLists.{ok_found, ok_absent}
use Rattle.fabric_graph.specs.Routers.{IsRouterPlace, numbered}
use Rattle.fabric_graph.proofs.steps.searched_place.Goals as goal

pub returns-clause-found : goal.returns-clause-found
returns-clause-found c =
    let said = c.binary_search_by_key.ensures in
    let by_number = said.position (λ r. r.no.0) (answers_always _ _ _ (λ f a r g called. search rules)) in
    rw c.ok.ensures.value
    (ok_found (IsRouterPlace c.args.number c.args.routers.now) (at (map numbered c.args.routers.now) c.args.number ≡ None) c.binary_search_by_key.result (searched_place numbered 4294967296 c.args.routers.now 0 c.args.number c.binary_search_by_key.result c.requires.ordered said.bound by_number))

pub returns-clause-absent : goal.returns-clause-absent
returns-clause-absent c =
    let said = c.binary_search_by_key.ensures in
    let by_number = said.position (λ r. r.no.0) (answers_always _ _ _ (λ f a r g called. search rules)) in
    rw c.ok.ensures.value
    (ok_absent (IsRouterPlace c.args.number c.args.routers.now) (at (map numbered c.args.routers.now) c.args.number ≡ None) c.binary_search_by_key.result (searched_place numbered 4294967296 c.args.routers.now 0 c.args.number c.binary_search_by_key.result c.requires.ordered said.bound by_number))
