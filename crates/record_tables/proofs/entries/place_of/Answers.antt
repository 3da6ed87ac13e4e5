use Rattle.std.proofs.Common.{◌≡◌, None, rules}
use Rattle.std.proofs.lemmas.List.Sorted.{answers_always}
use Rattle.ctrl_model.specs.Numbered.{at}
use Rattle.record_tables.specs.Entries.{numbered_records, IsPlace}
use Rattle.record_tables.proofs.PlaceLaws.{searched_place}
use Rattle.record_tables.proofs.ChangedLists.{ok_found, ok_absent}
use Rattle.record_tables.proofs.entries.place_of.Goals as goal

pub returns-clause-found : goal.returns-clause-found
returns-clause-found g c =
    let said = c.binary_search_by_key.ensures in
    let by_number = said.position (λ e. e.1.0) (answers_always _ _ _ (λ f a r g called. search rules)) in
    rw c.ok.ensures.value
    (ok_found (IsPlace c.args.number c.args.entries.now.entries) (at (numbered_records c.args.entries.now.entries) c.args.number ≡ None) c.binary_search_by_key.result (searched_place (λ e. e.1) 4294967295 c.args.entries.now.entries 1 c.args.number c.binary_search_by_key.result c.requires said.bound by_number))

pub returns-clause-absent : goal.returns-clause-absent
returns-clause-absent g c =
    let said = c.binary_search_by_key.ensures in
    let by_number = said.position (λ e. e.1.0) (answers_always _ _ _ (λ f a r g called. search rules)) in
    rw c.ok.ensures.value
    (ok_absent (IsPlace c.args.number c.args.entries.now.entries) (at (numbered_records c.args.entries.now.entries) c.args.number ≡ None) c.binary_search_by_key.result (searched_place (λ e. e.1) 4294967295 c.args.entries.now.entries 1 c.args.number c.binary_search_by_key.result c.requires said.bound by_number))
