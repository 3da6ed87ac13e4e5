use Rattle.std.proofs.Common.{◌≡◌, ◌∙◌, Some, sym, rules}
use Rattle.entity_store.proofs.PlaceLaws.{some_place_of, place_found}
use Rattle.entity_store.proofs.kind_tables.place_in.Goals as goal

pub unwrap-requires : goal.unwrap-requires
unwrap-requires g c = rw c.found_in.ensures (some_place_of c.args.table.now.rows c.args.no c.requires)

pub returns : goal.returns
returns g c =
    let found : c.found_in.result ≡ Some c.unwrap.result = search rules in
    place_found c.args.table.now.rows c.args.no c.unwrap.result (sym c.found_in.ensures ∙ found)
