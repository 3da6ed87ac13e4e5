use Rattle.entity_store.proofs.UseLaws.{some_place}
use Rattle.entity_store.proofs.held_names.let_one_go.Goals as goal

pub unwrap-place-requires : goal.unwrap-place-requires
unwrap-place-requires c = some_place c.args.name.now c.args.held.now.items c.place_in.result c.requires (rw c.as_slice.ensures.value at c.place_in.ensures.absent)
