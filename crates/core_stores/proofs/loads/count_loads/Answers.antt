use Rattle.std.proofs.Common.{subst}
use Rattle.core_stores.specs.declared.loads.Loads.{Loads}
use Rattle.core_stores.specs.OpenCircuits.{CountsBut}
use Rattle.core_stores.proofs.LoadLaws.{ends_there, has_room}
use Rattle.core_stores.proofs.loads.count_loads.Goals as goal

pub count_more-requires : goal.count_more-requires
count_more-requires c =
    let st = c.args.stores.now in
    let n = c.in-More.no.0 in
    let lacks = subst (λ (l : Loads). CountsBut l st) c.in-More.is c.requires.but n in
    record { there = ends_there st n c.requires.ends lacks; room = has_room st n c.requires.ends lacks }
