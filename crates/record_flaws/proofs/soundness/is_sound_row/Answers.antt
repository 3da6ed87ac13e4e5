use Rattle.std.proofs.Common.{◌&&◌}
use Rattle.ctrl_model.specs.NameForm.{is_name}
use Rattle.ctrl_model.specs.ValueForms.{is_stored_side, is_service_relation}
use Rattle.row_codec.specs.RowForm.{is_listed_side}
use Rattle.row_codec.specs.RowKeys.{is_long}
use Rattle.record_flaws.proofs.SoundPolicies.{said_relation, one_relation}
use Rattle.record_flaws.proofs.soundness.is_sound_row.Goals as goal

pub returns-in-ServicePolicy : goal.returns-in-ServicePolicy
returns-in-ServicePolicy c =
    let row = c.in-ServicePolicy in
    rw row.is (said_relation (is_long row.no.0) (is_name row.name) (is_service_relation row.relation) (is_listed_side row.identities && is_listed_side row.services) c.are_sound_sides.result
    (is_stored_side row.identities && is_stored_side row.services) (rw row.is at c.requires.1) c.are_sound_sides.ensures)

pub returns-in-EdgeRouterPolicy : goal.returns-in-EdgeRouterPolicy
returns-in-EdgeRouterPolicy c =
    let row = c.in-EdgeRouterPolicy in
    rw row.is (one_relation (is_long row.no.0) (is_name row.name) (is_listed_side row.identities && is_listed_side row.routers) c.are_sound_sides-in-EdgeRouterPolicy.result
    (is_stored_side row.identities && is_stored_side row.routers) (rw row.is at c.requires.1) c.are_sound_sides-in-EdgeRouterPolicy.ensures)

pub returns-in-ServiceEdgeRouterPolicy : goal.returns-in-ServiceEdgeRouterPolicy
returns-in-ServiceEdgeRouterPolicy c =
    let row = c.in-ServiceEdgeRouterPolicy in
    rw row.is (one_relation (is_long row.no.0) (is_name row.name) (is_listed_side row.services && is_listed_side row.routers) c.are_sound_sides-in-ServiceEdgeRouterPolicy.result
    (is_stored_side row.services && is_stored_side row.routers) (rw row.is at c.requires.1) c.are_sound_sides-in-ServiceEdgeRouterPolicy.ensures)
