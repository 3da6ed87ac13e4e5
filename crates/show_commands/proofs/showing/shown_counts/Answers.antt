use Rattle.std.proofs.Common.{ℕ, ◌∙◌}
use Rattle.std.proofs.lemmas.List.{length-map}
use Rattle.ctrl_model.specs.declared.replies.Reply.TheVariants as reply
use Rattle.ctrl_model.specs.State.{Entity, as_entity}
use Rattle.show_commands.proofs.showing.shown_counts.Goals as goal

pub returns : goal.returns
returns c = λ s shows i. reply.Counts (shows.circuits_are i) (c.count_grants.ensures s shows i) (c.count.ensures.count i) (shows.links_are i) (shows.policies_are i)
    ((c.count-2.ensures.count ∙ length-map {B = ℕ × Entity} c.args.shown.now.entities.now.routers.rows (λ row. (row.0, as_entity row.1))) i)
    (c.count-3.ensures.count i) (shows.terminators_are i)
