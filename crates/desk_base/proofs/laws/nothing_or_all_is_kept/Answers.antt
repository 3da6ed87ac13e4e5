use Rattle.std.proofs.Common.{List, take, refl, ap, ◌∙◌}
use Rattle.ziti_outside.specs.Images.{Image}
use Rattle.desk_base.specs.MemEvents.{Event, Writing, Cutting, Syncing, written_over, reads_after}
use Rattle.desk_base.specs.MemStops.{with_part_here}
use Rattle.desk_base.specs.StopPoints.{whole_parts}
use Rattle.desk_base.proofs.MemLaws.{reads_push}
use Rattle.desk_base.proofs.KeptLaws.{up_to_none, up_to_last, done_as_made, done_here, syncs_own, whole_on}
use Rattle.desk_base.proofs.laws.nothing_or_all_is_kept.Goals as goal

pub returns-clause-synced : goal.returns-clause-synced
returns-clause-synced c = λ first before behind p none.
    ap (λ (l : List Event). reads_after first l p) (up_to_last p before behind (Syncing p) (syncs_own p) none) ∙ ap (λ (i : Image). i p) (reads_push first before (Syncing p))

pub returns-clause-never_synced : goal.returns-clause-never_synced
returns-clause-never_synced c = λ first es p none. ap (λ (l : List Event). reads_after first l p) (up_to_none p es none)

pub returns-clause-whole : goal.returns-clause-whole
returns-clause-whole c = λ first es p made. ap (λ (l : List Event). reads_after first l p) (done_as_made p es made)

pub returns-clause-written_whole : goal.returns-clause-written_whole
returns-clause-written_whole c = λ first es p at bytes done.
    whole_on first es (Writing p at bytes done) p refl ∙ with_part_here p (written_over at bytes (whole_parts first es p)) _

pub returns-clause-cut_whole : goal.returns-clause-cut_whole
returns-clause-cut_whole c = λ first es p len done.
    whole_on first es (Cutting p len done) p refl ∙ with_part_here p (take len (whole_parts first es p)) _

pub returns-clause-synced_whole : goal.returns-clause-synced_whole
returns-clause-synced_whole c = λ first es p.
    ap (λ (l : List Event). reads_after first l p) (done_here p es (Syncing p) (syncs_own p)) ∙ ap (λ (i : Image). i p) (reads_push first es (Syncing p))
