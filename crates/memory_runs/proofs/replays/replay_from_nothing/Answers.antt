use Rattle.std.proofs.Common.{[], inl}
use Rattle.std.proofs.lemmas.Result.{IfOk-weaker}
use Rattle.ziti_desk.specs.MemEvents.{image_of}
use Rattle.memory_runs.specs.WholeReplays.{bounds, new_machine}
use Rattle.memory_runs.proofs.OneMachines.{new_opens, new_roomy}
use Rattle.memory_runs.proofs.SeenReplays.{some_is, new_stands}
use Rattle.memory_runs.proofs.replays.replay_from_nothing.Goals as goal

pub returns-clause-ends : goal.returns-clause-ends
returns-clause-ends c =
    IfOk-weaker c.replay_in_memory.result _ _ (λ r whole. whole.ends) (c.replay_in_memory.ensures.whole new_machine (new_opens (image_of c.empty.result) c.empty.ensures.mark) (new_roomy bounds (image_of c.empty.result) c.empty.ensures.mark))

pub returns-clause-said : goal.returns-clause-said
returns-clause-said c =
    IfOk-weaker c.replay_in_memory.result _ _ (λ r whole. some_is _ _ whole.said) (c.replay_in_memory.ensures.whole new_machine (new_opens (image_of c.empty.result) c.empty.ensures.mark) (new_roomy bounds (image_of c.empty.result) c.empty.ensures.mark))

pub returns-clause-notes : goal.returns-clause-notes
returns-clause-notes c =
    IfOk-weaker c.replay_in_memory.result _ _ (λ r whole. whole.notes) (c.replay_in_memory.ensures.whole new_machine (new_opens (image_of c.empty.result) c.empty.ensures.mark) (new_roomy bounds (image_of c.empty.result) c.empty.ensures.mark))

pub returns-clause-opens : goal.returns-clause-opens
returns-clause-opens c =
    IfOk-weaker c.replay_in_memory.result _ _ (λ r whole. whole.opens) (c.replay_in_memory.ensures.whole new_machine (new_opens (image_of c.empty.result) c.empty.ensures.mark) (new_roomy bounds (image_of c.empty.result) c.empty.ensures.mark))

pub returns-clause-keeps : goal.returns-clause-keeps
returns-clause-keeps c =
    IfOk-weaker c.replay_in_memory.result _ _ (λ r whole. whole.keeps) (c.replay_in_memory.ensures.whole new_machine (new_opens (image_of c.empty.result) c.empty.ensures.mark) (new_roomy bounds (image_of c.empty.result) c.empty.ensures.mark))

pub returns-clause-stands : goal.returns-clause-stands
returns-clause-stands c =
    IfOk-weaker c.replay_in_memory.result _ _ (λ r whole. whole.stands [] (inl (new_stands (image_of c.empty.result) c.empty.ensures.mark)))
    (c.replay_in_memory.ensures.whole new_machine (new_opens (image_of c.empty.result) c.empty.ensures.mark) (new_roomy bounds (image_of c.empty.result) c.empty.ensures.mark))
