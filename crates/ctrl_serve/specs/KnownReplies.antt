-- The machine and the batches of its folder by what a run knows of the sessions of its input. Only private contracts cite these.
use Rattle.std.specs.Prelude.{ℕ, List, [], ◌∷◌}
use Rattle.row_store.specs.declared.bounds.StoreBounds.{StoreBounds}
use Rattle.ctrl_keep.specs.KeptMachine.{Machine}
use Rattle.ctrl_keep.specs.KeptBatches.{batches_next}
use Rattle.session_mux.specs.declared.events.Event.{Event}
use Rattle.run_notes.specs.KnownSessions.{Known, known_after}
use Rattle.serve_loop.specs.KnownReplies as loop
use Rattle.ctrl_serve.specs.FrameAnswer.{controller}

-- The machine once an event was answered: a frame that arrived is.
abbrev pub machine_after : StoreBounds → Event → Known → Machine → Machine
machine_after bounds e k m = loop.machine_after (controller bounds) e k m

-- The machine once some events were answered.
abbrev pub machine_along : StoreBounds → List Event → Known → Machine → Machine
machine_along bounds events k m = loop.machine_along (controller bounds) events k m

-- For which batches a folder stands once some events were answered, that stood for these before them.
abbrev pub batches_along : StoreBounds → List Event → Known → Machine → List (List ℕ) → List (List ℕ)
batches_along bounds [] k m batches = batches
batches_along bounds (e ∷ events) k m batches = batches_along bounds events (known_after e k) (machine_after bounds e k m) (batches_next m (machine_after bounds e k m) batches)
