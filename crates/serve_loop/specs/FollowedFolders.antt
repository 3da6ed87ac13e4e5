-- How a folder follows the machine of a run along events: from each frame to the next, and untouched elsewhere. Only private contracts
-- cite these.
use Rattle.std.specs.Prelude.{◌≡◌, List, [], ◌∷◌}
use Rattle.ziti_outside.specs.Images.{Image}
use Rattle.session_mux.specs.declared.events.Event.{Event}
use Rattle.session_mux.specs.declared.events.Event.TheVariants as event
use Rattle.run_notes.specs.KnownSessions.{Known, known_after}
use Rattle.serve_loop.specs.Answerers.{Answerer}
use Rattle.serve_loop.specs.KnownReplies.{machine_after}

-- Along one event: a frame that arrived is followed, and otherwise every part reads as before.
abbrev pub FollowsEvent : {M : Type 0} → Answerer M → Event → Known → M → (before now : Image) → Type 0
FollowsEvent answerer (event.Opened s who) k m before now = now ≡ before
FollowsEvent answerer (event.Arrived s frame) k m before now = answerer.follows m (machine_after answerer (event.Arrived s frame) k m) before now
FollowsEvent answerer (event.Ended s fault at) k m before now = now ≡ before
FollowsEvent answerer (event.Closed s rest) k m before now = now ≡ before

-- Along some events, one after the other.
abbrev pub FollowsEvents : {M : Type 0} → Answerer M → List Event → Known → M → (before now : Image) → Type 0
FollowsEvents answerer [] k m before now = now ≡ before
FollowsEvents answerer (e ∷ events) k m before now =
    (mid : Image) × FollowsEvent answerer e k m before mid × FollowsEvents answerer events (known_after e k) (machine_after answerer e k m) mid now
