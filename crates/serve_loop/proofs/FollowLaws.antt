-- How a folder follows the machine of a run, from one event to all events of an input.
use Rattle.std.proofs.Common.{◌≡◌, ℕ, List, [], ◌∷◌, ◌++◌, refl, sym, subst}
use Rattle.ziti_outside.specs.Images.{Image}
use Rattle.channel_frame.specs.declared.frames.Frame.{Frame}
use Rattle.session_mux.specs.declared.events.Event.{Event}
use Rattle.session_mux.specs.declared.events.Event.TheVariants.{Arrived}
use Rattle.run_notes.specs.KnownSessions.{Known, known_after, known_along}
use Rattle.serve_loop.specs.Answerers.{Answerer}
use Rattle.serve_loop.specs.FollowedFolders.{FollowsEvent, FollowsEvents}
use Rattle.serve_loop.specs.KnownReplies.{machine_after, machine_along}

-- The folder of a frame that arrived follows the machine.
pub follows_arrived : {M : Type 0} (answerer : Answerer M) (s : ℕ) (f : Frame) (k : Known) (m next : M) (before now : Image) → next ≡ machine_after answerer (Arrived s f) k m
    → answerer.follows m next before now → FollowsEvent answerer (Arrived s f) k m before now
follows_arrived {M} answerer s f k m next before now is follows = subst (λ (x : M). answerer.follows m x before now) is follows

-- What leaves the parts leaves what is so of them.
pub follows_behind : (so : Image → Type 0) {mid now : Image} → so mid → now ≡ mid → so now
follows_behind so follows same = subst so (sym same) follows

-- Along some events, and then others.
then_along : {M : Type 0} (answerer : Answerer M) (es later : List Event) (k : Known) (m : M) (before mid now : Image) → FollowsEvents answerer es k m before mid
    → FollowsEvents answerer later (known_along es k) (machine_along answerer es k m) mid now → FollowsEvents answerer (es ++ later) k m before now
then_along answerer [] later k m before mid now first second = subst (λ (i : Image). FollowsEvents answerer later k m i now) first second
then_along answerer (e ∷ es) later k m before mid now first second =
    (first.0, first.1, then_along answerer es later (known_after e k) (machine_after answerer e k m) first.0 mid now first.2 second)

-- By what is known and the machine behind the first ones.
pub follows_then : {M : Type 0} {answerer here : Answerer M} (es later : List Event) (k : Known) {k1 : Known} (m : M) {m1 : M} (before mid now : Image) → here ≡ answerer → k1 ≡ known_along es k
    → m1 ≡ machine_along answerer es k m → FollowsEvents answerer es k m before mid → FollowsEvents here later k1 m1 mid now → FollowsEvents answerer (es ++ later) k m before now
follows_then {M} {answerer} {here} es later k {k1} m {m1} before mid now within known same first second =
    then_along answerer es later k m before mid now first
    (subst (λ (y : M). FollowsEvents answerer later (known_along es k) y mid now) same
    (subst (λ (y : Known). FollowsEvents answerer later y m1 mid now) known
    (subst (λ (y : Answerer M). FollowsEvents y later k1 m1 mid now) within second)))

-- One event more.
pub follows_more : {M : Type 0} {answerer here : Answerer M} (es : List Event) (e : Event) (k : Known) {k1 : Known} (m : M) {m1 : M} (before mid now : Image) → here ≡ answerer → k1 ≡ known_along es k
    → m1 ≡ machine_along answerer es k m → FollowsEvents answerer es k m before mid → FollowsEvent here e k1 m1 mid now → FollowsEvents answerer (es ++ e ∷ []) k m before now
follows_more es e k m before mid now within known same first one = follows_then es (e ∷ []) k m before mid now within known same first (now, one, refl)
