-- What one step takes off a session, and how many bytes a session has taken in.
use Rattle.std.specs.Prelude.{◌≡◌, ℕ, ◌+◌, ◌≤◌, List, [], ◌∷◌, length, map, None, Some}
use Rattle.std.specs.declared.option.Option.{Option}
use Rattle.channel_frame.specs.SessionBytes.{SessionBytes, settled}
use Rattle.session_mux.specs.declared.sessions.Session.{Session}
use Rattle.session_mux.specs.declared.sessions.Session.TheVariants as session
use Rattle.session_mux.specs.declared.events.Event.{Event}
use Rattle.frame_stream.specs.StreamSteps.{HoldsWhole}
use Rattle.session_mux.specs.Completion.{bytes_events, session_events, settled_session, session_at, events_held}

-- How many bytes of a session came.
abbrev pub taken : Session → ℕ
taken session.Unopened = 0
taken (session.Open who bytes) = bytes.given + length bytes.held
taken session.Closed = 0

-- The first event of a session's bytes is given, and the others are left; or they have none and stay.
abbrev pub StreamEvent : ℕ → SessionBytes → SessionBytes → Option Event → Type 0
StreamEvent s old new None = (bytes_events s old ≡ []) × (new ≡ old)
StreamEvent s old new (Some e) =
    (bytes_events s old ≡ e ∷ bytes_events s new) × (settled old ≡ settled new) × (new.given + length new.held ≤ old.given + length old.held)

-- The first event of a session is given, and the others are left; or it has none and stays.
abbrev pub GivesEvent : ℕ → Session → Session → Option Event → Type 0
GivesEvent s old new None = (session_events s old ≡ []) × (new ≡ old)
GivesEvent s old new (Some e) =
    (session_events s old ≡ e ∷ session_events s new) × (settled_session old ≡ settled_session new) × (taken new ≤ taken old)

-- The first event of what all sessions hold is given, and the others are left; or they hold none and stay.
abbrev pub SessionsGive : List Session → List Session → Option Event → Type 0
SessionsGive old new None = (events_held 0 old ≡ []) × (new ≡ old)
SessionsGive old new (Some e) =
    (events_held 0 old ≡ e ∷ events_held 0 new) × (map settled_session old ≡ map settled_session new)
    × ((s : ℕ) → taken (session_at new s) ≤ taken (session_at old s))

-- No session but this one has an event that was not given yet.
abbrev pub IsQuietBut : ℕ → List Session → Type 0
IsQuietBut ready sessions = (s : ℕ) → (s ≡ ready → ⊥) → session_events s (session_at sessions s) ≡ []

-- An open session that has met no fault: its bytes are taken.
abbrev pub TakesBytes : Session → Type 0
TakesBytes session.Unopened = ⊥
TakesBytes (session.Open who bytes) = bytes.fault ≡ None
TakesBytes session.Closed = ⊥

-- An open session at whose front a whole frame stands.
abbrev pub HasWhole : Session → Type 0
HasWhole session.Unopened = ⊥
HasWhole (session.Open who bytes) = HoldsWhole bytes
HasWhole session.Closed = ⊥

-- One of the sessions has one.
abbrev pub SomeHasWhole : List Session → Type 0
SomeHasWhole sessions = (s : ℕ) × HasWhole (session_at sessions s)

-- No session but session 0 was opened, as in plain input.
abbrev pub IsAlone : List Session → Type 0
IsAlone sessions = (s : ℕ) → (s ≡ 0 → ⊥) → session_at sessions s ≡ session.Unopened
