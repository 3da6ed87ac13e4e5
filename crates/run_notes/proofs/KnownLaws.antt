-- What is known behind some events: the rests of the closed sessions, and whether one had a fault.
use Rattle.std.proofs.Common.{◌≡◌, Bool, true, false, ◌||◌, List, [], ◌∷◌, ◌++◌, replicate, refl, ◌∙◌}
use Rattle.std.specs.List.{list_any}
use Rattle.ctrl_model.specs.declared.kinds.Who.TheVariants.{Admin}
use Rattle.session_mux.specs.declared.events.Event.{Event}
use Rattle.session_mux.specs.declared.events.Event.TheVariants as event
use Rattle.session_mux.specs.declared.sessions.Form.{Form}
use Rattle.session_mux.specs.declared.sessions.Form.TheVariants.{Plain, Trace}
use Rattle.run_notes.specs.Inputs.{is_fault, no_counts, rests_along}
use Rattle.run_notes.specs.KnownSessions.{Known, known_in, known_after, known_along}

-- ---- events in a row

pub known_then : (es later : List Event) (k : Known) → known_along (es ++ later) k ≡ known_along later (known_along es k)
known_then [] later k = refl
known_then (e ∷ es) later k = known_then es later (known_after e k)

-- ---- rests and faults

pub along_closed : (es : List Event) (k : Known) → (known_along es k).closed ≡ rests_along es k.closed
along_closed [] k = refl
along_closed (event.Opened s who ∷ es) k = along_closed es (known_after (event.Opened s who) k)
along_closed (event.Arrived s frame ∷ es) k = along_closed es (known_after (event.Arrived s frame) k)
along_closed (event.Ended s fault at ∷ es) k = along_closed es (known_after (event.Ended s fault at) k)
along_closed (event.Closed s rest ∷ es) k = along_closed es (known_after (event.Closed s rest) k)

or_none : (p : Bool) → p ≡ (p || false)
or_none true = refl
or_none false = refl

or_some : (p q : Bool) → (true || q) ≡ (p || (true || q))
or_some true q = refl
or_some false q = refl

pub along_faulty : (es : List Event) (k : Known) → (known_along es k).faulty ≡ (k.faulty || list_any is_fault es)
along_faulty [] k = or_none k.faulty
along_faulty (event.Opened s who ∷ es) k = along_faulty es (known_after (event.Opened s who) k)
along_faulty (event.Arrived s frame ∷ es) k = along_faulty es (known_after (event.Arrived s frame) k)
along_faulty (event.Ended s fault at ∷ es) k = along_faulty es (known_after (event.Ended s fault at) k) ∙ or_some k.faulty (list_any is_fault es)
along_faulty (event.Closed s rest ∷ es) k = along_faulty es (known_after (event.Closed s rest) k)

-- ---- the start

pub start_known : (form : Form) → ◌≡◌ {A = Known} (record { senders = replicate 256 Admin; replied = no_counts; closed = no_counts; faulty = false }) (known_in form)
start_known Plain = refl
start_known Trace = refl
