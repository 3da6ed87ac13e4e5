-- What a run knows of the sessions of its input, and what an event changes.
use Rattle.std.specs.Prelude.{ℕ, ◌+◌, ◌%◌, ◌^◌, Bool, true, false, List, [], ◌∷◌, set, get_or}
use Rattle.ctrl_model.specs.declared.kinds.Who.{Who}
use Rattle.ctrl_model.specs.declared.kinds.Who.TheVariants.{Admin}
use Rattle.session_mux.specs.declared.events.Event.{Event}
use Rattle.session_mux.specs.declared.events.Event.TheVariants as event
use Rattle.session_mux.specs.declared.sessions.Form.{Form}
use Rattle.run_notes.specs.Inputs.{senders_in, no_counts}

-- How many replies a session got, by the counts of all sessions.
abbrev pub count_at : List ℕ → ℕ → ℕ
count_at counts s = get_or counts s 0

-- The counts once a session got one reply more.
abbrev pub counted : List ℕ → ℕ → List ℕ
counted counts s = set counts s ((count_at counts s + 1) % 2 ^ 32)

-- Who has each session, how many replies it got and with what rest it was closed, by its number; and whether a session had a fault.
pub record Known : Type 0 where
  pub senders : List Who
  pub replied : List ℕ
  pub closed : List ℕ
  pub faulty : Bool

-- What is known at the start of an input.
abbrev pub known_in : Form → Known
known_in form = record { senders = senders_in form; replied = no_counts; closed = no_counts; faulty = false }

-- Who has a session.
abbrev pub sender_at : Known → ℕ → Who
sender_at k s = get_or k.senders s Admin

-- What is known once an event was answered.
abbrev pub known_after : Event → Known → Known
known_after (event.Opened s who) k = record k { senders = set k.senders s who }
known_after (event.Arrived s frame) k = record k { replied = counted k.replied s }
known_after (event.Ended s fault at) k = record k { faulty = true }
known_after (event.Closed s rest) k = record k { closed = set k.closed s rest }

-- What is known once some events were answered.
abbrev pub known_along : List Event → Known → Known
known_along [] k = k
known_along (e ∷ events) k = known_along events (known_after e k)
