-- The records of a trace that lines say (docs/FORMATS.md, "Lines of traces").
use Rattle.std.specs.Prelude.{ℕ, zero, suc, ◌-◌, ◌==◌, if◌then◌else◌, List, [], ◌∷◌, map, take}
use Rattle.std.specs.List.{flat_map}
use Rattle.channel_frame.specs.declared.frames.Frame.{Frame}
use Rattle.channel_frame.specs.FrameSpelling.{spelling}
use Rattle.session_mux.specs.Arrivals.{Arrival, Open, Data, Close, most_data, record_bytes}
use Rattle.trace_lines.specs.SessionActs.{Act, Opening, Sending, Closing, acts_said}

-- The pieces of some bytes, once so many of them are passed over: each is as long as a data record may be, the last as long as is left.
abbrev pub pieces_past : List ℕ → ℕ → List (List ℕ)
pieces_past [] n = []
pieces_past (b ∷ bytes) (suc n) = pieces_past bytes n
pieces_past (b ∷ bytes) zero = take most_data (b ∷ bytes) ∷ pieces_past bytes (most_data - 1)

-- The pieces into which some bytes are cut.
abbrev pub pieces : List ℕ → List (List ℕ)
pieces bytes = pieces_past bytes 0

-- The data records of a session that bring some bytes.
abbrev pub data_records : ℕ → List ℕ → List Arrival
data_records s bytes = map (Data s) (pieces bytes)

-- The records of what a line does: a frame becomes data records, as many as it needs.
abbrev pub records_for : Act → List Arrival
records_for (Opening s who) = Open s who ∷ []
records_for (Sending s frame) = data_records s (spelling frame)
records_for (Closing s) = Close s ∷ []

-- The bytes of these records, joined.
abbrev pub act_bytes : Act → List ℕ
act_bytes act = flat_map record_bytes (records_for act)

-- The records that a text says, in order.
abbrev pub records_said : List ℕ → List Arrival
records_said text = flat_map records_for (acts_said text)

-- The trace that a text says: the bytes of its records, joined.
abbrev pub bytes_traced : List ℕ → List ℕ
bytes_traced text = flat_map act_bytes (acts_said text)

-- The frame of a session that is sent, if one of it is.
abbrev pub sent_by : ℕ → Act → List Frame
sent_by s (Opening t who) = []
sent_by s (Sending t frame) = if t == s then frame ∷ [] else []
sent_by s (Closing t) = []

-- The frames that the lines of a text send for a session, in order.
abbrev pub frames_sent : ℕ → List ℕ → List Frame
frames_sent s text = flat_map (sent_by s) (acts_said text)
