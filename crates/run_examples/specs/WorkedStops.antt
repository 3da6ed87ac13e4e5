-- Values of the worked examples of stops (docs/FORMATS.md, "Channel frame", "Replies", "Refusals").
use Rattle.std.specs.Prelude.{ℕ, List, [], ◌∷◌, codes}
use Rattle.ctrl_model.specs.State.{State, start}

-- The state with one identity, ann, under the number 1, after one change.
abbrev pub only_ann : State
only_ann = record start { identities = record { rows = (1, record { name = codes "ann"; attributes = [] }) ∷ []; next = 2 }; serial = 1 }

-- The state with two identities, ann under the number 1 and bob under the number 2, after two changes.
abbrev pub ann_and_bob : State
ann_and_bob = record start {
  identities = record { rows = (1, record { name = codes "ann"; attributes = [] }) ∷ (2, record { name = codes "bob"; attributes = [] }) ∷ []; next = 3 };
  serial = 2;
}

-- The 34 bytes of a frame that asks for the identity bob: content type 1000, sequence number 8, and no headers.
abbrev pub bob_bytes : List ℕ
bob_bytes =
    3 ∷ 6 ∷ 9 ∷ 12 ∷ 232 ∷ 3 ∷ 0 ∷ 0 ∷ 8 ∷ 0 ∷ 0 ∷ 0 ∷ 0 ∷ 0 ∷ 0 ∷ 0 ∷ 14 ∷ 0 ∷ 0 ∷ 0
    ∷ 123 ∷ 34 ∷ 110 ∷ 97 ∷ 109 ∷ 101 ∷ 34 ∷ 58 ∷ 34 ∷ 98 ∷ 111 ∷ 98 ∷ 34 ∷ 125 ∷ []

-- The 49 bytes of the reply to it behind one reply: sequence number 1, the header 1 with the sequence number 8, the header 2 with the
-- byte 1, and the body {"no":2}.
abbrev pub bob_reply_bytes : List ℕ
bob_reply_bytes =
    3 ∷ 6 ∷ 9 ∷ 12 ∷ 2 ∷ 0 ∷ 0 ∷ 0 ∷ 1 ∷ 0 ∷ 0 ∷ 0 ∷ 21 ∷ 0 ∷ 0 ∷ 0 ∷ 8 ∷ 0 ∷ 0 ∷ 0
    ∷ 1 ∷ 0 ∷ 0 ∷ 0 ∷ 4 ∷ 0 ∷ 0 ∷ 0 ∷ 8 ∷ 0 ∷ 0 ∷ 0
    ∷ 2 ∷ 0 ∷ 0 ∷ 0 ∷ 1 ∷ 0 ∷ 0 ∷ 0 ∷ 1
    ∷ 123 ∷ 34 ∷ 110 ∷ 111 ∷ 34 ∷ 58 ∷ 50 ∷ 125 ∷ []

-- The 73 bytes of the first reply, to a frame with the sequence number 7, where the journal has no room: the header 2 with the byte 0, and
-- the body {"code":40,"name":"JournalFull"}.
abbrev pub no_room_bytes : List ℕ
no_room_bytes =
    3 ∷ 6 ∷ 9 ∷ 12 ∷ 2 ∷ 0 ∷ 0 ∷ 0 ∷ 0 ∷ 0 ∷ 0 ∷ 0 ∷ 21 ∷ 0 ∷ 0 ∷ 0 ∷ 32 ∷ 0 ∷ 0 ∷ 0
    ∷ 1 ∷ 0 ∷ 0 ∷ 0 ∷ 4 ∷ 0 ∷ 0 ∷ 0 ∷ 7 ∷ 0 ∷ 0 ∷ 0
    ∷ 2 ∷ 0 ∷ 0 ∷ 0 ∷ 1 ∷ 0 ∷ 0 ∷ 0 ∷ 0
    ∷ 123 ∷ 34 ∷ 99 ∷ 111 ∷ 100 ∷ 101 ∷ 34 ∷ 58 ∷ 52 ∷ 48 ∷ 44
    ∷ 34 ∷ 110 ∷ 97 ∷ 109 ∷ 101 ∷ 34 ∷ 58 ∷ 34 ∷ 74 ∷ 111 ∷ 117 ∷ 114 ∷ 110 ∷ 97 ∷ 108 ∷ 70 ∷ 117 ∷ 108 ∷ 108 ∷ 34 ∷ 125 ∷ []
