-- Inputs and events of the worked examples (docs/FORMATS.md, "Traces and tagged replies").
use Rattle.std.specs.Prelude.{ℕ, List, [], ◌∷◌, ◌++◌, take, drop}
use Rattle.channel_frame.specs.WorkedFrames.{ann_bytes, unmarked_bytes}

-- Session 0 is opened by an administrator.
abbrev pub open_0 : List ℕ
open_0 = 1 ∷ 0 ∷ 0 ∷ 0 ∷ []

-- Session 1 is opened by the identity ann.
abbrev pub open_1 : List ℕ
open_1 = 1 ∷ 1 ∷ 2 ∷ 3 ∷ 97 ∷ 110 ∷ 110 ∷ []

-- The head of a data record with 34 bytes of session 0.
abbrev pub data_34_of_0 : List ℕ
data_34_of_0 = 2 ∷ 0 ∷ 34 ∷ 0 ∷ []

-- The head of a data record with 20 bytes of session 0.
abbrev pub data_20_of_0 : List ℕ
data_20_of_0 = 2 ∷ 0 ∷ 20 ∷ 0 ∷ []

-- The head of a data record with 14 bytes of session 0.
abbrev pub data_14_of_0 : List ℕ
data_14_of_0 = 2 ∷ 0 ∷ 14 ∷ 0 ∷ []

-- The head of a data record with 34 bytes of session 1.
abbrev pub data_34_of_1 : List ℕ
data_34_of_1 = 2 ∷ 1 ∷ 34 ∷ 0 ∷ []

-- Session 0 is closed.
abbrev pub close_0 : List ℕ
close_0 = 3 ∷ 0 ∷ []

-- One session that sends the worked frame and is closed.
abbrev pub one_session : List ℕ
one_session = open_0 ++ data_34_of_0 ++ ann_bytes ++ close_0

-- Two sessions that send the worked frame each: session 1 sends it whole between the two parts of session 0's.
abbrev pub two_sessions : List ℕ
two_sessions = open_0 ++ open_1 ++ data_20_of_0 ++ take 20 ann_bytes ++ data_34_of_1 ++ ann_bytes ++ data_14_of_0 ++ drop 20 ann_bytes

-- A record of the kind 5 at the place 4.
abbrev pub kind_five : List ℕ
kind_five = open_0 ++ (5 ∷ [])

-- Session 0 is opened, and the first three bytes of a data record of 34 bytes have come.
abbrev pub cut_data : List ℕ
cut_data = open_0 ++ (2 ∷ 0 ∷ 34 ∷ [])

-- Session 0 is opened twice.
abbrev pub open_twice : List ℕ
open_twice = open_0 ++ open_0

-- Session 0 is closed and opened again.
abbrev pub open_again : List ℕ
open_again = open_0 ++ close_0 ++ open_0

-- Session 0 is opened by an administrator who has the name ann.
abbrev pub named_admin : List ℕ
named_admin = 1 ∷ 0 ∷ 0 ∷ 3 ∷ 97 ∷ 110 ∷ 110 ∷ []

-- Session 0 is opened with a role of the number 3.
abbrev pub third_role : List ℕ
third_role = 1 ∷ 0 ∷ 3 ∷ 3 ∷ 97 ∷ 110 ∷ 110 ∷ []

-- Session 0 is opened by an identity without a name.
abbrev pub nameless : List ℕ
nameless = 1 ∷ 0 ∷ 2 ∷ 0 ∷ []

-- Data of session 1, where session 0 alone is open.
abbrev pub data_unopened : List ℕ
data_unopened = open_0 ++ data_34_of_1 ++ ann_bytes

-- A close of session 1, where session 0 alone is open.
abbrev pub close_unopened : List ℕ
close_unopened = open_0 ++ (3 ∷ 1 ∷ [])

-- Session 0 sends 20 bytes that begin with another marker, then a whole frame, and is closed; session 1 sends a frame between.
abbrev pub one_faulty : List ℕ
one_faulty = open_0 ++ open_1 ++ data_20_of_0 ++ unmarked_bytes ++ data_34_of_0 ++ ann_bytes ++ data_34_of_1 ++ ann_bytes ++ close_0

-- Session 0 is closed within a frame, of which 20 bytes came.
abbrev pub closed_within : List ℕ
closed_within = open_0 ++ data_20_of_0 ++ take 20 ann_bytes ++ close_0
