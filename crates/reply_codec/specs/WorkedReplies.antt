-- Replies of the worked examples (docs/FORMATS.md, "Replies").
use Rattle.std.specs.Prelude.{ℕ, List, [], ◌∷◌, codes}
use Rattle.ctrl_model.specs.declared.claims.Explanation.{Explanation}
use Rattle.ctrl_model.specs.declared.claims.Reach.{Reach}
use Rattle.ctrl_model.specs.declared.replies.Reply.{Reply}
use Rattle.ctrl_model.specs.declared.replies.Reply.TheVariants as reply

-- Circuit 1 from r1 over links 1 and 2 to terminator 1, with total 42.
abbrev pub a_circuit : Reply
a_circuit = reply.Circuit (record { 0 = 1 }) (codes "r1") (1 ∷ 2 ∷ []) (record { 0 = 1 }) 42

-- A circuit over these links.
abbrev pub circuit_over : List ℕ → Reply
circuit_over links = reply.Circuit (record { 0 = 1 }) (codes "r1") links (record { 0 = 1 }) 42

-- An entry of router 3 with these values.
abbrev pub entry_with : List ℕ → Reach
entry_with values = record { router = record { 0 = 3 }; values = values }

-- An explanation of the route from r1 over links 1 and 2 to terminator 1 with total 42, over routers 1 to 3, with these entries.
abbrev pub claim_with : List Reach → Explanation
claim_with potentials = record {
  ingress = record { 0 = 1 };
  links = 1 ∷ 2 ∷ [];
  potentials = potentials;
  routers = 1 ∷ 2 ∷ 3 ∷ [];
  terminator = record { 0 = 1 };
  total = 42;
}

-- The reply with this explanation and one entry, which has these values.
abbrev pub explained_with : List ℕ → Reply
explained_with values = reply.Explained (codes "r1") (claim_with (entry_with values ∷ []))

-- Grants with dial on web twice and one way into r1.
abbrev pub some_grants : Reply
some_grants = reply.Grants [] (record { name = codes "web"; count = 2 } ∷ []) (record { name = codes "r1"; count = 1 } ∷ [])

-- Circuit 1 as it is shown: of ann from r1 over links 1 and 2 to web at terminator 1.
abbrev pub a_shown_circuit : Reply
a_shown_circuit = reply.Shown (codes "ann") (codes "r1") (1 ∷ 2 ∷ []) (codes "web") (record { 0 = 1 })

-- The service web is picked by a host and the ports from 1 to 65,535.
abbrev pub picked_by : List ℕ → Reply
picked_by address = reply.Picked address 1 65535 (codes "web")

-- The counts of a controller with one identity and nothing else.
abbrev pub one_identity : Reply
one_identity = reply.Counts 0 0 1 0 0 0 0 0
