-- The words that bodies have for a few kinds of thing (docs/FORMATS.md, "Commands").
use Rattle.std.specs.Prelude.{ℕ, if◌then◌else◌, Bool, List, [], ◌∷◌, ◌++◌, codes}
use Rattle.ctrl_model.specs.declared.kinds.Precedence.{Precedence}
use Rattle.ctrl_model.specs.declared.kinds.Precedence.TheVariants.{Required, Normal, Failed}
use Rattle.ctrl_model.specs.declared.kinds.Relation.{Relation}
use Rattle.ctrl_model.specs.declared.kinds.Relation.TheVariants.{Dial, Bind, IdentityRouter, ServiceRouter}
use Rattle.ctrl_model.specs.declared.kinds.Semantic.{Semantic}
use Rattle.ctrl_model.specs.declared.kinds.Semantic.TheVariants.{AnyOf, AllOf}

-- The word of what a service policy grants. The other two relations have none, since no service policy grants them.
abbrev pub relation_word : Relation → List ℕ
relation_word Dial = codes "Dial"
relation_word Bind = codes "Bind"
relation_word IdentityRouter = []
relation_word ServiceRouter = []

-- The word of a semantic.
abbrev pub semantic_word : Semantic → List ℕ
semantic_word AnyOf = codes "AnyOf"
semantic_word AllOf = codes "AllOf"

-- The word of a precedence.
abbrev pub precedence_word : Precedence → List ℕ
precedence_word Required = codes "required"
precedence_word Normal = codes "default"
precedence_word Failed = codes "failed"

-- The word of udp, or else of tcp.
abbrev pub protocol_word : Bool → List ℕ
protocol_word udp = if udp then codes "udp" else codes "tcp"

-- The words of the protocols of an intercept: of tcp, and then of udp.
abbrev pub protocol_words : Bool → Bool → List (List ℕ)
protocol_words tcp udp = (if tcp then codes "tcp" ∷ [] else []) ++ (if udp then codes "udp" ∷ [] else [])
