-- The fields that have one of a few words (docs/FORMATS.md, "Commands").
use Rattle.std.specs.Prelude.{ℕ, if◌then◌else◌, List, codes, None, Some, option_and_then}
use Rattle.std.specs.declared.option.Option.{Option}
use Rattle.std.specs.Str.{bytes_eq}
use Rattle.serde_json.specs.Data.{Data}
use Rattle.serde_json.specs.Find.{as_str}
use Rattle.ctrl_model.specs.declared.kinds.Precedence.{Precedence}
use Rattle.ctrl_model.specs.declared.kinds.Precedence.TheVariants.{Required, Normal, Failed}
use Rattle.ctrl_model.specs.declared.kinds.Relation.{Relation}
use Rattle.ctrl_model.specs.declared.kinds.Relation.TheVariants.{Dial, Bind}
use Rattle.ctrl_model.specs.declared.kinds.Semantic.{Semantic}
use Rattle.ctrl_model.specs.declared.kinds.Semantic.TheVariants.{AnyOf, AllOf}

-- The relation that a word of a service policy stands for.
abbrev pub relation_of : List ℕ → Option Relation
relation_of word = if bytes_eq word (codes "Dial") then Some Dial else (if bytes_eq word (codes "Bind") then Some Bind else None)

-- The semantic that a word stands for.
abbrev pub semantic_of : List ℕ → Option Semantic
semantic_of word = if bytes_eq word (codes "AnyOf") then Some AnyOf else (if bytes_eq word (codes "AllOf") then Some AllOf else None)

-- The precedence that a word stands for.
abbrev pub precedence_of : List ℕ → Option Precedence
precedence_of word =
    if bytes_eq word (codes "required") then Some Required
    else (if bytes_eq word (codes "default") then Some Normal else (if bytes_eq word (codes "failed") then Some Failed else None))

-- What a service policy grants.
abbrev pub as_relation : Data → Option Relation
as_relation d = option_and_then relation_of (as_str d)

-- Whether an entity needs one of a side's attributes or all of them.
abbrev pub as_semantic : Data → Option Semantic
as_semantic d = option_and_then semantic_of (as_str d)

-- The precedence of a terminator.
abbrev pub as_precedence : Data → Option Precedence
as_precedence d = option_and_then precedence_of (as_str d)
