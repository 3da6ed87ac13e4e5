-- Findings as lines of text (docs/FORMATS.md, "Reasons").
use Rattle.std.specs.Prelude.{ℕ, Bool, if◌then◌else◌, List, [], ◌∷◌, ◌++◌, codes, filter}
use Rattle.std.specs.List.{flat_map}
use Rattle.ctrl_model.specs.declared.refusals.Denial.{Denial}
use Rattle.ctrl_model.specs.declared.refusals.Denial.TheVariants.{UnknownIdentity, UnknownService, UnknownRouter, NoDial, NoSharedRouter, SharedRoutersOffline, NoTerminators, NoAdmissibleTerminator, NoPath, CircuitsFull}
use Rattle.access_reasons.specs.declared.findings.Finding.{Finding}
use Rattle.access_reasons.specs.declared.findings.Part.{Part}

-- The first word of a line: whether the rule is met.
abbrev pub verdict_word : Bool → List ℕ
verdict_word fails = if fails then codes "fails " else codes "ok "

-- The second word: the rule, by the denial that it gives where it fails.
abbrev pub rule_word : Denial → List ℕ
rule_word UnknownIdentity = codes "identity"
rule_word UnknownService = codes "service"
rule_word UnknownRouter = codes "ingress"
rule_word NoDial = codes "dial"
rule_word NoSharedRouter = codes "shared-router"
rule_word SharedRoutersOffline = codes "online-router"
rule_word NoTerminators = codes "terminator"
rule_word NoAdmissibleTerminator = codes "admissible-terminator"
rule_word NoPath = codes "path"
rule_word CircuitsFull = codes "room"

-- An item behind another.
abbrev pub behind_comma : List ℕ → List ℕ
behind_comma item = codes "," ++ item

-- Items, with a comma between two.
abbrev pub joined : List (List ℕ) → List ℕ
joined [] = []
joined (item ∷ items) = item ++ flat_map behind_comma items

-- A part behind a space: its key, an equals sign and its items.
abbrev pub part_text : Part → List ℕ
part_text p = codes " " ++ p.key ++ codes "=" ++ joined p.items

-- The line of a finding, with its newline.
abbrev pub line_of : Finding → List ℕ
line_of f = verdict_word f.fails ++ rule_word f.rule ++ flat_map part_text f.parts ++ codes "\n"

-- The lines of findings.
abbrev pub lines_of : List Finding → List ℕ
lines_of findings = flat_map line_of findings

-- The lines of those that fail.
abbrev pub failing_lines : List Finding → List ℕ
failing_lines findings = lines_of (filter (λ f. f.fails) findings)
