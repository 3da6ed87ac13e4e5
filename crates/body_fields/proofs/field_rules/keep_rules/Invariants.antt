use Rattle.std.proofs.Common.{take}
use Rattle.std.specs.List.{AllByRecursion}
use Rattle.json_body.specs.FieldKinds.{object_of}
use Rattle.body_fields.specs.FieldRules.{Keeps, rules_of}
use Rattle.body_fields.proofs.field_rules.keep_rules.Given as goal

-- the object keeps the rules before the index
abbrev pub invariant-rules : goal.invariant-rules
invariant-rules g l = AllByRecursion (Keeps (object_of l.fields)) (rules_of g.K.FieldKind.is_of (take l.rule-index l.rules))
