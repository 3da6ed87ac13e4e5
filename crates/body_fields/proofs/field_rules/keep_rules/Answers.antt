use Rattle.std.proofs.Common.{◌≡◌, ◌<◌, ◌+◌, ◌++◌, ◌∷◌, [], length, map, take, sym, ap, ◌∙◌, subst, arith, inl}
use Rattle.std.specs.List.{AllByRecursion}
use Rattle.std.proofs.lemmas.Grind.{take_at_read}
use Rattle.std.proofs.lemmas.List.{take_all}
use Rattle.std.proofs.lemmas.Result.{err_from_is_err_and}
use Rattle.json_body.specs.FieldKinds.{object_of}
use Rattle.body_fields.specs.FieldRules.{Keeps, rule_of, rules_of}
use Rattle.body_fields.proofs.RuleLaws.{at_place, all_more, end_kept, end_fault}
use Rattle.body_fields.proofs.field_rules.keep_rules.Goals as goal

pub returns-in_err-keep_rule-clause-fault : goal.returns-in_err-keep_rule-clause-fault
returns-in_err-keep_rule-clause-fault g c =
    let below : c.rules.rule-index < length c.args.rules.now = omega arith in
    let place = at_place (rule_of g.K.FieldKind.is_of) c.args.rules.now c.rules.rule-index c.rule-item.result below in
    let p = err_from_is_err_and c.from_residual.result c.from_residual.ensures.1 in
    rw (p.1, p.2) (inl (record {
      before = map (rule_of g.K.FieldKind.is_of) (take c.rules.rule-index c.args.rules.now);
      rule = rule_of g.K.FieldKind.is_of c.rule-item.result;
      behind = place.0;
      place = place.1 ∙ ap (λ x. map (rule_of g.K.FieldKind.is_of) (take c.rules.rule-index c.args.rules.now) ++ rule_of g.K.FieldKind.is_of x ∷ place.0) (sym c.rule-item.is);
      kept = c.rules.invariant;
      breaks = c.in_err-keep_rule.ensures.broken;
    }))

pub rules-preserved : goal.rules-preserved
rules-preserved g c =
    let below : c.rules.rule-index < length c.args.rules.now = omega arith in
    let more : take (c.rules.rule-index + 1) c.args.rules.now ≡ take c.rules.rule-index c.args.rules.now ++ c.rule-item.result ∷ [] =
    (take_at_read c.args.rules.now c.rules.rule-index c.rule-item.result below).1 ∙ ap (λ v. take c.rules.rule-index c.args.rules.now ++ v ∷ []) (sym c.rule-item.is) in
    rw more (all_more (Keeps (object_of c.args.fields.now)) (rule_of g.K.FieldKind.is_of) (take c.rules.rule-index c.args.rules.now) c.rule-item.result c.rules.invariant c.in_ok-keep_rule.ensures.kept)

pub returns-clause-kept : goal.returns-clause-kept
returns-clause-kept g c =
    let o = object_of c.args.fields.now in
    let kept : AllByRecursion (Keeps o) (rules_of g.K.FieldKind.is_of c.args.rules.now) =
    subst (λ rs. AllByRecursion (Keeps o) (rules_of g.K.FieldKind.is_of rs)) (take_all c.rules.rule-index c.args.rules.now c.rules-test.false) c.rules.invariant in
    end_kept (rules_of g.K.FieldKind.is_of c.args.rules.now) c.args.allowed.now o c.finish.result c.finish.ensures kept

pub returns-clause-fault : goal.returns-clause-fault
returns-clause-fault g c =
    let o = object_of c.args.fields.now in
    let kept : AllByRecursion (Keeps o) (rules_of g.K.FieldKind.is_of c.args.rules.now) =
    subst (λ rs. AllByRecursion (Keeps o) (rules_of g.K.FieldKind.is_of rs)) (take_all c.rules.rule-index c.args.rules.now c.rules-test.false) c.rules.invariant in
    end_fault (rules_of g.K.FieldKind.is_of c.args.rules.now) c.args.allowed.now o c.finish.result c.finish.ensures kept
