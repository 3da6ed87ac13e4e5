use Rattle.std.proofs.Common.{List, [], ◌∷◌, IfSome, sym, ◌∙◌, ap, subst}
use Rattle.std.proofs.lemmas.Result.{IfOk-weaker}
use Rattle.std.specs.Option.{option_map}
use Rattle.entity_store.specs.EntityChanges.{after_entity_change}
use Rattle.record_tables.specs.AfterChange.{changed_by}
use Rattle.row_codec.specs.declared.changes.Change.{Change}
use Rattle.row_codec.specs.CoveredTables.{Covers}
use Rattle.entity_commands.specs.EntityChanges.{CanChangeEntities}
use Rattle.entity_commands.specs.EntityRows.{Has}
use Rattle.entity_commands.proofs.RowLaws.{same_covers, touched_covers}
use Rattle.entity_commands.proofs.rows.entity_changes.Goals as goal

pub returns-in-None : goal.returns-in-None
returns-in-None c = λ f s u before after.
    let t = c.args.entities.now in
    subst (λ (cs : List Change). Covers f 3 6 s u cs) (sym (c.of.ensures ∙ c.new.ensures.items))
    (same_covers f s u t before (subst (λ o. Has (changed_by after_entity_change (option_map (λ d. d.now) o) t) u) c.in-None.is after))

pub returns-in_ok-made-in-Some : goal.returns-in_ok-made-in-Some
returns-in_ok-made-in-Some c =
    let t = c.args.entities.now in
    let made = c.in_ok-made-in-Some.ensures in
    let can = subst (λ o. IfSome o (λ d. CanChangeEntities d.now t)) c.in-Some.is c.requires.can in
    IfOk-weaker c.one_change.result _ _ (λ changes e f s u before after.
    let there = subst (λ o. Has (changed_by after_entity_change (option_map (λ d. d.now) o) t) u) c.in-Some.is after in
    subst (λ (cs : List Change). Covers f 3 6 s u cs) (sym (e ∙ ap (λ (x : Change). x ∷ []) made.made)) (touched_covers f s u t c.in-Some.change.now can before there made.long made.entity)) c.one_change.ensures
