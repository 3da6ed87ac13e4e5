use Rattle.std.proofs.Common.{sym, ◌∙◌, ap, subst}
use Rattle.std.specs.Option.{option_map}
use Rattle.row_codec.specs.CoveredTables.{Covers}
use Rattle.core_stores.specs.ChangeParts.{forgotten_name}
use Rattle.ctrl_core.specs.ChangedStores.{next_state}
use Rattle.ctrl_core.specs.KeptFormat.{kept_format}
use Rattle.core_stores.specs.StoredState.{state_of}
use Rattle.ctrl_core.proofs.RowEnds.{policies_end, kept_then, policies_same}
use Rattle.ctrl_core.proofs.row_changes.policy_rows.Goals as goal

pub returns : goal.returns
returns c =
    let st = c.args.stores.now in
    let change = c.args.change.now in
    subst (λ cs. Covers kept_format 7 10 (state_of st) (next_state st change) cs) (sym (c.of.ensures ∙ c.new.ensures.items))
    (policies_same kept_format (state_of st) (next_state st change)
    (sym (policies_end change st c.requires
    ∙ kept_then change st (sym c.of_policies.ensures ∙ ap (option_map (λ d. d.now)) c.in_default.is)
    (ap forgotten_name (sym c.of_entities.ensures) ∙ sym c.forgotten.ensures ∙ ap (option_map (λ f. (f.0, f.1.now))) c.in_default-forgotten.is))))
