use Rattle.std.proofs.Common.{ap, sym, ◌∙◌, ◌≡◌, subst, List, ℕ}
use Rattle.std.specs.Option.{is_some}
use Rattle.std.specs.Map.{lookup}
use Rattle.std.specs.BTreeMap.{is_at}
use Rattle.slot_reading.proofs.MapRows.{to_vec, looked_up, said_none}
use Rattle.slot_reading.proofs.changing.has_row.Goals as goal

pub returns : goal.returns
returns c =
    subst (λ (k : List ℕ). c.contains_key.result ≡ is_some (lookup (is_at (to_vec k)) c.args.rows.now.entries)) c.as_slice.ensures c.contains_key.ensures
    ∙ ap is_some (looked_up c.args.rows.now.entries c.args.key.now) ∙ sym (said_none _)
