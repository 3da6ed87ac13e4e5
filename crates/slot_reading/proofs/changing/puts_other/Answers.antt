use Rattle.std.proofs.Common.{ap, sym, ◌∙◌, ◌≡◌, None, Some, subst, List, ℕ, Option, not, bytes_eq}
use Rattle.std.specs.Option.{is_some, option_copied}
use Rattle.std.specs.Map.{lookup}
use Rattle.std.specs.BTreeMap.{is_at}
use Rattle.row_codec.specs.RowDifference.{said_of}
use Rattle.slot_reading.proofs.MapRows.{to_vec, looked_up, said_put}
use Rattle.slot_reading.proofs.changing.puts_other.Goals as goal

pub returns-in-None : goal.returns-in-None
returns-in-None c =
    let none : None ≡ lookup (is_at (to_vec c.args.key.now)) c.args.rows.now.entries =
    subst (λ (k : List ℕ). None ≡ lookup (is_at (to_vec k)) c.args.rows.now.entries) c.as_slice.ensures (sym (ap option_copied c.in-None.is) ∙ c.get.ensures.value) in
    ap (λ (o : Option (List ℕ)). is_some (said_of o (Some c.args.value.now))) (none ∙ looked_up c.args.rows.now.entries c.args.key.now)

pub returns-in-Some : goal.returns-in-Some
returns-in-Some c =
    let some : Some c.in-Some.old.now ≡ lookup (is_at (to_vec c.args.key.now)) c.args.rows.now.entries =
    subst (λ (k : List ℕ). Some c.in-Some.old.now ≡ lookup (is_at (to_vec k)) c.args.rows.now.entries) c.as_slice.ensures (sym (ap option_copied c.in-Some.is) ∙ c.get.ensures.value) in
    c.ne.ensures ∙ ap (λ (l : List ℕ). not (bytes_eq l c.as_slice-in-Some-2.result.now)) c.as_slice-in-Some.ensures
    ∙ ap (λ (l : List ℕ). not (bytes_eq c.in-Some.old.now l)) c.as_slice-in-Some-2.ensures ∙ sym (said_put c.in-Some.old.now c.args.value.now)
    ∙ ap (λ (o : Option (List ℕ)). is_some (said_of o (Some c.args.value.now))) (some ∙ looked_up c.args.rows.now.entries c.args.key.now)
