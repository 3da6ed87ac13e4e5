use Rattle.std.proofs.Common.{◌≡◌, ℕ, sym, ◌∙◌, ap, refl}
use Rattle.std.proofs.lemmas.Option.{same_Some}
use Rattle.std.specs.Option.{option_copied_mut}
use Rattle.indexmap.specs.IndexMap.{set_value_at}
use Rattle.record_tables.proofs.EntryLaws.{value_at}
use Rattle.record_tables.proofs.entries.change_again_at.Goals as goal

pub returns : goal.returns
returns g c = λ e s.
    let es = c.args.entries.now.entries in
    let row : ℕ × g.row.R.Denot = c.unwrap-row.result.now in
    let same : row ≡ e.1 = same_Some row e.1 (sym (ap option_copied_mut c.unwrap-row.ensures) ∙ c.get_index_mut.ensures.value ∙ value_at es c.args.place e s) in (
      c.change.new.arg2,
      record { shown = _; shows = ap (λ r. r.1) same; left = _; met = c.change.ensures; leaves = refl },
      ap (λ n. set_value_at es c.args.place (n, c.change.new.arg2)) (ap (λ r. r.0) same),
    )
