use Rattle.std.proofs.Common.{ℕ, ◌∙◌, ap}
use Rattle.std.specs.Option.{option_map}
use Rattle.record_tables.proofs.EntryLaws.{named-lookup}
use Rattle.record_tables.proofs.entries.number_in.Goals as goal

pub returns-in_err-number : goal.returns-in_err-number
returns-in_err-number g c =
    rw c.from_residual.ensures
    (ap (option_map (λ (row : ℕ × g.row.R.Denot). row.0)) c.in_err-number.ensures.value ∙ named-lookup g.R.Named.name_of c.args.entries.now.entries c.args.name.now c.requires)

pub returns : goal.returns
returns g c =
    ap (option_map (λ (row : ℕ × g.row.R.Denot). row.0)) c.in_ok-number.ensures.value ∙ named-lookup g.R.Named.name_of c.args.entries.now.entries c.args.name.now c.requires
