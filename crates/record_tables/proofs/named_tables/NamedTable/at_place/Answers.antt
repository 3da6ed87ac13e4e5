use Rattle.std.proofs.Common.{sym, ◌∙◌, ap}
use Rattle.std.proofs.lemmas.Option.{slice_get-map}
use Rattle.std.specs.Option.{option_map}
use Rattle.record_tables.specs.Entries.{Entry}
use Rattle.record_tables.proofs.named_tables.NamedTable.at_place.Goals as goal

pub returns : goal.returns
returns g c =
    let row_of = λ (e : Entry g.row.R.Denot). e.1 in
    rw (← c.self.view_is) (ap (option_map row_of) c.in_ok-row.ensures.entry ∙ sym (slice_get-map row_of c.self.inside.entries.entries c.args.place))

pub returns-in_err-row : goal.returns-in_err-row
returns-in_err-row g c =
    let row_of = λ (e : Entry g.row.R.Denot). e.1 in
    rw (c.from_residual.ensures, ← c.self.view_is)
    (ap (option_map row_of) c.in_err-row.ensures.entry ∙ sym (slice_get-map row_of c.self.inside.entries.entries c.args.place))
