use Rattle.std.proofs.Common.{sym, ◌∙◌, ap}
use Rattle.std.specs.Option.{option_map}
use Rattle.record_tables.specs.Entries.{Entry}
use Rattle.record_tables.proofs.PlaceLaws.{at-place}
use Rattle.record_tables.proofs.entries.record_at.Goals as goal

pub returns : goal.returns
returns g c =
    let p = c.in_ok-place.ensures.found in
    ap (option_map (λ (e : Entry g.row.R.Denot). e.1.1)) (c.in_ok-row.ensures.entry ∙ p.1)
    ∙ sym (at-place (λ e. e.1) 4294967295 c.args.entries.now.entries 1 c.in_ok-place.place c.args.number p.0 c.requires p.1 p.2)
