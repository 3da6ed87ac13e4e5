use Rattle.std.proofs.Common.{refl, sym, ◌∙◌, ap}
use Rattle.std.specs.Option.{option_copied_mut}
use Rattle.record_tables.proofs.RecordLaws.{at-lookup, lent_there, set_value-edit}
use Rattle.record_tables.proofs.numbered_tables.change_record.Goals as goal

pub unwrap-row-requires : goal.unwrap-row-requires
unwrap-row-requires g c = lent_there c.args.records.now.entries c.args.number c.get_mut.result c.get_mut.ensures.value c.requires.there

pub returns : goal.returns
returns g c =
    let es = c.args.records.now.entries in
    record {
      before = c.unwrap-row.result.now;
      after = c.change.new.arg2;
      stood = at-lookup es c.args.number ∙ sym c.get_mut.ensures.value ∙ ap option_copied_mut c.unwrap-row.ensures;
      changed = record { shown = _; shows = refl; left = _; met = c.change.ensures; leaves = refl };
      rows = (c.get_mut.follows.holds c.change.new.arg2).0 ∙ set_value-edit 4294967295 es 1 c.args.number c.change.new.arg2 c.requires.ordered;
    }
