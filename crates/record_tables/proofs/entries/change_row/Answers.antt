use Rattle.std.proofs.Common.{sym, ◌∙◌, ap}
use Rattle.std.proofs.lemmas.Option.{same_Some}
use Rattle.record_tables.specs.Entries.{IsAtItsName}
use Rattle.record_tables.proofs.PlaceLaws.{at-place, edit-place}
use Rattle.record_tables.proofs.ChangedLists.{all-set_value_at}
use Rattle.record_tables.proofs.entries.change_row.Goals as goal

pub returns-clause-rows : goal.returns-clause-rows
returns-clause-rows g c =
    let es = c.args.entries.now.entries in
    let p = c.present_place-place.ensures in
    let made = c.change_at.ensures p.0 p.1 in
    record {
      before = p.0.1.1;
      after = made.0;
      stood = at-place (λ e. e.1) 4294967295 es 1 c.present_place-place.result c.args.number p.0 c.requires.ordered p.1 p.2;
      changed = made.1;
      rows =
          rw made.2
          (edit-place (λ v. v) 4294967295 es 1 c.present_place-place.result c.args.number p.0 (p.0.1.0, made.0) (λ _. made.0) c.requires.ordered p.1 p.2 (λ j. (p.2 j, made.0)));
    }

pub returns-clause-named : goal.returns-clause-named
returns-clause-named g c =
    let es = c.args.entries.now.entries in
    let p = c.present_place-place.ensures in
    let made = c.change_at.ensures p.0 p.1 in
    rw made.2
    (all-set_value_at (IsAtItsName g.R.Named.name_of) es c.present_place-place.result (p.0.1.0, made.0) (λ e s k. k ∙ ap (λ y. g.R.Named.name_of y.1.1) (same_Some e p.0 (sym s ∙ p.1)) ∙ sym (c.requires.keeps p.0.1.1 made.0 made.1)) c.requires.named)
