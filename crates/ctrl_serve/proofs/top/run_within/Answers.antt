use Rattle.std.proofs.Common.{List, ℕ, Some, arith, sym, ap, subst, ◌∙◌}
use Rattle.journal_core.specs.Room.{HoldsRoom}
use Rattle.row_store.specs.declared.bounds.StoreBounds.{StoreBounds}
use Rattle.ctrl_serve.specs.declared.command_line.Form.{Form}
use Rattle.ctrl_serve.specs.CommandLine.{form_of, texts}
use Rattle.run_notes.specs.NotedLines.{NotesLines}
use Rattle.ctrl_serve.proofs.AdviseWords.{advise_words}
use Rattle.ctrl_serve.proofs.RunLaws.{advise_runs, audit_runs, compact_runs, dry_runs, follow_runs, load_runs, replay_runs, ship_runs, usage_runs}
use Rattle.ctrl_serve.proofs.top.run_within.Goals as goal

pub returns-in-Some-Dry : goal.returns-in-Some-Dry
returns-in-Some-Dry g c =
    let e = c.run_dry.ensures in
    let form = ap (λ ws. form_of (texts ws)) (sym c.as_slice.ensures.value) ∙ sym c.form_of.ensures ∙ c.in-Some-Dry.is ∙ ap (λ (f : Form). Some f) c.in-Some-Dry.field-0-is in
    record { runs = dry_runs (record { left = g.S.Source.left; faults = g.S.Source.faults; tells = g.D.Desk.tells; seen = g.D.Desk.seen; stopped = g.D.Desk.stopped }) c.args.bounds _ _ _ _ _ _ _ form e.serves e.counts e.undisked e.others }

pub returns-in-Some-Replay : goal.returns-in-Some-Replay
returns-in-Some-Replay g c =
    let e = c.run_replay.ensures in
    let form = ap (λ ws. form_of (texts ws)) (sym c.as_slice.ensures.value) ∙ sym c.form_of.ensures ∙ c.in-Some-Replay.is ∙ ap (λ (f : Form). Some f) c.in-Some-Replay.field-0-is in
    record { runs = replay_runs (record { left = g.S.Source.left; faults = g.S.Source.faults; tells = g.D.Desk.tells; seen = g.D.Desk.seen; stopped = g.D.Desk.stopped }) c.in-Some-Replay.form c.args.bounds _ _ _ _ _ _ _ form e.replays e.counts e.room }

pub returns-in-None : goal.returns-in-None
returns-in-None g c =
    let e = c.note_lines.ensures in
    record { runs = usage_runs (record { left = g.S.Source.left; faults = g.S.Source.faults; tells = g.D.Desk.tells; seen = g.D.Desk.seen; stopped = g.D.Desk.stopped }) c.args.bounds _ _ _ _ _ (ap (λ ws. form_of (texts ws)) (sym c.as_slice.ensures.value) ∙ sym c.form_of.ensures ∙ c.in-None.is) e.others e.stops (subst (λ (l : List ℕ). NotesLines l (g.D.Desk.seen c.args.desk.now) (g.D.Desk.seen c.note_lines.new.desk)) c.status_line.ensures e.noted) e.counted }

pub returns-in-Some-Load : goal.returns-in-Some-Load
returns-in-Some-Load g c =
    let e = c.run_load.ensures in
    let form = ap (λ ws. form_of (texts ws)) (sym c.as_slice.ensures.value) ∙ sym c.form_of.ensures ∙ c.in-Some-Load.is ∙ ap (λ (f : Form). Some f) c.in-Some-Load.field-0-is in
    record { runs = load_runs (record { left = g.S.Source.left; faults = g.S.Source.faults; tells = g.D.Desk.tells; seen = g.D.Desk.seen; stopped = g.D.Desk.stopped }) c.args.bounds _ _ c.in-Some-Load.number _ _ _ _ form e.says e.write_cause e.counted e.others }

pub returns-in-Some-Audit : goal.returns-in-Some-Audit
returns-in-Some-Audit g c =
    let e = c.run_look.ensures in
    let form = ap (λ ws. form_of (texts ws)) (sym c.as_slice.ensures.value) ∙ sym c.form_of.ensures ∙ c.in-Some-Audit.is ∙ ap (λ (f : Form). Some f) c.in-Some-Audit.field-0-is in
    record { runs = audit_runs (record { left = g.S.Source.left; faults = g.S.Source.faults; tells = g.D.Desk.tells; seen = g.D.Desk.seen; stopped = g.D.Desk.stopped }) c.args.bounds _ _ _ _ _ _ form e.looks e.alone e.write_cause e.disk_cause e.counted }

pub run_advise-requires : goal.run_advise-requires
run_advise-requires g c =
    ap (λ ws. form_of (texts ws)) (c.as_slice-in-Some-Advise.ensures.value ∙ sym c.as_slice.ensures.value) ∙ sym c.form_of.ensures ∙ c.in-Some-Advise.is ∙ ap (λ (f : Form). Some f) c.in-Some-Advise.field-0-is

pub returns-in-Some-Advise : goal.returns-in-Some-Advise
returns-in-Some-Advise g c =
    let e = c.run_advise.ensures in
    let form = ap (λ ws. form_of (texts ws)) (sym c.as_slice.ensures.value) ∙ sym c.form_of.ensures ∙ c.in-Some-Advise.is ∙ ap (λ (f : Form). Some f) c.in-Some-Advise.field-0-is in
    record {
      runs = advise_runs (record { left = g.S.Source.left; faults = g.S.Source.faults; tells = g.D.Desk.tells; seen = g.D.Desk.seen; stopped = g.D.Desk.stopped }) c.args.bounds _ _ _ _ _ _ form (advise_words _ form)
          (λ i s are. e.advises i s (ap texts c.as_slice-in-Some-Advise.ensures.value ∙ are)) e.alone e.write_cause e.disk_cause e.counted;
    }

pub returns-in-Some-Ship : goal.returns-in-Some-Ship
returns-in-Some-Ship g c =
    let e = c.run_ship.ensures in
    let form = ap (λ ws. form_of (texts ws)) (sym c.as_slice.ensures.value) ∙ sym c.form_of.ensures ∙ c.in-Some-Ship.is ∙ ap (λ (f : Form). Some f) c.in-Some-Ship.field-0-is in
    record { runs = ship_runs (record { left = g.S.Source.left; faults = g.S.Source.faults; tells = g.D.Desk.tells; seen = g.D.Desk.seen; stopped = g.D.Desk.stopped }) c.args.bounds _ _ c.in-Some-Ship.from _ _ _ _ form e.ships e.alone e.write_cause e.disk_cause e.counted }

pub returns-in-Some-Compact : goal.returns-in-Some-Compact
returns-in-Some-Compact g c =
    let e = c.run_compact.ensures in
    let form = ap (λ ws. form_of (texts ws)) (sym c.as_slice.ensures.value) ∙ sym c.form_of.ensures ∙ c.in-Some-Compact.is ∙ ap (λ (f : Form). Some f) c.in-Some-Compact.field-0-is in
    let slot = ap (λ (b : StoreBounds). b.slot) c.store_bounds.ensures in
    let room = e.room (omega (arith, c.requires.slot_low, slot)) in
    record {
      runs = compact_runs (record { left = g.S.Source.left; faults = g.S.Source.faults; tells = g.D.Desk.tells; seen = g.D.Desk.seen; stopped = g.D.Desk.stopped }) c.args.bounds _ _ _ _ _ _ form (rw (sym c.store_bounds.ensures) e.compacts) e.says_nothing e.failed_says e.disk_cause e.counted
          (subst (λ (n : ℕ). HoldsRoom g.D.Desk.tells n g.D.Desk.seen g.D.Desk.stopped c.args.desk.now c.run_compact.new.desk) slot room);
    }

pub returns-in-Some-Follow : goal.returns-in-Some-Follow
returns-in-Some-Follow g c =
    let e = c.run_follow.ensures in
    let form = ap (λ ws. form_of (texts ws)) (sym c.as_slice.ensures.value) ∙ sym c.form_of.ensures ∙ c.in-Some-Follow.is ∙ ap (λ (f : Form). Some f) c.in-Some-Follow.field-0-is in
    record { runs = follow_runs (record { left = g.S.Source.left; faults = g.S.Source.faults; tells = g.D.Desk.tells; seen = g.D.Desk.seen; stopped = g.D.Desk.stopped }) c.args.bounds _ _ _ _ _ _ _ form e.follows e.counts e.room }
