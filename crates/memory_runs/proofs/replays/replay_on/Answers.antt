use Rattle.std.proofs.Common.{Some, ap}
use Rattle.memory_runs.proofs.WholeRuns.{whole, is_full, refused, opens_or_not}
use Rattle.memory_runs.proofs.SafeRuns.{safe}
use Rattle.memory_runs.proofs.replays.replay_on.Goals as goal

pub returns-clause-whole : goal.returns-clause-whole
returns-clause-whole g c machine opens roomy on =
    whole (record { left = λ s. Some s.rest.now; faults = λ s. 0; tells = g.D.Desk.tells; seen = g.D.Desk.seen; stopped = g.D.Desk.stopped })
    c.args.form c.args.input.now c.new-source.result c.run.new.source c.args.desk.now c.run.new.desk c.run.result machine
    (ap Some c.new-source.ensures) c.requires on opens roomy (c.run.ensures.runs.replay c.args.form c.in_ok-words.ensures)

pub returns-clause-safe : goal.returns-clause-safe
returns-clause-safe g c machine opens on =
    safe (record { left = λ s. Some s.rest.now; faults = λ s. 0; tells = g.D.Desk.tells; seen = g.D.Desk.seen; stopped = g.D.Desk.stopped })
    c.args.form c.args.input.now c.new-source.result c.run.new.source c.args.desk.now c.run.new.desk c.run.result machine
    (ap Some c.new-source.ensures) c.requires (g.met.D.Desk.only_now c.args.desk.now) on opens (c.run.ensures.runs.replay c.args.form c.in_ok-words.ensures)

pub returns-clause-full : goal.returns-clause-full
returns-clause-full g c part lacks on =
    is_full (record { left = λ s. Some s.rest.now; faults = λ s. 0; tells = g.D.Desk.tells; seen = g.D.Desk.seen; stopped = g.D.Desk.stopped })
    c.args.form c.new-source.result c.run.new.source c.args.desk.now c.run.new.desk c.run.result part
    c.requires on lacks (c.run.ensures.runs.replay c.args.form c.in_ok-words.ensures)

pub returns-clause-refused : goal.returns-clause-refused
returns-clause-refused g c part at none on =
    refused (record { left = λ s. Some s.rest.now; faults = λ s. 0; tells = g.D.Desk.tells; seen = g.D.Desk.seen; stopped = g.D.Desk.stopped })
    c.args.form c.new-source.result c.run.new.source c.args.desk.now c.run.new.desk c.run.result part at
    c.requires on none (c.run.ensures.runs.replay c.args.form c.in_ok-words.ensures)

pub returns-clause-decided : goal.returns-clause-decided
returns-clause-decided g c on =
    opens_or_not (record { left = λ s. Some s.rest.now; faults = λ s. 0; tells = g.D.Desk.tells; seen = g.D.Desk.seen; stopped = g.D.Desk.stopped })
    c.args.form c.new-source.result c.run.new.source c.args.desk.now c.run.new.desk c.run.result
    c.requires on (c.run.ensures.runs.replay c.args.form c.in_ok-words.ensures)
