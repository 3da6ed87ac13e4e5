use Rattle.std.proofs.Common.{◌≡◌, ◌≤◌, ◌∙◌, length, arith}
use Rattle.ctrl_model.specs.declared.kinds.Who.TheVariants.{Admin}
use Rattle.ctrl_model.specs.State.{start}
use Rattle.session_mux.specs.declared.sessions.Form.TheVariants.{Plain}
use Rattle.session_mux.specs.Completion.{completed}
use Rattle.load_gen.specs.LoadFrames.{load_frames}
use Rattle.ctrl_serve.proofs.UncountedRuns.{serial_behind, serial_behind_alone}
use Rattle.ctrl_serve.proofs.laws.nothing_is_counted_without_a_folder.Goals as goal

pub returns-clause-dry : goal.returns-clause-dry
returns-clause-dry c used = serial_behind start (completed Plain used)

pub returns-clause-dry_within : goal.returns-clause-dry_within
returns-clause-dry_within c used = omega (arith, serial_behind start (completed Plain used))

pub returns-clause-load : goal.returns-clause-load
returns-clause-load c number = serial_behind_alone Admin start (load_frames number)

pub returns-clause-load_within : goal.returns-clause-load_within
returns-clause-load_within c number = omega (arith, serial_behind_alone Admin start (load_frames number))

pub returns-clause-below : goal.returns-clause-below
returns-clause-below c = omega arith
