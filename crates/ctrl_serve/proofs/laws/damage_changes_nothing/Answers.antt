use Rattle.std.proofs.Common.{refl}
use Rattle.ctrl_serve.specs.CommandLine.{form_of}
use Rattle.ctrl_serve.proofs.LeftFolderLaws.{frames_said, nothing_taken, shut_alone, shut_place, stays_shut}
use Rattle.ctrl_serve.proofs.laws.damage_changes_nothing.Goals as goal

pub returns-clause-input : goal.returns-clause-input
returns-clause-input g c bounds words source source_now desk desk_now runs =
    nothing_taken (record { left = g.S.Source.left; faults = g.S.Source.faults; tells = g.D.Desk.tells; seen = g.D.Desk.seen; stopped = g.D.Desk.stopped }) bounds words (form_of words) source source_now desk desk_now refl runs

pub returns-clause-replies : goal.returns-clause-replies
returns-clause-replies g c bounds words source source_now desk desk_now runs told =
    (stays_shut (record { left = g.S.Source.left; faults = g.S.Source.faults; tells = g.D.Desk.tells; seen = g.D.Desk.seen; stopped = g.D.Desk.stopped }) bounds words (form_of words) source source_now desk desk_now refl told runs).unopened.says_nothing

pub returns-clause-shipped : goal.returns-clause-shipped
returns-clause-shipped g c bounds words from source source_now desk desk_now runs =
    frames_said {seen = g.D.Desk.seen} {stopped = g.D.Desk.stopped} g.D.Desk.tells from desk desk_now (runs.ship from refl)

pub returns-clause-folder : goal.returns-clause-folder
returns-clause-folder g c bounds words source source_now desk desk_now runs told =
    let shut = stays_shut (record { left = g.S.Source.left; faults = g.S.Source.faults; tells = g.D.Desk.tells; seen = g.D.Desk.seen; stopped = g.D.Desk.stopped }) bounds words (form_of words) source source_now desk desk_now refl (λ from e. told) runs in
    shut_alone shut.within g.D.Desk.tells desk desk_now shut.unopened told

pub returns-clause-place : goal.returns-clause-place
returns-clause-place g c bounds words source source_now desk desk_now runs told =
    let shut = stays_shut (record { left = g.S.Source.left; faults = g.S.Source.faults; tells = g.D.Desk.tells; seen = g.D.Desk.seen; stopped = g.D.Desk.stopped }) bounds words (form_of words) source source_now desk desk_now refl (λ from e. told) runs in
    shut_place shut.within g.D.Desk.tells desk desk_now shut.unopened told
