use Rattle.std.proofs.Common.{◌==◌, not, None, refl, ◌∙◌, ap}
use Rattle.state_building.specs.declared.flaws.Flaw.TheVariants.{WrongCount}
use Rattle.state_building.specs.JoinedRecords.{flaw_if}
use Rattle.ctrl_core.proofs.TakenLaws.{count_kept}
use Rattle.ctrl_core.proofs.taking.judge_count.Goals as goal

pub returns : goal.returns
returns c =
    c.count_flaw.ensures
    ∙ ap (λ n. flaw_if (not (n == c.args.told)) WrongCount None)
    (count_kept c.args.stores.now c.args.relation c.counted.result.now c.args.a c.args.b _ c.requires.kept c.counted.ensures refl)
