use Rattle.std.proofs.Common.{refl, arith}
use Rattle.ctrl_model.specs.declared.kinds.Kind.{Kind}
use Rattle.ctrl_model.specs.declared.kinds.Kind.TheVariants as kind
use Rattle.ctrl_model.specs.State.{start}
use Rattle.ctrl_model.specs.Tables.{table}
use Rattle.ctrl_model.specs.ValidState.{ValidTable}
use Rattle.ctrl_model.proofs.TableLaws.{valid-none}
use Rattle.model_laws.proofs.CountedLaws.{numbered-valid}
use Rattle.model_laws.proofs.ValidCommands.{answer-valid}
use Rattle.model_laws.proofs.validity.valid_stays_valid.Goals as goal

kinds : (k : Kind) → ValidTable k start (table k start)
kinds kind.Link = valid-none kind.Link start
kinds k = valid-none k start

pub returns-clause-at_start : goal.returns-clause-at_start
returns-clause-at_start c = record { kinds = kinds; setting = refl; attributes = refl; repaired = refl; ordered = tt; intercepts = refl; counted = omega arith }

pub returns-clause-stays : goal.returns-clause-stays
returns-clause-stays c = answer-valid

pub returns-clause-counted : goal.returns-clause-counted
returns-clause-counted c = numbered-valid
