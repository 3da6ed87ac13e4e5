use Rattle.std.proofs.Common.{◌∙◌, ap}
use Rattle.ctrl_model.specs.Numbered.{records}
use Rattle.ctrl_model.specs.State.{State}
use Rattle.ctrl_model.specs.Tables.{table}
use Rattle.dump_lines.specs.Dumps.{dump_commands}
use Rattle.dump_laws.specs.NamedCounts.{named_count}
use Rattle.dump_laws.proofs.MadeAgain.{all_made, same_commands, same_counts, same_records}
use Rattle.dump_laws.proofs.laws.a_dump_makes_the_like.Goals as goal

pub returns : goal.returns
returns c = record {
  accepted = λ s v. (all_made s v).done;
  same_dump = λ s v. ap dump_commands (all_made s v).ends ∙ same_commands s v;
  same_records = λ s v k of_kind. ap (λ (t : State). records (table k t).rows) (all_made s v).ends ∙ same_records s k of_kind;
  same_grants = λ s v relation left right. ap (λ (t : State). named_count relation t left right) (all_made s v).ends ∙ same_counts s v relation left right;
  no_circuits = λ s v. ap (λ (t : State). t.circuits) (all_made s v).ends;
}
