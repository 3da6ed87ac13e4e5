use Rattle.std.proofs.Common.{[], ◌∷◌, refl}
use Rattle.std.proofs.lemmas.Bool.{iff_false}
use Rattle.ctrl_model.specs.Networks.{network_of}
use Rattle.ctrl_model.specs.WorkedStates.{line}
use Rattle.model_laws.proofs.PlainPathLaws.{is_path-plain}
use Rattle.model_laws.proofs.worked_laws.plain_paths_of_a_line.Goals as goal

-- the test of each of the paths computes
pub returns-clause-both_links : goal.returns-clause-both_links
returns-clause-both_links c = (is_path-plain (network_of line) 1 3 (1 ∷ 2 ∷ [])).0 refl

pub returns-clause-no_links : goal.returns-clause-no_links
returns-clause-no_links c = (is_path-plain (network_of line) 2 2 []).0 refl

pub returns-clause-there_and_back : goal.returns-clause-there_and_back
returns-clause-there_and_back c = iff_false (is_path-plain (network_of line) 1 3 (1 ∷ 1 ∷ 1 ∷ 2 ∷ [])) refl

pub returns-clause-jumps : goal.returns-clause-jumps
returns-clause-jumps c = iff_false (is_path-plain (network_of line) 1 3 (2 ∷ [])) refl

pub returns-clause-ends_elsewhere : goal.returns-clause-ends_elsewhere
returns-clause-ends_elsewhere c = iff_false (is_path-plain (network_of line) 1 3 (1 ∷ [])) refl
