use Rattle.std.proofs.Common.{refl}
use Rattle.std.specs.Fmt.{digits}
use Rattle.rand_core.specs.Pcg32Seed.{pcg32_seed}
use Rattle.rand_core.specs.Steps.{u32_at, word_bytes}
use Rattle.serde_json.proofs.OnLiterals.{serde_json_on_literals}
use Rattle.load_gen.specs.Draws.{generator_of, draw, for_each_to}
use Rattle.load_gen.proofs.worked.worked_words.Goals as goal

pub returns : goal.returns
unfolding generator_of draw for_each_to pcg32_seed u32_at word_bytes digits serde_json_on_literals
returns c = record { first = refl; second = refl; third = refl; fourth = refl }
