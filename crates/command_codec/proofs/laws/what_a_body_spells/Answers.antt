use Rattle.command_codec.proofs.SpelledLaws.{means, meaning-Spells}
use Rattle.command_codec.proofs.laws.what_a_body_spells.Goals as goal

pub returns-clause-spells : goal.returns-clause-spells
returns-clause-spells c = λ content body d. (λ e. (means content body d e).spelled, meaning-Spells content body d)

pub returns-clause-spelled : goal.returns-clause-spelled
returns-clause-spelled c = λ content body d e. (means content body d e).form
