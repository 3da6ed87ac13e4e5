use Rattle.channel_frame.proofs.KindLaws.{bad_headers_bad, bad_headers_none, bad_too_long, bad_unmarked, short_unfinished, too_long_bad, unfinished_short, unmarked_bad}
use Rattle.channel_frame.proofs.laws.kinds_of_tails.Goals as goal

pub returns-clause-unfinished : goal.returns-clause-unfinished
returns-clause-unfinished c = λ bytes fits. (short_unfinished bytes fits, unfinished_short bytes)

pub returns-clause-unmarked : goal.returns-clause-unmarked
returns-clause-unmarked c = λ bytes fits. (bad_unmarked bytes, unmarked_bad bytes fits)

pub returns-clause-too_long : goal.returns-clause-too_long
returns-clause-too_long c = λ bytes fits. (bad_too_long bytes fits, too_long_bad bytes)

pub returns-clause-bad_headers : goal.returns-clause-bad_headers
returns-clause-bad_headers c = λ bytes fits. (bad_headers_none bytes fits, bad_headers_bad bytes fits)
