use Rattle.channel_frame.proofs.FrontLaws.{front_again, front_takes, front_stays}
use Rattle.channel_frame.proofs.ReadingLaws.{tail_from, tail_has_none}
use Rattle.channel_frame.proofs.laws.what_stands.Goals as goal

pub returns-clause-again : goal.returns-clause-again
returns-clause-again c = front_again

pub returns-clause-whole : goal.returns-clause-whole
returns-clause-whole c = λ bytes f n fits e.
    let t = front_takes bytes f n fits e in
    (t.is_frame, t.long, t.there, t.text)

pub returns-clause-stays : goal.returns-clause-stays
returns-clause-stays c = front_stays

pub returns-clause-tail : goal.returns-clause-tail
returns-clause-tail c = λ bytes fits. (tail_has_none bytes fits, tail_from bytes)
