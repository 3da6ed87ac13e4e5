use Rattle.ctrl_serve.proofs.PlainLaws.{plain_replies, plain_last}
use Rattle.ctrl_serve.proofs.laws.plain_input_is_one_session.Goals as goal

pub returns-clause-replies : goal.returns-clause-replies
returns-clause-replies c bounds m bytes = plain_replies bounds m bytes

pub returns-clause-last : goal.returns-clause-last
returns-clause-last c bounds m bytes = plain_last bounds m bytes
