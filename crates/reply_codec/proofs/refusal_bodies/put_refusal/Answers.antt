use Rattle.reply_codec.proofs.refusal_bodies.put_refusal.Goals as goal

pub returns-in-SameRouter-clause-written : goal.returns-in-SameRouter-clause-written
returns-in-SameRouter-clause-written c = rw c.in-SameRouter.is c.put_plain-in-SameRouter.ensures.written

pub returns-in-SameRouter-clause-few : goal.returns-in-SameRouter-clause-few
returns-in-SameRouter-clause-few c = rw c.in-SameRouter.is c.put_plain-in-SameRouter.ensures.few

pub returns-in-JournalFull-clause-written : goal.returns-in-JournalFull-clause-written
returns-in-JournalFull-clause-written c = rw c.in-JournalFull.is c.put_plain-in-JournalFull.ensures.written

pub returns-in-JournalFull-clause-few : goal.returns-in-JournalFull-clause-few
returns-in-JournalFull-clause-few c = rw c.in-JournalFull.is c.put_plain-in-JournalFull.ensures.few

pub returns-in-MarkFull-clause-written : goal.returns-in-MarkFull-clause-written
returns-in-MarkFull-clause-written c = rw c.in-MarkFull.is c.put_plain-in-MarkFull.ensures.written

pub returns-in-MarkFull-clause-few : goal.returns-in-MarkFull-clause-few
returns-in-MarkFull-clause-few c = rw c.in-MarkFull.is c.put_plain-in-MarkFull.ensures.few

pub returns-in-NoIntercept-clause-written : goal.returns-in-NoIntercept-clause-written
returns-in-NoIntercept-clause-written c = rw c.in-NoIntercept.is c.put_plain-in-NoIntercept.ensures.written

pub returns-in-NoIntercept-clause-few : goal.returns-in-NoIntercept-clause-few
returns-in-NoIntercept-clause-few c = rw c.in-NoIntercept.is c.put_plain-in-NoIntercept.ensures.few
