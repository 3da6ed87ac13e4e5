use Rattle.ctrl_model.proofs.AddressLaws.{address_given, own_spelling, text_short}
use Rattle.model_laws.proofs.intercept_laws.addresses_are_read_back.Goals as goal

pub returns-clause-given : goal.returns-clause-given
returns-clause-given c = address_given

pub returns-clause-spelled : goal.returns-clause-spelled
returns-clause-spelled c = own_spelling

pub returns-clause-short : goal.returns-clause-short
returns-clause-short c = text_short
