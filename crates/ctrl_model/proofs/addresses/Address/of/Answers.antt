use Rattle.std.proofs.Common.{sym}
use Rattle.std.proofs.lemmas.Result.{IfOk-weaker}
use Rattle.ctrl_model.proofs.AddressLaws.{address_given}
use Rattle.ctrl_model.proofs.addresses.Address.of.Goals as goal

pub returns-clause-named : goal.returns-clause-named
returns-clause-named c = IfOk-weaker c.address_of.result _ _ (λ address h. (h, address_given c.args.bytes.now address (sym h))) c.address_of.ensures.named
