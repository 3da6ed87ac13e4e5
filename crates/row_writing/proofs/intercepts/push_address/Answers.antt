use Rattle.ctrl_model.proofs.AddressLaws.{text_short}
use Rattle.row_writing.proofs.intercepts.push_address.Goals as goal

-- an address is spelled in 255 bytes at most
pub push_text-requires : goal.push_text-requires
push_text-requires c = rw (c.as_slice.ensures, c.in_ok-text.ensures) (text_short c.args.address.now c.requires)
