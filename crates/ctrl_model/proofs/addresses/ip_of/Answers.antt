use Rattle.std.proofs.Common.{Some, option_map, sym, ap, ◌∙◌}
use Rattle.std.specs.Net.Addr.{ipv4_bits}
use Rattle.std.specs.Result.{result_ok}
use Rattle.ctrl_model.proofs.RangeTexts.{parsed_ip}
use Rattle.ctrl_model.proofs.addresses.ip_of.Goals as goal

pub returns-in-Ok : goal.returns-in-Ok
returns-in-Ok c =
    ap Some c.to_bits.ensures ∙ sym (ap (λ r. option_map ipv4_bits (result_ok r)) c.in-Ok.is) ∙ parsed_ip c.args.bytes.now c.parse_ascii.result c.parse_ascii.ensures

pub returns-in-Err : goal.returns-in-Err
returns-in-Err c = sym (ap (λ r. option_map ipv4_bits (result_ok r)) c.in-Err.is) ∙ parsed_ip c.args.bytes.now c.parse_ascii.result c.parse_ascii.ensures
