use Rattle.std.proofs.Common.{codes, decimal}
use Rattle.network_picture.proofs.PutTexts.{put_behind}
use Rattle.network_picture.proofs.drawing.put_terminator_word.Goals as goal

pub returns : goal.returns
returns c =
    put_behind c.put_number.result c.args.text.now.items (codes "|\"terminator ") c.extend_from_slice.new.self.items c.put_number.new.text.items (decimal c.args.no)
    c.in_ok-extend_from_slice.ensures.items c.put_number.ensures
