use Rattle.network_picture.proofs.PutTexts.{terminator_put}
use Rattle.network_picture.proofs.drawing.put_terminator.Goals as goal

pub returns : goal.returns
returns c =
    terminator_put c.put_to.result c.args.marked c.args.no c.args.ends.0 c.args.ends.1 c.args.offer.0 c.args.offer.1 c.terminator_stroke.result.now c.wide.result
    c.args.text.now.items c.put_from.new.text.items c.put_terminator_word.new.text.items c.put_to.new.text.items
    c.terminator_stroke.ensures c.wide.ensures c.in_ok-put_from.ensures c.in_ok-put_terminator_word.ensures c.put_to.ensures
