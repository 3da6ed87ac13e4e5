use Rattle.std.proofs.Common.{◌+◌, ◌<◌, ◌^◌, length, ap, arith}
use Rattle.channel_frame.specs.SessionBytes.{SessionBytes}
use Rattle.frame_stream.proofs.StepLaws.{feed_keeps}
use Rattle.frame_stream.proofs.decoders.Decoder.feed.Goals as goal

pub invariant_of-self : goal.invariant_of-self
invariant_of-self c =
    let room : c.self.inside.given + length c.self.inside.held + length c.args.piece.now < 2 ^ 63 =
    omega (arith, c.requires.room, ap (λ (b : SessionBytes). b.given + length b.held) c.self.view_is)
    in
    feed_keeps c.append.result c.self.inside.given c.self.inside.held c.args.piece.now c.append.new.self c.self.inside.fault c.self.inside.head c.append.ensures.ok c.append.ensures.err room c.in-None.is c.self.invariant.2
