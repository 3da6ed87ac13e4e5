use Rattle.std.proofs.Common.{◌∙◌}
use Rattle.desk_base.specs.MemEvents.{image_of}
use Rattle.desk_base.proofs.StopLaws.{reads_alone, keeps_alone, says_alone, ok_then, at_ok}
use Rattle.desk_base.proofs.KeptLaws.{chosen_alone}
use Rattle.desk_base.proofs.stopping.go_on.Goals as goal

pub returns-clause-reads : goal.returns-clause-reads
returns-clause-reads c = at_ok c.say_on.result (c.in_ok-read_on.ensures ∙ reads_alone c.args.call.now c.args.said.now c.args.written.now (image_of c.args.stop.now.reads))

pub returns-clause-image : goal.returns-clause-image
returns-clause-image c =
    at_ok c.say_on.result (keeps_alone c.args.call.now c.args.said.now c.args.written.now (image_of c.args.stop.now.reads) (image_of c.args.stop.now.image) (image_of c.keep_on.new.image) c.in_ok-keep_on.ensures.kept)

pub returns-clause-taken : goal.returns-clause-taken
returns-clause-taken c =
    ok_then c.say_on.result c.say_on.ensures (λ e. e ∙ says_alone c.args.call.now c.args.said.now c.args.written.now c.args.stop.now.taken.items)

pub returns-clause-chosen : goal.returns-clause-chosen
returns-clause-chosen c =
    at_ok c.say_on.result (chosen_alone c.args.keeping.now c.args.call.now c.args.said.now c.args.written.now (image_of c.args.stop.now.reads) (image_of c.args.stop.now.image) (image_of c.keep_on.new.image) c.in_ok-keep_on.ensures.chosen)
