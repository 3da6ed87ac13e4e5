use Rattle.std.proofs.Common.{◌≡◌, ◌<◌, List, length, ap, ◌∙◌, arith}
use Rattle.std.proofs.lemmas.List.{length-set, get_or_read}
use Rattle.session_mux.specs.declared.sessions.Session.{Session}
use Rattle.session_mux.specs.declared.sessions.Session.TheVariants as session
use Rattle.session_mux.specs.Completion.{session_at, events_held}
use Rattle.session_mux.specs.SessionSteps.{taken}
use Rattle.session_mux.proofs.TableLaws.{quiet_but_set}
use Rattle.session_mux.proofs.tables.SessionTable.feed.Goals as goal

pub invariant_of-self-2 : goal.invariant_of-self-2
invariant_of-self-2 c = (
  length-set c.self.inside.all.items c.args.session c.feed.new.self ∙ c.self.invariant.0,
  quiet_but_set c.args.session c.feed.new.self c.self.inside.all.items (ap (events_held 0) c.self.view_is ∙ c.requires.quiet),
)

pub feed-requires : goal.feed-requires
feed-requires c =
    let xs : List Session = c.self.inside.all.items in
    let within : c.args.session < length xs = omega (arith, c.self.invariant.0, c.ranges.session) in
    let there : c.index_mut.result.now ≡ session_at xs c.args.session = get_or_read xs c.args.session c.index_mut.result.now within c.index_mut.ensures.value session.Unopened in
    omega (arith, c.requires.room, ap taken there, ap (λ (ys : List Session). taken (session_at ys c.args.session)) c.self.view_is)
