use Rattle.std.specs.Prelude.{⊤, IfOk, IfErr, OnOk, ◌≢◌}
use Rattle.std.proofs.Common.{◌≡◌, ◌⊎◌, false, IsTrue, List, ℕ, sym, ap, subst, ◌∙◌}
use Rattle.std.proofs.lemmas.Result.{IfOk-weaker, IfErr-weaker, on_ok_weaker}
use Rattle.ziti_outside.specs.Moments.{Leaves}
use Rattle.ziti_outside.specs.Untouched.{OnlyReads}
use Rattle.ziti_outside.proofs.MomentLaws.{Leaves-none}
use Rattle.ctrl_model.specs.declared.formats.Format.TheVariants.{Two}
use Rattle.journal_core.specs.Room.{HoldsRoom}
use Rattle.slot_files.specs.FolderImage.{Stands}
use Rattle.row_store.specs.OpenedRows.{OpensTo}
use Rattle.follow_core.specs.Faults.{TakeFails}
use Rattle.follow_core.specs.FollowedCopies.{Followed, StandsAs}
use Rattle.follow_core.specs.TakenFrames.{IsTaken, OpensToSome, copy_behind_frame}
use Rattle.follow_core.specs.declared.taken.Taken.TheVariants as takens
use Rattle.follow_core.proofs.FollowedFrames.{take_failed}
use Rattle.follow_core.proofs.follower.Follower.take.Goals as goal

pub take_frame-requires-clause-opened : goal.take_frame-requires-clause-opened
take_frame-requires-clause-opened g c = (c.self.invariant.0 (sym c.is_spent.ensures ∙ c.if-is_spent.false)).0

pub take_frame-requires-clause-unspent : goal.take_frame-requires-clause-unspent
take_frame-requires-clause-unspent g c = (sym c.is_spent.ensures ∙ c.if-is_spent.false)

pub take_frame-requires-clause-holds : goal.take_frame-requires-clause-holds
take_frame-requires-clause-holds g c = (c.self.invariant.0 (sym c.is_spent.ensures ∙ c.if-is_spent.false)).1

pub take_frame-requires-clause-held : goal.take_frame-requires-clause-held
take_frame-requires-clause-held g c = c.self.invariant.1

pub take_frame-requires-clause-stands : goal.take_frame-requires-clause-stands
take_frame-requires-clause-stands g c = λ told. (subst (λ (f : Followed). StandsAs f (g.D.Desk.seen c.args.desk.now).reads (g.D.Desk.stopped c.args.desk.now).images) (sym c.self.view_is) (c.requires.stands (ap (λ (f : Followed). f.stored.spent) (sym c.self.view_is) ∙ (sym c.is_spent.ensures ∙ c.if-is_spent.false)) told)).stored

pub take_frame-requires-clause-sought : goal.take_frame-requires-clause-sought
take_frame-requires-clause-sought g c = λ told. (subst (λ (f : Followed). StandsAs f (g.D.Desk.seen c.args.desk.now).reads (g.D.Desk.stopped c.args.desk.now).images) (sym c.self.view_is) (c.requires.stands (ap (λ (f : Followed). f.stored.spent) (sym c.self.view_is) ∙ (sym c.is_spent.ensures ∙ c.if-is_spent.false)) told)).sought

pub returns-clause-taken : goal.returns-clause-taken
returns-clause-taken g c =
    subst (λ (f : Followed). IfOk c.take_frame.result (λ taken. IsTrue g.D.Desk.tells → (records : List (List ℕ)) → Stands Two (g.D.Desk.seen c.args.desk.now).reads records
    → IsTaken c.args.frame.now records f (record { stored = c.take_frame.new.store; parts = c.take_frame.new.gathering; sought = c.take_frame.new.sought }) (g.D.Desk.seen c.take_frame.new.desk).reads taken)) c.self.view_is
    (IfOk-weaker c.take_frame.result _ _ (λ t k told records stands. let x = k told records stands in record { answer = x.answer; copy = x.copy; folder = x.folder }) c.take_frame.ensures.taken)

pub returns-clause-still : goal.returns-clause-still
returns-clause-still g c =
    subst (λ (f : Followed). IfOk c.take_frame.result (λ taken. taken ≢ takens.Took → (c.take_frame.new.store ≡ f.stored) × OnlyReads g.D.Desk.seen g.D.Desk.stopped c.args.desk.now c.take_frame.new.desk))
    c.self.view_is c.take_frame.ensures.still

pub returns-clause-unspent : goal.returns-clause-unspent
returns-clause-unspent g c =
    subst (λ (f : Followed). OnOk c.take_frame.result ((f.stored.spent ≡ false) × (c.take_frame.new.store.spent ≡ false) × (c.take_frame.new.store.bounds ≡ f.stored.bounds))) c.self.view_is
    (on_ok_weaker c.take_frame.result (λ x. ((sym c.is_spent.ensures ∙ c.if-is_spent.false), x.0, x.1)) c.take_frame.ensures.unspent)

pub returns-clause-fault : goal.returns-clause-fault
returns-clause-fault g c =
    subst (λ (f : Followed). IfErr c.take_frame.result (λ fault. TakeFails f (record { stored = c.take_frame.new.store; parts = c.take_frame.new.gathering; sought = c.take_frame.new.sought }) c.args.desk.now c.take_frame.new.desk fault)) c.self.view_is
    (IfErr-weaker c.take_frame.result _ _ (λ fault x. take_failed _ (record { stored = c.take_frame.new.store; parts = c.take_frame.new.gathering; sought = c.take_frame.new.sought }) c.args.desk.now c.take_frame.new.desk fault (sym c.is_spent.ensures ∙ c.if-is_spent.false) x) c.take_frame.ensures.fault)

pub returns-clause-stands : goal.returns-clause-stands
returns-clause-stands g c = λ fresh told. record { stored = c.take_frame.ensures.stands fresh told; sought = c.take_frame.ensures.sought fresh told }

pub returns-clause-stops : goal.returns-clause-stops
returns-clause-stops g c = λ fresh told records stands.
    subst (λ (f : Followed). Leaves g.D.Desk.seen g.D.Desk.stopped c.args.desk.now c.take_frame.new.desk
    (λ image. OpensTo Two image f.stored.rows ⊎ OpensTo Two image (copy_behind_frame c.args.frame.now records f).rows)) c.self.view_is (c.take_frame.ensures.stops told records stands)

pub returns-clause-opens : goal.returns-clause-opens
returns-clause-opens g c = λ fresh told. c.take_frame.ensures.opens told

pub returns-clause-room : goal.returns-clause-room
returns-clause-room g c =
    subst (λ (f : Followed). HoldsRoom g.D.Desk.tells f.stored.bounds.slot g.D.Desk.seen g.D.Desk.stopped c.args.desk.now c.take_frame.new.desk) c.self.view_is c.take_frame.ensures.room

pub invariant_of-self : goal.invariant_of-self
invariant_of-self g c = (λ fresh. (c.take_frame.ensures.opened fresh, c.take_frame.ensures.holds fresh), c.take_frame.ensures.held)
