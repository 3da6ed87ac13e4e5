-- How a kept controller is what answers a run.
use Rattle.std.specs.Prelude.{IsTrue, not}
use Rattle.std.proofs.Common.{◌≡◌, Bool, true, false, refl, ap, ◌∙◌}
use Rattle.std.proofs.lemmas.Bool.{false≢true}
use Rattle.ziti_outside.specs.Images.{Image}
use Rattle.ctrl_model.specs.declared.commands.Command.{Command}
use Rattle.ctrl_model.specs.declared.kinds.Who.{Who}
use Rattle.ctrl_model.specs.declared.replies.Reply.{Reply}
use Rattle.row_store.specs.StoredRows.{ReadsAs}
use Rattle.ctrl_keep.specs.KeptController.{Controlled, HoldsRows, machine_of}
use Rattle.ctrl_keep.specs.KeptMachine.{Machine, step}
use Rattle.reply_codec.specs.ReplyLimits.{keeps_limits}
use Rattle.serve_loop.specs.Answerers.{IsReady}
use Rattle.ctrl_serve.specs.ControllerViews.{kept_needs}
use Rattle.ctrl_serve.proofs.CarriedFits.{step_fits}

-- What can answer is not spent, and what is not spent can answer.
pub unspent : (spent : Bool) → not spent ≡ true → spent ≡ false
unspent true able = absurd (false≢true able)
unspent false able = refl

pub able : (spent : Bool) → spent ≡ false → not spent ≡ true
able spent fresh = ap not fresh

-- A kept controller that is ready reads as its store stands, and the other way round.
pub ready_reads : (k : Controlled) (tells : Bool) (reads : Image) (images : Image → Type 0) → IsReady (kept_needs k) tells reads images → IsTrue tells → ReadsAs k.stored reads images
ready_reads k tells reads images ready told = record {
  some = (ready.stands told).0;
  kept = (ready.stands told).1;
  stable_mark = record { each = λ image left. (ready.leaves told image left).0 };
  stable_slot = record { each = λ image left. (ready.leaves told image left).1 };
}

pub reads_ready : (k : Controlled) (tells : Bool) (reads : Image) (images : Image → Type 0) → HoldsRows k → (IsTrue tells → ReadsAs k.stored reads images) → IsReady (kept_needs k) tells reads images
reads_ready k tells reads images holds stands = record {
  holds = holds;
  stands = λ told. ((stands told).some, (stands told).kept);
  leaves = λ told image left. ((stands told).stable_mark.each image left, (stands told).stable_slot.each image left);
}

-- Its reply keeps the limits.
pub kept_limits : (k : Controlled) (reply : Reply) (next : Machine) (who : Who) (c : Command) → HoldsRows k → (reply, next) ≡ step k.stored.bounds who c (machine_of k) → keeps_limits reply ≡ true
kept_limits k reply next who c holds e = ap (λ (p : Reply × Machine). keeps_limits p.0) e ∙ step_fits k.stored.bounds who c (machine_of k) holds.valid
