-- The frame of a reply (docs/FORMATS.md, "Replies").
use Rattle.std.specs.Prelude.{ℕ, Bool, true, false, if◌then◌else◌, [], ◌∷◌}
use Rattle.channel_frame.specs.declared.frames.Frame.{Frame}
use Rattle.channel_frame.specs.FrameSpelling.{number}
use Rattle.ctrl_model.specs.declared.replies.Reply.{Reply}
use Rattle.ctrl_model.specs.declared.replies.Reply.TheVariants as reply
use Rattle.reply_codec.specs.ReplyBody.{reply_body}

-- A refusal is no success.
abbrev pub is_success : Reply → Bool
is_success (reply.Refused r) = false
is_success _ = true

-- The flag of a reply's success.
abbrev pub success_flag : Reply → ℕ
success_flag r = if is_success r then 1 else 0

-- The reply frame: content type 2, the session's count of replies as its sequence number, the request's sequence number
-- and the flag of success as its headers, and the reply's body.
abbrev pub reply_frame : ℕ → ℕ → Reply → Frame
reply_frame sequence request r = record {
  content = 2;
  sequence = sequence;
  headers = record { key = 1; value = number request } ∷ record { key = 2; value = success_flag r ∷ [] } ∷ [];
  body = reply_body r;
}
