-- How long the lists of a reply may be for it to fit a frame (docs/FORMATS.md, "Replies").
use Rattle.std.specs.Prelude.{Bool, true, ◌&&◌, nat_le, length}
use Rattle.std.specs.List.{list_all}
use Rattle.ctrl_model.specs.AddressForm.{is_spelling}
use Rattle.ctrl_model.specs.ValueForms.{is_value}
use Rattle.ctrl_model.specs.declared.claims.Explanation.{Explanation}
use Rattle.ctrl_model.specs.declared.claims.Reach.{Reach}
use Rattle.ctrl_model.specs.declared.replies.Reply.{Reply}
use Rattle.ctrl_model.specs.declared.replies.Reply.TheVariants as reply
use Rattle.ctrl_model.specs.Limits.{limit, longest_path}
use Rattle.ctrl_model.specs.declared.kinds.Kind.TheVariants as kind

-- An entry of an explanation: at most 256 values, each no path or below 2 ^ 32.
abbrev pub is_short_reach : Reach → Bool
is_short_reach e = nat_le (length e.values) (limit kind.Router) && list_all is_value e.values

-- An explanation: at most 255 links, 256 routers and 256 such entries.
abbrev pub is_short_claim : Explanation → Bool
is_short_claim claim =
    nat_le (length claim.links) longest_path
    && (nat_le (length claim.routers) (limit kind.Router) && (nat_le (length claim.potentials) (limit kind.Router) && list_all is_short_reach claim.potentials))

-- A reply that fits a frame: its lists are no longer than what a controller can show, and the address of an intercept is in its one
-- spelling. There are at most 512 services and 256 routers, and a path has at most 255 links.
abbrev pub keeps_limits : Reply → Bool
keeps_limits (reply.Circuit circuit ingress links terminator total) = nat_le (length links) longest_path
keeps_limits (reply.Explained ingress claim) = is_short_claim claim
keeps_limits (reply.Services names) = nat_le (length names) (limit kind.Service)
keeps_limits (reply.Grants bind dial routers) = nat_le (length bind) (limit kind.Service) && (nat_le (length dial) (limit kind.Service) && nat_le (length routers) (limit kind.Router))
keeps_limits (reply.Shown identity ingress links service terminator) = nat_le (length links) longest_path
keeps_limits (reply.Picked address low high service) = is_spelling address
keeps_limits (reply.Clashes names) = nat_le (length names) (limit kind.Service)
keeps_limits _ = true
