-- How long the words of fields, kinds and reasons are.
use Rattle.std.proofs.Common.{◌≤◌, length, lit≤}
use Rattle.ctrl_model.specs.Words.{word_of}
use Rattle.ctrl_model.specs.declared.kinds.Kind.{Kind}
use Rattle.ctrl_model.specs.declared.kinds.Kind.TheVariants as kind
use Rattle.ctrl_model.specs.declared.refusals.Field.{Field}
use Rattle.ctrl_model.specs.declared.refusals.Field.TheVariants as field
use Rattle.ctrl_model.specs.declared.refusals.Reason.{Reason}
use Rattle.ctrl_model.specs.declared.refusals.Reason.TheVariants as reason
use Rattle.reply_codec.specs.ReplyBody.{kind_word, reason_word}

-- the word of a field has at most 14 bytes
pub length-word : (f : Field) → length (word_of f) ≤ 14
length-word field.Name = lit≤ tt
length-word field.Attributes = lit≤ tt
length-word field.Cost = lit≤ tt
length-word field.NoTraversal = lit≤ tt
length-word field.PolicyType = lit≤ tt
length-word field.Semantic = lit≤ tt
length-word field.IdentityRoles = lit≤ tt
length-word field.ServiceRoles = lit≤ tt
length-word field.RouterRoles = lit≤ tt
length-word field.A = lit≤ tt
length-word field.B = lit≤ tt
length-word field.LatencyA = lit≤ tt
length-word field.LatencyB = lit≤ tt
length-word field.Link = lit≤ tt
length-word field.Router = lit≤ tt
length-word field.Latency = lit≤ tt
length-word field.Up = lit≤ tt
length-word field.Service = lit≤ tt
length-word field.Instance = lit≤ tt
length-word field.Host = lit≤ tt
length-word field.Precedence = lit≤ tt
length-word field.No = lit≤ tt
length-word field.Identity = lit≤ tt
length-word field.Ingress = lit≤ tt
length-word field.Chosen = lit≤ tt
length-word field.Links = lit≤ tt
length-word field.Potentials = lit≤ tt
length-word field.Routers = lit≤ tt
length-word field.Terminator = lit≤ tt
length-word field.Total = lit≤ tt
length-word field.Protocols = lit≤ tt
length-word field.Addresses = lit≤ tt
length-word field.Ports = lit≤ tt
length-word field.Protocol = lit≤ tt
length-word field.Address = lit≤ tt
length-word field.Port = lit≤ tt
length-word field.Nothing = lit≤ tt

-- that of a kind at most 26
pub length-kind : (k : Kind) → length (kind_word k) ≤ 26
length-kind kind.Identity = lit≤ tt
length-kind kind.Service = lit≤ tt
length-kind kind.Router = lit≤ tt
length-kind kind.Link = lit≤ tt
length-kind kind.ServicePolicy = lit≤ tt
length-kind kind.EdgeRouterPolicy = lit≤ tt
length-kind kind.ServiceEdgeRouterPolicy = lit≤ tt
length-kind kind.Terminator = lit≤ tt
length-kind kind.Circuit = lit≤ tt
length-kind kind.Attribute = lit≤ tt

-- that of a reason at most 9
pub length-reason : (r : Reason) → length (reason_word r) ≤ 9
length-reason reason.NotObject = lit≤ tt
length-reason reason.Missing = lit≤ tt
length-reason reason.WrongKind = lit≤ tt
length-reason reason.Unknown = lit≤ tt
