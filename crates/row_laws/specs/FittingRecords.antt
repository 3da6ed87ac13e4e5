-- Records that have a row: their numbers, names and lists fit its value (docs/FORMATS.md, "Rows").
use Rattle.std.specs.Prelude.{Bool, true, ◌&&◌, nat_le, length}
use Rattle.std.specs.List.{list_all}
use Rattle.ctrl_model.specs.declared.kinds.Kind.{Kind}
use Rattle.ctrl_model.specs.declared.kinds.Kind.TheVariants as kind
use Rattle.ctrl_model.specs.NameForm.{is_name, is_instance}
use Rattle.ctrl_model.specs.Tables.{Record}
use Rattle.ctrl_model.specs.ValidState.{may_relate}
use Rattle.row_codec.specs.RowKeys.{is_long}
use Rattle.row_codec.specs.RowForm.{is_short, are_listed, is_listed_side, is_host}
use Rattle.ctrl_model.specs.Limits.{longest_path}

-- The fields of a record fit its row.
abbrev pub fits : (k : Kind) → Record k → Bool
fits kind.Identity e = is_name e.name && are_listed e.attributes
fits kind.Service e = is_name e.name && are_listed e.attributes
fits kind.Router r = is_name r.name && (are_listed r.attributes && is_short r.cost)
fits kind.Link l = is_name l.name && (is_long l.a && (is_long l.b && (is_short l.cost && (is_short l.latency_a && is_short l.latency_b))))
fits kind.ServicePolicy p = is_name p.name && (may_relate kind.ServicePolicy p.relation && (is_listed_side p.left && is_listed_side p.right))
fits kind.EdgeRouterPolicy p = is_name p.name && (may_relate kind.EdgeRouterPolicy p.relation && (is_listed_side p.left && is_listed_side p.right))
fits kind.ServiceEdgeRouterPolicy p =
    is_name p.name && (may_relate kind.ServiceEdgeRouterPolicy p.relation && (is_listed_side p.left && is_listed_side p.right))
fits kind.Terminator t = is_long t.service && (is_long t.router && (is_host t.host && (is_instance t.instance && is_short t.cost)))
fits kind.Circuit c =
    is_long c.identity && (is_long c.service && (is_long c.terminator && (is_long c.ingress && (nat_le (length c.links) longest_path && list_all is_long c.links))))
fits kind.Attribute u = true
