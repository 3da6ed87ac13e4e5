use Rattle.std.proofs.Common.{length, sym, ◌∙◌, ap, subst}
use Rattle.std.proofs.lemmas.List.{length-map}
use Rattle.std.proofs.lemmas.Result.{IfOk-weaker}
use Rattle.ctrl_model.specs.declared.kinds.RouterSeen.{RouterSeen}
use Rattle.fabric_graph.specs.Routers.{IsGraphOf}
use Rattle.circuit_settling.specs.PresentRecords.{network_in}
use Rattle.circuit_settling.proofs.rerouting.search_of.Goals as goal

pub returns : goal.returns
returns c =
    IfOk-weaker c.over.result _ _
    (λ s same. subst (IsGraphOf (network_in c.args.present.now)) (sym same) (record {
      places = ap length c.in_ok-graph.ensures.places ∙ length-map c.args.present.now.routers.now (λ (r : RouterSeen). r.through);
      mirrors = c.in_ok-graph.ensures.mirrors;
    })) c.over.ensures.graph
