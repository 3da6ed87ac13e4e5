-- The facts of the stores of a state are the state's.
use Rattle.std.proofs.Common.{◌≡◌, map}
use Rattle.ctrl_model.specs.Networks.{seen}
use Rattle.ctrl_model.specs.State.{State}
use Rattle.access_reasons.specs.declared.lending.Stores.{Stores}
use Rattle.access_reasons.specs.Reasons.{facts_of}
use Rattle.access_reasons.specs.StateStores.{AreStoresOf, facts_in}

pub facts-are : (p : Stores) (s : State) → AreStoresOf p s → facts_in p ≡ facts_of s
facts-are p s a = λ i. record {
  network = record {
    routers = map seen (a.routers i).rows;
    links = (a.links i).rows;
    least = a.least i;
    terminators = (a.terminators i).rows;
    load = λ n. a.loads n i;
    dial = λ x y. a.dial x y i;
    bind = λ x y. a.bind x y i;
    identity_router = λ x y. a.identity_router x y i;
    service_router = λ x y. a.service_router x y i;
    full = a.full i;
  };
  identities = (a.identities i).rows;
  services = (a.services i).rows;
  routers = (a.routers i).rows;
  policies = (a.service_policies i).rows;
}
