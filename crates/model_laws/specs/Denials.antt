-- What each denial of a circuit request means, in plain words: which rules hold before it, and what is not there (docs/RULES.md,
-- "Circuits").
use Rattle.std.specs.Prelude.{◌≡◌, ℕ, ◌≤◌, true, List, None, Some}
use Rattle.ctrl_model.specs.declared.kinds.RouterSeen.{RouterSeen}
use Rattle.ctrl_model.specs.declared.refusals.Denial.{Denial}
use Rattle.ctrl_model.specs.declared.refusals.Denial.TheVariants.{UnknownIdentity, UnknownService, UnknownRouter, NoDial, NoSharedRouter, SharedRoutersOffline, NoTerminators, NoAdmissibleTerminator, NoPath, CircuitsFull}
use Rattle.ctrl_model.specs.Membership.{Among}
use Rattle.ctrl_model.specs.State.{Terminator}
use Rattle.ctrl_model.specs.Networks.{Network, is_shared, is_counted}
use Rattle.ctrl_model.specs.Choices.{Ask, Wanted, Absent, Candidate, IsIngress, IsAdmissible, IsCandidate, is_wanted}

-- The identity and the service of a request are present, and have these numbers.
pub record AreKnown (ask : Ask) (i s : ℕ) : Type 0 where
  pub who : ask.identity ≡ Some i
  pub what : ask.service ≡ Some s

-- Besides, the request names no absent router as its ingress.
pub record IsAddressed (ask : Ask) (i s : ℕ) : Type 0 where
  pub known : AreKnown ask i s
  pub ingress : ask.ingress ≡ Absent → ⊥

-- Besides, the identity is granted Dial on the service.
pub record MayDial (w : Network) (ask : Ask) (i s : ℕ) : Type 0 where
  pub addressed : IsAddressed ask i s
  pub dials : 1 ≤ w.dial i s

-- A router is present, the named one if one is named, and shared by the identity and the service.
pub record IsSharedRouter (w : Network) (ingress : Wanted) (i s : ℕ) (r : RouterSeen) : Type 0 where
  pub present : Among r w.routers
  pub wanted : is_wanted ingress r.no.0 ≡ true
  pub is_shared_by_both : is_shared w i s r.no.0 ≡ true

-- Besides what a request that may dial has, there is such a router.
pub record HasSharedRouter (w : Network) (ask : Ask) (i s : ℕ) : Type 0 where
  pub may : MayDial w ask i s
  pub router : RouterSeen
  pub shares : IsSharedRouter w ask.ingress i s router

-- Besides what a request that may dial has, there is a possible ingress.
pub record MayEnter (w : Network) (ask : Ask) (i s : ℕ) : Type 0 where
  pub may : MayDial w ask i s
  pub router : RouterSeen
  pub enters : IsIngress w ask.ingress i s router

-- A terminator is present, and it is one of the service with exactly the instance.
pub record IsCounted (w : Network) (s : ℕ) (instance : List ℕ) (e : ℕ × Terminator) : Type 0 where
  pub present : Among e w.terminators
  pub is_counted_for : is_counted s instance e ≡ true

-- Besides what a request that may enter has, there is such a terminator.
pub record HasTerminator (w : Network) (ask : Ask) (i s : ℕ) : Type 0 where
  pub may : MayEnter w ask i s
  pub terminator : ℕ × Terminator
  pub counts : IsCounted w s ask.instance terminator

-- Besides what a request that may enter has, there is an admissible terminator.
pub record MayEnd (w : Network) (ask : Ask) (i s : ℕ) : Type 0 where
  pub may : MayEnter w ask i s
  pub terminator : ℕ × Terminator
  pub ends : IsAdmissible w s ask.instance terminator

-- A request whose identity and service are present is denied: the rules before hold, and this one does not.
abbrev pub IsDeniedFor : Network → Ask → ℕ → ℕ → Denial → Type 0
IsDeniedFor w ask i s UnknownIdentity = ⊥
IsDeniedFor w ask i s UnknownService = ⊥
IsDeniedFor w ask i s UnknownRouter = AreKnown ask i s × (ask.ingress ≡ Absent)
IsDeniedFor w ask i s NoDial = IsAddressed ask i s × (w.dial i s ≡ 0)
IsDeniedFor w ask i s NoSharedRouter = MayDial w ask i s × ((r : RouterSeen) → IsSharedRouter w ask.ingress i s r → ⊥)
IsDeniedFor w ask i s SharedRoutersOffline = HasSharedRouter w ask i s × ((r : RouterSeen) → IsIngress w ask.ingress i s r → ⊥)
IsDeniedFor w ask i s NoTerminators = MayEnter w ask i s × ((e : ℕ × Terminator) → IsCounted w s ask.instance e → ⊥)
IsDeniedFor w ask i s NoAdmissibleTerminator = HasTerminator w ask i s × ((e : ℕ × Terminator) → IsAdmissible w s ask.instance e → ⊥)
IsDeniedFor w ask i s NoPath = MayEnd w ask i s × ((c : Candidate) → IsCandidate w ask c → ⊥)
IsDeniedFor w ask i s CircuitsFull = MayDial w ask i s × ((c : Candidate) × IsCandidate w ask c) × (w.full ≡ true)

-- A request is denied: its identity is absent; or that is present, and its service is absent; or both are present, and a later
-- rule does not hold for them.
abbrev pub IsDenied : Network → Ask → Denial → Type 0
IsDenied w ask UnknownIdentity = ask.identity ≡ None
IsDenied w ask UnknownService = ((i : ℕ) × (ask.identity ≡ Some i)) × (ask.service ≡ None)
IsDenied w ask d = (i : ℕ) × (s : ℕ) × IsDeniedFor w ask i s d
