-- What is present after a change, as circuits need it, and what becomes of circuits beside it.
use Rattle.std.proofs.Common.{◌≡◌, ℕ, ◌==◌, Bool, true, not, ◌&&◌, cond, List, [], length, Option, None, option_and_then, sym, ◌∙◌, ap, subst, eqb-true, eq-eqb}
use Rattle.std.proofs.lemmas.Bool.{false≢true}
use Rattle.std.proofs.lemmas.List.{nil_from_length}
use Rattle.std.specs.List.{filter}
use Rattle.std.specs.Option.{option_map_or}
use Rattle.ctrl_model.specs.declared.kinds.RouterSeen.{RouterSeen}
use Rattle.ctrl_model.specs.Numbered.{at, numbers}
use Rattle.ctrl_model.specs.declared.kinds.Relation.TheVariants.{Dial, Bind, IdentityRouter, ServiceRouter}
use Rattle.ctrl_model.specs.Settling.{circuit_granted, granted_in, settle}
use Rattle.ctrl_model.specs.State.{State, Circuit}
use Rattle.ctrl_model.specs.ValidState.{ValidState}
use Rattle.record_tables.proofs.GoneLaws.{gone_none}
use Rattle.circuits.specs.declared.changes.CircuitChange.{CircuitChange}
use Rattle.circuits.specs.declared.moves.Move.{Move}
use Rattle.circuits.specs.CircuitChanges.{circuits_after}
use Rattle.circuits.specs.CircuitTables.{CircuitTables}
use Rattle.circuits.specs.MovedCircuits.{moves_by, ended_by, with_moves}
use Rattle.circuits.proofs.MoveLaws.{moves-none}
use Rattle.fabric_graph.specs.declared.changes.LinkChange.{LinkChange}
use Rattle.fabric_graph.specs.FabricChanges.{fabric_after}
use Rattle.fabric_graph.specs.FabricTables.{FabricSeen}
use Rattle.fabric_graph.specs.Routers.{AreRouters, HaveGraph, fabric_of}
use Rattle.fabric_graph.proofs.StateLaws.{have_graph, are_routers}
use Rattle.grant_denorm.specs.CountsAfter.{count_after}
use Rattle.terminators.specs.declared.changes.TermChange.{TermChange}
use Rattle.terminators.specs.TermChanges.{terms_after}
use Rattle.terminators.specs.TermTables.{TermTables}
use Rattle.fallen_records.specs.declared.falling.Fallen.{Fallen}
use Rattle.circuit_settling.specs.declared.granting.GrantsAfter.{GrantsAfter}
use Rattle.circuit_settling.specs.declared.judging.Judged.{Judged}
use Rattle.circuit_settling.specs.PresentRecords.{network, stays}
use Rattle.circuit_settling.specs.OtherLinks.{other_links, way_in}
use Rattle.core_stores.specs.declared.changes.Change.{Change}
use Rattle.core_stores.specs.declared.settled.Settled.{Settled}
use Rattle.core_stores.specs.declared.stores.Stores.{Stores}
use Rattle.core_stores.specs.ChangeParts.{link_part, term_part, circuit_part}
use Rattle.core_stores.specs.StoredState.{state_of}
use Rattle.ctrl_core.specs.ChangedStores.{CanSettle}
use Rattle.ctrl_core.specs.Changes.{after_change}
use Rattle.circuit_settling.specs.declared.going.Remaining.{Remaining}
use Rattle.circuit_settling.specs.PresentRecords.{Remains}
use Rattle.circuit_settling.specs.declared.looking.Look.{Look}
use Rattle.circuit_settling.specs.declared.looking.Look.TheVariants.{Paths, These, All}
use Rattle.circuit_settling.specs.LookedCircuits.{goes_none, going_by}
use Rattle.ctrl_core.specs.LookedCircuits.{LooksAt}
use Rattle.ctrl_core.specs.SettledParts.{AreGrantsAfter}
use Rattle.ctrl_core.specs.PlannedCommands.{Stands}
use Rattle.ctrl_core.specs.SettledRecords.{AreJudged, AreSettled, before_circuits}
use Rattle.ctrl_core.proofs.LookedCircuits.{going_is, granted_then, keeps_then}
use Rattle.circuit_settling.proofs.GrantedCircuits.{granted-before}
use Rattle.ctrl_core.proofs.SettledChanges.{FallAs}
use Rattle.ctrl_core.proofs.StateParts.{parts_after, state_then, entities_then, links_then, circuits_then, terms_ordered, links_left, terms_left}

-- a list without numbers has none
pub is_none : (ns : List ℕ) → ns ≡ [] → (length ns == 0) ≡ true
is_none ns e = eq-eqb (length ns) 0 (ap length e)

module _ (c : Change) (st : Stores) (g : Fallen) (can : CanSettle st c) (falls : FallAs (after_change c (state_of st)) g) where
  abbrev t : State
  t = state_then c st

  falls_then : FallAs t g
  falls_then = subst (λ s. FallAs s g) (parts_after c st can) falls

  valid_then : ValidState (settle t)
  valid_then = subst (λ s. ValidState (settle s)) (parts_after c st can) can.valid

  -- the links and the terminators that there will be are those of the state once both are settled
  pub links_are : (o : Option LinkChange) → o ≡ link_part c → fabric_after o g.links st.fabric ≡ fabric_of (before_circuits t)
  links_are o e =
      ap (λ p. fabric_after p g.links st.fabric) e ∙ (λ i. record { links = links_left c st g.links can falls_then.links_are i; least = (links_then c st).least })

  pub terms_are : (o : Option TermChange) → o ≡ term_part c → (terms_after o g.terminators st.terminators).terminators ≡ (before_circuits t).terminators
  terms_are o e = ap (λ p. (terms_after p g.terminators st.terminators).terminators) e ∙ terms_left c st g.terminators can falls_then.terms_are

  pub links_have_graph : (o : Option LinkChange) → o ≡ link_part c → HaveGraph (fabric_after o g.links st.fabric)
  links_have_graph o e = subst HaveGraph (sym (links_are o e)) (have_graph (settle t) valid_then)

  -- where no circuit is looked at, the links and the terminators that fall are all that settles
  pub settled_alone : (look : Look) → Stands c (state_of st) → LooksAt c st g.circuits look → goes_none g.circuits look ≡ true
      → (out : Settled) → out.links ≡ g.links → out.terminators ≡ g.terminators → out.going ≡ [] → out.ended ≡ [] → out.moves ≡ [] → AreSettled (after_change c (state_of st)) out
  settled_alone look stands looks none out links terms going ended moves = subst (λ s. AreSettled s out) (sym (parts_after c st can)) (record {
    links_are = links ∙ falls_then.links_are;
    terms_are = terms ∙ falls_then.terms_are;
    judged = record {
      going_are = going ∙ sym (nobody look none) ∙ going_is look c st g can falls_then stands looks;
      ended_are = ended ∙ sym (ap (ended_by (way_in t)) going);
      moves_are = moves ∙ sym (ap (moves_by (way_in t)) going);
    };
  })
    where
      empty : (ns : List ℕ) → (length ns == 0) ≡ true → ns ≡ []
      empty ns e = nil_from_length ns (eqb-true (length ns) 0 e)

      nobody : (look : Look) → goes_none g.circuits look ≡ true
          → going_by look g.circuits (numbers (circuits_then c st).circuits.rows) (granted_then c st g can falls_then) (keeps_then c st g can falls_then) ≡ []
      nobody Paths none = empty g.circuits none
      nobody (These ns) none = ap (filter (λ n. not (keeps_then c st g can falls_then n))) (empty ns none)
      nobody All none = absurd (false≢true none)

  -- no circuit is gone or moved yet
  pub circuits_stand : (o : Option CircuitChange) (moves : List Move) (gone : List ℕ) → o ≡ circuit_part c → moves ≡ [] → gone ≡ []
      → (with_moves moves (circuits_after o gone st.circuits)).circuits ≡ (circuits_then c st).circuits
  circuits_stand o moves gone e stay none =
      (λ i. (with_moves (stay i) (circuits_after (e i) (none i) st.circuits)).circuits)
      ∙ moves-none (circuits_after (circuit_part c) [] st.circuits).circuits ∙ sym (gone_none (circuits_then c st).circuits)

  module _ (r : Remaining) (remains : Remains (entities_then c st) r) where
    pub routers_ordered : AreRouters r.routers.items
    routers_ordered = subst AreRouters (sym remains.routers_are) (are_routers (settle t) valid_then)

    module _ (a : GrantsAfter) (counts : AreGrantsAfter t a) where
      -- beside what remains and what is granted: what granted the circuit, whether it stays as it is, and where it goes on
      abbrev pub granted_there : FabricSeen → TermTables → List RouterSeen → Circuit → Bool
      granted_there f e routers k =
          circuit_granted (record (network e f routers) { dial = count_after a.dial; bind = count_after a.bind; identity_router = count_after a.identity_router; service_router = count_after a.service_router }) r.identities r.services (0, k)

      abbrev pub stays_there : FabricSeen → TermTables → List RouterSeen → CircuitTables → ℕ → Bool
      stays_there f e routers k n = option_map_or (λ x. granted_there f e routers x && stays (network e f routers) r.identities r.services x) (at k.circuits.rows n) true

      abbrev pub grants_there : FabricSeen → TermTables → List RouterSeen → CircuitTables → ℕ → Bool
      grants_there f e routers k n = option_map_or (granted_there f e routers) (at k.circuits.rows n) true

      abbrev pub way_there : FabricSeen → TermTables → List RouterSeen → CircuitTables → ℕ → Option (List ℕ)
      way_there f e routers k n = option_and_then (λ x. cond (granted_there f e routers x) (other_links (network e f routers) r.identities r.services x) None) (at k.circuits.rows n)

      -- what is present and granted there is what is of the state
      pub record IsThere (f : FabricSeen) (e : TermTables) (routers : List RouterSeen) (k : CircuitTables) : Type 0 where
        pub fabric : f ≡ fabric_of (before_circuits t)
        pub terms : e.terminators ≡ (before_circuits t).terminators
        pub seen_are : routers ≡ r.routers.items
        pub circuits : k.circuits ≡ (circuits_then c st).circuits

      same_granted : (f : FabricSeen) (e : TermTables) (routers : List RouterSeen) (k : CircuitTables) → IsThere f e routers k → (n : ℕ) (x : Circuit) → granted_there f e routers x ≡ granted_in t (n, x)
      same_granted f e routers k is n x =
          let all = is.seen_are ∙ remains.routers_are in
          (λ i. circuit_granted (record (network (record { terminators = is.terms i; loads = [] }) (is.fabric i) (all i)) {
            dial = λ p q. counts Dial p q i;
            bind = λ p q. counts Bind p q i;
            identity_router = λ p q. counts IdentityRouter p q i;
            service_router = λ p q. counts ServiceRouter p q i;
          }) (remains.identities_are i) (remains.services_are i) (0, x))
          ∙ granted-before t (n, x) (terms_ordered c st can).high (terms_ordered c st can).ordered

      same_way : (f : FabricSeen) (e : TermTables) (routers : List RouterSeen) (k : CircuitTables) → IsThere f e routers k → (n : ℕ) → way_there f e routers k n ≡ way_in t n
      same_way f e routers k is n =
          let all = is.seen_are ∙ remains.routers_are in
          (λ i. option_and_then (λ x. cond (same_granted f e routers k is n x i) (other_links (network (record { terminators = is.terms i; loads = [] }) (is.fabric i) (all i)) (remains.identities_are i) (remains.services_are i) x) None) (at (is.circuits i).rows n))

      same_grants : (f : FabricSeen) (e : TermTables) (routers : List RouterSeen) (k : CircuitTables) → IsThere f e routers k → (n : ℕ) → grants_there f e routers k n ≡ granted_then c st g can falls_then n
      same_grants f e routers k is n = (λ i. option_map_or (λ x. same_granted f e routers k is n x i) (at (is.circuits i).rows n) true)

      same_stays : (f : FabricSeen) (e : TermTables) (routers : List RouterSeen) (k : CircuitTables) → IsThere f e routers k → (n : ℕ) → stays_there f e routers k n ≡ keeps_then c st g can falls_then n
      same_stays f e routers k is n =
          let all = is.seen_are ∙ remains.routers_are in
          (λ i. option_map_or (λ x. same_granted f e routers k is n x i && stays (network (record { terminators = is.terms i; loads = [] }) (is.fabric i) (all i)) (remains.identities_are i) (remains.services_are i) x) (at (is.circuits i).rows n) true)

      pub judged_so : (look : Look) → Stands c (state_of st) → LooksAt c st g.circuits look → (f : FabricSeen) (e : TermTables) (routers : List RouterSeen) (k : CircuitTables) (going : List ℕ) (j : Judged) → IsThere f e routers k
          → going ≡ going_by look g.circuits (numbers k.circuits.rows) (grants_there f e routers k) (stays_there f e routers k) → j.ended ≡ ended_by (way_there f e routers k) going → j.moves ≡ moves_by (way_there f e routers k) going
          → AreJudged (after_change c (state_of st)) going j
      judged_so look stands looks f e routers k going j is going_are ended moves = subst (λ s. AreJudged s going j) (sym (parts_after c st can)) (record {
        going_are =
            going_are ∙ (λ i. going_by look g.circuits (numbers (is.circuits i).rows) (λ n. same_grants f e routers k is n i) (λ n. same_stays f e routers k is n i))
            ∙ going_is look c st g can falls_then stands looks;
        ended_are = ended ∙ (λ i. ended_by (λ n. same_way f e routers k is n i) going);
        moves_are = moves ∙ (λ i. moves_by (λ n. same_way f e routers k is n i) going);
      })
