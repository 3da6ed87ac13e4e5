-- Laws on the candidates of a request: which ingresses, terminators and candidates the lists have, and the best one.
use Rattle.std.proofs.Common.{◌≡◌, ℕ, ◌&&◌, ◌↔◌, List, [], Option, Some, None, refl, sym, ◌∙◌, ap, subst}
use Rattle.std.proofs.lemmas.Bool.{and_parts, and_from}
use Rattle.std.specs.Option.{option_map_or}
use Rattle.std.specs.List.{flat_map}
use Rattle.ctrl_model.specs.declared.kinds.RouterSeen.{RouterSeen}
use Rattle.ctrl_model.specs.Membership.{Among}
use Rattle.ctrl_model.specs.State.{Terminator}
use Rattle.ctrl_model.specs.Networks.{Network, is_shared, is_counted, is_in_service, counted, admissible, paths}
use Rattle.ctrl_model.specs.Choices.{Ask, Wanted, Candidate, rank, IsIngress, IsAdmissible, IsCandidate, IsBest, is_wanted, shared, ingresses, candidate, candidates_between, candidates_for, candidates, best}
use Rattle.ctrl_model.proofs.Members.{by_filter, Among-filter, by_map, Among-map, by_flat_map, Among-flat_map}
use Rattle.model_laws.proofs.PathLaws.{paths-is_path}
use Rattle.model_laws.proofs.BestLaws.{IsFirst, same_candidate, least_by-is, least_by-none}

-- ---- ingresses and terminators

pub by_ingresses : (w : Network) (wanted : Wanted) (i s : ℕ) (r : RouterSeen) → Among r (ingresses w wanted i s) → IsIngress w wanted i s r
by_ingresses w wanted i s r m =
    by_filter (λ (r : RouterSeen). r.connected) (shared w wanted i s) r m (λ n on.
    by_filter (λ (r : RouterSeen). is_wanted wanted r.no.0 && is_shared w i s r.no.0) w.routers r n (λ there both.
    record {
      present = there;
      wanted = (and_parts (is_wanted wanted r.no.0) (is_shared w i s r.no.0) both).0;
      is_shared_by_both = (and_parts (is_wanted wanted r.no.0) (is_shared w i s r.no.0) both).1;
      is_connected = on;
    }))

pub Among-shared : (w : Network) (wanted : Wanted) (i s : ℕ) (r : RouterSeen) → IsIngress w wanted i s r → Among r (shared w wanted i s)
Among-shared w wanted i s r g =
    Among-filter (λ (r : RouterSeen). is_wanted wanted r.no.0 && is_shared w i s r.no.0) w.routers r g.present
    (and_from (is_wanted wanted r.no.0) (is_shared w i s r.no.0) g.wanted g.is_shared_by_both)

pub Among-ingresses : (w : Network) (wanted : Wanted) (i s : ℕ) (r : RouterSeen) → IsIngress w wanted i s r → Among r (ingresses w wanted i s)
Among-ingresses w wanted i s r g =
    Among-filter (λ (r : RouterSeen). r.connected) (shared w wanted i s) r (Among-shared w wanted i s r g) g.is_connected

pub by_admissible : (w : Network) (s : ℕ) (instance : List ℕ) (e : ℕ × Terminator) → Among e (admissible w s instance) → IsAdmissible w s instance e
by_admissible w s instance e m =
    by_filter (is_in_service w) (counted w s instance) e m (λ n serves.
    by_filter (is_counted s instance) w.terminators e n (λ there counts.
    record { present = there; is_counted_for = counts; serves = serves }))

pub Among-counted : (w : Network) (s : ℕ) (instance : List ℕ) (e : ℕ × Terminator) → IsAdmissible w s instance e → Among e (counted w s instance)
Among-counted w s instance e a = Among-filter (is_counted s instance) w.terminators e a.present a.is_counted_for

pub Among-admissible : (w : Network) (s : ℕ) (instance : List ℕ) (e : ℕ × Terminator) → IsAdmissible w s instance e → Among e (admissible w s instance)
Among-admissible w s instance e a = Among-filter (is_in_service w) (counted w s instance) e (Among-counted w s instance e a) a.serves

-- ---- candidates

-- where identity and service are present, the candidates are those of the two
pub candidates-for : (w : Network) (ask : Ask) (i s : ℕ) → ask.identity ≡ Some i → ask.service ≡ Some s → candidates w ask ≡ candidates_for w ask i s
candidates-for w ask i s who what =
    ap (λ o. option_map_or (λ i. option_map_or (candidates_for w ask i) ask.service []) o []) who
    ∙ ap (λ o. option_map_or (candidates_for w ask i) o []) what

pub by_candidates_for : (w : Network) (ask : Ask) (i s : ℕ) (c : Candidate) → ask.identity ≡ Some i → ask.service ≡ Some s → Among c (candidates_for w ask i s) → IsCandidate w ask c
by_candidates_for w ask i s c who what m =
    by_flat_map (λ r. flat_map (candidates_between w r) (admissible w s ask.instance)) (ingresses w ask.ingress i s) c m (λ r enters n.
    by_flat_map (candidates_between w r) (admissible w s ask.instance) c n (λ e ends k.
    by_map (candidate w r e) (paths w r.no.0 e.1.router) c k (λ links listed told.
    record {
      identity = i;
      service = s;
      router = r;
      terminator = e;
      who = who;
      what = what;
      enters = by_ingresses w ask.ingress i s r enters;
      ends = by_admissible w s ask.instance e ends;
      path = (paths-is_path w r.no.0 e.1.router c.links).0 (subst (λ ls. Among ls (paths w r.no.0 e.1.router)) (ap (λ (d : Candidate). d.links) told) listed);
      told = ap (λ ls. candidate w r e ls) (sym (ap (λ (d : Candidate). d.links) told)) ∙ told;
    })))

pub Among-candidates_for : (w : Network) (ask : Ask) (c : Candidate) → (k : IsCandidate w ask c) → Among c (candidates_for w ask k.identity k.service)
Among-candidates_for w ask c k =
    Among-flat_map (λ r. flat_map (candidates_between w r) (admissible w k.service ask.instance)) (ingresses w ask.ingress k.identity k.service) k.router c
    (Among-ingresses w ask.ingress k.identity k.service k.router k.enters)
    (Among-flat_map (candidates_between w k.router) (admissible w k.service ask.instance) k.terminator c
    (Among-admissible w k.service ask.instance k.terminator k.ends)
    (subst (λ d. Among d (candidates_between w k.router k.terminator)) k.told
    (Among-map (candidate w k.router k.terminator) (paths w k.router.no.0 k.terminator.1.router) c.links
    ((paths-is_path w k.router.no.0 k.terminator.1.router c.links).1 k.path))))

-- the candidates are what a candidate is without lists
pub candidates-are : (w : Network) (ask : Ask) (c : Candidate) → Among c (candidates w ask) ↔ IsCandidate w ask c
candidates-are w ask c = (λ m. there ask.identity ask.service refl refl m, λ k. subst (Among c) (sym (candidates-for w ask k.identity k.service k.who k.what)) (Among-candidates_for w ask c k))
  where
    there : (a b : Option ℕ) → ask.identity ≡ a → ask.service ≡ b → Among c (option_map_or (λ i. option_map_or (candidates_for w ask i) b []) a []) → IsCandidate w ask c
    there None b who what m = absurd m
    there (Some i) None who what m = absurd m
    there (Some i) (Some s) who what m = by_candidates_for w ask i s c who what m

-- ---- the best one

pub best-is : (w : Network) (ask : Ask) (c : Candidate) → (best w ask ≡ Some c) ↔ IsBest w ask c
best-is w ask c = (λ e. is ((least_by-is rank same_candidate (candidates w ask) c).0 e), λ b. (least_by-is rank same_candidate (candidates w ask) c).1 (first b))
  where
    is : IsFirst rank (candidates w ask) c → IsBest w ask c
    is f = record { is_candidate = (candidates-are w ask c).0 f.0; first = λ d k. f.1 d ((candidates-are w ask d).1 k) }

    first : IsBest w ask c → IsFirst rank (candidates w ask) c
    first b = ((candidates-are w ask c).1 b.is_candidate, λ d m. b.first d ((candidates-are w ask d).0 m))

pub best-none : (w : Network) (ask : Ask) → (best w ask ≡ None) ↔ ((c : Candidate) → IsCandidate w ask c → ⊥)
best-none w ask = (
  λ e c k. (least_by-none rank (candidates w ask)).0 e c ((candidates-are w ask c).1 k),
  λ none. (least_by-none rank (candidates w ask)).1 (λ c m. none c ((candidates-are w ask c).0 m)),
)
