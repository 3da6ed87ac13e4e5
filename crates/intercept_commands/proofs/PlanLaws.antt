-- What the plans of commands on intercepts have to show.
use Rattle.std.proofs.Common.{◌≡◌, ◌==◌, ℕ, nat_lt, Bool, true, false, cond, List, [], map, filter, Option, None, Some, unwrap_or, refl, sym, ◌∙◌, ap, subst}
use Rattle.std.specs.List.{list_all, list_any}
use Rattle.std.specs.Option.{option_map_or}
use Rattle.ctrl_model.specs.declared.addresses.Address.{Address}
use Rattle.ctrl_model.specs.declared.intercepts.Intercept.{Intercept}
use Rattle.ctrl_model.specs.declared.kinds.Relation.TheVariants.{Dial}
use Rattle.ctrl_model.specs.declared.refusals.Field.TheVariants as field
use Rattle.ctrl_model.specs.declared.refusals.Refusal.TheVariants.{Unknown, NoIntercept}
use Rattle.ctrl_model.specs.declared.replies.Reply.{Reply}
use Rattle.ctrl_model.specs.declared.replies.Reply.TheVariants.{Done, Refused, Clashes}
use Rattle.ctrl_model.specs.CircuitCommands.{name_of}
use Rattle.ctrl_model.specs.Grants.{count}
use Rattle.ctrl_model.specs.Hits.{Hit, picked, clashes, clashes_with}
use Rattle.ctrl_model.specs.InterceptCommands.{no_such_service, set_intercept, after_set_intercept, clear_intercept, after_clear_intercept, dialled_by, picked_reply, pick, clashes_reply, list_clashes}
use Rattle.ctrl_model.specs.InterceptForm.{is_intercept}
use Rattle.ctrl_model.specs.Membership.{Among}
use Rattle.ctrl_model.specs.Numbered.{at, is_present, numbers, with_at, without}
use Rattle.ctrl_model.specs.Rules.{or_then, unknown_if_absent, at_number}
use Rattle.ctrl_model.specs.Rules as rules
use Rattle.ctrl_model.specs.State.{State, Entity, entity_named}
use Rattle.ctrl_model.proofs.Members.{by_filter, is_among-from, list_all-among, list_all-from_among}
use Rattle.ctrl_model.proofs.NumberedLaws.{among_present}
use Rattle.ctrl_model.proofs.TableLaws.{list_all-filter}
use Rattle.grant_denorm.specs.MovedCounts.{AreCountsOf}
use Rattle.grant_denorm.specs.PairCounts.{count_of}
use Rattle.model_laws.specs.declared.plans.Plan.{Plan}
use Rattle.model_laws.specs.Plans.{shown, refused, changed}
use Rattle.model_laws.proofs.HitLaws.{picked_is}
use Rattle.model_laws.proofs.PlannedLaws.{plans_refused, plans_carried}
use Rattle.intercepts.specs.declared.changes.InterceptChange.{InterceptChange}
use Rattle.intercepts.specs.declared.changes.InterceptChange.TheVariants as change
use Rattle.intercept_commands.specs.declared.planning.Stores.{Stores}
use Rattle.intercept_commands.specs.InterceptPlans.{PlansIntercepts, is_unknown}
use Rattle.intercept_commands.specs.PlannedIntercepts.{Answers, Knows, over_stores}

-- what is told and changes nothing
told_planned : (p : Plan InterceptChange) (r : Reply) (answered : Reply × State) (s : State) → p ≡ shown r → answered ≡ (r, s) → PlansIntercepts p answered s
told_planned p r answered s is same =
    subst (λ a. PlansIntercepts p a s) (sym same) (subst (λ q. PlansIntercepts q (r, s) s) (sym is) (record { reply = refl; can = tt; next = refl; still = λ none. refl }))

-- ---- a service's own intercept

pub set_unknown : (service : List ℕ) (i : Intercept) (q : Stores) (p : Plan InterceptChange) → entity_named q.entities.now.services.rows service ≡ None → p ≡ refused (Unknown field.Service)
    → Answers (set_intercept service i) q p
set_unknown service i q p none is s counts =
    let S = over_stores q s in
    subst (λ x. PlansIntercepts x (set_intercept service i S) S) (sym is)
    (plans_refused (no_such_service service S) (Unknown field.Service) S Done (after_set_intercept service i S) (ap (unknown_if_absent field.Service) none))

pub set_planned : (service : List ℕ) (i kept : Intercept) (q : Stores) (n : ℕ) (p : Plan InterceptChange) → entity_named q.entities.now.services.rows service ≡ Some n → is_intercept i ≡ true → kept ≡ i
    → p ≡ changed Done (change.Set (record { 0 = n }) kept) → Answers (set_intercept service i) q p
set_planned service i kept q n p named fits same is s counts =
    let S = over_stores q s in
    subst (λ x. PlansIntercepts x (set_intercept service i S) S) (sym (is ∙ ap (λ k. changed Done (change.Set (record { 0 = n }) k)) same))
    (plans_carried (change.Set (record { 0 = n }) i) (no_such_service service S) S Done (after_set_intercept service i S) (ap (unknown_if_absent field.Service) named) refl fits
    (sym (ap (λ o. at_number o S (λ m. record S { intercepts = with_at m i S.intercepts })) named)))

pub set_known : (service : List ℕ) (i : Intercept) (q : Stores) (n : ℕ) → entity_named q.entities.now.services.rows service ≡ Some n → Knows (set_intercept service i) q
set_known service i q n named s =
    let S = over_stores q s in
    ap (λ o. is_unknown (rules.carried_out (unknown_if_absent field.Service o) S Done (after_set_intercept service i S)).0) named

pub clear_unknown : (service : List ℕ) (q : Stores) (p : Plan InterceptChange) → entity_named q.entities.now.services.rows service ≡ None → p ≡ refused (Unknown field.Service)
    → Answers (clear_intercept service) q p
clear_unknown service q p none is s counts =
    let S = over_stores q s in
    subst (λ x. PlansIntercepts x (clear_intercept service S) S) (sym is)
    (plans_refused (no_such_service service S) (Unknown field.Service) S Done (after_clear_intercept service S) (ap (unknown_if_absent field.Service) none))

pub clear_planned : (service : List ℕ) (q : Stores) (n : ℕ) (p : Plan InterceptChange) → entity_named q.entities.now.services.rows service ≡ Some n
    → p ≡ changed Done (change.Remove (record { 0 = n })) → Answers (clear_intercept service) q p
clear_planned service q n p named is s counts =
    let S = over_stores q s in
    subst (λ x. PlansIntercepts x (clear_intercept service S) S) (sym is)
    (plans_carried (change.Remove (record { 0 = n })) (no_such_service service S) S Done (after_clear_intercept service S) (ap (unknown_if_absent field.Service) named) refl tt
    (sym (ap (λ o. at_number o S (λ m. record S { intercepts = without S.intercepts m })) named)))

-- ---- the services that an identity may dial

-- those of the counts are those of the state
dialled_are : (q : Stores) (s : State) (i : ℕ) → AreCountsOf (count Dial (over_stores q s)) q.dial.now
    → filter (λ n. nat_lt 0 (count_of q.dial.now i n)) (numbers q.entities.now.services.rows) ≡ dialled_by i (over_stores q s)
dialled_are q s i counts = λ j. filter (λ n. nat_lt 0 (counts i n j)) (numbers q.entities.now.services.rows)

-- each of them is there
pub dialled_there : (rows : List (ℕ × Entity)) (p : ℕ → Bool) (dialled : List ℕ) → dialled ≡ filter p (numbers rows) → list_all (is_present rows) dialled ≡ true
dialled_there rows p dialled is = list_all-from_among (is_present rows) dialled (λ n m.
    by_filter p (numbers rows) n (subst (Among n) is m) (λ among passes. sym (among_present rows n) ∙ is_among-from n (numbers rows) among))

-- and so is the service that is picked
pub picked_there : (rows : List (ℕ × Entity)) (intercepts : List (ℕ × Intercept)) (dialled : List ℕ) (udp : Bool) (to : Address) (port : ℕ) (h : Hit)
    → list_all (is_present rows) dialled ≡ true → Some h ≡ picked intercepts dialled udp to port → is_present rows h.service ≡ true
picked_there rows intercepts dialled udp to port h all is =
    list_all-among (is_present rows) dialled h.service all (picked_is intercepts dialled udp to port h (sym is)).is_hit.dials

-- and each that clashes
pub clashes_there : (rows : List (ℕ × Entity)) (intercepts : List (ℕ × Intercept)) (dialled found : List ℕ) (n : ℕ) → list_all (is_present rows) dialled ≡ true
    → found ≡ clashes intercepts dialled n → list_all (is_present rows) found ≡ true
clashes_there rows intercepts dialled found n all is =
    subst (λ ns. list_all (is_present rows) ns ≡ true) (sym is) (by (list_any (λ m. m == n) dialled) (at intercepts n))
  where
    by : (b : Bool) (o : Option Intercept) → list_all (is_present rows) (cond b (option_map_or (λ i. filter (clashes_with intercepts n i) dialled) o []) []) ≡ true
    by false o = refl
    by true None = refl
    by true (Some i) = list_all-filter (clashes_with intercepts n i) (is_present rows) (is_present rows) (λ m p t. t) dialled all

-- ---- what destinations belong to

pub pick_unknown : (identity : List ℕ) (udp : Bool) (to : Address) (port : ℕ) (q : Stores) (p : Plan InterceptChange) → entity_named q.entities.now.identities.rows identity ≡ None
    → p ≡ refused (Unknown field.Identity) → Answers (pick identity udp to port) q p
pick_unknown identity udp to port q p none is s counts =
    let S = over_stores q s in
    told_planned p (Refused (Unknown field.Identity)) (pick identity udp to port S) S is
    (ap (λ o. rules.shown (unknown_if_absent field.Identity o) S (option_map_or (picked_reply S) (picked S.intercepts (dialled_by (unwrap_or o 0) S) udp to port) (Refused NoIntercept))) none)

-- by what is picked
pub pick_planned : (identity : List ℕ) (udp : Bool) (to : Address) (port : ℕ) (q : Stores) (n : ℕ) (dialled : List ℕ) (o : Option Hit) (r : Reply) (p : Plan InterceptChange)
    → entity_named q.entities.now.identities.rows identity ≡ Some n → dialled ≡ filter (λ m. nat_lt 0 (count_of q.dial.now n m)) (numbers q.entities.now.services.rows)
    → o ≡ picked q.intercepts.now dialled udp to port → ((s : State) → r ≡ option_map_or (picked_reply (over_stores q s)) o (Refused NoIntercept)) → p ≡ shown r
    → Answers (pick identity udp to port) q p
pick_planned identity udp to port q n dialled o r p named dials picks says is s counts =
    let S = over_stores q s in
    told_planned p r (pick identity udp to port S) S is
    (ap (λ x. rules.shown (unknown_if_absent field.Identity x) S (option_map_or (picked_reply S) (picked S.intercepts (dialled_by (unwrap_or x 0) S) udp to port) (Refused NoIntercept))) named
    ∙ ap (λ x. (option_map_or (picked_reply S) x (Refused NoIntercept), S)) (ap (λ ds. picked S.intercepts ds udp to port) (sym (dials ∙ dialled_are q s n counts)) ∙ sym picks)
    ∙ ap (λ x. (x, S)) (sym (says s)))

pub pick_known : (identity : List ℕ) (udp : Bool) (to : Address) (port : ℕ) (q : Stores) (n : ℕ) → entity_named q.entities.now.identities.rows identity ≡ Some n → Knows (pick identity udp to port) q
pick_known identity udp to port q n named s =
    let S = over_stores q s in
    ap (λ x. is_unknown (rules.shown (unknown_if_absent field.Identity x) S (option_map_or (picked_reply S) (picked S.intercepts (dialled_by (unwrap_or x 0) S) udp to port) (Refused NoIntercept))).0) named
    ∙ by S (picked S.intercepts (dialled_by n S) udp to port)
  where
    by : (t : State) (o : Option Hit) → is_unknown (option_map_or (picked_reply t) o (Refused NoIntercept)) ≡ false
    by t None = refl
    by t (Some h) = refl

-- ---- clashes

-- the answer, by what the names are
abbrev listed : Option ℕ → Option ℕ → State → Reply × State
listed i n s = rules.shown (or_then (unknown_if_absent field.Identity i) (unknown_if_absent field.Service n)) s (clashes_reply (unwrap_or i 0) (unwrap_or n 0) s)

pub list_unknown_identity : (identity service : List ℕ) (q : Stores) (p : Plan InterceptChange) → entity_named q.entities.now.identities.rows identity ≡ None → p ≡ refused (Unknown field.Identity)
    → Answers (list_clashes identity service) q p
list_unknown_identity identity service q p none is s counts =
    let S = over_stores q s in
    told_planned p (Refused (Unknown field.Identity)) (list_clashes identity service S) S is (ap (λ i. listed i (entity_named q.entities.now.services.rows service) S) none)

pub list_unknown_service : (identity service : List ℕ) (q : Stores) (i : ℕ) (p : Plan InterceptChange) → entity_named q.entities.now.identities.rows identity ≡ Some i
    → entity_named q.entities.now.services.rows service ≡ None → p ≡ refused (Unknown field.Service) → Answers (list_clashes identity service) q p
list_unknown_service identity service q i p named none is s counts =
    let S = over_stores q s in
    told_planned p (Refused (Unknown field.Service)) (list_clashes identity service S) S is (λ j. listed (named j) (none j) S)

pub list_planned : (identity service : List ℕ) (q : Stores) (i n : ℕ) (dialled found : List ℕ) (names : List (List ℕ)) (p : Plan InterceptChange)
    → entity_named q.entities.now.identities.rows identity ≡ Some i → entity_named q.entities.now.services.rows service ≡ Some n
    → dialled ≡ filter (λ m. nat_lt 0 (count_of q.dial.now i m)) (numbers q.entities.now.services.rows) → found ≡ clashes q.intercepts.now dialled n
    → names ≡ map (name_of q.entities.now.services.rows) found → p ≡ shown (Clashes names) → Answers (list_clashes identity service) q p
list_planned identity service q i n dialled found names p identity_is service_is dials clash named is s counts =
    let S = over_stores q s in
    told_planned p (Clashes names) (list_clashes identity service S) S is
    ((λ j. listed (identity_is j) (service_is j) S)
    ∙ ap (λ ns. (Clashes (map (name_of q.entities.now.services.rows) ns), S)) (ap (λ ds. clashes S.intercepts ds n) (sym (dials ∙ dialled_are q s i counts)) ∙ sym clash)
    ∙ ap (λ ns. (Clashes ns, S)) (sym named))

pub list_known : (identity service : List ℕ) (q : Stores) (i n : ℕ) → entity_named q.entities.now.identities.rows identity ≡ Some i → entity_named q.entities.now.services.rows service ≡ Some n
    → Knows (list_clashes identity service) q
list_known identity service q i n identity_is service_is s = let S = over_stores q s in λ j. is_unknown (listed (identity_is j) (service_is j) S).0
