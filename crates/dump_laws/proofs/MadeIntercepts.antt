-- The commands of a dump set its intercepts.
use Rattle.std.proofs.Common.{◌≡◌, ℕ, ◌+◌, ◌<◌, ◌≤◌, true, inl, inr, List, [], ◌∷◌, ◌++◌, map, Option, Some, refl, sym, ◌∙◌, ap, subst, arith}
use Rattle.std.proofs.lemmas.Bool.{and_parts}
use Rattle.std.proofs.lemmas.List.{map-append}
use Rattle.ctrl_model.specs.declared.commands.Command.TheVariants as command
use Rattle.ctrl_model.specs.declared.intercepts.Intercept.{Intercept}
use Rattle.ctrl_model.specs.declared.kinds.Kind.TheVariants as kind
use Rattle.ctrl_model.specs.declared.refusals.Field.TheVariants as field
use Rattle.ctrl_model.specs.declared.replies.Reply.TheVariants.{Done}
use Rattle.ctrl_model.specs.InterceptCommands.{after_set_intercept, no_such_service}
use Rattle.ctrl_model.specs.InterceptForm.{is_intercept}
use Rattle.ctrl_model.specs.Membership.{Among}
use Rattle.ctrl_model.specs.Numbered.{at, is_present, with_at, Between}
use Rattle.ctrl_model.specs.Rules.{at_number, unknown_if_absent}
use Rattle.ctrl_model.specs.Settling.{settle}
use Rattle.ctrl_model.specs.State.{State}
use Rattle.ctrl_model.specs.Tables.{named}
use Rattle.ctrl_model.specs.ValidState.{ValidState, is_valid_intercept}
use Rattle.ctrl_model.proofs.Members.{Among-append_left, list_all-among}
use Rattle.ctrl_model.proofs.NumberedLaws.{by_is_some}
use Rattle.record_lines.specs.RecordNames.{name_of}
use Rattle.dump_lines.specs.Dumps.{making_intercept}
use Rattle.dump_laws.proofs.MovedRecords.{moved_intercept}
use Rattle.dump_laws.proofs.RenumberedRows.{place, at-here, Among-middle, place-rises, with_at-last}
use Rattle.dump_laws.proofs.AnsweredCommands.{Leads, leads-by}
use Rattle.dump_laws.proofs.FoundNames.{found_anew}
use Rattle.dump_laws.proofs.MadePolicies.{policy_state, policies_settle, all_service_policies, all_edge_router_policies, all_service_edge_router_policies}

abbrev pub intercept_state : State → List (ℕ × Intercept) → State
intercept_state s xs = policy_state s (all_service_policies s) (all_edge_router_policies s) (all_service_edge_router_policies s) xs

abbrev pub with_intercepts : State → List (ℕ × Intercept) → State
with_intercepts s pre = intercept_state s (map (moved_intercept s) pre)

pub service_there : (s : State) → ValidState s → (x : ℕ × Intercept) → Among x s.intercepts → is_present s.services.rows x.0 ≡ true
service_there s v x m = (and_parts (is_present s.services.rows x.0) (is_intercept x.1) (list_all-among (is_valid_intercept s) s.intercepts x v.intercepts m)).0

-- services of rising numbers rise still
rises : (s : State) → ValidState s → (a b : ℕ) → is_present s.services.rows a ≡ true → is_present s.services.rows b ≡ true → a < b → place 1 s.services.rows a < place 1 s.services.rows b
rises s v a b here there less = by_is_some (at s.services.rows a) here (λ q is_q. by_is_some (at s.services.rows b) there (λ r is_r.
    place-rises 1 s.services.next s.services.rows 1 a b q r (v.kinds kind.Service).numbers.ordered is_q is_r less))

ascend : (s : State) → ValidState s → (high low least : ℕ) (pre : List (ℕ × Intercept)) (x : ℕ × Intercept) (post : List (ℕ × Intercept)) → Between low high (pre ++ x ∷ post)
    → ((y : ℕ × Intercept) → Among y (pre ++ x ∷ post) → is_present s.services.rows y.0 ≡ true) → ((y : ℕ × Intercept) → Among y pre → least ≤ place 1 s.services.rows y.0)
    → Between least (place 1 s.services.rows x.0) (map (moved_intercept s) pre)
ascend s v high low least [] x post b there above = tt
ascend s v high low least (y ∷ pre) x post b there above =
    let later = (at-here high (pre ++ x ∷ post) (y.0 + 1) x b.2 (Among-middle pre x post)).1 in
    let less = rises s v y.0 x.0 (there y (inl refl)) (there x (inr (Among-middle pre x post))) (omega (arith, later)) in (
      above y (inl refl),
      less,
      ascend s v high (y.0 + 1) (place 1 s.services.rows y.0 + 1) pre x post b.2 (λ z m. there z (inr m)) (λ z m.
          let m' = Among-append_left pre (x ∷ post) z m in
          let next = (at-here high (pre ++ x ∷ post) (y.0 + 1) z b.2 m').1 in
          let l = rises s v y.0 z.0 (there y (inl refl)) (there z (inr m')) (omega (arith, next)) in
          omega (arith, l)),
    )

pub make_intercept : (s : State) → ValidState s → (pre : List (ℕ × Intercept)) (x : ℕ × Intercept) (post : List (ℕ × Intercept)) → pre ++ x ∷ post ≡ s.intercepts
    → Leads (making_intercept s x) (with_intercepts s pre) (with_intercepts s (pre ++ x ∷ []))
make_intercept s v pre x post is =
    leads-by (command.SetIntercept service x.1) (with_intercepts s pre) (no_such_service service (with_intercepts s pre)) Done (after_set_intercept service x.1 (with_intercepts s pre))
    (with_intercepts s (pre ++ x ∷ [])) refl (λ i. unknown_if_absent field.Service (found i)) refl
    (ap settle effect ∙ policies_settle s v (all_service_policies s) (all_edge_router_policies s) (all_service_edge_router_policies s) (map (moved_intercept s) (pre ++ x ∷ [])))
  where
    service : List ℕ
    service = name_of kind.Service s x.0

    there : (y : ℕ × Intercept) → Among y (pre ++ x ∷ post) → is_present s.services.rows y.0 ≡ true
    there y m = service_there s v y (subst (λ (xs : List (ℕ × Intercept)). Among y xs) is m)

    found : named kind.Service (with_intercepts s pre) service ≡ Some (place 1 s.services.rows x.0)
    found = found_anew kind.Service refl s v x.0 (there x (Among-middle pre x post))

    ordered : Between 0 (place 1 s.services.rows x.0) (map (moved_intercept s) pre)
    ordered = ascend s v s.services.next 1 0 pre x post (subst (λ (xs : List (ℕ × Intercept)). Between 1 s.services.next xs) (sym is) v.ordered) there (λ y m. omega arith)

    effect : after_set_intercept service x.1 (with_intercepts s pre) ≡ with_intercepts s (pre ++ x ∷ [])
    effect =
        ap (λ (o : Option ℕ). at_number o (with_intercepts s pre) (λ n. record (with_intercepts s pre) { intercepts = with_at n x.1 (map (moved_intercept s) pre) })) found
        ∙ ap (intercept_state s) (with_at-last (map (moved_intercept s) pre) 0 (place 1 s.services.rows x.0) x.1 ordered ∙ sym (map-append (moved_intercept s) pre (x ∷ [])))
