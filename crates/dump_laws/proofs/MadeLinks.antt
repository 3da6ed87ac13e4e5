-- The commands of a dump make its links.
use Rattle.std.proofs.Common.{◌≡◌, ℕ, ◌+◌, ◌==◌, ◌&&◌, ◌||◌, Bool, true, false, cond, not, List, [], ◌∷◌, ◌++◌, Option, None, Some, refl, sym, ◌∙◌, ap, subst, arith, eq-eqb, bytes_eq}
use Rattle.std.proofs.lemmas.Bool.{and_parts, and_from, cond-true, not-true}
use Rattle.std.specs.List.{list_all}
use Rattle.std.specs.Option.{option_map_or}
use Rattle.ctrl_model.specs.ValueForms.{is_link_cost, is_latency}
use Rattle.ctrl_model.specs.declared.commands.Command.TheVariants as command
use Rattle.ctrl_model.specs.declared.kinds.Kind.TheVariants as kind
use Rattle.ctrl_model.specs.declared.refusals.Field.TheVariants as field
use Rattle.ctrl_model.specs.declared.refusals.Refusal.TheVariants.{Full, SameRouter}
use Rattle.ctrl_model.specs.declared.replies.Reply.TheVariants.{Done, Made}
use Rattle.ctrl_model.specs.LinkCommands.{after_create_link, after_report_state, end_named, is_end_of, named_link, refusal_of_create_link, refusal_of_report}
use Rattle.ctrl_model.specs.Membership.{Among}
use Rattle.ctrl_model.specs.NameForm.{is_name}
use Rattle.ctrl_model.specs.Numbered.{Table, no_rows, at, is_present, with_new}
use Rattle.ctrl_model.specs.RecordCommands.{after_create, after_edit}
use Rattle.ctrl_model.specs.Rules.{or_then, refuse_if, at_number, unknown_if_absent, exists_if_present}
use Rattle.ctrl_model.specs.Settling.{settle}
use Rattle.ctrl_model.specs.State.{State, Link}
use Rattle.ctrl_model.specs.Tables.{named}
use Rattle.ctrl_model.specs.ValidState.{ValidState}
use Rattle.ctrl_model.proofs.DistinctLaws.{same_bytes}
use Rattle.ctrl_model.proofs.Members.{Among-append_left, list_all-among}
use Rattle.row_laws.proofs.WrittenRecords.{links_stay}
use Rattle.record_lines.specs.RecordNames.{name_of}
use Rattle.dump_lines.specs.Dumps.{making_record, making_link}
use Rattle.dump_laws.proofs.MovedRecords.{moved_link}
use Rattle.dump_laws.proofs.RenumberedRows.{behind, renumbered, place, anew, anew-last, Between-renumbered, Among-middle, none-found, last-found, edit-last}
use Rattle.dump_laws.proofs.AnsweredCommands.{Leads, leads-by, leads-on, leads-nowhere, stage, settled}
use Rattle.dump_laws.proofs.MadeEntities.{same, others_before, room_before}
use Rattle.dump_laws.proofs.FoundNames.{found_anew, present_anew, names_apart, each-renumbered, each-last, at-last}

-- the state with a table of links
abbrev pub link_state : State → Table Link → State
link_state s t = stage s.least_router_cost (anew 1 same s.identities.rows) (anew 1 same s.services.rows) (anew 1 same s.routers.rows) t no_rows no_rows no_rows no_rows []

abbrev pub with_links : State → List (ℕ × Link) → State
with_links s pre = link_state s (anew 1 (moved_link s) pre)

-- ---- links stay

-- whether a link of a state of new numbers stays
abbrev pub stays_anew : State → ℕ × Link → Bool
stays_anew s x = is_present (renumbered same 1 s.routers.rows) x.1.a && is_present (renumbered same 1 s.routers.rows) x.1.b

pub ends_present : (s : State) → ValidState s → (x : ℕ × Link) → Among x s.links.rows → (is_present s.routers.rows x.1.a ≡ true) × (is_present s.routers.rows x.1.b ≡ true)
ends_present s v x m = and_parts (is_present s.routers.rows x.1.a) (is_present s.routers.rows x.1.b) (links_stay s v x m)

moved_stays : (s : State) → ValidState s → (x : ℕ × Link) → Among x s.links.rows → (n : ℕ) (up : Bool) → stays_anew s (n, record (moved_link s x.1) { up = up }) ≡ true
moved_stays s v x m n up =
    let ends = ends_present s v x m in
    and_from _ _ (present_anew same s.routers.rows x.1.a ends.0) (present_anew same s.routers.rows x.1.b ends.1)

pub links_before_stay : (s : State) → ValidState s → (pre post : List (ℕ × Link)) → pre ++ post ≡ s.links.rows
    → list_all (stays_anew s) (renumbered (moved_link s) 1 pre) ≡ true
links_before_stay s v pre post is = each-renumbered (stays_anew s) (moved_link s) 1 pre (λ n x m.
    moved_stays s v x (subst (λ (xs : List (ℕ × Link)). Among x xs) is (Among-append_left pre post x m)) n x.1.up)

-- ---- a link is made

module _ (s : State) (v : ValidState s) (pre : List (ℕ × Link)) (x : ℕ × Link) (post : List (ℕ × Link)) (is : pre ++ x ∷ post ≡ s.links.rows) where
  among : Among x s.links.rows
  among = subst (λ (xs : List (ℕ × Link)). Among x xs) is (Among-middle pre x post)

  -- the link as it is made: up
  abbrev raised : Link
  raised = record (moved_link s x.1) { up = true }

  abbrev a : List ℕ
  a = name_of kind.Router s x.1.a

  abbrev b : List ℕ
  b = name_of kind.Router s x.1.b

  found_a : named kind.Router (with_links s pre) a ≡ Some (place 1 s.routers.rows x.1.a)
  found_a = found_anew kind.Router refl s v x.1.a (ends_present s v x among).0

  found_b : named kind.Router (with_links s pre) b ≡ Some (place 1 s.routers.rows x.1.b)
  found_b = found_anew kind.Router refl s v x.1.b (ends_present s v x among).1

  others : (y : ℕ × Link) → Among y pre → bytes_eq y.1.name x.1.name ≡ false
  others = others_before kind.Link s v refl pre x post is

  apart : bytes_eq a b ≡ false
  apart =
      let valid = list_all-among (λ (row : ℕ × Link). is_name row.1.name && (not (row.1.a == row.1.b) && (is_link_cost row.1.cost && (is_latency row.1.latency_a && is_latency row.1.latency_b)))) s.links.rows x (v.kinds kind.Link).each among in
      let differ = (and_parts (not (x.1.a == x.1.b)) _ (and_parts (is_name x.1.name) _ valid).1).0 in
      names_apart kind.Router refl s v x.1.a x.1.b (ends_present s v x among).0 (ends_present s v x among).1 (not-true (x.1.a == x.1.b) differ)

  none : refusal_of_create_link x.1.name a b (with_links s pre) ≡ None
  none i =
      or_then (exists_if_present (none-found (λ (q : Link). bytes_eq q.name x.1.name) (moved_link s) 1 pre others i))
      (or_then (unknown_if_absent field.A (found_a i))
      (or_then (unknown_if_absent field.B (found_b i))
      (or_then (refuse_if (not (room_before kind.Link s v 1 (omega arith) (moved_link s) pre x post is i)) (Full kind.Link))
      (refuse_if (apart i) SameRouter))))

  effect : after_create_link x.1.name a b x.1.cost x.1.latency_a x.1.latency_b (with_links s pre) ≡ link_state s (with_new raised (anew 1 (moved_link s) pre))
  effect i =
      at_number (found_a i) (with_links s pre) (λ from. at_number (found_b i) (with_links s pre) (λ to.
      after_create kind.Link (record { name = x.1.name; a = from; b = to; cost = x.1.cost; latency_a = x.1.latency_a; latency_b = x.1.latency_b; up = true }) (with_links s pre)))

  stays : (up : Bool) → list_all (stays_anew s) (renumbered (moved_link s) 1 pre ++ (behind 1 pre, record (moved_link s x.1) { up = up }) ∷ []) ≡ true
  stays up =
      each-last (stays_anew s) (renumbered (moved_link s) 1 pre) (behind 1 pre, record (moved_link s x.1) { up = up })
      (links_before_stay s v pre (x ∷ post) is) (moved_stays s v x among (behind 1 pre) up)

  settles : (up : Bool) → settle (link_state s (with_new (record (moved_link s x.1) { up = up }) (anew 1 (moved_link s) pre))) ≡ link_state s (with_new (record (moved_link s x.1) { up = up }) (anew 1 (moved_link s) pre))
  settles up =
      settled s.least_router_cost (anew 1 same s.identities.rows) (anew 1 same s.services.rows) (anew 1 same s.routers.rows) (with_new (record (moved_link s x.1) { up = up }) (anew 1 (moved_link s) pre))
      no_rows no_rows no_rows no_rows [] (stays up) refl

  first : Leads (command.CreateLink x.1.name a b x.1.cost x.1.latency_a x.1.latency_b ∷ []) (with_links s pre) (link_state s (with_new raised (anew 1 (moved_link s) pre)))
  first =
      leads-by (command.CreateLink x.1.name a b x.1.cost x.1.latency_a x.1.latency_b) (with_links s pre) (refusal_of_create_link x.1.name a b (with_links s pre)) (Made (behind 1 pre))
      (after_create_link x.1.name a b x.1.cost x.1.latency_a x.1.latency_b (with_links s pre)) (link_state s (with_new raised (anew 1 (moved_link s) pre)))
      refl none refl (ap settle effect ∙ settles true)

  -- ---- and reported down, if it is

  abbrev made : State
  made = link_state s (with_new raised (anew 1 (moved_link s) pre))

  link_found : named kind.Link made x.1.name ≡ Some (behind 1 pre)
  link_found = last-found (λ (q : Link). bytes_eq q.name x.1.name) (moved_link s) 1 pre (behind 1 pre) raised others (same_bytes x.1.name x.1.name refl)

  link_there : named_link x.1.name made ≡ Some raised
  link_there =
      ap (λ (o : Option ℕ). option_map_or (at (renumbered (moved_link s) 1 pre ++ (behind 1 pre, raised) ∷ [])) o None) link_found
      ∙ at-last (renumbered (moved_link s) 1 pre) 1 (behind 1 pre) raised (Between-renumbered (moved_link s) 1 pre)

  end_found : end_named x.1.name a made ≡ Some (place 1 s.routers.rows x.1.a)
  end_found =
      (λ i. option_map_or (λ (l : Link). option_map_or (λ r. cond (is_end_of r l) (Some r) None) (found_a i) None) (link_there i) None)
      ∙ cond-true (is_end_of (place 1 s.routers.rows x.1.a) raised) (Some (place 1 s.routers.rows x.1.a)) None
      (ap (λ (c : Bool). c || (place 1 s.routers.rows x.1.b == place 1 s.routers.rows x.1.a)) (eq-eqb (place 1 s.routers.rows x.1.a) (place 1 s.routers.rows x.1.a) refl))

  lowered : after_report_state x.1.name false made ≡ link_state s (with_new (record (moved_link s x.1) { up = false }) (anew 1 (moved_link s) pre))
  lowered =
      ap (λ (o : Option ℕ). at_number o made (λ n. after_edit kind.Link n (λ (l : Link). record l { up = false }) made)) link_found
      ∙ (λ i. link_state s (record { rows = edit-last (λ (l : Link). record l { up = false }) (renumbered (moved_link s) 1 pre) 1 (behind 1 pre) raised (Between-renumbered (moved_link s) 1 pre) i; next = behind 1 pre + 1 }))

  report : (up : Bool) → x.1.up ≡ up → Leads (cond up [] (command.ReportState x.1.name a false ∷ [])) made (link_state s (with_new (moved_link s x.1) (anew 1 (moved_link s) pre)))
  report true up = subst (λ (q : Link). Leads [] made (link_state s (with_new q (anew 1 (moved_link s) pre)))) (λ i. record (moved_link s x.1) { up = sym up i }) (leads-nowhere made)
  report false up =
      subst (λ (q : Link). Leads (command.ReportState x.1.name a false ∷ []) made (link_state s (with_new q (anew 1 (moved_link s) pre)))) (λ i. record (moved_link s x.1) { up = sym up i })
      (leads-by (command.ReportState x.1.name a false) made (refusal_of_report x.1.name a made) Done (after_report_state x.1.name false made)
      (link_state s (with_new (record (moved_link s x.1) { up = false }) (anew 1 (moved_link s) pre))) refl
      (λ i. or_then (unknown_if_absent field.Link (link_found i)) (unknown_if_absent field.Router (end_found i))) refl (ap settle lowered ∙ settles false))

  pub make_link : Leads (making_record kind.Link s x.1) (with_links s pre) (with_links s (pre ++ x ∷ []))
  make_link =
      subst (λ (t : Table Link). Leads (making_link s x.1) (with_links s pre) (link_state s t)) (sym (anew-last 1 (moved_link s) pre x))
      (leads-on (command.CreateLink x.1.name a b x.1.cost x.1.latency_a x.1.latency_b ∷ []) (cond x.1.up [] (command.ReportState x.1.name a false ∷ []))
      (with_links s pre) made (link_state s (with_new (moved_link s x.1) (anew 1 (moved_link s) pre))) first (report x.1.up refl))
