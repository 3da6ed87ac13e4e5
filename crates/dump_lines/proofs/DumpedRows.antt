-- The lines of rows in a dump are those of what the state has that they give.
use Rattle.std.proofs.Common.{◌≡◌, ℕ, ◌&&◌, ◌||◌, Bool, true, false, cond, not, List, [], ◌∷◌, ◌++◌, flat_map, refl, sym, ◌∙◌, ap, subst, append-nil, append_assoc, Result, OnOk}
use Rattle.std.proofs.lemmas.Bool.{and_parts}
use Rattle.std.proofs.lemmas.Result.{on_ok_weaker}
use Rattle.ctrl_model.specs.ValueForms.{is_service_relation, is_stored_side}
use Rattle.ctrl_model.specs.declared.commands.Command.{Command}
use Rattle.ctrl_model.specs.declared.commands.Command.TheVariants as command
use Rattle.ctrl_model.specs.declared.kinds.Relation.TheVariants.{IdentityRouter, ServiceRouter}
use Rattle.ctrl_model.specs.NameForm.{is_name}
use Rattle.ctrl_model.specs.declared.kinds.Kind.{Kind}
use Rattle.ctrl_model.specs.declared.kinds.Kind.TheVariants as kind
use Rattle.ctrl_model.specs.State.{State, Policy, start}
use Rattle.ctrl_model.specs.Tables.{Record, has_names}
use Rattle.ctrl_model.specs.ValidState.{is_valid_policy}
use Rattle.row_codec.specs.declared.rows.Row.{Row}
use Rattle.row_codec.specs.declared.rows.Row.TheVariants as row
use Rattle.state_building.specs.BuiltStates.{built, state_in, with_row}
use Rattle.record_lines.specs.declared.listing.Listed.{Listed}
use Rattle.record_lines.specs.declared.listing.Listed.TheVariants as listed
use Rattle.record_lines.specs.RecordLines.{entry_line, line_of}
use Rattle.record_lines.specs.RowTexts.{row_line}
use Rattle.record_lines.proofs.RowRecords.{said_of_intercepts, said_of_records}
use Rattle.dump_lines.specs.Dumps.{are_spelled, command_line, dump_lines, dumped, making, making_record, remark, section, sections, setting}
use Rattle.dump_lines.specs.RowDumps.{cost_behind, cost_in, dumped_where, entity_making, fits, is_fit, is_unnamed, policy_making, record_says_all, row_dumped, row_lines, row_making, row_says_all, says_all, use_making}

-- ---- which commands are said

policy_said : (named left right related all_left all_right : Bool) → (named && (left && right)) ≡ true → related ≡ true
    → ((named && (related && ((left && not all_left) && (right && not all_right)))) && true) ≡ not (all_left || all_right)
policy_said true true true true true r f g = refl
policy_said true true true true false true f g = refl
policy_said true true true true false false f g = refl
policy_said true true true false l r f g = absurd cc
policy_said true true false related l r f g = absurd cc
policy_said true false right related l r f g = absurd cc
policy_said false left right related l r f g = absurd cc

router_policy_said : (named left right all_left all_right : Bool) → (named && (left && right)) ≡ true
    → ((named && ((left && not all_left) && (right && not all_right))) && true) ≡ not (all_left || all_right)
router_policy_said true true true true r f = refl
router_policy_said true true true false true f = refl
router_policy_said true true true false false f = refl
router_policy_said true true false l r f = absurd cc
router_policy_said true false right l r f = absurd cc
router_policy_said false left right l r f = absurd cc

-- the commands of a record that fits are said, unless a side has the attribute
record_said : (k : Kind) (s : State) (r : Record k) → is_fit k s r ≡ true → are_spelled (making_record k s r) ≡ not (record_says_all k r)
record_said kind.Identity s r f = f
record_said kind.Service s r f = f
record_said kind.Router s r f = f
record_said kind.Link s r f = f
record_said kind.ServicePolicy s p f =
    let parts = and_parts (is_valid_policy p) (is_service_relation p.relation) f in
    policy_said (is_name p.name) (is_stored_side p.left) (is_stored_side p.right) (is_service_relation p.relation) (says_all p.left) (says_all p.right) parts.0 parts.1
record_said kind.EdgeRouterPolicy s p f =
    router_policy_said (is_name p.name) (is_stored_side p.left) (is_stored_side p.right) (says_all p.left) (says_all p.right) f
record_said kind.ServiceEdgeRouterPolicy s p f =
    router_policy_said (is_name p.name) (is_stored_side p.left) (is_stored_side p.right) (says_all p.left) (says_all p.right) f
record_said kind.Terminator s r f = f
record_said kind.Circuit s r f = f
record_said kind.Attribute s r f = f

-- and so are those of its row
pub row_said : (s : State) (x : Row) → fits s x ≡ true → row_says_all x ≡ false → are_spelled (row_making s x) ≡ true
row_said s (row.Identity n name attributes) f unsaid = f
row_said s (row.Service n name attributes) f unsaid = f
row_said s (row.Router n name attributes cost through connected) f unsaid = f
row_said s (row.Link n name a b cost latency_a latency_b up) f unsaid = f
row_said s (row.ServicePolicy n name relation semantic identities services) f unsaid = record_said kind.ServicePolicy s (record { name = name; relation = relation; semantic = semantic; left = identities; right = services }) f ∙ ap not unsaid
row_said s (row.EdgeRouterPolicy n name semantic identities routers) f unsaid = record_said kind.EdgeRouterPolicy s (record { name = name; relation = IdentityRouter; semantic = semantic; left = identities; right = routers }) f ∙ ap not unsaid
row_said s (row.ServiceEdgeRouterPolicy n name semantic services routers) f unsaid = record_said kind.ServiceEdgeRouterPolicy s (record { name = name; relation = ServiceRouter; semantic = semantic; left = services; right = routers }) f ∙ ap not unsaid
row_said s (row.Terminator n service router host instance cost precedence) f unsaid = f
row_said s (row.Circuit n identity service terminator ingress links) f unsaid = f
row_said s (row.Intercept n i) f unsaid = f
row_said s x f unsaid = refl

-- ---- the lines of a row

lines_by : (named said all : Bool) (R M : List ℕ) → said ≡ not all
    → cond (not (named && said)) R [] ++ cond said M [] ≡ cond (all || not named) R [] ++ cond (not all) M []
lines_by named said all R M is =
    subst (λ b. cond (not (named && b)) R [] ++ cond b M [] ≡ cond (all || not named) R [] ++ cond (not all) M []) (sym is) (by named all)
  where
    by : (n a : Bool) → cond (not (n && not a)) R [] ++ cond (not a) M [] ≡ cond (a || not n) R [] ++ cond (not a) M []
    by true true = refl
    by true false = refl
    by false true = refl
    by false false = refl

record_dumped : (k : Kind) (s : State) (n : ℕ) (r : Record k) → is_fit k s r ≡ true
    → dumped (listed.Records k) s (n, r)
    ≡ cond (record_says_all k r || not (has_names k)) (remark (line_of k s (n, r))) [] ++ cond (not (record_says_all k r)) (flat_map command_line (making_record k s r)) []
record_dumped k s n r f =
    lines_by (has_names k) (are_spelled (making_record k s r)) (record_says_all k r) (remark (line_of k s (n, r))) (flat_map command_line (making_record k s r)) (record_said k s r f)

pub row_dumped_so : (s : State) (x : Row) → fits s x ≡ true → row_dumped s x ≡ row_lines (row_says_all x || is_unnamed x) (not (row_says_all x)) s x
row_dumped_so s (row.Identity n name attributes) f = record_dumped kind.Identity s n.0 _ f
row_dumped_so s (row.Service n name attributes) f = record_dumped kind.Service s n.0 _ f
row_dumped_so s (row.Router n name attributes cost through connected) f = record_dumped kind.Router s n.0 _ f
row_dumped_so s (row.Link n name a b cost latency_a latency_b up) f = record_dumped kind.Link s n.0 _ f
row_dumped_so s (row.ServicePolicy n name relation semantic identities services) f = record_dumped kind.ServicePolicy s n.0 (record { name = name; relation = relation; semantic = semantic; left = identities; right = services }) f
row_dumped_so s (row.EdgeRouterPolicy n name semantic identities routers) f = record_dumped kind.EdgeRouterPolicy s n.0 (record { name = name; relation = IdentityRouter; semantic = semantic; left = identities; right = routers }) f
row_dumped_so s (row.ServiceEdgeRouterPolicy n name semantic services routers) f = record_dumped kind.ServiceEdgeRouterPolicy s n.0 (record { name = name; relation = ServiceRouter; semantic = semantic; left = services; right = routers }) f
row_dumped_so s (row.Terminator n service router host instance cost precedence) f = record_dumped kind.Terminator s n.0 _ f
row_dumped_so s (row.Circuit n identity service terminator ingress links) f = record_dumped kind.Circuit s n.0 _ refl
row_dumped_so s (row.Intercept n i) f =
    lines_by true (are_spelled (making listed.Intercepts s (n.0, i))) false _ (flat_map command_line (making listed.Intercepts s (n.0, i))) f
row_dumped_so s x f = refl

-- the lines of a row behind a text, from those of its remark and of its commands
pub dumped_behind : {T E : Type 0} (r : Result T E) (s : State) (x : Row) (remarked unsaid : Bool) (old between new : List ℕ) → fits s x ≡ true
    → remarked ≡ (row_says_all x || is_unnamed x) → unsaid ≡ row_says_all x
    → between ≡ old ++ cond remarked (remark (row_line s x)) [] → OnOk r (new ≡ between ++ cond (not unsaid) (flat_map command_line (row_making s x)) [])
    → OnOk r (new ≡ old ++ row_dumped s x)
dumped_behind r s x remarked unsaid old between new f remarked_is unsaid_is between_is put =
    on_ok_weaker r
    (λ e. e ∙ ap (λ (t : List ℕ). t ++ cond (not unsaid) (flat_map command_line (row_making s x)) []) between_is
    ∙ append_assoc old (cond remarked (remark (row_line s x)) []) (cond (not unsaid) (flat_map command_line (row_making s x)) [])
    ∙ ap (λ (b : Bool). old ++ (cond b (remark (row_line s x)) [] ++ cond (not unsaid) (flat_map command_line (row_making s x)) [])) remarked_is
    ∙ ap (λ (b : Bool). old ++ row_lines (row_says_all x || is_unnamed x) (not b) s x) unsaid_is
    ∙ ap (λ (t : List ℕ). old ++ t) (sym (row_dumped_so s x f)))
    put

-- ---- the families of rows

-- a row is of one family at most
pub making_by_family : (s : State) (x : Row)
    → flat_map command_line (entity_making s x) ++ (flat_map command_line (policy_making x) ++ flat_map command_line (use_making s x)) ≡ flat_map command_line (row_making s x)
making_by_family s (row.Identity n name attributes) = append-nil _
making_by_family s (row.Service n name attributes) = append-nil _
making_by_family s (row.Router n name attributes cost through connected) = append-nil _
making_by_family s (row.ServicePolicy n name relation semantic identities services) = append-nil _
making_by_family s (row.EdgeRouterPolicy n name semantic identities routers) = append-nil _
making_by_family s (row.ServiceEdgeRouterPolicy n name semantic services routers) = append-nil _
making_by_family s (row.Link n name a b cost latency_a latency_b up) = refl
making_by_family s (row.Terminator n service router host instance cost precedence) = refl
making_by_family s (row.Intercept n i) = refl
making_by_family s x = refl

pub entity_spelled : (s : State) (x : Row) → are_spelled (row_making s x) ≡ true → are_spelled (entity_making s x) ≡ true
entity_spelled s (row.Identity n name attributes) f = f
entity_spelled s (row.Service n name attributes) f = f
entity_spelled s (row.Router n name attributes cost through connected) f = f
entity_spelled s x f = refl

pub policy_spelled : (s : State) (x : Row) → are_spelled (row_making s x) ≡ true → are_spelled (policy_making x) ≡ true
policy_spelled s (row.ServicePolicy n name relation semantic identities services) f = f
policy_spelled s (row.EdgeRouterPolicy n name semantic identities routers) f = f
policy_spelled s (row.ServiceEdgeRouterPolicy n name semantic services routers) f = f
policy_spelled s x f = refl

pub use_spelled : (s : State) (x : Row) → are_spelled (row_making s x) ≡ true → are_spelled (use_making s x) ≡ true
use_spelled s (row.Link n name a b cost latency_a latency_b up) f = f
use_spelled s (row.Terminator n service router host instance cost precedence) f = f
use_spelled s (row.Intercept n i) f = f
use_spelled s x f = refl

-- ---- sections

pub section_rows : (l : Listed) (rows : List Row) → flat_map (dumped_where l (state_in rows)) rows ≡ section (state_in rows) l
section_rows (listed.Records k) rows =
    said_of_records (λ j x. dumped (listed.Records j) (state_in rows) x) (λ x. dumped listed.Intercepts (state_in rows) x) k rows
section_rows listed.Intercepts rows =
    said_of_intercepts (λ j x. dumped (listed.Records j) (state_in rows) x) (λ x. dumped listed.Intercepts (state_in rows) x) rows

pub sections_rows : (ls : List Listed) (rows : List Row)
    → flat_map (λ l. flat_map (dumped_where l (state_in rows)) rows) ls ≡ flat_map (section (state_in rows)) ls
sections_rows [] rows = refl
sections_rows (l ∷ ls) rows =
    ap (λ (t : List ℕ). t ++ flat_map (λ m. flat_map (dumped_where m (state_in rows)) rows) ls) (section_rows l rows)
    ∙ ap (λ (t : List ℕ). section (state_in rows) l ++ t) (sections_rows ls rows)

-- ---- the setting

cost_row : (s : State) (x : Row) → cost_behind s.least_router_cost x ≡ (with_row x s).least_router_cost
cost_row s (row.Setting cost) = refl
cost_row s x = refl

cost_rows : (rows : List Row) (s : State) → cost_in s.least_router_cost rows ≡ (built rows s).least_router_cost
cost_rows [] s = refl
cost_rows (x ∷ xs) s = ap (λ (n : ℕ). cost_in n xs) (cost_row s x) ∙ cost_rows xs (with_row x s)

pub cost_of_rows : (rows : List Row) → cost_in 10 rows ≡ (state_in rows).least_router_cost
cost_of_rows rows = cost_rows rows start

-- the lines of a state, from those of the setting and of the sections
pub dump_of_rows : (rows : List Row) (ls : List Listed) (cost : ℕ) (none first all text : List ℕ) → ls ≡ sections → cost ≡ cost_in 10 rows → none ≡ []
    → first ≡ none ++ command_line (command.SetLeastRouterCost cost) → all ≡ first ++ flat_map (λ l. flat_map (dumped_where l (state_in rows)) rows) ls
    → text ≡ all → text ≡ dump_lines (state_in rows)
dump_of_rows rows ls cost none first all text ls_are cost_is none_is first_is all_is text_is =
    text_is ∙ all_is
    ∙ ap (λ (t : List ℕ). t ++ flat_map (λ l. flat_map (dumped_where l (state_in rows)) rows) ls)
    (first_is ∙ ap (λ (t : List ℕ). t ++ command_line (command.SetLeastRouterCost cost)) none_is
    ∙ ap (λ (n : ℕ). command_line (command.SetLeastRouterCost n)) (cost_is ∙ cost_of_rows rows))
    ∙ ap (λ (t : List ℕ). command_line (setting (state_in rows)) ++ t)
    (ap (λ (ms : List Listed). flat_map (λ l. flat_map (dumped_where l (state_in rows)) rows) ms) ls_are ∙ sections_rows sections rows)
