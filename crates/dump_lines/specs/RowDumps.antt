-- What rows say of the commands that make records. Only private contracts cite these.
use Rattle.std.specs.Prelude.{ℕ, ◌&&◌, ◌||◌, Bool, true, false, not, cond, List, [], ◌∷◌, ◌++◌, codes}
use Rattle.std.specs.List.{flat_map}
use Rattle.ctrl_model.specs.ValueForms.{is_service_relation}
use Rattle.ctrl_model.specs.SpelledCommands.{is_spelled}
use Rattle.ctrl_model.specs.declared.commands.Command.{Command}
use Rattle.ctrl_model.specs.declared.commands.Command.TheVariants as command
use Rattle.ctrl_model.specs.declared.kinds.Kind.{Kind}
use Rattle.ctrl_model.specs.declared.kinds.Kind.TheVariants as kind
use Rattle.ctrl_model.specs.declared.kinds.Side.{Side}
use Rattle.ctrl_model.specs.Matches.{has_name}
use Rattle.ctrl_model.specs.State.{State, Policy}
use Rattle.ctrl_model.specs.Tables.{Record, has_names}
use Rattle.ctrl_model.specs.ValidState.{is_valid_policy}
use Rattle.row_codec.specs.declared.rows.Row.{Row}
use Rattle.row_codec.specs.declared.rows.Row.TheVariants as row
use Rattle.state_building.specs.RowForms.{by_row}
use Rattle.record_lines.specs.declared.listing.Listed.{Listed}
use Rattle.record_lines.specs.declared.listing.Listed.TheVariants as listed
use Rattle.dump_lines.specs.Dumps.{are_spelled, command_line, dumped, making, making_record, remark}
use Rattle.record_lines.specs.RowTexts.{is_of, row_line}

-- Whether a record's commands are spelled; of a policy, whether they are but for an attribute `all`.
abbrev pub is_fit : (k : Kind) → State → Record k → Bool
is_fit kind.ServicePolicy s p = is_valid_policy p && is_service_relation p.relation
is_fit kind.EdgeRouterPolicy s p = is_valid_policy p
is_fit kind.ServiceEdgeRouterPolicy s p = is_valid_policy p
is_fit k s r = are_spelled (making_record k s r)

-- Whether the record or the intercept of a row fits so. Other rows have none, and do.
abbrev pub fits : State → Row → Bool
fits s x = by_row (record {
  next = λ k n. true;
  setting = λ cost. true;
  one = λ k n r. is_fit k s r;
  count = λ r a b c. true;
  intercept = λ n i. are_spelled (making listed.Intercepts s (n, i));
  serial = λ n. true;
}) x

-- Whether a side has the attribute `all`.
abbrev pub says_all : Side → Bool
says_all side = has_name side.attributes (codes "all")

-- Whether a side of a record has it. Policies alone have sides.
abbrev pub record_says_all : (k : Kind) → Record k → Bool
record_says_all kind.ServicePolicy p = says_all p.left || says_all p.right
record_says_all kind.EdgeRouterPolicy p = says_all p.left || says_all p.right
record_says_all kind.ServiceEdgeRouterPolicy p = says_all p.left || says_all p.right
record_says_all k r = false

-- Whether a side of a row has it.
abbrev pub row_says_all : Row → Bool
row_says_all x = by_row (record {
  next = λ k n. false;
  setting = λ cost. false;
  one = λ k n r. record_says_all k r;
  count = λ r a b c. false;
  intercept = λ n i. false;
  serial = λ n. false;
}) x

-- Whether a row is a record without a name.
abbrev pub is_unnamed : Row → Bool
is_unnamed x = by_row (record {
  next = λ k n. false;
  setting = λ cost. false;
  one = λ k n r. not (has_names k);
  count = λ r a b c. false;
  intercept = λ n i. false;
  serial = λ n. false;
}) x

-- The commands that make the record of a row, or set its intercept.
abbrev pub row_making : State → Row → List Command
row_making s x = by_row (record {
  next = λ k n. [];
  setting = λ cost. [];
  one = λ k n r. making_record k s r;
  count = λ r a b c. [];
  intercept = λ n i. making listed.Intercepts s (n, i);
  serial = λ n. [];
}) x

-- Those of a row that is an identity, a service or a router.
abbrev pub entity_making : State → Row → List Command
entity_making s (row.Identity n name attributes) = row_making s (row.Identity n name attributes)
entity_making s (row.Service n name attributes) = row_making s (row.Service n name attributes)
entity_making s (row.Router n name attributes cost through connected) = row_making s (row.Router n name attributes cost through connected)
entity_making s x = []

-- Those of a row that is a policy.
abbrev pub policy_making : Row → List Command
policy_making (row.ServicePolicy n name relation semantic identities services) = command.CreateServicePolicy name relation semantic identities services ∷ []
policy_making (row.EdgeRouterPolicy n name semantic identities routers) = command.CreateEdgeRouterPolicy name semantic identities routers ∷ []
policy_making (row.ServiceEdgeRouterPolicy n name semantic services routers) = command.CreateServiceEdgeRouterPolicy name semantic services routers ∷ []
policy_making x = []

-- Those of a row that is a link, a terminator or an intercept.
abbrev pub use_making : State → Row → List Command
use_making s (row.Link n name a b cost latency_a latency_b up) =
    row_making s (row.Link n name a b cost latency_a latency_b up)
use_making s (row.Terminator n service router host instance cost precedence) =
    row_making s (row.Terminator n service router host instance cost precedence)
use_making s (row.Intercept n i) = row_making s (row.Intercept n i)
use_making s x = []

-- The lines of a row, by whether it is told as a remark and whether its commands are said.
abbrev pub row_lines : Bool → Bool → State → Row → List ℕ
row_lines remarked said s x = cond remarked (remark (row_line s x)) [] ++ cond said (flat_map command_line (row_making s x)) []

-- The lines of a row in a dump.
abbrev pub row_dumped : State → Row → List ℕ
row_dumped s x = by_row (record {
  next = λ k n. [];
  setting = λ cost. [];
  one = λ k n r. dumped (listed.Records k) s (n, r);
  count = λ r a b c. [];
  intercept = λ n i. dumped listed.Intercepts s (n, i);
  serial = λ n. [];
}) x

-- The lines of a row that is of what is listed.
abbrev pub dumped_where : Listed → State → Row → List ℕ
dumped_where l s x = cond (is_of l x) (row_dumped s x) []

-- The least router cost behind a row, from that before it.
abbrev pub cost_behind : ℕ → Row → ℕ
cost_behind before x = by_row (record {
  next = λ k n. before;
  setting = λ cost. cost;
  one = λ k n r. before;
  count = λ r a b c. before;
  intercept = λ n i. before;
  serial = λ n. before;
}) x

-- That behind some rows.
abbrev pub cost_in : ℕ → List Row → ℕ
cost_in before [] = before
cost_in before (x ∷ xs) = cost_in (cost_behind before x) xs
