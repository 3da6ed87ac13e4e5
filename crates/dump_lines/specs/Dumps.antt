-- A state as lines of the commands that make its records, in an order in which each can be answered (docs/FORMATS.md, "Lines of a
-- dump"). A record without a name is a remark, by its line, so that its number is told.
use Rattle.std.specs.Prelude.{ℕ, ◌&&◌, Bool, true, false, not, cond, List, [], ◌∷◌, ◌++◌, codes}
use Rattle.std.specs.List.{flat_map, list_all}
use Rattle.std.specs.Option.{option_map, option_map_or}
use Rattle.ctrl_model.specs.SpelledCommands.{is_spelled}
use Rattle.ctrl_model.specs.declared.commands.Command.{Command}
use Rattle.ctrl_model.specs.declared.commands.Command.TheVariants as command
use Rattle.ctrl_model.specs.declared.intercepts.Intercept.{Intercept}
use Rattle.ctrl_model.specs.declared.kinds.Kind.{Kind}
use Rattle.ctrl_model.specs.declared.kinds.Kind.TheVariants as kind
use Rattle.ctrl_model.specs.declared.kinds.Relation.TheVariants.{Bind}
use Rattle.ctrl_model.specs.declared.kinds.Semantic.TheVariants.{AnyOf}
use Rattle.ctrl_model.specs.declared.kinds.Side.{Side}
use Rattle.ctrl_model.specs.State.{State, Router, Link, Terminator}
use Rattle.ctrl_model.specs.Tables.{Record, has_names}
use Rattle.ctrl_model.specs.ContentTypes.{content_of}
use Rattle.command_bodies.specs.BodyTexts.{body_text}
use Rattle.frame_lines.specs.FrameLines.{body_words, name_or}
use Rattle.frame_lines.specs.TypeNames.{name_numbered}
use Rattle.record_lines.specs.declared.listing.Listed.{Listed}
use Rattle.record_lines.specs.declared.listing.Listed.TheVariants as listed
use Rattle.record_lines.specs.RecordLines.{Entry, entries, entry_line}
use Rattle.record_lines.specs.RecordNames.{name_of}

-- ---- the commands that make a record

-- The side of one `@` name.
abbrev pub lone_side : List ℕ → Side
lone_side name = record { all = false; ids = name ∷ []; attributes = [] }

-- A command, and about it those that lend an identity Bind on a service for its time, by a policy of the identity's name. No other
-- policy is there by then.
abbrev pub lending : List ℕ → List ℕ → Command → List Command
lending identity service c =
    command.CreateServicePolicy identity Bind AnyOf (lone_side identity) (lone_side service) ∷ c ∷ command.DeleteServicePolicy identity ∷ []

-- A router is made, and then connected if it is.
abbrev pub making_router : Router → List Command
making_router r =
    command.CreateRouter r.name r.attributes r.cost (not r.through) ∷ cond r.connected (command.ConnectRouter r.name ∷ []) []

-- A link is made, and then reported down if it is.
abbrev pub making_link : State → Link → List Command
making_link s l =
    command.CreateLink l.name (name_of kind.Router s l.a) (name_of kind.Router s l.b) l.cost l.latency_a l.latency_b
    ∷ cond l.up [] (command.ReportState l.name (name_of kind.Router s l.a) false ∷ [])

-- The command that makes a terminator.
abbrev pub new_terminator : State → Terminator → Command
new_terminator s e =
    command.CreateTerminator (name_of kind.Service s e.service) (name_of kind.Router s e.router) e.instance
    (option_map (name_of kind.Identity s) e.host) e.cost e.precedence

-- A terminator is made. Its host, if it has one, may have lost Bind since, so Bind is lent.
abbrev pub making_terminator : State → Terminator → List Command
making_terminator s e =
    option_map_or (λ h. lending (name_of kind.Identity s h) (name_of kind.Service s e.service) (new_terminator s e)) e.host (new_terminator s e ∷ [])

-- The commands that make a record of a kind. They name other records as they are named in the state. None makes a circuit.
abbrev pub making_record : (k : Kind) → State → Record k → List Command
making_record kind.Identity s e = command.CreateIdentity e.name e.attributes ∷ []
making_record kind.Service s e = command.CreateService e.name e.attributes ∷ []
making_record kind.Router s r = making_router r
making_record kind.Link s l = making_link s l
making_record kind.ServicePolicy s p = command.CreateServicePolicy p.name p.relation p.semantic p.left p.right ∷ []
making_record kind.EdgeRouterPolicy s p = command.CreateEdgeRouterPolicy p.name p.semantic p.left p.right ∷ []
making_record kind.ServiceEdgeRouterPolicy s p = command.CreateServiceEdgeRouterPolicy p.name p.semantic p.left p.right ∷ []
making_record kind.Terminator s e = making_terminator s e
making_record k s r = []

-- The command that sets an intercept.
abbrev pub making_intercept : State → ℕ × Intercept → List Command
making_intercept s x = command.SetIntercept (name_of kind.Service s x.0) x.1 ∷ []

-- The commands that make a record, or set an intercept.
abbrev pub making : (l : Listed) → State → ℕ × Entry l → List Command
making (listed.Records k) s x = making_record k s x.1
making listed.Intercepts s x = making_intercept s x

-- ---- lines

-- The line of a command: its name, and its body behind a space.
unfoldable pub command_line : Command → List ℕ
command_line c = name_or (name_numbered (content_of c)) (content_of c) ++ (body_words (body_text c) ++ codes "\n")

-- Whether some line says each command.
abbrev pub are_spelled : List Command → Bool
are_spelled cs = list_all is_spelled cs

-- Whether a record or an intercept has a name to be told by.
abbrev pub has_a_name : Listed → Bool
has_a_name (listed.Records k) = has_names k
has_a_name listed.Intercepts = true

-- Whether it is told as a remark: it has no name, or no line says the commands that make it, as where a policy names the attribute
-- `all`.
abbrev pub is_remarked : (l : Listed) → State → ℕ × Entry l → Bool
is_remarked l s x = not (has_a_name l && are_spelled (making l s x))

-- A line as a remark, which the reader of lines passes.
abbrev pub remark : List ℕ → List ℕ
remark line = codes "# " ++ line

-- The lines of one of what is listed: a remark, if it is told as one, and the commands that make it, if some lines say them.
abbrev pub dumped : (l : Listed) → State → ℕ × Entry l → List ℕ
dumped l s x =
    cond (is_remarked l s x) (remark (entry_line l s x)) [] ++ cond (are_spelled (making l s x)) (flat_map command_line (making l s x)) []

-- The lines of what is listed, in the order of the numbers.
abbrev pub section : State → Listed → List ℕ
section s l = flat_map (dumped l s) (entries l s)

-- The sections of a dump. What a command names is made before it, and terminators are made before any policy is.
abbrev pub sections : List Listed
sections =
    listed.Records kind.Identity ∷ listed.Records kind.Service ∷ listed.Records kind.Router ∷ listed.Records kind.Link
    ∷ listed.Records kind.Terminator ∷ listed.Records kind.ServicePolicy ∷ listed.Records kind.EdgeRouterPolicy
    ∷ listed.Records kind.ServiceEdgeRouterPolicy ∷ listed.Intercepts ∷ listed.Records kind.Circuit ∷ []

-- The command that sets what is no record.
abbrev pub setting : State → Command
setting s = command.SetLeastRouterCost s.least_router_cost

-- The lines of a state: the setting, and the sections.
abbrev pub dump_lines : State → List ℕ
dump_lines s = command_line (setting s) ++ flat_map (section s) sections

-- The commands that make what is listed.
abbrev pub section_commands : State → Listed → List Command
section_commands s l = flat_map (making l s) (entries l s)

-- The commands that the lines of a dump say, where each is spelled.
abbrev pub dump_commands : State → List Command
dump_commands s = setting s ∷ flat_map (section_commands s) sections
