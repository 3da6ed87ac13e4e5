-- The report of an advice: one line of compact JSON (docs/FORMATS.md, "Reports").
use Rattle.std.specs.Prelude.{ℕ, List, [], ◌∷◌, ◌++◌, codes, map, is_none}
use Rattle.std.specs.Option.{option_map_or}
use Rattle.serde_json.specs.Data.{Data, boolean, string, array, object, member, no_members}
use Rattle.serde_json.specs.View.{items_of}
use Rattle.serde_json.specs.Written.{compact_text}
use Rattle.ctrl_model.specs.Numbered.{at}
use Rattle.ctrl_model.specs.State.{State, Router}
use Rattle.reply_codec.specs.ReplyBody.{natural, naturals, denial_number}
use Rattle.policy_advisor.specs.declared.advised.Advice.{Advice}
use Rattle.policy_advisor.specs.declared.advised.Marked.{Marked}
use Rattle.policy_advisor.specs.Advice.{advice_of}

-- The name of the router of a number.
abbrev pub router_name : List (ℕ × Router) → ℕ → List ℕ
router_name routers n = option_map_or (λ (r : Router). r.name) (at routers n) []

-- The names of the routers of some numbers.
abbrev pub router_names : List (ℕ × Router) → List ℕ → Data
router_names routers ns = array (items_of (map (λ n. string (router_name routers n)) ns))

-- A policy by its name, with its two marks.
abbrev pub mark_array : Marked → Data
mark_array m = array (items_of (string m.name ∷ boolean m.left ∷ boolean m.right ∷ []))

-- A list of such policies.
abbrev pub mark_arrays : List Marked → Data
mark_arrays ms = array (items_of (map mark_array ms))

-- The object of an advice, whose lists are written so: the rule by its number, 0 where there is none; it says yes where there is none.
abbrev pub object_with : Advice → (admissible common online policies terminators : Data) → Data
object_with a admissible common online policies terminators = object (
    member (codes "admissible") admissible
    (member (codes "bind") (natural a.bind)
    (member (codes "common") common
    (member (codes "dial") (natural a.dial)
    (member (codes "online") online
    (member (codes "policies") policies
    (member (codes "rule") (natural (option_map_or denial_number a.rule 0))
    (member (codes "terminators") terminators
    (member (codes "yes") (boolean (is_none a.rule))
    no_members)))))))))

-- The object of an advice, with routers by their names.
abbrev pub report_object : List (ℕ × Router) → Advice → Data
report_object routers a =
    object_with a (naturals a.admissible) (router_names routers a.common) (router_names routers a.online) (mark_arrays a.policies) (naturals a.terminators)

-- The line of an advice, with its newline.
abbrev pub report_line : List (ℕ × Router) → Advice → List ℕ
report_line routers a = compact_text (report_object routers a) ++ codes "\n"

-- The report of a state on the names of an identity and of a service.
abbrev pub report_of : State → List ℕ → List ℕ → List ℕ
report_of s identity service = report_line s.routers.rows (advice_of s identity service)
