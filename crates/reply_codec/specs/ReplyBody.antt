-- The bodies of replies: compact JSON with keys in ascending order, or no bytes (docs/FORMATS.md, "Replies", "Refusals").
use Rattle.std.specs.Prelude.{ℕ, ◌==◌, cond, Bool, true, false, List, [], ◌∷◌, codes, map, None, Some}
use Rattle.std.specs.declared.option.Option.{Option}
use Rattle.std.specs.Option.{option_map_or}
use Rattle.serde_json.specs.Data.{Data, null, boolean, number, unsigned, string, array, object, Members, no_members, member}
use Rattle.serde_json.specs.View.{items_of}
use Rattle.serde_json.specs.Written.{compact_text}
use Rattle.ctrl_model.specs.Claims.{no_path}
use Rattle.ctrl_model.specs.Words.{word_of}
use Rattle.ctrl_model.specs.declared.claims.Explanation.{Explanation}
use Rattle.ctrl_model.specs.declared.claims.Reach.{Reach}
use Rattle.ctrl_model.specs.declared.kinds.Kind.{Kind}
use Rattle.ctrl_model.specs.declared.kinds.Kind.TheVariants as kind
use Rattle.ctrl_model.specs.declared.refusals.Denial.{Denial}
use Rattle.ctrl_model.specs.declared.refusals.Denial.TheVariants as denial
use Rattle.ctrl_model.specs.declared.refusals.Reason.{Reason}
use Rattle.ctrl_model.specs.declared.refusals.Reason.TheVariants as reason
use Rattle.ctrl_model.specs.declared.refusals.Refusal.{Refusal}
use Rattle.ctrl_model.specs.declared.refusals.Refusal.TheVariants as refusal
use Rattle.ctrl_model.specs.declared.replies.Reply.{Reply}
use Rattle.ctrl_model.specs.declared.replies.Reply.TheVariants as reply
use Rattle.ctrl_model.specs.declared.replies.Tally.{Tally}

-- The word of a kind.
abbrev pub kind_word : Kind → List ℕ
kind_word kind.Identity = codes "identity"
kind_word kind.Service = codes "service"
kind_word kind.Router = codes "router"
kind_word kind.Link = codes "link"
kind_word kind.ServicePolicy = codes "service_policy"
kind_word kind.EdgeRouterPolicy = codes "edge_router_policy"
kind_word kind.ServiceEdgeRouterPolicy = codes "service_edge_router_policy"
kind_word kind.Terminator = codes "terminator"
kind_word kind.Circuit = codes "circuit"
kind_word kind.Attribute = codes "attribute"

-- The word of a reason.
abbrev pub reason_word : Reason → List ℕ
reason_word reason.NotObject = codes "NotObject"
reason_word reason.Missing = codes "Missing"
reason_word reason.WrongKind = codes "WrongKind"
reason_word reason.Unknown = codes "Unknown"

-- The number of a denial.
abbrev pub denial_number : Denial → ℕ
denial_number denial.UnknownIdentity = 30
denial_number denial.UnknownService = 31
denial_number denial.UnknownRouter = 32
denial_number denial.NoDial = 33
denial_number denial.NoSharedRouter = 34
denial_number denial.SharedRoutersOffline = 35
denial_number denial.NoTerminators = 36
denial_number denial.NoAdmissibleTerminator = 37
denial_number denial.NoPath = 38
denial_number denial.CircuitsFull = 39

-- The name of a denial.
abbrev pub denial_name : Denial → List ℕ
denial_name denial.UnknownIdentity = codes "UnknownIdentity"
denial_name denial.UnknownService = codes "UnknownService"
denial_name denial.UnknownRouter = codes "UnknownRouter"
denial_name denial.NoDial = codes "NoDial"
denial_name denial.NoSharedRouter = codes "NoSharedRouter"
denial_name denial.SharedRoutersOffline = codes "SharedRoutersOffline"
denial_name denial.NoTerminators = codes "NoTerminators"
denial_name denial.NoAdmissibleTerminator = codes "NoAdmissibleTerminator"
denial_name denial.NoPath = codes "NoPath"
denial_name denial.CircuitsFull = codes "CircuitsFull"

-- A number.
abbrev pub natural : ℕ → Data
natural n = number (unsigned n)

-- A list of numbers.
abbrev pub naturals : List ℕ → Data
naturals ns = array (items_of (map natural ns))

-- A list of texts.
abbrev pub strings : List (List ℕ) → Data
strings names = array (items_of (map string names))

-- A name and its count.
abbrev pub tally_array : Tally → Data
tally_array t = array (items_of (string t.name ∷ natural t.count ∷ []))

-- A list of names with their counts.
abbrev pub tally_arrays : List Tally → Data
tally_arrays ts = array (items_of (map tally_array ts))

-- The least cost of a path, null where there is none.
abbrev pub cost_or_null : ℕ → Data
cost_or_null n = cond (n == no_path) null (natural n)

-- An entry of an explanation.
abbrev pub reach_object : Reach → Data
reach_object e = object (
    member (codes "router") (natural e.router.0)
    (member (codes "values") (array (items_of (map cost_or_null e.values)))
    no_members))

-- A list of such entries.
abbrev pub reach_objects : List Reach → Data
reach_objects es = array (items_of (map reach_object es))

-- A refusal that has a number and a name alone.
abbrev pub plain_refusal : ℕ → List ℕ → Data
plain_refusal code name = object (member (codes "code") (natural code) (member (codes "name") (string name) no_members))

-- The object of a refusal.
abbrev pub refusal_object : Refusal → Data
refusal_object refusal.UnsupportedType = plain_refusal 10 (codes "UnsupportedType")
refusal_object (refusal.BadBody of_field why) = object (
    member (codes "code") (natural 11)
    (member (codes "field") (string (word_of of_field))
    (member (codes "name") (string (codes "BadBody"))
    (member (codes "reason") (string (reason_word why))
    no_members))))
refusal_object refusal.NotPermitted = plain_refusal 12 (codes "NotPermitted")
refusal_object refusal.Exists = plain_refusal 20 (codes "Exists")
refusal_object (refusal.Unknown of_field) = object (
    member (codes "code") (natural 21)
    (member (codes "field") (string (word_of of_field))
    (member (codes "name") (string (codes "Unknown"))
    no_members)))
refusal_object (refusal.UnknownRef of_field name) = object (
    member (codes "code") (natural 23)
    (member (codes "field") (string (word_of of_field))
    (member (codes "name") (string (codes "UnknownRef"))
    (member (codes "ref") (string name)
    no_members))))
refusal_object (refusal.Full of_kind) = object (
    member (codes "code") (natural 24)
    (member (codes "kind") (string (kind_word of_kind))
    (member (codes "name") (string (codes "Full"))
    no_members)))
refusal_object refusal.SameRouter = plain_refusal 25 (codes "SameRouter")
refusal_object refusal.NotBindable = plain_refusal 26 (codes "NotBindable")
refusal_object (refusal.Denied why) = plain_refusal (denial_number why) (denial_name why)
refusal_object refusal.JournalFull = plain_refusal 40 (codes "JournalFull")
refusal_object refusal.MarkFull = plain_refusal 41 (codes "MarkFull")
refusal_object refusal.NoIntercept = plain_refusal 50 (codes "NoIntercept")

-- The members of an explanation behind that of the ingress's name.
abbrev pub claim_members : Explanation → Members
claim_members claim =
    member (codes "links") (naturals claim.links)
    (member (codes "potentials") (reach_objects claim.potentials)
    (member (codes "routers") (naturals claim.routers)
    (member (codes "terminator") (natural claim.terminator.0)
    (member (codes "total") (natural claim.total)
    no_members))))

-- The object of a reply, if it has one: that to Hello has none.
abbrev pub reply_object : Reply → Option Data
reply_object reply.Empty = None
reply_object reply.Done = Some (object no_members)
reply_object (reply.Made n) = Some (object (member (codes "no") (natural n) no_members))
reply_object (reply.Circuit circuit ingress links terminator total) = Some (object (
    member (codes "circuit") (natural circuit.0)
    (member (codes "ingress") (string ingress)
    (member (codes "links") (naturals links)
    (member (codes "terminator") (natural terminator.0)
    (member (codes "total") (natural total)
    no_members))))))
reply_object (reply.Explained ingress claim) = Some (object (member (codes "ingress") (string ingress) (claim_members claim)))
reply_object (reply.Verified certified) = Some (object (member (codes "certified") (boolean certified) no_members))
reply_object (reply.Services names) = Some (object (member (codes "services") (strings names) no_members))
reply_object (reply.Grants bind dial routers) = Some (object (
    member (codes "bind") (tally_arrays bind)
    (member (codes "dial") (tally_arrays dial)
    (member (codes "routers") (tally_arrays routers)
    no_members))))
reply_object (reply.Shown identity ingress links service terminator) = Some (object (
    member (codes "identity") (string identity)
    (member (codes "ingress") (string ingress)
    (member (codes "links") (naturals links)
    (member (codes "service") (string service)
    (member (codes "terminator") (natural terminator.0)
    no_members))))))
reply_object (reply.Counts circuits grants identities links policies routers services terminators) = Some (object (
    member (codes "circuits") (natural circuits)
    (member (codes "grants") (natural grants)
    (member (codes "identities") (natural identities)
    (member (codes "links") (natural links)
    (member (codes "policies") (natural policies)
    (member (codes "routers") (natural routers)
    (member (codes "services") (natural services)
    (member (codes "terminators") (natural terminators)
    no_members)))))))))
reply_object (reply.Picked address low high service) = Some (object (
    member (codes "address") (string address)
    (member (codes "high") (natural high)
    (member (codes "low") (natural low)
    (member (codes "service") (string service)
    no_members)))))
reply_object (reply.Clashes names) = Some (object (member (codes "clashes") (strings names) no_members))
reply_object (reply.Refused r) = Some (refusal_object r)

-- Whether a reply shows what there is: the services that an identity may dial, its grants, a circuit, the counts, the service that a
-- destination belongs to, or the services that clash with one.
abbrev pub is_showing : Reply → Bool
is_showing (reply.Services names) = true
is_showing (reply.Grants bind dial routers) = true
is_showing (reply.Shown identity ingress links service terminator) = true
is_showing (reply.Counts circuits grants identities links policies routers services terminators) = true
is_showing (reply.Picked address low high service) = true
is_showing (reply.Clashes names) = true
is_showing _ = false

-- The body of a reply: its object as compact JSON, or no bytes.
abbrev pub reply_body : Reply → List ℕ
reply_body r = option_map_or compact_text (reply_object r) []
