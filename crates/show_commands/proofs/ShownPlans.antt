-- What is shown, as the answer to its command.
use Rattle.std.proofs.Common.{◌≡◌, ℕ, nat_lt, List, map, None, Some, sym, ◌∙◌, ap}
use Rattle.std.proofs.lemmas.Simd.{map-map}
use Rattle.std.specs.Option.{unwrap_or}
use Rattle.std.specs.List.{filter}
use Rattle.ctrl_model.specs.declared.kinds.Kind.TheVariants as kind
use Rattle.ctrl_model.specs.declared.refusals.Field.TheVariants as field
use Rattle.ctrl_model.specs.declared.refusals.Refusal.TheVariants.{Unknown}
use Rattle.ctrl_model.specs.declared.replies.Reply.{Reply}
use Rattle.ctrl_model.specs.declared.replies.Reply.TheVariants as reply
use Rattle.ctrl_model.specs.declared.replies.Tally.{Tally}
use Rattle.ctrl_model.specs.State.{State, Entity, entity_named}
use Rattle.ctrl_model.specs.Rules.{shown, unknown_if_absent}
use Rattle.ctrl_model.specs.ShowCommands.{tally_of, tallies, grants_of, services_of}
use Rattle.entity_store.specs.EntityTables.{entities}
use Rattle.grant_denorm.specs.PairCounts.{count_of}
use Rattle.show_commands.specs.declared.shown_parts.Shown.{Shown}
use Rattle.show_commands.specs.ShownParts.{Shows, with_shown}

-- ---- an identity that nothing is

-- what is shown of an identity is refused where nothing has the name
pub unknown_said : (reply_of : ℕ → State → Reply) (name : List ℕ) (s : State) (said : Reply) → entity_named s.identities.rows name ≡ None → said ≡ reply.Refused (Unknown field.Identity)
    → shown (unknown_if_absent field.Identity (entity_named s.identities.rows name)) s (reply_of (unwrap_or (entity_named s.identities.rows name) 0) s) ≡ (said, s)
unknown_said reply_of name s said absent is =
    ap (λ found. shown (unknown_if_absent field.Identity found) s (reply_of (unwrap_or found 0) s)) absent ∙ ap (λ (r : Reply). (r, s)) (sym is)

-- and is told of its number where one has it
pub known_said : (reply_of : ℕ → State → Reply) (name : List ℕ) (s : State) (n : ℕ) (said : Reply) → entity_named s.identities.rows name ≡ Some n → said ≡ reply_of n s
    → shown (unknown_if_absent field.Identity (entity_named s.identities.rows name)) s (reply_of (unwrap_or (entity_named s.identities.rows name) 0) s) ≡ (said, s)
known_said reply_of name s n said named is =
    ap (λ found. shown (unknown_if_absent field.Identity found) s (reply_of (unwrap_or found 0) s)) named ∙ ap (λ (r : Reply). (r, s)) (sym is)

-- ---- what an identity is granted

pub grants_said : (p : Shown) (s : State) (n : ℕ) (bind dial routers : List Tally) → Shows p s → bind ≡ tallies (count_of p.bind.now n) p.entities.now.services.rows
    → dial ≡ tallies (count_of p.dial.now n) p.entities.now.services.rows → routers ≡ tallies (count_of p.identity_router.now n) (entities kind.Router p.entities.now)
    → reply.Grants bind dial routers ≡ grants_of n (with_shown p s)
grants_said p s n bind dial routers shows bound dialled routed = λ i.
    reply.Grants ((bound ∙ (λ j. tallies (λ b. shows.bind n b j) p.entities.now.services.rows)) i)
    ((dialled ∙ (λ j. tallies (λ b. shows.dial n b j) p.entities.now.services.rows)) i)
    ((routed ∙ (λ j. tallies (λ b. shows.identity_router n b j) (entities kind.Router p.entities.now))) i)

pub services_said : (p : Shown) (s : State) (n : ℕ) (names : List (List ℕ)) (dialled : List Tally) → Shows p s → names ≡ map (λ (t : Tally). t.name) dialled
    → dialled ≡ tallies (count_of p.dial.now n) p.entities.now.services.rows → reply.Services names ≡ services_of n (with_shown p s)
services_said p s n names dialled shows told dials = ap reply.Services
    (told ∙ ap (map (λ (t : Tally). t.name)) dials
    ∙ map-map (λ (t : Tally). t.name) (tally_of (count_of p.dial.now n)) (filter (λ row. nat_lt 0 (count_of p.dial.now n row.0)) p.entities.now.services.rows)
    ∙ (λ i. map (λ (row : ℕ × Entity). row.1.name) (filter (λ row. nat_lt 0 (shows.dial n row.0 i)) p.entities.now.services.rows)))
