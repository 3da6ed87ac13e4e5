use Rattle.std.proofs.Common.{◌≡◌, not, nat_lt, nat_le, ◌||◌, [], length, is_some, ◌∙◌, ap}
use Rattle.ctrl_model.specs.Limits.{limit}
use Rattle.ctrl_model.specs.State.{Policy}
use Rattle.ctrl_model.specs.ValidState.{are_found}
use Rattle.entity_store.specs.AttributeUses.{has_attribute_room}
use Rattle.entity_store.specs.EntityTables.{number_of}
use Rattle.policy_store.specs.PolicyTables.{policies}
use Rattle.policy_store.specs.PolicyTables as tables
use Rattle.policy_commands.proofs.PolicyUses.{names_of}
use Rattle.ctrl_core.proofs.PolicyFlaws.{told_policy, found_ok, both_then, both_else, many_then, many_else}
use Rattle.ctrl_core.proofs.row_flaws.policy_flaw.Goals.{then-are_found, else-are_found, then-count-limit, else-count-limit}
use Rattle.ctrl_core.proofs.row_flaws.policy_flaw.Goals as goal

pub returns : goal.returns
returns c =
    let entities = c.args.stores.now.entities in
    let room = has_attribute_room entities [] (names_of c.args.policy.now) in
    let left = c.are_found.ensures ∙ (λ i. are_found (λ name. number_of (c.left_kind-left.ensures.kind i) name entities) (ap (λ (p : Policy). p.left) c.policy.view_is i)) in
    let same : (nat_le c.limit.result c.count.result || not room) ≡ (nat_le (limit c.args.kind) (length (policies c.args.kind c.args.stores.now.policies)) || not room) = λ i. nat_le (c.limit.ensures i) (c.count.ensures.count i) || not room in
    c.flaw.ensures
    ∙ told_policy c.args.kind c.args.coming.number c.args.coming.end c.is_out_of_order.result c.args.coming.sound c.is_ok.result c.if-are_found.found c.if-count-limit.found c.args.policy.now
    c.args.stores.now c.requires.kind c.requires.kept
    (c.is_out_of_order.ensures ∙ ap (λ n. nat_lt c.args.coming.number n || nat_le c.args.coming.end c.args.coming.number) c.next.ensures.next)
    c.requires.sound
    (c.is_ok.ensures.value ∙ found_ok _ _ c.find.result _ _ c.find.ensures.found ∙ ap (λ (p : Policy). is_some (tables.number_of c.args.kind p.name c.args.stores.now.policies)) c.policy.view_is)
    (elim c.if-are_found.branch [
      | then-are_found w ↦ both_then c.if-are_found.found c.are_found.result w.are_found-then-are_found.result _ _ w.found-is w.if-are_found.true left
          (w.are_found-then-are_found.ensures ∙ (λ i. are_found (λ name. number_of (c.right_kind-right.ensures.kind i) name entities) (ap (λ (p : Policy). p.right) c.policy.view_is i)))
      | else-are_found w ↦ both_else c.if-are_found.found c.are_found.result _ _ w.found-is w.if-are_found.false left
    ])
    (elim c.if-count-limit.branch [
      | then-count-limit w ↦ many_then c.if-count-limit.found c.limit.result c.count.result room w.found-is w.if-count-limit.true ∙ same
      | else-count-limit w ↦ many_else c.if-count-limit.found c.limit.result c.count.result w.has_room.result room w.found-is w.if-count-limit.false
          (w.has_room.ensures ∙ (λ i. has_attribute_room entities ((c.of-none.ensures ∙ c.new.ensures.items) i) (c.in_ok-names.ensures i))) ∙ same
    ])
