-- A command on terminators that some body spells has its cost in its range.
use Rattle.std.proofs.Common.{◌≡◌, ℕ, true, ◌&&◌, List, Option}
use Rattle.std.proofs.lemmas.Bool.{and_parts}
use Rattle.ctrl_model.specs.NameForm.{is_name, is_instance}
use Rattle.ctrl_model.specs.ValueForms.{is_cost, is_name_or_none, is_number}

pub made_cost : (service router instance : List ℕ) (host : Option (List ℕ)) (cost : ℕ)
    → (is_name service && (is_name router && (is_instance instance && (is_name_or_none host && is_cost cost)))) ≡ true → is_cost cost ≡ true
made_cost service router instance host cost spelled =
    let from_router = and_parts (is_name service) (is_name router && (is_instance instance && (is_name_or_none host && is_cost cost))) spelled in
    let from_instance = and_parts (is_name router) (is_instance instance && (is_name_or_none host && is_cost cost)) from_router.1 in
    let from_host = and_parts (is_instance instance) (is_name_or_none host && is_cost cost) from_instance.1 in
    (and_parts (is_name_or_none host) (is_cost cost) from_host.1).1

pub updated_cost : (n cost : ℕ) → (is_number n && is_cost cost) ≡ true → is_cost cost ≡ true
updated_cost n cost spelled = (and_parts (is_number n) (is_cost cost) spelled).1
