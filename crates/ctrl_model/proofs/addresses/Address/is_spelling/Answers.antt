use Rattle.std.proofs.Common.{◌≡◌, ◌∙◌, ◌&&◌, ◌||◌, ap, sym, refl, true, bytes_eq, map, Option, None, Some}
use Rattle.std.proofs.lemmas.Bool.{or_right}
use Rattle.std.specs.Option.{is_some, option_map}
use Rattle.ctrl_model.specs.AddressForm.{lowered, is_host, under_of}
use Rattle.ctrl_model.proofs.AddressLaws.{small_bytes, spelled_host}
use Rattle.ctrl_model.proofs.addresses.Address.is_spelling.Goals as goal
use Rattle.ctrl_model.proofs.addresses.Address.is_spelling.Goals.{then-is_some-2, else-is_some-2}

mapped_there : {A B : Type 0} (f : A → B) (o : Option A) → is_some (option_map f o) ≡ is_some o
mapped_there f None = refl
mapped_there f (Some x) = refl

pub returns-then-is_host : goal.returns-then-is_host
returns-then-is_host c =
    let w = c.args.bytes.now in
    let told : (is_some (under_of w) || is_host w) ≡ true =
    elim c.if-is_some-2.branch [
      | then-is_some-2 v ↦
          ap (λ t. t || is_host w) (ap is_some (sym c.host_behind.ensures) ∙ mapped_there (λ host. map lowered host.now) c.host_behind.result ∙ sym c.is_some-2.ensures ∙ v.if-is_some-2.true)
      | else-is_some-2 v ↦ or_right (is_some (under_of w)) (is_host w) (sym v.is_host.ensures ∙ sym v.value-is ∙ c.if-is_host.true)
    ] in
    record {
      form = c.is_small.ensures ∙ small_bytes w ∙ ap (λ t. t && bytes_eq (map lowered w) w) (sym told)
          ∙ spelled_host w (ap is_some (sym c.range_of.ensures) ∙ sym c.is_some.ensures ∙ c.if-is_some.false);
    }
