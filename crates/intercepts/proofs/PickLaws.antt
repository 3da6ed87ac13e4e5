-- Laws of the hit that is picked: the order of the services does not count.
use Rattle.std.proofs.Common.{◌≡◌, ◌↔◌, ℕ, Bool, true, List, Option, None, Some, refl, sym}
use Rattle.ctrl_model.specs.declared.addresses.Address.{Address}
use Rattle.ctrl_model.specs.declared.intercepts.Intercept.{Intercept}
use Rattle.ctrl_model.specs.Hits.{Hit, picked, IsHit, are_intercepts}
use Rattle.ctrl_model.specs.Membership.{Among}
use Rattle.model_laws.proofs.HitLaws.{picked_is, is_picked, none_picked, no_hit}

-- a hit of some services is one of others among which its service is
moved : (intercepts : List (ℕ × Intercept)) (dialled others : List ℕ) (udp : Bool) (to : Address) (port : ℕ) (h : Hit)
    → (Among h.service dialled → Among h.service others) → IsHit intercepts dialled udp to port h → IsHit intercepts others udp to port h
moved intercepts dialled others udp to port h over is = record {
  intercept = is.intercept;
  dials = over is.dials;
  claims = is.claims;
  protocol = is.protocol;
  address = is.address;
  is_near = is.is_near;
  range = is.range;
  from = is.from;
  upto = is.upto;
}

pub picked-any_order : (intercepts : List (ℕ × Intercept)) (dialled others : List ℕ) (udp : Bool) (to : Address) (port : ℕ) → are_intercepts intercepts ≡ true
    → ((n : ℕ) → Among n dialled ↔ Among n others) → picked intercepts dialled udp to port ≡ picked intercepts others udp to port
picked-any_order intercepts dialled others udp to port all same = by (picked intercepts dialled udp to port) refl
  where
    by : (o : Option Hit) → picked intercepts dialled udp to port ≡ o → o ≡ picked intercepts others udp to port
    by None e =
        sym (no_hit intercepts others udp to port λ h is. none_picked intercepts dialled udp to port e h (moved intercepts others dialled udp to port h (same h.service).1 is))
    by (Some h) e =
        let p = picked_is intercepts dialled udp to port h e in
        sym (is_picked intercepts others udp to port h all (record {
          is_hit = moved intercepts dialled others udp to port h (same h.service).0 p.is_hit;
          first = λ g is. p.first g (moved intercepts others dialled udp to port g (same g.service).1 is);
        }))
