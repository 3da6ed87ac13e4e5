-- How many frames a load has.
use Rattle.std.proofs.Common.{◌≡◌, ℕ, zero, suc, ◌+◌, ◌==◌, Bool, true, false, cond, nat_le, List, length, refl, ◌∙◌, arith, length-append}
use Rattle.rand_pcg.specs.Lcg.{Lcg}
use Rattle.ctrl_model.specs.declared.commands.Command.{Command}
use Rattle.load_gen.specs.declared.groups.Group.TheVariants as group
use Rattle.load_gen.specs.Draws.{Drawn, draw, both, for_each_to, generator_of}
use Rattle.load_gen.specs.LoadCommands.{made_for, request_of, a_circuit, a_changed_identity, a_changed_cost, a_disconnection, a_connection, whole_load, load_commands}
use Rattle.load_gen.specs.LoadFrames.{load_frames}
use Rattle.load_gen.proofs.LoadLaws.{length-frames_from}

-- So many commands are drawn, whatever the generator.
abbrev Counts : Drawn (List Command) → ℕ → Type 0
Counts d n = (g : Lcg) → length (d g).0 ≡ n

counts_both : (d e : Drawn (List Command)) (j k : ℕ) → Counts d j → Counts e k → Counts (both d e) (j + k)
counts_both d e j k a b g = omega (arith, length-append (d g).0 (e (d g).1).0, a g, b (d g).1)

counts_each : (make : ℕ → Drawn (List Command)) → ((i : ℕ) → Counts (make i) 1) → (n : ℕ) → Counts (for_each_to n make) n
unfolding for_each_to
counts_each make one zero g = refl
counts_each make one (suc n) g =
    let before : Lcg = (for_each_to n make g).1 in
    omega (arith, length-append (for_each_to n make g).0 (make (suc n) before).0, counts_each make one n g, one (suc n) before)

counts_twice : (make : ℕ → Drawn (List Command)) → ((i : ℕ) → Counts (make i) 2) → (n : ℕ) → Counts (for_each_to n make) (n + n)
unfolding for_each_to
counts_twice make two zero g = refl
counts_twice make two (suc n) g =
    let before : Lcg = (for_each_to n make g).1 in
    omega (arith, length-append (for_each_to n make g).0 (make (suc n) before).0, counts_twice make two n g, two (suc n) before)

counts_request : (kind : ℕ) → Counts (request_of kind) 1
counts_request kind g = by (nat_le kind 5) (kind == 6) (kind == 7) (kind == 8)
  where
    by : (a b c d : Bool) → length (cond a a_circuit (cond b a_changed_identity (cond c a_changed_cost (cond d a_disconnection a_connection))) g).0 ≡ 1
    by true b c d = refl
    by false true c d = refl
    by false false true d = refl
    by false false false true = refl
    by false false false false = refl

counts_load : Counts whole_load 1364
counts_load =
    let requests = counts_each (made_for group.Requests) (λ i g. counts_request (draw 10 g).0 (draw 10 g).1) 1000 in
    let terminators = counts_both (for_each_to 40 (made_for group.Terminators)) (for_each_to 1000 (made_for group.Requests)) 40 1000 (counts_each (made_for group.Terminators) (λ i g. refl) 40) requests in
    let fourth : Drawn (List Command) = both (for_each_to 40 (made_for group.Terminators)) (for_each_to 1000 (made_for group.Requests)) in
    let third : Drawn (List Command) = both (for_each_to 4 (made_for group.ServiceEdgeRouterPolicies)) fourth in
    let second : Drawn (List Command) = both (for_each_to 6 (made_for group.EdgeRouterPolicies)) third in
    let first : Drawn (List Command) = both (for_each_to 20 (made_for group.ServicePolicies)) second in
    let links : Drawn (List Command) = both (for_each_to 30 (made_for group.Links)) first in
    let routers : Drawn (List Command) = both (for_each_to 12 (made_for group.Routers)) links in
    let services : Drawn (List Command) = both (for_each_to 40 (made_for group.Services)) routers in
    counts_both (for_each_to 200 (made_for group.Identities)) services 200 1164 (counts_each (made_for group.Identities) (λ i g. refl) 200)
    (counts_both (for_each_to 40 (made_for group.Services)) routers 40 1124 (counts_each (made_for group.Services) (λ i g. refl) 40)
    (counts_both (for_each_to 12 (made_for group.Routers)) links 24 1100 (counts_twice (made_for group.Routers) (λ i g. refl) 12)
    (counts_both (for_each_to 30 (made_for group.Links)) first 30 1070 (counts_each (made_for group.Links) (λ i g. refl) 30)
    (counts_both (for_each_to 20 (made_for group.ServicePolicies)) second 20 1050 (counts_each (made_for group.ServicePolicies) (λ i g. refl) 20)
    (counts_both (for_each_to 6 (made_for group.EdgeRouterPolicies)) third 6 1044 (counts_each (made_for group.EdgeRouterPolicies) (λ i g. refl) 6)
    (counts_both (for_each_to 4 (made_for group.ServiceEdgeRouterPolicies)) fourth 4 1040 (counts_each (made_for group.ServiceEdgeRouterPolicies) (λ i g. refl) 4)
    terminators))))))

pub frames_of_load : (n : ℕ) → length (load_frames n) ≡ 1364
frames_of_load n = length-frames_from 0 (load_commands n) ∙ counts_load (generator_of n)
