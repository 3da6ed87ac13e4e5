-- Laws of hits: which there are, that those of one rank are one, and which one is picked.
use Rattle.std.proofs.Common.{◌≡◌, ℕ, ◌+◌, ◌-◌, ◌≤◌, ◌==◌, Bool, true, false, nat_le, cond, List, [], ◌∷◌, get_or, bytes_eq, map, filter, Option, Some, None, refl, sym, ap, ap₂, ◌∙◌, subst, arith, leb-true, le-leb, eqb-true, flat_map}
use Rattle.std.proofs.lemmas.Bool.{and_from, and_parts}
use Rattle.std.proofs.lemmas.Option.{none-some, same_Some, cond_some}
use Rattle.std.proofs.lemmas.Slice.Eq.{bytes_eq-Decides}
use Rattle.std.specs.Option.{option_map, option_map_or}
use Rattle.std.specs.List.{list_all}
use Rattle.ctrl_model.specs.declared.addresses.Address.{Address}
use Rattle.ctrl_model.specs.declared.addresses.Address.TheVariants.{Host, Under, Range}
use Rattle.ctrl_model.specs.declared.intercepts.PortRange.{PortRange}
use Rattle.ctrl_model.specs.declared.intercepts.Intercept.{Intercept}
use Rattle.ctrl_model.specs.AddressForm.{first_bits, same_address, is_address}
use Rattle.ctrl_model.specs.InterceptForm.{is_claim, is_intercept}
use Rattle.ctrl_model.specs.Hits.{labels_before, nearness, has_protocol, has_port, Hit, hits_at, hits_in, hits_of, hits, hit_rank, picked, IsHit, IsPicked, are_intercepts}
use Rattle.ctrl_model.specs.Membership.{Among}
use Rattle.ctrl_model.specs.Numbered.{at}
use Rattle.ctrl_model.specs.Ranks.{least_by}
use Rattle.ctrl_model.proofs.Members.{Among-map, by_map, Among-flat_map, by_flat_map, Among-filter, by_filter, list_all-among}
use Rattle.ctrl_model.proofs.AddressLaws.{bits_within}
use Rattle.model_laws.proofs.BestLaws.{IsFirst, least_by-there, least_by-first, same_rank}

-- ---- the hits are what one is said to be

module _ (intercepts : List (ℕ × Intercept)) (dialled : List ℕ) (udp : Bool) (to : Address) (port : ℕ) where
  abbrev hit : ℕ → ℕ → Address → PortRange → Hit
  hit service near a r = record { service = service; near = near; address = a; ports = r }

  from_address : (service : ℕ) (i : Intercept) (a : Address) (h : Hit) → Among service dialled → at intercepts service ≡ Some i → has_protocol udp i ≡ true → Among a i.addresses
      → Among h (hits_at service i.ports port to a) → IsHit intercepts dialled udp to port h
  from_address service i a h dials claims protocol address m = by (nearness a to) refl m where
    by : (o : Option ℕ) → nearness a to ≡ o → Among h (option_map_or (λ near. map (λ r. record { service = service; near = near; address = a; ports = r }) (filter (has_port port) i.ports)) o []) → IsHit intercepts dialled udp to port h
    by None e m = absurd m
    by (Some near) e m =
        by_map (hit service near a) (filter (has_port port) i.ports) h m λ r among is.
        by_filter (has_port port) i.ports r among λ range has.
        let q = and_parts (nat_le r.low port) (nat_le port r.high) has in
        subst (IsHit intercepts dialled udp to port) is (record {
          intercept = i;
          dials = dials;
          claims = claims;
          protocol = protocol;
          address = address;
          is_near = e;
          range = range;
          from = leb-true r.low port q.0;
          upto = leb-true port r.high q.1;
        })

  from_service : (service : ℕ) (h : Hit) → Among service dialled → Among h (hits_of intercepts udp to port service) → IsHit intercepts dialled udp to port h
  from_service service h dials m = by (at intercepts service) refl m where
    protocol : (i : Intercept) (b : Bool) → at intercepts service ≡ Some i → has_protocol udp i ≡ b → Among h (cond b (flat_map (hits_at service i.ports port to) i.addresses) []) → IsHit intercepts dialled udp to port h
    protocol i false claims e m = absurd m
    protocol i true claims e m = by_flat_map (hits_at service i.ports port to) i.addresses h m λ a address among. from_address service i a h dials claims e address among

    by : (o : Option Intercept) → at intercepts service ≡ o → Among h (option_map_or (hits_in udp to port service) o []) → IsHit intercepts dialled udp to port h
    by None e m = absurd m
    by (Some i) e m = protocol i (has_protocol udp i) e refl m

  pub is_hit : (h : Hit) → Among h (hits intercepts dialled udp to port) → IsHit intercepts dialled udp to port h
  is_hit h m = by_flat_map (hits_of intercepts udp to port) dialled h m λ service dials among. from_service service h dials among

  pub among_hits : (h : Hit) → IsHit intercepts dialled udp to port h → Among h (hits intercepts dialled udp to port)
  among_hits h is =
      let i = is.intercept in
      let has : has_port port h.ports ≡ true = and_from _ _ (le-leb h.ports.low port is.from) (le-leb port h.ports.high is.upto) in
      let kept = Among-filter (has_port port) i.ports h.ports is.range has in
      let made : Among h (map (hit h.service h.near h.address) (filter (has_port port) i.ports)) = Among-map (hit h.service h.near h.address) (filter (has_port port) i.ports) h.ports kept in
      let near : Among h (hits_at h.service i.ports port to h.address) =
      subst (λ o. Among h (option_map_or (λ n. map (hit h.service n h.address) (filter (has_port port) i.ports)) o [])) (sym is.is_near) made in
      let inside = Among-flat_map (hits_at h.service i.ports port to) i.addresses h.address h is.address near in
      let served : Among h (hits_in udp to port h.service i) = subst (λ b. Among h (cond b (flat_map (hits_at h.service i.ports port to) i.addresses) [])) (sym is.protocol) inside in
      let given : Among h (hits_of intercepts udp to port h.service) = subst (λ o. Among h (option_map_or (hits_in udp to port h.service) o [])) (sym is.claims) served in
      Among-flat_map (hits_of intercepts udp to port) dialled h.service h is.dials given

-- ---- addresses that are as near to one destination are one

one_more : {P : Type 0} (t host : List ℕ) (n : ℕ) → option_map (λ m. m + 1) (labels_before t host) ≡ Some n → ((m : ℕ) → labels_before t host ≡ Some m → m + 1 ≡ n → P) → P
one_more {P} t host n e k = by (labels_before t host) refl e where
  by : (o : Option ℕ) → labels_before t host ≡ o → option_map (λ m. m + 1) o ≡ Some n → P
  by None is e = absurd (none-some n e)
  by (Some m) is e = k m is (same_Some (m + 1) n e)

above : (t host : List ℕ) (n : ℕ) → labels_before t host ≡ Some n → 1 ≤ n
above t [] n e = absurd (none-some n e)
above t (b ∷ host) n e = by (b == 46) e (above t host n) where
  ends : (q : Bool) → cond q (Some 1) (option_map (λ m. m + 1) (labels_before t host)) ≡ Some n → 1 ≤ n
  ends true e = let is = same_Some 1 n e in omega (arith, is)
  ends false e = one_more t host n e λ m is more. omega (arith, more)

  by : (p : Bool) → cond p (cond (bytes_eq host t) (Some 1) (option_map (λ m. m + 1) (labels_before t host))) (labels_before t host) ≡ Some n → (labels_before t host ≡ Some n → 1 ≤ n) → 1 ≤ n
  by true e k = ends (bytes_eq host t) e
  by false e k = k e

same_under : (t u host : List ℕ) (n : ℕ) → labels_before t host ≡ Some n → labels_before u host ≡ Some n → t ≡ u
same_under t u [] n e f = absurd (none-some n e)
same_under t u (b ∷ host) n e f = by (b == 46) e f (λ m is_m is_k. same_under t u host m is_m is_k) where
  ends : (p q : Bool) → bytes_eq host t ≡ p → bytes_eq host u ≡ q → cond p (Some 1) (option_map (λ m. m + 1) (labels_before t host)) ≡ Some n
      → cond q (Some 1) (option_map (λ m. m + 1) (labels_before u host)) ≡ Some n → ((m : ℕ) → labels_before t host ≡ Some m → labels_before u host ≡ Some m → t ≡ u) → t ≡ u
  ends true true p q e f rest = sym ((bytes_eq-Decides host t).0 p) ∙ (bytes_eq-Decides host u).0 q
  ends true false p q e f rest = one_more u host n f λ m is more. absurd (let least = above u host m is in let one = same_Some 1 n e in omega (arith, least, one, more))
  ends false true p q e f rest = one_more t host n e λ m is more. absurd (let least = above t host m is in let one = same_Some 1 n f in omega (arith, least, one, more))
  ends false false p q e f rest =
      one_more t host n e λ m is_m more_m.
      one_more u host n f λ k is_k more_k.
      let same : k ≡ m = omega (arith, more_m, more_k) in
      rest m is_m (is_k ∙ ap Some same)

  by : (p : Bool) → cond p (cond (bytes_eq host t) (Some 1) (option_map (λ m. m + 1) (labels_before t host))) (labels_before t host) ≡ Some n
      → cond p (cond (bytes_eq host u) (Some 1) (option_map (λ m. m + 1) (labels_before u host))) (labels_before u host) ≡ Some n
      → ((m : ℕ) → labels_before t host ≡ Some m → labels_before u host ≡ Some m → t ≡ u) → t ≡ u
  by true e f rest = ends (bytes_eq host t) (bytes_eq host u) refl refl e f rest
  by false e f rest = rest n e f

apart : {P : Type 0} (t u : List ℕ) (to : List ℕ) (n : ℕ) → cond (bytes_eq t to) (Some 0) None ≡ Some n → labels_before u to ≡ Some n → P
apart t u to n e f = absurd (let least = above u to n f in let none = (cond_some (bytes_eq t to) 0 n e).1 in omega (arith, least, none))

pub same_near : (a b to : Address) (n : ℕ) → is_address a ≡ true → is_address b ≡ true → nearness a to ≡ Some n → nearness b to ≡ Some n → a ≡ b
same_near (Host t) (Host u) (Host to) n is_a is_b e f =
    let p = cond_some (bytes_eq t to) 0 n e in
    let q = cond_some (bytes_eq u to) 0 n f in
    ap Host ((bytes_eq-Decides t to).0 p.0 ∙ sym ((bytes_eq-Decides u to).0 q.0))
same_near (Host t) (Under u) (Host to) n is_a is_b e f = apart t u to n e f
same_near (Host t) (Range j l) (Host to) n is_a is_b e f = absurd (none-some n f)
same_near (Under t) (Host u) (Host to) n is_a is_b e f = apart u t to n f e
same_near (Under t) (Under u) (Host to) n is_a is_b e f = ap Under (same_under t u to n e f)
same_near (Under t) (Range j l) (Host to) n is_a is_b e f = absurd (none-some n f)
same_near (Range i k) b (Host to) n is_a is_b e f = absurd (none-some n e)
same_near (Host t) b (Under to) n is_a is_b e f = absurd (none-some n e)
same_near (Under t) b (Under to) n is_a is_b e f = absurd (none-some n e)
same_near (Range i k) b (Under to) n is_a is_b e f = absurd (none-some n e)
same_near (Host t) b (Range to all) n is_a is_b e f = absurd (none-some n e)
same_near (Under t) b (Range to all) n is_a is_b e f = absurd (none-some n e)
same_near (Range i k) (Host u) (Range to all) n is_a is_b e f = absurd (none-some n f)
same_near (Range i k) (Under u) (Range to all) n is_a is_b e f = absurd (none-some n f)
same_near (Range i k) (Range j l) (Range to all) n is_a is_b e f =
    let p = cond_some (first_bits k to == i) (32 - k) n e in
    let q = cond_some (first_bits l to == j) (32 - l) n f in
    let few_k = bits_within i k is_a in
    let few_l = bits_within j l is_b in
    let bits : k ≡ l = omega (arith, p.1, q.1, few_k, few_l) in
    let ip : i ≡ j = sym (eqb-true (first_bits k to) i p.0) ∙ ap (λ x. first_bits x to) bits ∙ eqb-true (first_bits l to) j q.0 in
    ap₂ Range ip bits

-- ---- hits of one rank are one

claimed : {A : Type 0} (form : A → Bool) (same : A → A → Bool) (xs : List A) (x : A) → is_claim form same xs ≡ true → Among x xs → form x ≡ true
claimed form same xs x is m = list_all-among form xs x (and_parts _ _ (and_parts _ _ (and_parts _ _ is).1).1).0 m

at_is : (intercepts : List (ℕ × Intercept)) (n : ℕ) (i : Intercept) → are_intercepts intercepts ≡ true → at intercepts n ≡ Some i → is_intercept i ≡ true
at_is [] n i all e = absurd (none-some i e)
at_is (x ∷ xs) n i all e = by (x.0 == n) e (at_is xs n i (and_parts (is_intercept x.1) (list_all (λ y. is_intercept y.1) xs) all).1) where
  by : (b : Bool) → cond b (Some x.1) (at xs n) ≡ Some i → (at xs n ≡ Some i → is_intercept i ≡ true) → is_intercept i ≡ true
  by true e k = subst (λ j. is_intercept j ≡ true) (same_Some x.1 i e) (and_parts (is_intercept x.1) (list_all (λ y. is_intercept y.1) xs) all).0
  by false e k = k e

same_range : (r s : PortRange) → r.low ≡ s.low → r.high ≡ s.high → r ≡ s
same_range r s low high = λ i. record { low = low i; high = high i }

pub same_hit : (intercepts : List (ℕ × Intercept)) (dialled : List ℕ) (udp : Bool) (to : Address) (port : ℕ) (g h : Hit) → are_intercepts intercepts ≡ true
    → IsHit intercepts dialled udp to port g → IsHit intercepts dialled udp to port h → hit_rank g ≡ hit_rank h → g ≡ h
same_hit intercepts dialled udp to port g h all p q rank =
    let near : g.near ≡ h.near = ap (λ r. get_or r 0 0) rank in
    let span : g.ports.high - g.ports.low ≡ h.ports.high - h.ports.low = ap (λ r. get_or r 1 0) rank in
    let low : g.ports.low ≡ h.ports.low = ap (λ r. get_or r 2 0) rank in
    let service : g.service ≡ h.service = ap (λ r. get_or r 3 0) rank in
    let high : g.ports.high ≡ h.ports.high = omega (arith, span, low, p.from, p.upto, q.from, q.upto) in
    let claims_g = (and_parts _ _ (and_parts _ _ (at_is intercepts g.service p.intercept all p.claims)).1).0 in
    let claims_h = (and_parts _ _ (and_parts _ _ (at_is intercepts h.service q.intercept all q.claims)).1).0 in
    let address : g.address ≡ h.address =
    same_near g.address h.address to g.near (claimed is_address same_address p.intercept.addresses g.address claims_g p.address)
    (claimed is_address same_address q.intercept.addresses h.address claims_h q.address) p.is_near (q.is_near ∙ ap Some (sym near)) in
    let ports = same_range g.ports h.ports low high in
    λ i. record { service = service i; near = near i; address = address i; ports = ports i }

-- ---- the picked hit

pub first_within : {A : Type 0} (rank_of : A → List ℕ) (xs : List A) (b : A) → ((a c : A) → Among a xs → Among c xs → rank_of a ≡ rank_of c → a ≡ c) → IsFirst rank_of xs b → least_by rank_of xs ≡ Some b
first_within {A} rank_of cs b apart f = at_least (least_by rank_of cs) refl where
  at_least : (o : Option A) → least_by rank_of cs ≡ o → o ≡ Some b
  at_least None e = absurd (least_by-there rank_of cs b f.0 e)
  at_least (Some a) e =
      let g = least_by-first rank_of cs a e in
      ap Some (apart a b g.0 f.0 (same_rank rank_of a b (f.1 a g.0) (g.1 b f.0)))

module _ (intercepts : List (ℕ × Intercept)) (dialled : List ℕ) (udp : Bool) (to : Address) (port : ℕ) where
  pub picked_is : (h : Hit) → picked intercepts dialled udp to port ≡ Some h → IsPicked intercepts dialled udp to port h
  picked_is h e =
      let f = least_by-first hit_rank (hits intercepts dialled udp to port) h e in
      record { is_hit = is_hit intercepts dialled udp to port h f.0; first = λ g q. f.1 g (among_hits intercepts dialled udp to port g q) }

  pub is_picked : (h : Hit) → are_intercepts intercepts ≡ true → IsPicked intercepts dialled udp to port h → picked intercepts dialled udp to port ≡ Some h
  is_picked h all p =
      let found = is_hit intercepts dialled udp to port in
      first_within hit_rank (hits intercepts dialled udp to port) h
      (λ a c m k rank. same_hit intercepts dialled udp to port a c all (found a m) (found c k) rank)
      (among_hits intercepts dialled udp to port h p.is_hit, λ g m. p.first g (found g m))

  pub none_picked : picked intercepts dialled udp to port ≡ None → (h : Hit) → IsHit intercepts dialled udp to port h → ⊥
  none_picked e h is = least_by-there hit_rank (hits intercepts dialled udp to port) h (among_hits intercepts dialled udp to port h is) e

  pub no_hit : ((h : Hit) → IsHit intercepts dialled udp to port h → ⊥) → picked intercepts dialled udp to port ≡ None
  no_hit none = by (picked intercepts dialled udp to port) refl where
    by : (o : Option Hit) → picked intercepts dialled udp to port ≡ o → picked intercepts dialled udp to port ≡ None
    by None e = e
    by (Some h) e = absurd (none h (picked_is h e).is_hit)
