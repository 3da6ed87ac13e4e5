-- The `@` name of an absent entity matches nobody: taking it out of the policies changes no count.
use Rattle.std.proofs.Common.{◌≡◌, ℕ, Bool, true, false, not, cond, ◌&&◌, ◌||◌, Option, None, Some, List, [], ◌∷◌, filter, refl, sym, ◌∙◌, ap}
use Rattle.std.proofs.lemmas.Bool.{false_from_ne_true, both_ways}
use Rattle.std.specs.Str.{bytes_eq}
use Rattle.ctrl_model.specs.declared.kinds.Relation.{Relation}
use Rattle.ctrl_model.specs.declared.kinds.Semantic.{Semantic}
use Rattle.ctrl_model.specs.declared.kinds.Side.{Side}
use Rattle.ctrl_model.specs.Numbered.{at, map_each}
use Rattle.ctrl_model.specs.State.{State, Entity, Policy}
use Rattle.ctrl_model.specs.Matches.{has_name, has_attributes}
use Rattle.ctrl_model.specs.Rules.{without_name, forget_left, forget_right}
use Rattle.ctrl_model.specs.Grants.{same_relation, policies_for, count}
use Rattle.ctrl_model.proofs.DistinctLaws.{same_name, same_bytes}
use Rattle.grant_denorm.proofs.DeltaLaws.{count_by-mapped}
use Rattle.grant_moves.specs.EntitySides.{left_rows, right_rows, matches_if}
use Rattle.grant_moves.proofs.CountRules.{joins_if, joined, count_joined}

-- a list of names has another name exactly where it has it without the one
other_name : (gone name : List ℕ) → bytes_eq name gone ≡ false → (ns : List (List ℕ)) → has_name (filter (λ n. not (bytes_eq n gone)) ns) name ≡ has_name ns name
other_name gone name apart [] = refl
other_name gone name apart (n ∷ ns) = by (bytes_eq n gone) refl (other_name gone name apart ns)
  where
    differs : bytes_eq n gone ≡ true → bytes_eq n name ≡ false
    differs is = false_from_ne_true (bytes_eq n name) (λ e. both_ways (bytes_eq name gone) apart (same_bytes name gone (sym (same_name n name e) ∙ same_name n gone is)))

    by : (t : Bool) → bytes_eq n gone ≡ t → has_name (filter (λ m. not (bytes_eq m gone)) ns) name ≡ has_name ns name
        → has_name (cond (not t) (n ∷ filter (λ m. not (bytes_eq m gone)) ns) (filter (λ m. not (bytes_eq m gone)) ns)) name ≡ (bytes_eq n name || has_name ns name)
    by true is rest = rest ∙ ap (λ u. u || has_name ns name) (sym (differs is))
    by false is rest = ap (λ u. bytes_eq n name || u) rest

-- so a side matches an entity of another name as before
other_matches : (name : List ℕ) (side : Side) (semantic : Semantic) (o : Option Entity) → ((e : Entity) → o ≡ Some e → bytes_eq e.name name ≡ false)
    → matches_if (without_name name side) semantic o ≡ matches_if side semantic o
other_matches name side semantic None apart = refl
other_matches name side semantic (Some e) apart =
    ap (λ t. side.all || (t || has_attributes semantic side.attributes e.attributes)) (other_name name e.name (apart e refl) side.ids)

-- policies that each join two entities as they did before count as before
same_joins : (r : Relation) (s t : State) (change : Policy → Policy) → left_rows r t ≡ left_rows r s → right_rows r t ≡ right_rows r s
    → policies_for r t ≡ map_each change (policies_for r s) → (a b : ℕ)
    → ((p : Policy) → joins_if r (at (left_rows r s) a) (at (right_rows r s) b) (change p) ≡ joins_if r (at (left_rows r s) a) (at (right_rows r s) b) p)
    → count r t a b ≡ count r s a b
same_joins r s t change left right policies a b same =
    count_joined r t a b ∙ (λ i. joined r (at (left i) a) (at (right i) b) (policies i))
    ∙ count_by-mapped (λ (row : ℕ × Policy). joins_if r (at (left_rows r s) a) (at (right_rows r s) b) row.1) (λ row. (row.0, change row.1))
    (λ row. joins_if r (at (left_rows r s) a) (at (right_rows r s) b) row.1) (λ row. same row.1) (policies_for r s)
    ∙ sym (count_joined r s a b)

pub forget_left_leaves : (r : Relation) (s t : State) (name : List ℕ) → left_rows r t ≡ left_rows r s → right_rows r t ≡ right_rows r s
    → policies_for r t ≡ map_each (forget_left name) (policies_for r s)
    → ((n : ℕ) (e : Entity) → at (left_rows r s) n ≡ Some e → bytes_eq e.name name ≡ false)
    → (a b : ℕ) → count r t a b ≡ count r s a b
forget_left_leaves r s t name left right policies absent a b = same_joins r s t (forget_left name) left right policies a b
    (λ p. ap (λ m. same_relation r p.relation && (m && matches_if p.right p.semantic (at (right_rows r s) b)))
    (other_matches name p.left p.semantic (at (left_rows r s) a) (absent a)))

pub forget_right_leaves : (r : Relation) (s t : State) (name : List ℕ) → left_rows r t ≡ left_rows r s → right_rows r t ≡ right_rows r s
    → policies_for r t ≡ map_each (forget_right name) (policies_for r s)
    → ((n : ℕ) (e : Entity) → at (right_rows r s) n ≡ Some e → bytes_eq e.name name ≡ false)
    → (a b : ℕ) → count r t a b ≡ count r s a b
forget_right_leaves r s t name left right policies absent a b = same_joins r s t (forget_right name) left right policies a b
    (λ p. ap (λ m. same_relation r p.relation && (matches_if p.left p.semantic (at (left_rows r s) a) && m))
    (other_matches name p.right p.semantic (at (right_rows r s) b) (absent b)))
