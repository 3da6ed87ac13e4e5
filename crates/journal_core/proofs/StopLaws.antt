-- What a stop within an append may leave, of the images that may be left when it begins.
use Rattle.std.proofs.Common.{ℕ, ◌+◌, List, inl, refl, sym, ◌∙◌, subst}
use Rattle.ziti_outside.specs.declared.desk.Part.{Part}
use Rattle.ziti_outside.specs.Images.{Image, Torn, OnPart, After, IsStable}
use Rattle.journal_core.specs.Slots.{IsClosed, ShutOrAdded}
use Rattle.journal_core.proofs.GateLaws.{Ready, shut_none, torn_behind, torn_gate}

-- Nothing was written yet.
pub images_none : {part : Part} {at : ℕ} (text : List ℕ) {reads : Image} {images : Image → Type 0} → IsClosed at (reads part) → IsStable part reads images
    → (c : Image) → images c → After (OnPart part (ShutOrAdded at text)) images c
images_none {part} {at} text {reads} {images} closed stable c p = record {
  from = c;
  was = p;
  by = record {
    here = inl (shut_none (subst (λ (l : List ℕ). IsClosed at l) (sym (stable.each c p)) closed));
    others = record { same = λ q other. refl };
  };
}

-- The text is being written behind the gate.
pub images_behind : {part : Part} {at count : ℕ} (text : List ℕ) {reads : Image} {images : Image → Type 0} → IsClosed at (reads part) → IsStable part reads images
    → (c : Image) → After (OnPart part (Torn (at + 1) count)) images c → After (OnPart part (ShutOrAdded at text)) images c
images_behind {part} {at} {count} text {reads} {images} closed stable c p = record {
  from = p.from;
  was = p.was;
  by = record {
    here = inl (torn_behind (subst (λ (l : List ℕ). IsClosed at l) (sym (stable.each p.from p.was)) closed) p.by.here);
    others = p.by.others;
  };
}

-- The gate is being opened over a text that stands behind it.
pub images_gate : {part : Part} {at count : ℕ} {text : List ℕ} {reads mid : Image} {images later : Image → Type 0} → IsStable part reads images → Ready at text (reads part) (mid part)
    → IsStable part mid later → ((c : Image) → later c → After (OnPart part (Torn (at + 1) count)) images c)
    → (c : Image) → After (OnPart part (Torn at 1)) later c → After (OnPart part (ShutOrAdded at text)) images c
images_gate {part} {at} {count} {text} {reads} {mid} {images} {later} stable ready stays before c p =
    let first = before p.from p.was in
    let torn : Torn at 1 (mid part) (c part) = subst (λ (l : List ℕ). Torn at 1 l (c part)) (stays.each p.from p.was) p.by.here in
    record {
      from = first.from;
      was = first.was;
      by = record {
        here = subst (λ (l : List ℕ). ShutOrAdded at text l (c part)) (sym (stable.each first.from first.was)) (torn_gate ready torn);
        others = record { same = λ q other. p.by.others.same q other ∙ first.by.others.same q other };
      };
    }
