-- What a run over a told input says.
use Rattle.std.proofs.Common.{◌≡◌, ℕ, Bool, true, false, List, [], ◌++◌, None, Some, refl, sym, ap, ◌∙◌, subst, append-nil}
use Rattle.std.specs.declared.option.Option.{Option}
use Rattle.std.specs.Io.KnownBytes.{IsAtEnd}
use Rattle.ziti_outside.specs.Told.{Gave, Took}
use Rattle.ziti_outside.specs.Causes.{Rose}
use Rattle.ziti_outside.specs.Views.{Seen}
use Rattle.zitiline.specs.declared.words.Form.{Form}
use Rattle.zitiline.specs.declared.status.Status.TheVariants.{Done, Refused, BadInput}
use Rattle.zitiline.specs.Answers.{said_of, fault_of, has_refusal, status_for}
use Rattle.zitiline.specs.Notes.{note_of, fault_note}
use Rattle.zitiline.specs.Headline.{Answers}
use Rattle.zitiline.specs.SaidAll.{HasFault}

-- what a told source gave to its end
given : (input taken : List ℕ) (left : Option (List ℕ)) → Gave (Some input) left taken → IsAtEnd left → (left ≡ Some []) × (taken ≡ input)
given input taken None gave end = absurd gave
given input taken (Some rest) gave end = (ap Some end, sym (gave ∙ ap (λ (l : List ℕ). taken ++ l) end ∙ append-nil taken))

-- what a told desk took
taken_by : (before said : List ℕ) (after : Option (List ℕ)) → Took (Some before) after said → after ≡ Some (before ++ said)
taken_by before said None took = absurd took
taken_by before said (Some now) took = ap Some took

no_text : (fault : Option (List ℕ)) (refused : Bool) → status_for fault refused ≡ Done → fault ≡ None
no_text None refused is = refl
no_text (Some text) refused is = cc

no_text_refused : (fault : Option (List ℕ)) (refused : Bool) → status_for fault refused ≡ Refused → (fault ≡ None) × (refused ≡ true)
no_text_refused None true is = (refl, refl)
no_text_refused None false is = absurd cc
no_text_refused (Some text) refused is = absurd cc

pub done_read : (form : Form) (input : List ℕ) (left : Option (List ℕ)) (a b : Seen) → Answers form (Some input) left a b Done → left ≡ Some []
done_read form input left a b s = (given input s.input left s.gave s.says.0).0

pub done_said : (form : Form) (input before : List ℕ) (left : Option (List ℕ)) (a b : Seen) → a.said ≡ Some before → Answers form (Some input) left a b Done → b.said ≡ Some (before ++ said_of form input)
done_said form input before left a b told s =
    taken_by before (said_of form s.input) b.said (subst (λ (x : Option (List ℕ)). Took x b.said (said_of form s.input)) told s.says.1) ∙ ap (λ (l : List ℕ). Some (before ++ said_of form l)) (given input s.input left s.gave s.says.0).1

pub done_faultless : (form : Form) (input : List ℕ) (left : Option (List ℕ)) (a b : Seen) → Answers form (Some input) left a b Done → fault_of form input ≡ None
done_faultless form input left a b s =
    ap (fault_of form) (sym (given input s.input left s.gave s.says.0).1) ∙ no_text (fault_of form s.input) (has_refusal form s.input) s.says.2

pub refused_read : (form : Form) (input : List ℕ) (left : Option (List ℕ)) (a b : Seen) → Answers form (Some input) left a b Refused → left ≡ Some []
refused_read form input left a b s = (given input s.input left s.gave s.says.0).0

pub refused_said : (form : Form) (input before : List ℕ) (left : Option (List ℕ)) (a b : Seen) → a.said ≡ Some before → Answers form (Some input) left a b Refused → b.said ≡ Some (before ++ said_of form input)
refused_said form input before left a b told s =
    taken_by before (said_of form s.input) b.said (subst (λ (x : Option (List ℕ)). Took x b.said (said_of form s.input)) told s.says.1) ∙ ap (λ (l : List ℕ). Some (before ++ said_of form l)) (given input s.input left s.gave s.says.0).1

pub refused_faultless : (form : Form) (input : List ℕ) (left : Option (List ℕ)) (a b : Seen) → Answers form (Some input) left a b Refused → fault_of form input ≡ None
refused_faultless form input left a b s =
    ap (fault_of form) (sym (given input s.input left s.gave s.says.0).1) ∙ (no_text_refused (fault_of form s.input) (has_refusal form s.input) s.says.2).0

pub refused_is : (form : Form) (input : List ℕ) (left : Option (List ℕ)) (a b : Seen) → Answers form (Some input) left a b Refused → has_refusal form input ≡ true
refused_is form input left a b s =
    ap (has_refusal form) (sym (given input s.input left s.gave s.says.0).1) ∙ (no_text_refused (fault_of form s.input) (has_refusal form s.input) s.says.2).1

not_refused : (fault : Option (List ℕ)) (refused : Bool) → status_for fault refused ≡ Done → refused ≡ false
not_refused None true is = absurd cc
not_refused None false is = refl
not_refused (Some text) refused is = absurd cc

pub done_unrefused : (form : Form) (input : List ℕ) (left : Option (List ℕ)) (a b : Seen) → Answers form (Some input) left a b Done → has_refusal form input ≡ false
done_unrefused form input left a b s =
    ap (has_refusal form) (sym (given input s.input left s.gave s.says.0).1) ∙ not_refused (fault_of form s.input) (has_refusal form s.input) s.says.2

pub bad_read : (form : Form) (input : List ℕ) (left : Option (List ℕ)) (a b : Seen) → Answers form (Some input) left a b BadInput → left ≡ Some []
bad_read form input left a b s = (given input s.input left s.gave s.says.0).0

pub bad_said : (form : Form) (input before : List ℕ) (left : Option (List ℕ)) (a b : Seen) → a.said ≡ Some before → Answers form (Some input) left a b BadInput → b.said ≡ Some (before ++ said_of form input)
bad_said form input before left a b told s =
    taken_by before (said_of form s.input) b.said (subst (λ (x : Option (List ℕ)). Took x b.said (said_of form s.input)) told s.says.1) ∙ ap (λ (l : List ℕ). Some (before ++ said_of form l)) (given input s.input left s.gave s.says.0).1

fault_at : (form : Form) (input : List ℕ) (fault : Option (List ℕ)) (refused : Bool) (a b : Option (List ℕ)) → fault_of form input ≡ fault → status_for fault refused ≡ BadInput → Took a b (fault_note fault)
    → HasFault form input (λ text. Took a b (note_of text))
fault_at form input None true a b is bad took = cc
fault_at form input None false a b is bad took = cc
fault_at form input (Some text) refused a b is bad took = record { text = text; is = is; holds = took }

pub bad_noted : (form : Form) (input : List ℕ) (left : Option (List ℕ)) (a b : Seen) → Answers form (Some input) left a b BadInput → (Rose a.note_faults b.note_faults → ⊥)
    → HasFault form input (λ text. Took a.noted b.noted (note_of text))
bad_noted form input left a b s calm =
    subst (λ (l : List ℕ). HasFault form l (λ text. Took a.noted b.noted (note_of text))) (given input s.input left s.gave s.says.0).1
    (fault_at form s.input (fault_of form s.input) (has_refusal form s.input) a.noted b.noted refl s.says.2 (s.notes.whole calm))
