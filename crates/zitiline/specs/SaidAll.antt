-- An input with a fault (docs/FORMATS.md, "Lines for people").
use Rattle.std.specs.Prelude.{◌≡◌, ℕ, List, Some}
use Rattle.zitiline.specs.declared.words.Form.{Form}
use Rattle.zitiline.specs.Answers.{fault_of}

-- The input has a fault, and its words are so.
pub record HasFault (form : Form) (input : List ℕ) (so : List ℕ → Type 0) : Type 0 where
  pub text : List ℕ
  pub is : fault_of form input ≡ Some text
  pub holds : so text
