-- Draws from a generator of random numbers, and lists of commands that are drawn one after another (docs/FORMATS.md, "The load
-- generator").
use Rattle.std.specs.Prelude.{ℕ, zero, suc, ◌%◌, List, [], ◌∷◌, ◌++◌}
use Rattle.rand_core.specs.Pcg32Seed.{pcg32_seed}
use Rattle.rand_pcg.specs.Lcg.{Lcg}
use Rattle.rand_pcg.specs.Pcg.{pcg32, pcg32_of_seed}
use Rattle.ctrl_model.specs.declared.commands.Command.{Command}

-- What a generator gives, with the generator behind it.
abbrev pub Drawn : Type 0 → Type 0
Drawn A = Lcg → A × Lcg

-- The generator of a number.
unfoldable pub generator_of : ℕ → Lcg
generator_of n = pcg32_of_seed (pcg32_seed 16 n)

-- One word modulo k.
unfoldable pub draw : ℕ → Drawn ℕ
draw k g = ((pcg32 g).0 % k, (pcg32 g).1)

infixl 10 ◌>>=◌
-- What is drawn with the help of a draw.
abbrev pub ◌>>=◌ : {A B : Type 0} → Drawn A → (A → Drawn B) → Drawn B
d >>= f = λ g. f (d g).0 (d g).1

-- These commands, without a draw.
abbrev pub those : List Command → Drawn (List Command)
those cs = λ g. (cs, g)

-- One command, without a draw.
abbrev pub one : Command → Drawn (List Command)
one c = those (c ∷ [])

-- Some commands, and then others.
abbrev pub both : Drawn (List Command) → Drawn (List Command) → Drawn (List Command)
both d e = λ g. ((d g).0 ++ (e (d g).1).0, (e (d g).1).1)

-- What is made for each i from 1 to n, in this order.
unfoldable pub for_each_to : ℕ → (ℕ → Drawn (List Command)) → Drawn (List Command)
for_each_to zero make = those []
for_each_to (suc n) make = both (for_each_to n make) (make (suc n))
