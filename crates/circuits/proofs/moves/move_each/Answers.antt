use Rattle.std.proofs.Common.{◌≡◌, ◌-◌, List, [], ◌++◌, take, sym, ◌∙◌, ap}
use Rattle.circuits.specs.declared.moves.Move.{Move}
use Rattle.circuits.specs.MovedCircuits.{moved_table}
use Rattle.circuits.proofs.MoveLaws.{moves-last, moves-none}
use Rattle.circuits.proofs.moves.move_each.Goals as goal

pub moves-preserved : goal.moves-preserved
moves-preserved c =
    ap (moved_table c.pop.new.self.items) c.set_links.ensures
    ∙ sym (moves-last c.pop.new.self.items c.in-Some.last c.moves.granted)
    ∙ ap (λ (ms : List Move). moved_table ms c.moves.granted) (sym c.in-Some.ensures.items)
    ∙ c.moves.invariant

pub returns : goal.returns
returns c = sym (ap (λ (ms : List Move). moved_table ms c.moves.granted) none_left ∙ moves-none c.moves.granted) ∙ c.moves.invariant
  where
    none_left : c.moves.left.items ≡ []
    none_left =
        c.in_default.ensures.items
        ∙ ap (λ (ms : List Move). ms ++ []) (c.in_default.ensures.rest ∙ ap (λ n. take (n - 1) c.moves.left.items) c.in_default.ensures.cases.0)
