use Rattle.std.proofs.Common.{◌≡◌, ◌∙◌, rules}
use Rattle.load_gen.specs.Draws.{generator_of}
use Rattle.load_gen.proofs.LoadLaws.{the_load}
use Rattle.load_gen.proofs.making.make.Goals as goal

pub returns-clause-frames : goal.returns-clause-frames
unfolding generator_of
returns-clause-frames c =
    let seed : c.seed_from_u64-rng.result ≡ generator_of c.args.number = search rules in
    c.of.ensures ∙ (the_load _ _ _ _ c.args.number c.new-frames.ensures.items seed c.in_ok-add_all.ensures).0

pub returns-clause-meant : goal.returns-clause-meant
unfolding generator_of
returns-clause-meant c =
    let seed : c.seed_from_u64-rng.result ≡ generator_of c.args.number = search rules in
    (the_load _ _ _ _ c.args.number c.new-frames.ensures.items seed c.in_ok-add_all.ensures).1
