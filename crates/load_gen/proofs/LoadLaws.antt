-- What is made of a load step by step is the load.
use Rattle.std.proofs.Common.{◌≡◌, ℕ, suc, ◌+◌, List, [], ◌∷◌, ◌++◌, length, refl, sym, ap, ap₂, ◌∙◌, subst, append_assoc, append-nil, length-append, arith}
use Rattle.rand_pcg.specs.Lcg.{Lcg}
use Rattle.channel_frame.specs.declared.frames.Frame.{Frame}
use Rattle.ctrl_model.specs.declared.commands.Command.{Command}
use Rattle.load_gen.specs.Draws.{Drawn, draw, ◌>>=◌, both, those, for_each_to, generator_of}
use Rattle.load_gen.specs.LoadCommands.{a_router, made_for, whole_load, load_commands}
use Rattle.load_gen.specs.declared.groups.Group.{Group}
use Rattle.load_gen.specs.declared.groups.Group.TheVariants.{Routers}
use Rattle.load_gen.specs.LoadFrames.{frame_at, frames_from, load_frames, AreMeant}
use Rattle.load_gen.specs.LoadSteps.{Pushes, Adds, IsDrawn}

pub length-frames_from : (place : ℕ) (cs : List Command) → length (frames_from place cs) ≡ length cs
length-frames_from place [] = refl
length-frames_from place (c ∷ cs) = omega (arith, length-frames_from (place + 1) cs)

frames_from-append : (place : ℕ) (cs ds : List Command) → frames_from place (cs ++ ds) ≡ frames_from place cs ++ frames_from (place + length cs) ds
frames_from-append place [] ds = ap (λ n. frames_from n ds) (omega arith)
frames_from-append place (c ∷ cs) ds =
    let same : place + 1 + length cs ≡ place + length (c ∷ cs) = omega arith in
    ap (λ fs. frame_at place c ∷ fs) (frames_from-append (place + 1) cs ds) ∙ ap (λ n. frame_at place c ∷ (frames_from (place + 1) cs ++ frames_from n ds)) same

AreMeant-append : (cs ds : List Command) → AreMeant cs → AreMeant ds → AreMeant (cs ++ ds)
AreMeant-append [] ds a b = b
AreMeant-append (c ∷ cs) ds a b = (a.0, AreMeant-append cs ds a.1 b)

-- Behind the frames of some commands stand those of others.
behind : (f0 f1 f2 : List Frame) (cs ds : List Command) → f1 ≡ f0 ++ frames_from (length f0) cs → f2 ≡ f1 ++ frames_from (length f1) ds
    → f2 ≡ f0 ++ frames_from (length f0) (cs ++ ds)
behind f0 f1 f2 cs ds first then =
    let count : length f1 ≡ length f0 + length cs =
    ap length first ∙ length-append f0 (frames_from (length f0) cs) ∙ ap (λ n. length f0 + n) (length-frames_from (length f0) cs) in
    then ∙ ap (λ n. f1 ++ frames_from n ds) count ∙ ap (λ fs. fs ++ frames_from (length f0 + length cs) ds) first
    ∙ append_assoc f0 (frames_from (length f0) cs) (frames_from (length f0 + length cs) ds)
    ∙ ap (λ fs. f0 ++ fs) (sym (frames_from-append (length f0) cs ds))

-- Nothing is added.
pub adds_nothing : (f0 : List Frame) (g0 : Lcg) → Adds f0 g0 f0 g0 (those [])
adds_nothing f0 g0 = record { frames = sym (append-nil f0); generator = refl; meant = tt }

-- What is added, and then more.
pub adds_both : (f0 f1 f2 : List Frame) (g0 g1 g2 : Lcg) (d e : Drawn (List Command)) → Adds f0 g0 f1 g1 d → Adds f1 g1 f2 g2 e → Adds f0 g0 f2 g2 (both d e)
adds_both f0 f1 f2 g0 g1 g2 d e a b = record {
  frames = behind f0 f1 f2 (d g0).0 (e (d g0).1).0 a.frames (b.frames ∙ ap (λ g. f1 ++ frames_from (length f1) (e g).0) a.generator);
  generator = b.generator ∙ ap (λ g. (e g).1) a.generator;
  meant = AreMeant-append (d g0).0 (e (d g0).1).0 a.meant (subst (λ g. AreMeant (e g).0) a.generator b.meant);
}

-- What was pushed are the commands that are drawn.
pub adds_pushed : (f0 f1 : List Frame) (cs : List Command) (g0 g1 : Lcg) (d : Drawn (List Command)) → Pushes f0 f1 cs → cs ≡ (d g0).0 → g1 ≡ (d g0).1 → Adds f0 g0 f1 g1 d
adds_pushed f0 f1 cs g0 g1 d p same left = record {
  frames = p.frames ∙ ap (λ ds. f0 ++ frames_from (length f0) ds) same;
  generator = left;
  meant = subst AreMeant same p.meant;
}

-- Two commands, one after the other.
pub pushes_both : (f0 f1 f2 : List Frame) (cs ds : List Command) → Pushes f0 f1 cs → Pushes f1 f2 ds → Pushes f0 f2 (cs ++ ds)
pushes_both f0 f1 f2 cs ds p q = record {
  frames = behind f0 f1 f2 cs ds p.frames q.frames;
  meant = AreMeant-append cs ds p.meant q.meant;
}

-- None is made for none.
pub adds_none : (make : ℕ → Drawn (List Command)) (f0 : List Frame) (g0 : Lcg) → Adds f0 g0 f0 g0 (for_each_to 0 make)
unfolding for_each_to
adds_none make f0 g0 = adds_nothing f0 g0

-- One more place.
pub adds_one_more : (make : ℕ → Drawn (List Command)) (n : ℕ) (f0 f1 f2 : List Frame) (g0 g1 g2 : Lcg) → Adds f0 g0 f1 g1 (for_each_to n make) → Adds f1 g1 f2 g2 (make (n + 1))
    → Adds f0 g0 f2 g2 (for_each_to (n + 1) make)
unfolding for_each_to
adds_one_more make n f0 f1 f2 g0 g1 g2 a b =
    let same : suc n ≡ n + 1 = omega arith in
    let next : Adds f1 g1 f2 g2 (make (suc n)) = subst (λ m. Adds f1 g1 f2 g2 (make m)) (sym same) b in
    let whole : Adds f0 g0 f2 g2 (for_each_to (suc n) make) = adds_both f0 f1 f2 g0 g1 g2 (for_each_to n make) (make (suc n)) a next in
    subst (λ m. Adds f0 g0 f2 g2 (for_each_to m make)) same whole

-- What is drawn behind a draw.
pub drawn_behind : (k : ℕ) (make : ℕ → Drawn (List Command)) (g0 g1 g2 : Lcg) (x : ℕ) (c : Command) → x ≡ (draw k g0).0 → g1 ≡ (draw k g0).1 → IsDrawn (make x) g1 g2 c
    → IsDrawn (draw k >>= make) g0 g2 c
drawn_behind k make g0 g1 g2 x c e h d = record {
  drawn = d.drawn ∙ ap₂ (λ y g. (make y g).0) e h;
  generator = d.generator ∙ ap₂ (λ y g. (make y g).1) e h;
  spelled = d.spelled;
}

-- The command that was drawn was pushed.
pub adds_drawn : (f0 f1 : List Frame) (g0 g1 : Lcg) (c : Command) (d : Drawn (List Command)) → Pushes f0 f1 (c ∷ []) → IsDrawn d g0 g1 c → Adds f0 g0 f1 g1 d
adds_drawn f0 f1 g0 g1 c d p is = adds_pushed f0 f1 (c ∷ []) g0 g1 d p is.drawn is.generator

-- The commands of a router were added.
pub adds_routers : (f0 f1 : List Frame) (g0 g1 g2 : Lcg) (group : Group) (i : ℕ) → group ≡ Routers → g1 ≡ g0 → Adds f0 g1 f1 g2 (a_router i) → Adds f0 g0 f1 g2 (made_for group i)
adds_routers f0 f1 g0 g1 g2 group i is same a =
    subst (λ k. Adds f0 g0 f1 g2 (made_for k i)) (sym is) (subst (λ g. Adds f0 g f1 g2 (a_router i)) same a)

-- From no frames and the generator of a number the whole load is added.
pub the_load : (f0 f1 : List Frame) (g0 g1 : Lcg) (n : ℕ) → f0 ≡ [] → g0 ≡ generator_of n → Adds f0 g0 f1 g1 whole_load → (f1 ≡ load_frames n) × AreMeant (load_commands n)
the_load f0 f1 g0 g1 n e h a =
    (a.frames ∙ ap₂ (λ fs g. fs ++ frames_from (length fs) (whole_load g).0) e h, subst (λ g. AreMeant (whole_load g).0) h a.meant)
