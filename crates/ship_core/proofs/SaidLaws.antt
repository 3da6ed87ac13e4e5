-- How the steps of shipping join up.
use Rattle.std.proofs.Common.{◌≡◌, ℕ, List, [], ◌∷◌, ◌++◌, Option, None, Some, Ok, Err, refl, sym, ap, ◌∙◌, subst, append_assoc, append-nil, arith}
use Rattle.std.specs.Prelude.{⊤, IsErrAnd}
use Rattle.std.specs.declared.result.Result.{Result}
use Rattle.std.proofs.lemmas.Grind.{flat_map-append}
use Rattle.std.proofs.lemmas.Result.{err_from_is_err_and}
use Rattle.ziti_outside.specs.declared.failed.Failed.{Failed}
use Rattle.ziti_outside.specs.Causes.{HasCause}
use Rattle.ziti_outside.specs.Images.{Image}
use Rattle.ziti_outside.specs.Moments.{Now, Saying, Elapses, Remembers}
use Rattle.ziti_outside.specs.Told.{Took, TookFront}
use Rattle.ziti_outside.specs.Untouched.{OnlySays, OnlyReads}
use Rattle.ziti_outside.specs.Views.{Seen, Stopped}
use Rattle.ziti_outside.proofs.Moves.{Took-none, Took-then, Took-taken, IsFront-none, IsFront-then, IsFront-longer}
use Rattle.ziti_outside.proofs.MomentLaws.{Elapses-none, Elapses-then, Elapses-weaker, Remembers-then}
use Rattle.channel_frame.specs.declared.frames.Frame.{Frame}
use Rattle.channel_frame.specs.FrameSpelling.{spelling}
use Rattle.ship_core.specs.declared.faults.ShipFault.{ShipFault}
use Rattle.ship_core.specs.declared.faults.ShipFault.TheVariants.{Disk, Write, Damaged, NoMemory}
use Rattle.ship_core.specs.Faults.{fault_of, disk_failure, write_failure}
use Rattle.ship_frames.specs.Pieces.{written}
use Rattle.ship_core.specs.SaidFrames.{AreFirst, TookUnless, OnlyShips}
use Rattle.ship_core.specs.Steps.{ShipsFrames}

-- ---- counts of faults

-- A count that stayed.
same_count : {T E : Type 0} (a b : ℕ) (x : T) → b ≡ a → HasCause {T = T} {E = E} a b (Ok x)
same_count a b x e = record { later = omega (arith, e); once = omega (arith, e); calm = e; failed = tt }

-- A count that stayed at first.
cause_then : {T E U F : Type 0} (a b c : ℕ) (x : U) (r : Result T E) → HasCause {T = U} {E = F} a b (Ok x) → HasCause b c r → HasCause a c r
cause_then a b c x r first second = subst (λ (n : ℕ). HasCause n c r) first.calm second

unsaid_cause : (fault : Option ShipFault) → (fault ≡ Some Write → ⊥) → (a b : ℕ) → b ≡ a → HasCause a b (write_failure fault)
unsaid_cause None n a b e = same_count a b tt e
unsaid_cause (Some Disk) n a b e = same_count a b tt e
unsaid_cause (Some Write) n a b e = absurd (n refl)
unsaid_cause (Some (Damaged part at)) n a b e = same_count a b tt e
unsaid_cause (Some NoMemory) n a b e = same_count a b tt e

-- A say that failed counts as one of shipping.
pub say_cause : (a b : ℕ) (f : Failed) → HasCause {T = ⊤} a b (Err f) → HasCause a b (write_failure (Some Write))
say_cause a b f c = record { later = c.later; once = c.once; calm = tt; failed = c.failed }

-- ---- frames that were said

-- The first of the first.
pub first_first : (fault : Option ShipFault) (frames all wider : List Frame) → AreFirst fault frames all → AreFirst fault all wider → AreFirst fault frames wider
first_first None frames all wider p q = p ∙ q
first_first (Some fault) frames all wider p q =
    (p.0 ++ q.0, sym (append_assoc frames p.0 q.0) ∙ ap (λ (l : List Frame). l ++ q.0) p.1 ∙ q.1)

first_then : (fault : Option ShipFault) (these xs those ys : List Frame) → these ≡ xs → AreFirst fault those ys → AreFirst fault (these ++ those) (xs ++ ys)
first_then None these xs those ys e p = ap (λ (l : List Frame). l ++ those) e ∙ ap (λ (l : List Frame). xs ++ l) p
first_then (Some fault) these xs those ys e p =
    (p.0, append_assoc these those p.0 ∙ ap (λ (l : List Frame). these ++ l) p.1 ∙ ap (λ (l : List Frame). l ++ ys) e)

none_first : (fault : Option ShipFault) → AreFirst fault [] []
none_first None = refl
none_first (Some fault) = ([], refl)

all_first : (fault : Option ShipFault) (all : List Frame) → AreFirst fault all all
all_first None all = refl
all_first (Some fault) all = ([], append-nil all)

-- ---- bytes that were taken

quiet_took : (fault : Option ShipFault) → (fault ≡ Some Write → ⊥) → (a b : Option (List ℕ)) → b ≡ a → TookUnless fault a b []
quiet_took None n a b e = subst (λ (x : Option (List ℕ)). Took a x []) (sym e) (Took-none a)
quiet_took (Some Disk) n a b e = subst (λ (x : Option (List ℕ)). Took a x []) (sym e) (Took-none a)
quiet_took (Some Write) n a b e = absurd (n refl)
quiet_took (Some (Damaged part at)) n a b e = subst (λ (x : Option (List ℕ)). Took a x []) (sym e) (Took-none a)
quiet_took (Some NoMemory) n a b e = subst (λ (x : Option (List ℕ)). Took a x []) (sym e) (Took-none a)

both_took : (a b c : Option (List ℕ)) (t u whole : List ℕ) → t ++ u ≡ whole → Took a b t → Took b c u → Took a c whole
both_took a b c t u whole e p q = subst (λ (w : List ℕ). Took a c w) e (Took-then a b c t u p q)

took_then : (fault : Option ShipFault) (a b c : Option (List ℕ)) (t u whole : List ℕ) → t ++ u ≡ whole → Took a b t → TookUnless fault b c u → TookUnless fault a c whole
took_then None a b c t u whole e p q = both_took a b c t u whole e p q
took_then (Some Disk) a b c t u whole e p q = both_took a b c t u whole e p q
took_then (Some Write) a b c t u whole e p q = (t ++ q.0, IsFront-then t q.0 u whole q.1 e, Took-then a b c t q.0 p q.2)
took_then (Some (Damaged part at)) a b c t u whole e p q = both_took a b c t u whole e p q
took_then (Some NoMemory) a b c t u whole e p q = both_took a b c t u whole e p q

-- ---- moments

now_saying : (images : Image → Type 0) (said : Option (List ℕ)) (bytes : List ℕ) (i : Image) (w : List ℕ) → Now images said i w → Saying images said bytes i w
now_saying images said bytes i w n = record { found = n.found; front = []; is_front = IsFront-none bytes; replies = Took-taken said w n.replies }

saying_longer : (images : Image → Type 0) (said : Option (List ℕ)) (t u whole : List ℕ) (i : Image) (w : List ℕ) → t ++ u ≡ whole → Saying images said t i w → Saying images said whole i w
saying_longer images said t u whole i w e s =
    record { found = s.found; front = s.front; is_front = IsFront-longer s.front t u whole s.is_front e; replies = s.replies }

saying_behind : (images later : Image → Type 0) (before now : Option (List ℕ)) (t u whole : List ℕ) (i : Image) (w : List ℕ) → ((image : Image) → later image → images image)
    → t ++ u ≡ whole → Took before now t → Saying later now u i w → Saying images before whole i w
saying_behind images later before now t u whole i w fewer e p s = record {
  found = fewer i s.found;
  front = t ++ s.front;
  is_front = IsFront-then t s.front u whole s.is_front e;
  replies = Took-then before now (Some w) t s.front p s.replies;
}

-- ---- what is left alone

OnlyShips-then : {D : Type 0} {seen : D → Seen} {stopped : D → Stopped} {old mid new : D} → OnlyShips seen stopped old mid → OnlyShips seen stopped mid new → OnlyShips seen stopped old new
OnlyShips-then first second = record {
  notes = second.notes ∙ first.notes;
  failed_notes = second.failed_notes ∙ first.failed_notes;
  parts = second.parts ∙ first.parts;
  found = λ i p. first.found i (second.found i p);
  later = let p = first.later in let q = second.later in omega arith;
  remembers = Remembers-then first.later first.remembers second.remembers;
}

reads_alone : {D : Type 0} {seen : D → Seen} {stopped : D → Stopped} {old new : D} → OnlyReads seen stopped old new → OnlyShips seen stopped old new
reads_alone r = record {
  notes = r.others.notes;
  failed_notes = r.others.failed_notes;
  parts = r.parts;
  found = r.stops.found;
  later = r.stops.time.later;
  remembers = r.remembers;
}

-- ---- steps

-- Nothing was done.
pub ShipsFrames-none : {D : Type 0} {seen : D → Seen} {stopped : D → Stopped} (desk : D) (fault : Option ShipFault)
    → HasCause (seen desk).say_faults (seen desk).say_faults (write_failure fault) → HasCause (seen desk).disk_faults (seen desk).disk_faults (disk_failure fault)
    → (fault ≡ Some Write → ⊥) → ShipsFrames seen stopped desk desk fault []
ShipsFrames-none desk fault write disk unwritten = record {
  says = record { frames = []; first = none_first fault; said = quiet_took fault unwritten _ _ refl; stops = Elapses-none _ _ };
  alone = record { notes = refl; failed_notes = refl; parts = refl; found = λ i p. p; later = omega arith; remembers = record { still = λ t i w le p. p } };
  write = write;
  disk = disk;
}

pub nothing_done : {D : Type 0} {seen : D → Seen} {stopped : D → Stopped} (desk : D) → ShipsFrames seen stopped desk desk None []
nothing_done desk = ShipsFrames-none desk None (same_count _ _ tt refl) (same_count _ _ tt refl) (λ e. cc)

-- The folder was read alone.
pub reads_ships : {D : Type 0} {seen : D → Seen} {stopped : D → Stopped} {old new : D} (fault : Option ShipFault) → (fault ≡ Some Write → ⊥) → OnlyReads seen stopped old new
    → HasCause (seen old).disk_faults (seen new).disk_faults (disk_failure fault) → ShipsFrames seen stopped old new fault []
reads_ships {seen = seen} {stopped = stopped} {old = old} {new = new} fault unwritten r cause = record {
  says = record {
    frames = [];
    first = none_first fault;
    said = quiet_took fault unwritten _ _ r.others.replies;
    stops = Elapses-weaker _ r.stops.time (λ i w n. now_saying (stopped old).images (seen old).said [] i w n);
  };
  alone = reads_alone r;
  write = unsaid_cause fault unwritten _ _ r.others.failed_says;
  disk = cause;
}

-- A frame was said whole.
pub whole_said : {D : Type 0} {seen : D → Seen} {stopped : D → Stopped} {old new : D} (frame : Frame) (bytes : List ℕ) → bytes ≡ spelling frame → Took (seen old).said (seen new).said bytes
    → (seen new).say_faults ≡ (seen old).say_faults → OnlySays seen stopped old new → Elapses (stopped old) (stopped new) (Saying (stopped old).images (seen old).said bytes)
    → Remembers (stopped old) (stopped new) → ShipsFrames seen stopped old new None (frame ∷ [])
whole_said {seen = seen} {stopped = stopped} {old = old} {new = new} frame bytes text took count others stops remembers =
    let whole : bytes ≡ written (frame ∷ []) = text ∙ sym (append-nil (spelling frame)) in
    record {
      says = record {
        frames = frame ∷ [];
        first = refl;
        said = subst (λ (t : List ℕ). Took (seen old).said (seen new).said t) whole took;
        stops = subst (λ (t : List ℕ). Elapses (stopped old) (stopped new) (Saying (stopped old).images (seen old).said t)) whole stops;
      };
      alone = record {
        notes = others.notes;
        failed_notes = others.failed_notes;
        parts = others.parts;
        found = others.found;
        later = stops.later;
        remembers = remembers;
      };
      write = same_count _ _ tt count;
      disk = same_count _ _ tt others.failed_calls;
    }

-- A frame was said, of which a front was taken.
pub front_said : {D : Type 0} {seen : D → Seen} {stopped : D → Stopped} {old new : D} (frame : Frame) (bytes : List ℕ) → bytes ≡ spelling frame → TookFront (seen old).said (seen new).said bytes
    → HasCause (seen old).say_faults (seen new).say_faults (write_failure (Some Write)) → OnlySays seen stopped old new
    → Elapses (stopped old) (stopped new) (Saying (stopped old).images (seen old).said bytes)
    → Remembers (stopped old) (stopped new) → ShipsFrames seen stopped old new (Some Write) (frame ∷ [])
front_said {seen = seen} {stopped = stopped} {old = old} {new = new} frame bytes text took count others stops remembers =
    let whole : bytes ≡ written (frame ∷ []) = text ∙ sym (append-nil (spelling frame)) in
    record {
      says = record {
        frames = frame ∷ [];
        first = ([], refl);
        said = subst (λ (t : List ℕ). TookFront (seen old).said (seen new).said t) whole took;
        stops = subst (λ (t : List ℕ). Elapses (stopped old) (stopped new) (Saying (stopped old).images (seen old).said t)) whole stops;
      };
      alone = record {
        notes = others.notes;
        failed_notes = others.failed_notes;
        parts = others.parts;
        found = others.found;
        later = stops.later;
        remembers = remembers;
      };
      write = count;
      disk = same_count _ _ tt others.failed_calls;
    }

-- One step after another, of which the first did not fail.
pub ShipsFrames-then : {D : Type 0} {seen : D → Seen} {stopped : D → Stopped} {old mid new : D} {xs ys : List Frame} (fault : Option ShipFault)
    → ShipsFrames seen stopped old mid None xs → ShipsFrames seen stopped mid new fault ys → ShipsFrames seen stopped old new fault (xs ++ ys)
ShipsFrames-then {seen = seen} {stopped = stopped} {old = old} {mid = mid} {new = new} {xs = xs} {ys = ys} fault a b =
    let t = written a.says.frames in
    let u = written b.says.frames in
    let whole : t ++ u ≡ written (a.says.frames ++ b.says.frames) = sym (flat_map-append spelling a.says.frames b.says.frames) in
    record {
      says = record {
        frames = a.says.frames ++ b.says.frames;
        first = first_then fault a.says.frames xs b.says.frames ys a.says.first b.says.first;
        said = took_then fault _ _ _ t u _ whole a.says.said b.says.said;
        stops = Elapses-then _ a.says.stops b.says.stops
            (λ i w s. saying_longer (stopped old).images (seen old).said t u _ i w whole s)
            (λ i w s. saying_behind (stopped old).images (stopped mid).images (seen old).said (seen mid).said t u _ i w a.alone.found whole a.says.said s);
      };
      alone = OnlyShips-then a.alone b.alone;
      write = cause_then _ _ _ tt (write_failure fault) a.write b.write;
      disk = cause_then _ _ _ tt (disk_failure fault) a.disk b.disk;
    }

-- A step is one of more frames, of which its own are the first.
pub ShipsFrames-wider : {D : Type 0} {seen : D → Seen} {stopped : D → Stopped} {old new : D} (fault : Option ShipFault) (all wider : List Frame)
    → AreFirst fault all wider → ShipsFrames seen stopped old new fault all → ShipsFrames seen stopped old new fault wider
ShipsFrames-wider fault all wider p s = record {
  says = record { frames = s.says.frames; first = first_first fault s.says.frames all wider s.says.first p; said = s.says.said; stops = s.says.stops };
  alone = s.alone;
  write = s.write;
  disk = s.disk;
}

-- ---- exits

-- The fault of a call that ended with another one's.
pub residual_fault : {T : Type 0} (r : Result T ShipFault) (fault : ShipFault) → IsErrAnd r (λ y. y ≡ fault) → fault_of r ≡ Some fault
residual_fault r fault w = let p = err_from_is_err_and r w in ap fault_of p.1 ∙ ap Some p.2

-- A step for which memory was wanting said nothing.
pub wanting : {D : Type 0} {seen : D → Seen} {stopped : D → Stopped} {T : Type 0} (desk : D) (r : Result T ShipFault) (all : List Frame) → IsErrAnd r (λ y. y ≡ NoMemory)
    → ShipsFrames seen stopped desk desk (fault_of r) all
wanting {seen = seen} {stopped = stopped} desk r all w =
    subst (λ (f : Option ShipFault). ShipsFrames seen stopped desk desk f all) (sym (residual_fault r NoMemory w))
    (ShipsFrames-wider (Some NoMemory) [] all (all, refl)
    (ShipsFrames-none desk (Some NoMemory) (same_count _ _ tt refl) (same_count _ _ tt refl) (λ e. cc)))

-- A step of the same frames.
pub ships_same : {D : Type 0} {seen : D → Seen} {stopped : D → Stopped} {old new : D} {fault : Option ShipFault} (these those : List Frame) → these ≡ those
    → ShipsFrames seen stopped old new fault these → ShipsFrames seen stopped old new fault those
ships_same {seen = seen} {stopped = stopped} {old = old} {new = new} {fault = fault} these those e said =
    subst (λ (l : List Frame). ShipsFrames seen stopped old new fault l) e said
