-- A folder that is left alone by reading, saying and noting, and the causes of faults.
use Rattle.std.proofs.Common.{◌≡◌, ℕ, List, sym, ◌∙◌, subst}
use Rattle.std.specs.declared.option.Option.{Option}
use Rattle.ziti_outside.specs.Causes.{Rose}
use Rattle.ziti_outside.specs.Moments.{Elapses, Saying}
use Rattle.ziti_outside.specs.Untouched.{OnlyNotes, OnlyReads, OnlySays}
use Rattle.ziti_outside.specs.Views.{Seen, Stopped}
use Rattle.ziti_outside.proofs.MomentLaws.{Elapses-then, Elapses-weaker}
use Rattle.run_notes.specs.NotedLines.{FindsNoMore}
use Rattle.zitilook.specs.declared.status.Status.{Status}
use Rattle.zitilook.specs.declared.status.Status.TheVariants.{WriteFault, DiskFault}
use Rattle.zitilook.specs.Looks.{HasCauses, IsLeftAlone}
use Rattle.zitilook.specs.Steps.{EndsSo}

-- ---- the folder

pub LeftAlone-then : {D : Type 0} {seen : D → Seen} {stopped : D → Stopped} {old mid new : D}
    → IsLeftAlone seen stopped old mid → IsLeftAlone seen stopped mid new → IsLeftAlone seen stopped old new
LeftAlone-then {stopped = stopped} {old = old} first next = record {
  parts = next.parts ∙ first.parts;
  found = λ image left. first.found image (next.found image left);
  stops = Elapses-then (λ image taken. (stopped old).images image) first.stops next.stops (λ i w p. p) (λ i w p. first.found i p);
}

pub read_alone : {D : Type 0} {seen : D → Seen} {stopped : D → Stopped} {old new : D} → OnlyReads seen stopped old new → IsLeftAlone seen stopped old new
read_alone {stopped = stopped} {old = old} reads = record {
  parts = reads.parts;
  found = reads.stops.found;
  stops = Elapses-weaker (λ image taken. (stopped old).images image) reads.stops.time (λ i w p. p.found);
}

pub noted_alone : {D : Type 0} {seen : D → Seen} {stopped : D → Stopped} {old new : D}
    → OnlyNotes seen stopped old new → FindsNoMore stopped old new → IsLeftAlone seen stopped old new
noted_alone {stopped = stopped} {old = old} notes more = record {
  parts = notes.parts;
  found = notes.found;
  stops = Elapses-weaker (λ image taken. (stopped old).images image) more (λ i w none. absurd none);
}

pub said_alone : {D : Type 0} {seen : D → Seen} {stopped : D → Stopped} {old new : D} (said : Option (List ℕ)) (bytes : List ℕ)
    → OnlySays seen stopped old new → Elapses (stopped old) (stopped new) (Saying (stopped old).images said bytes) → IsLeftAlone seen stopped old new
said_alone {stopped = stopped} {old = old} said bytes says stops = record {
  parts = says.parts;
  found = says.found;
  stops = Elapses-weaker (λ image taken. (stopped old).images image) stops (λ i w p. p.found);
}

-- ---- the causes

-- neither fault came
pub calm : (a b : Seen) (status : Status) → (status ≡ WriteFault → ⊥) → (status ≡ DiskFault → ⊥) → b.say_faults ≡ a.say_faults → b.disk_faults ≡ a.disk_faults
    → HasCauses a b status
calm a b status unwritten undisked says calls = record {
  write_fault = λ e. absurd (unwritten e);
  failed_say = λ _. says;
  disk_fault = λ e. absurd (undisked e);
  failed_disk = λ _. calls;
}

-- a say failed
pub unsaid : (a b : Seen) (status : Status) → status ≡ WriteFault → Rose a.say_faults b.say_faults → b.disk_faults ≡ a.disk_faults → HasCauses a b status
unsaid a b status is rose calls = record {
  write_fault = λ _. rose;
  failed_say = λ none. absurd (none is);
  disk_fault = λ (e : status ≡ DiskFault). absurd cc;
  failed_disk = λ _. calls;
}

-- a call on the disk failed
pub unread : (a b : Seen) (status : Status) → status ≡ DiskFault → b.say_faults ≡ a.say_faults → Rose a.disk_faults b.disk_faults → HasCauses a b status
unread a b status is says rose = record {
  write_fault = λ (e : status ≡ WriteFault). absurd cc;
  failed_say = λ _. says;
  disk_fault = λ _. rose;
  failed_disk = λ none. absurd (none is);
}

-- what came since a desk whose counts were the same
pub causes_from : (a b c : Seen) (status : Status) → b.say_faults ≡ a.say_faults → b.disk_faults ≡ a.disk_faults → HasCauses b c status → HasCauses a c status
causes_from a b c status says calls h = record {
  write_fault = λ e. subst (λ (n : ℕ). Rose n c.say_faults) says (h.write_fault e);
  failed_say = λ none. h.failed_say none ∙ says;
  disk_fault = λ e. subst (λ (n : ℕ). Rose n c.disk_faults) calls (h.disk_fault e);
  failed_disk = λ none. h.failed_disk none ∙ calls;
}

-- ---- both

-- a status was noted, which no fault is
pub noted_ends : {D : Type 0} (seen : D → Seen) (stopped : D → Stopped) (old new : D) (status : Status) → (status ≡ WriteFault → ⊥) → (status ≡ DiskFault → ⊥)
    → OnlyNotes seen stopped old new → FindsNoMore stopped old new → EndsSo seen stopped old new status
noted_ends seen stopped old new status unwritten undisked notes more = record {
  causes = calm (seen old) (seen new) status unwritten undisked notes.failed_says notes.failed_calls;
  folder = noted_alone notes more;
}

-- a text was said
pub said_ends : {D : Type 0} (seen : D → Seen) (stopped : D → Stopped) (old mid new : D) (status : Status) (bytes : List ℕ) → (status ≡ WriteFault → ⊥) → (status ≡ DiskFault → ⊥)
    → OnlySays seen stopped old mid → Elapses (stopped old) (stopped mid) (Saying (stopped old).images (seen old).said bytes) → (seen mid).say_faults ≡ (seen old).say_faults
    → OnlyNotes seen stopped mid new → FindsNoMore stopped mid new → EndsSo seen stopped old new status
said_ends seen stopped old mid new status bytes unwritten undisked says stops same notes more = record {
  causes = calm (seen old) (seen new) status unwritten undisked (notes.failed_says ∙ same) (notes.failed_calls ∙ says.failed_calls);
  folder = LeftAlone-then (said_alone (seen old).said bytes says stops) (noted_alone notes more);
}

-- a say failed
pub unsaid_ends : {D : Type 0} (seen : D → Seen) (stopped : D → Stopped) (old mid new : D) (status : Status) (bytes : List ℕ) → status ≡ WriteFault
    → OnlySays seen stopped old mid → Elapses (stopped old) (stopped mid) (Saying (stopped old).images (seen old).said bytes) → Rose (seen old).say_faults (seen mid).say_faults
    → OnlyNotes seen stopped mid new → FindsNoMore stopped mid new → EndsSo seen stopped old new status
unsaid_ends seen stopped old mid new status bytes is says stops rose notes more = record {
  causes = unsaid (seen old) (seen new) status is (subst (λ (n : ℕ). Rose (seen old).say_faults n) (sym notes.failed_says) rose) (notes.failed_calls ∙ says.failed_calls);
  folder = LeftAlone-then (said_alone (seen old).said bytes says stops) (noted_alone notes more);
}

-- the folder was read, and then a part of the run ended so
pub read_ends : {D : Type 0} (seen : D → Seen) (stopped : D → Stopped) (old mid new : D) (status : Status) → OnlyReads seen stopped old mid → (seen mid).disk_faults ≡ (seen old).disk_faults
    → EndsSo seen stopped mid new status → EndsSo seen stopped old new status
read_ends seen stopped old mid new status reads calls ends = record {
  causes = causes_from (seen old) (seen mid) (seen new) status reads.others.failed_says calls ends.causes;
  folder = LeftAlone-then (read_alone reads) ends.folder;
}
