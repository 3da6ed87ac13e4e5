-- What a call does to the list and the room of a desk over memory, and to the calls that it logged.
use Rattle.std.specs.Prelude.{⊤, OnOk, OnErr, is_err, if◌then◌else◌}
use Rattle.std.proofs.Common.{◌≡◌, ℕ, ◌+◌, ◌-◌, Bool, true, false, not, List, [], ◌∷◌, ◌++◌, length, Ok, Err, refl, sym, ap, ◌∙◌, subst, arith, append-nil, length-append}
use Rattle.std.proofs.lemmas.List.{take_all}
use Rattle.std.specs.declared.result.Result.{Result}
use Rattle.ziti_outside.specs.declared.desk.Part.{Part}
use Rattle.ziti_outside.specs.declared.failed.Failed.{Failed}
use Rattle.ziti_outside.specs.Images.{Image}
use Rattle.desk_base.specs.declared.mem_log.Call.{Call}
use Rattle.desk_base.specs.declared.mem_log.Call.TheVariants.{Said, Wrote, Cut, Synced}
use Rattle.desk_base.specs.declared.mem_log.Log.{Log}
use Rattle.desk_base.specs.Pieces.{next_call}
use Rattle.desk_base.specs.MemEvents as of
use Rattle.desk_base.specs.MemEvents.{Event, Writing, Cutting, Syncing, events, said_count, written_count, reads_by, said_by, Replayed, LogsCall, Pends, logged}
use Rattle.desk_base.specs.MemRoom.{Limits, less}
use Rattle.ziti_desk.proofs.MemSteps.{Quiet, quiet_said, stepped}

-- ---- the calls that were logged

-- A call on the folder came behind the others.
logs_quiet : (first held : Image) (log new : Log) (said text : List ℕ) (call : Call) (e : Event) → Replayed first held log.calls.items said log.written.items → LogsCall call text log new
    → Quiet e → said_count (call ∷ []) ≡ 0 → written_count (call ∷ []) ≡ length text → events (call ∷ []) [] text ≡ e ∷ [] → logged new said ≡ logged log said ++ e ∷ []
logs_quiet first held log new said text call e old logs quiet none few is =
    (stepped first held (reads_by e held) log new said said [] text call e old logs (sym (append-nil said)) none few is refl (sym (quiet_said e said quiet))).more

-- A write: as done, or as pending where it was to fail, and not at all where there was no room.
pub write_logs : {T E : Type 0} {r : Result T E} (over fails : Bool) (first held : Image) (log new : Log) (said : List ℕ) (part : Part) (at : ℕ) (bytes : List ℕ)
    → Replayed first held log.calls.items said log.written.items → Pends fails over (λ done. Wrote part at (length bytes) done) bytes log new r
    → logged new said ≡ logged log said ++ (if over then [] else Writing part at bytes (not fails) ∷ [])
write_logs true fails first held log new said part at bytes old pends = ap (λ (l : Log). logged l said) (pends.unlogged refl) ∙ sym (append-nil (logged log said))
write_logs false fails first held log new said part at bytes old pends =
    logs_quiet first held log new said bytes (Wrote part at (length bytes) (not fails)) (Writing part at bytes (not fails)) old (pends.logged refl) (quiet_write (not fails)) (none (not fails)) (few (not fails)) (whole (not fails))
  where
    quiet_write : (done : Bool) → Quiet (Writing part at bytes done)
    quiet_write done = tt

    none : (done : Bool) → said_count (Wrote part at (length bytes) done ∷ []) ≡ 0
    none done = refl

    few : (done : Bool) → written_count (Wrote part at (length bytes) done ∷ []) ≡ length bytes
    few done = omega arith

    whole : (done : Bool) → events (Wrote part at (length bytes) done ∷ []) [] bytes ≡ Writing part at bytes done ∷ []
    whole done = ap (λ (l : List ℕ). Writing part at l done ∷ []) (take_all (length bytes) bytes (omega arith))

-- A cut.
pub cut_logs : {T E : Type 0} {r : Result T E} (over fails : Bool) (first held : Image) (log new : Log) (said : List ℕ) (part : Part) (len : ℕ)
    → Replayed first held log.calls.items said log.written.items → Pends fails over (λ done. Cut part len done) [] log new r
    → logged new said ≡ logged log said ++ (if over then [] else Cutting part len (not fails) ∷ [])
cut_logs true fails first held log new said part len old pends = ap (λ (l : Log). logged l said) (pends.unlogged refl) ∙ sym (append-nil (logged log said))
cut_logs false fails first held log new said part len old pends =
    logs_quiet first held log new said [] (Cut part len (not fails)) (Cutting part len (not fails)) old (pends.logged refl) tt refl refl refl

-- A sync, where it was done.
pub sync_logs : (r : Result ⊤ Failed) (first held : Image) (log new : Log) (said : List ℕ) (part : Part) → Replayed first held log.calls.items said log.written.items
    → OnOk r (LogsCall (Synced part) [] log new) → OnErr r (new ≡ log) → logged new said ≡ logged log said ++ (if is_err r then [] else Syncing part ∷ [])
sync_logs (Ok u) first held log new said part old logs same = logs_quiet first held log new said [] (Synced part) (Syncing part) old logs tt refl refl refl
sync_logs (Err e) first held log new said part old logs same = ap (λ (l : Log). logged l said) same ∙ sym (append-nil (logged log said))

-- A say, where it was done.
pub say_logs : (r : Result ⊤ Failed) (first held : Image) (log new : Log) (said said_now bytes : List ℕ) → Replayed first held log.calls.items said log.written.items
    → OnOk r (LogsCall (Said (length bytes)) [] log new × (said_now ≡ said ++ bytes)) → OnErr r ((said_now ≡ said) × (new ≡ log))
    → logged new said_now ≡ logged log said ++ (if is_err r then [] else of.Saying bytes ∷ [])
say_logs (Ok u) first held log new said said_now bytes old ok err =
    (stepped first held held log new said said_now bytes [] (Said (length bytes)) (of.Saying bytes) old ok.0 ok.1 (omega arith) refl
    (ap (λ (l : List ℕ). of.Saying l ∷ []) (take_all (length bytes) bytes (omega arith))) refl ok.1).more
say_logs (Err e) first held log new said said_now bytes old ok err = rw err.0 (rw err.1 (sym (append-nil (logged log said))))

-- ---- the list and the room

pub same_limits : {f g : List ℕ} {c d p q s t n m l k : ℕ} → f ≡ g → c ≡ d → p ≡ q → s ≡ t → n ≡ m → l ≡ k
    → ◌≡◌ {A = Limits} (record { failing = f; calls = c; part = p; said = s; noted = n; log = l }) (record { failing = g; calls = d; part = q; said = t; noted = m; log = k })
same_limits a b c d e f = rw a (rw b (rw c (rw d (rw e (rw f refl)))))

-- Behind a call that took nothing.
pub limits_none : (failing : List ℕ) (part said noted log : ℕ) (calls : ℕ) {now : ℕ} → now ≡ next_call calls
    → ◌≡◌ {A = Limits} (record { failing = failing; calls = now; part = part; said = said; noted = noted; log = log })
    (less 0 0 0 (record { failing = failing; calls = calls; part = part; said = said; noted = noted; log = log }))
limits_none failing part said noted log calls next = same_limits refl next refl (omega arith) (omega arith) (omega arith)

-- Behind a write or a cut: what it takes of the log is taken where there was room.
pub limits_pending : {T E : Type 0} {r : Result T E} {call : Bool → Call} {text : List ℕ} (over : Bool) {fails : Bool} (log new : Log) (failing : List ℕ) (part said noted : ℕ) (calls : ℕ) {now : ℕ}
    → now ≡ next_call calls → Pends fails over call text log new r
    → ◌≡◌ {A = Limits} (record { failing = failing; calls = now; part = part; said = said; noted = noted; log = new.room })
    (if over then less 0 0 0 (record { failing = failing; calls = calls; part = part; said = said; noted = noted; log = log.room })
    else less 0 0 (32 + length text) (record { failing = failing; calls = calls; part = part; said = said; noted = noted; log = log.room }))
limits_pending true log new failing part said noted calls next pends = same_limits refl next refl (omega arith) (omega arith) (let same = ap (λ (l : Log). l.room) (pends.unlogged refl) in omega (arith, same))
limits_pending false log new failing part said noted calls next pends = same_limits refl next refl (omega arith) (omega arith) (pends.room refl)

-- Behind a sync.
pub limits_synced : {T E : Type 0} (r : Result T E) (log new : Log) (failing : List ℕ) (part said noted : ℕ) (calls : ℕ) {now : ℕ} → now ≡ next_call calls → OnOk r (new.room ≡ log.room - 32) → OnErr r (new ≡ log)
    → ◌≡◌ {A = Limits} (record { failing = failing; calls = now; part = part; said = said; noted = noted; log = new.room })
    (if is_err r then less 0 0 0 (record { failing = failing; calls = calls; part = part; said = said; noted = noted; log = log.room })
    else less 0 0 32 (record { failing = failing; calls = calls; part = part; said = said; noted = noted; log = log.room }))
limits_synced (Ok u) log new failing part said noted calls next room same = same_limits refl next refl (omega arith) (omega arith) room
limits_synced (Err e) log new failing part said noted calls next room same =
    same_limits refl next refl (omega arith) (omega arith) (let room = ap (λ (l : Log). l.room) same in omega (arith, room))

-- Behind a say.
pub limits_said : {T E : Type 0} (r : Result T E) (log new : Log) (said said_now bytes : List ℕ) (failing : List ℕ) (part most noted : ℕ) (calls : ℕ) {now : ℕ} → now ≡ next_call calls
    → OnOk r (LogsCall (Said (length bytes)) [] log new × (said_now ≡ said ++ bytes)) → OnOk r (new.room ≡ log.room - 32) → OnErr r ((said_now ≡ said) × (new ≡ log))
    → ◌≡◌ {A = Limits} (record { failing = failing; calls = now; part = part; said = most - length said_now; noted = noted; log = new.room })
    (if is_err r then less 0 0 0 (record { failing = failing; calls = calls; part = part; said = most - length said; noted = noted; log = log.room })
    else less (length bytes) 0 32 (record { failing = failing; calls = calls; part = part; said = most - length said; noted = noted; log = log.room }))
limits_said (Ok u) log new said said_now bytes failing part most noted calls next ok room err =
    same_limits refl next refl (let long = ap length ok.1 ∙ length-append said bytes in omega (arith, long)) (omega arith) room
limits_said (Err e) log new said said_now bytes failing part most noted calls next ok room err =
    same_limits refl next refl (let long = ap length err.0 in omega (arith, long)) (omega arith) (let room = ap (λ (l : Log). l.room) err.1 in omega (arith, room))

-- What is of two equal values is equal, behind a call that failed.
pub failed_ap : {T E A B : Type 0} (r : Result T E) (a b : A) → OnErr r (a ≡ b) → (f : A → B) → OnErr r (f a ≡ f b)
failed_ap (Ok u) a b same f = tt
failed_ap (Err e) a b same f = ap f same

-- Behind a note.
pub limits_noted : {T E : Type 0} (r : Result T E) (noted noted_now bytes : List ℕ) (failing : List ℕ) (part said most log : ℕ) (calls : ℕ) {now : ℕ} → now ≡ next_call calls
    → OnOk r (noted_now ≡ noted ++ bytes) → OnErr r (noted_now ≡ noted)
    → ◌≡◌ {A = Limits} (record { failing = failing; calls = now; part = part; said = said; noted = most - length noted_now; log = log })
    (if is_err r then less 0 0 0 (record { failing = failing; calls = calls; part = part; said = said; noted = most - length noted; log = log })
    else less 0 (length bytes) 0 (record { failing = failing; calls = calls; part = part; said = said; noted = most - length noted; log = log }))
limits_noted (Ok u) noted noted_now bytes failing part said most log calls next ok err =
    same_limits refl next refl (omega arith) (let long = ap length ok ∙ length-append noted bytes in omega (arith, long)) (omega arith)
limits_noted (Err e) noted noted_now bytes failing part said most log calls next ok err =
    same_limits refl next refl (omega arith) (let long = ap length err in omega (arith, long)) (omega arith)

-- ---- which calls fail

-- A call that is listed is to fail.
pub pends_listed : {T E : Type 0} {r : Result T E} {call : Bool → Call} {text : List ℕ} {log new : Log} {fails listed over : Bool} → fails ≡ listed
    → Pends fails over call text log new r → Pends listed over call text log new r
pends_listed {r = r} {call = call} {text = text} {log = log} {new = new} {over = over} same pends = subst (λ (b : Bool). Pends b over call text log new r) same pends
