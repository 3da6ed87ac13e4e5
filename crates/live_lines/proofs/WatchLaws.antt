-- How the takes of an input that is told as it comes join up.
use Rattle.std.proofs.Common.{◌≡◌, ℕ, List, [], ◌∷◌, ◌++◌, length, take, None, Some, Err, refl, sym, ap, subst, ◌∙◌, append_assoc, append-nil, arith}
use Rattle.std.specs.declared.option.Option.{Option}
use Rattle.std.specs.List.{AllByRecursion}
use Rattle.std.proofs.lemmas.List.{append_cancel_right, length-take}
use Rattle.std.specs.Io.KnownBytes.{Keeps, IsAtEnd}
use Rattle.ziti_outside.specs.Causes.{Rose}
use Rattle.ziti_outside.specs.Told.{Gave, Took, TookFront}
use Rattle.ziti_outside.specs.Views.{Seen}
use Rattle.ziti_outside.proofs.Moves.{Gave-none, Gave-then, Gave-kept, Took-none, Took-then, IsFront-none, IsFront-all, IsFront-then}
use Rattle.frame_lines.specs.declared.told.DecodeFault.{DecodeFault}
use Rattle.frame_lines.specs.declared.decoding.LineTelling.{LineTelling}
use Rattle.frame_lines.specs.LineKinds.{Reading, IsInOrder}
use Rattle.frame_lines.specs.TextTelling.{lines_until, text_of, fault_of}
use Rattle.frame_lines.specs.TellingSoFar.{Follows}
use Rattle.live_lines.specs.declared.exchanges.Exchange.{Exchange}
use Rattle.live_lines.specs.declared.watching.Cut.{Cut}
use Rattle.live_lines.specs.declared.watching.Cut.TheVariants.{NoMemory, Unread, Unsaid}
use Rattle.live_lines.specs.Exchanges.{source_of, starts_of, ends_of}
use Rattle.live_lines.specs.InTime.{HasSaid, most_taken, IsTake, AreAllTakes, IsInTime}
use Rattle.live_lines.specs.LiveTellings.{TellsAll, TellsSome, FailsToTake, FailsToSay, TellsPiece, CutsPiece}

-- ---- the takes

all_more : {X : Type 0} (P : X → Type 0) (xs : List X) (x : X) → AllByRecursion P xs → P x → AllByRecursion P (xs ++ x ∷ [])
all_more P [] x all this = (this, tt)
all_more P (y ∷ xs) x all this = (all.0, all_more P xs x all.1 this)

takes_more : {S D : Type 0} (left : S → Option (List ℕ)) (source now : S) (starts ends : List (S × D)) (start end : S × D) → AreAllTakes left source starts ends now → start.0 ≡ now → IsTake left start end
    → AreAllTakes left source (starts ++ start ∷ []) (ends ++ end ∷ []) end.0
takes_more left source now [] [] start end takes is take = (is ∙ takes, take, refl)
takes_more left source now [] (e ∷ ends) start end takes is take = absurd takes
takes_more left source now (s ∷ starts) [] start end takes is take = absurd takes
takes_more left source now (s ∷ starts) (e ∷ ends) start end takes is take = (takes.0, takes.1, takes_more left e.0 now starts ends start end takes.2 is take)

-- a take that brought the front of a buffer
pub takes_piece : {S D : Type 0} (left : S → Option (List ℕ)) (source source_then : S) (desk desk_then : D) (n : ℕ) (buf : List ℕ) → Gave (left source) (left source_then) (take n buf)
    → length buf ≡ most_taken → desk_then ≡ desk → IsTake left (source, desk) (source_then, desk_then)
takes_piece left source source_then desk desk_then n buf gave room same =
    record { piece = take n buf; gave = gave; few = omega (arith, length-take n buf, room); desk = same }

-- one that failed
pub takes_none : {S D : Type 0} (left : S → Option (List ℕ)) (source source_then : S) (desk desk_then : D) → Keeps (left source) (left source_then) → desk_then ≡ desk
    → IsTake left (source, desk) (source_then, desk_then)
takes_none left source source_then desk desk_then keeps same =
    record { piece = []; gave = Gave-kept (left source) (left source) (left source_then) [] (Gave-none (left source)) keeps; few = omega arith; desk = same }

pub in_time_start : {S D : Type 0} (k : Reading) (left : S → Option (List ℕ)) (seen : D → Seen) (e : Exchange S D) → IsInTime k left seen e e
in_time_start k left seen e =
    record { starts = []; ends = []; begun = sym (append-nil (starts_of e)); ended = sym (append-nil (ends_of e)); takes = refl; each = tt }

pub in_time_more : {S D : Type 0} (k : Reading) (left : S → Option (List ℕ)) (seen : D → Seen) (before now then : Exchange S D) (start end : S × D) → IsInTime k left seen before now
    → HasSaid k (left (source_of before)) (left start.0) (seen before.desk).said (seen start.1).said → start.0 ≡ source_of now → IsTake left start end
    → starts_of then ≡ starts_of now ++ start ∷ [] → ends_of then ≡ ends_of now ++ end ∷ [] → source_of then ≡ end.0 → IsInTime k left seen before then
in_time_more k left seen before now then start end in_time said found taken begins finishes is = record {
  starts = in_time.starts ++ start ∷ [];
  ends = in_time.ends ++ end ∷ [];
  begun = begins ∙ ap (λ ts. ts ++ start ∷ []) in_time.begun ∙ append_assoc (starts_of before) in_time.starts (start ∷ []);
  ended = finishes ∙ ap (λ ts. ts ++ end ∷ []) in_time.ended ∙ append_assoc (ends_of before) in_time.ends (end ∷ []);
  takes = subst (λ s. AreAllTakes left (source_of before) (in_time.starts ++ start ∷ []) (in_time.ends ++ end ∷ []) s) (sym is)
      (takes_more left (source_of before) (source_of now) in_time.starts in_time.ends start end in_time.takes found taken);
  each = all_more (λ t. HasSaid k (left (source_of before)) (left t.0) (seen before.desk).said (seen t.1).said) in_time.starts start in_time.each said;
}

-- ---- so far

-- What came was told and said, and each take found it so.
pub record Watches {S D K : Type 0} (k : Reading) (left : S → Option (List ℕ)) (seen : D → Seen) (before now : Exchange S D) (telling : LineTelling K) : Type 0 where
  pub came : List ℕ
  pub gave : Gave (left (source_of before)) (left (source_of now)) came
  pub said : Took (seen before.desk).said (seen now.desk).said (text_of k came)
  pub follows : Follows k came telling
  pub in_time : IsInTime k left seen before now

no_text : (k : Reading) → IsInOrder k → text_of k [] ≡ []
no_text k order = ap lines_until (order.last 0 [] (λ line n is. let short = order.none 0 in cc)).0

pub says_nothing : (k : Reading) → IsInOrder k → (said : Option (List ℕ)) → Took said said (text_of k [])
says_nothing k order said = subst (λ (bytes : List ℕ). Took said said bytes) (sym (no_text k order)) (Took-none said)

pub watch_start : {S D K : Type 0} (k : Reading) → IsInOrder k → (left : S → Option (List ℕ)) (seen : D → Seen) (e : Exchange S D) (telling : LineTelling K)
    → Follows k [] telling → Watches k left seen e e telling
watch_start k order left seen e telling follows = record {
  came = [];
  gave = Gave-none (left (source_of e));
  said = says_nothing k order (seen e.desk).said;
  follows = follows;
  in_time = in_time_start k left seen e;
}

-- a take was made
pub watch_take : {S D K : Type 0} (k : Reading) (left : S → Option (List ℕ)) (seen : D → Seen) (before now then : Exchange S D) (end : S × D) (telling : LineTelling K)
    → Watches k left seen before now telling → IsTake left (source_of now, now.desk) end → starts_of then ≡ starts_of now ++ (source_of now, now.desk) ∷ []
    → ends_of then ≡ ends_of now ++ end ∷ [] → source_of then ≡ end.0 → IsInTime k left seen before then
watch_take k left seen before now then end telling w taken begins finishes is =
    in_time_more k left seen before now then (source_of now, now.desk) end w.in_time (record { came = w.came; gave = w.gave; lines = w.said }) refl taken begins finishes is

-- a piece came, and its lines were said
pub watch_more : {S D K : Type 0} (k : Reading) (left : S → Option (List ℕ)) (seen : D → Seen) (before now then : Exchange S D) (desk_mid : D) (telling telling_then : LineTelling K) (piece : List ℕ)
    → (w : Watches k left seen before now telling) → IsInTime k left seen before then → Gave (left (source_of now)) (left (source_of then)) piece → desk_mid ≡ now.desk
    → TellsPiece k w.came piece telling_then (seen desk_mid).said (seen then.desk).said → Watches k left seen before then telling_then
watch_more k left seen before now then desk_mid telling telling_then piece w in_time gave same told = record {
  came = w.came ++ piece;
  gave = Gave-then (left (source_of before)) (left (source_of now)) (left (source_of then)) w.came piece w.gave gave;
  said = subst (λ (bytes : List ℕ). Took (seen before.desk).said (seen then.desk).said bytes) (sym told.complete)
      (Took-then (seen before.desk).said (seen now.desk).said (seen then.desk).said (text_of k w.came) told.lines w.said
      (subst (λ d. Took (seen d).said (seen then.desk).said told.lines) same told.took));
  follows = told.follows;
  in_time = in_time;
}

-- a piece came, and was not told or not said whole
pub watch_cut : {S D K : Type 0} (cut : Cut) (k : Reading) (left : S → Option (List ℕ)) (seen : D → Seen) (before now then : Exchange S D) (desk_mid : D) (telling : LineTelling K) (piece : List ℕ)
    → (w : Watches k left seen before now telling) → Gave (left (source_of now)) (left (source_of then)) piece → desk_mid ≡ now.desk
    → CutsPiece cut k w.came piece (seen desk_mid).said (seen then.desk).said
    → TellsSome cut k (left (source_of before)) (left (source_of then)) (seen before.desk).said (seen then.desk).said
watch_cut NoMemory k left seen before now then desk_mid telling piece w gave same cuts = record {
  came = w.came ++ piece;
  gave = Gave-then (left (source_of before)) (left (source_of now)) (left (source_of then)) w.came piece w.gave gave;
  says = (w.came, (piece, refl), subst (λ (s : Option (List ℕ)). Took (seen before.desk).said s (text_of k w.came)) (sym (cuts ∙ ap (λ d. (seen d).said) same)) w.said);
}
watch_cut Unread k left seen before now then desk_mid telling piece w gave same cuts = absurd cuts
watch_cut Unsaid k left seen before now then desk_mid telling piece w gave same cuts =
    let front = subst (λ d. TookFront (seen d).said (seen then.desk).said cuts.0) same cuts.2 in
    record {
      came = w.came ++ piece;
      gave = Gave-then (left (source_of before)) (left (source_of now)) (left (source_of then)) w.came piece w.gave gave;
      says = (
        text_of k w.came ++ front.0,
        IsFront-then (text_of k w.came) front.0 cuts.0 (text_of k (w.came ++ piece)) front.1 (sym cuts.1),
        Took-then (seen before.desk).said (seen now.desk).said (seen then.desk).said (text_of k w.came) front.0 w.said front.2,
      );
    }

-- a take failed
pub watch_unread : {S D K : Type 0} (k : Reading) (left : S → Option (List ℕ)) (seen : D → Seen) (before now then : Exchange S D) (telling : LineTelling K)
    → (w : Watches k left seen before now telling) → Keeps (left (source_of now)) (left (source_of then)) → then.desk ≡ now.desk
    → TellsSome Unread k (left (source_of before)) (left (source_of then)) (seen before.desk).said (seen then.desk).said
watch_unread k left seen before now then telling w keeps same = record {
  came = w.came;
  gave = Gave-kept (left (source_of before)) (left (source_of now)) (left (source_of then)) w.came w.gave keeps;
  says = subst (λ d. Took (seen before.desk).said (seen d).said (text_of k w.came)) (sym same) w.said;
}

-- the input came to its end
pub watch_end : {S D K : Type 0} (k : Reading) (left : S → Option (List ℕ)) (seen : D → Seen) (before now then : Exchange S D) (telling : LineTelling K) (fault : Option DecodeFault)
    → (w : Watches k left seen before now telling) → Gave (left (source_of now)) (left (source_of then)) [] → IsAtEnd (left (source_of then)) → then.desk ≡ now.desk
    → ((came : List ℕ) → Follows k came telling → fault ≡ fault_of k came)
    → TellsAll k (left (source_of before)) (left (source_of then)) (seen before.desk).said (seen then.desk).said fault
watch_end k left seen before now then telling fault w none end same is = record {
  input = w.came;
  gave = subst (λ (bytes : List ℕ). Gave (left (source_of before)) (left (source_of then)) bytes) (append-nil w.came)
      (Gave-then (left (source_of before)) (left (source_of now)) (left (source_of then)) w.came [] w.gave none);
  end = end;
  lines = subst (λ d. Took (seen before.desk).said (seen d).said (text_of k w.came)) (sym same) w.said;
  is_fault = is w.came w.follows;
}

-- there was no room to count the takes
pub watch_starved : {S D K : Type 0} (k : Reading) (left : S → Option (List ℕ)) (seen : D → Seen) (before now : Exchange S D) (telling : LineTelling K) → Watches k left seen before now telling
    → TellsSome NoMemory k (left (source_of before)) (left (source_of now)) (seen before.desk).said (seen now.desk).said
watch_starved k left seen before now telling w = record { came = w.came; gave = w.gave; says = (w.came, IsFront-all w.came, w.said) }

-- no room was there for the first piece
pub watch_none : (k : Reading) → IsInOrder k → (left said : Option (List ℕ)) → TellsSome NoMemory k left left said said
watch_none k order left said = record { came = []; gave = Gave-none left; says = ([], IsFront-none [], says_nothing k order said) }

-- ---- causes

-- what cuts a piece short is no failed take
pub cut_calm : (c : Cut) (k : Reading) (came piece : List ℕ) (said said_now : Option (List ℕ)) (before now : ℕ) → CutsPiece c k came piece said said_now → now ≡ before
    → FailsToTake {T = Option DecodeFault} before now (Err c)
cut_calm NoMemory k came piece said said_now before now cuts same = same
cut_calm Unread k came piece said said_now before now cuts same = absurd cuts
cut_calm Unsaid k came piece said said_now before now cuts same = same

pub cut_said : (c : Cut) (before mid now : ℕ) → FailsToSay {T = Unit {0}} mid now (Err c) → mid ≡ before → FailsToSay {T = Option DecodeFault} before now (Err c)
cut_said NoMemory before mid now fails same = fails ∙ same
cut_said Unread before mid now fails same = fails ∙ same
cut_said Unsaid before mid now fails same = subst (λ (n : ℕ). Rose n now) same fails

-- ---- in plain words

taken_by : (said more : List ℕ) (after : Option (List ℕ)) → Took (Some said) after more → after ≡ Some (said ++ more)
taken_by said more None took = absurd took
taken_by said more (Some now) took = ap Some took

pub said_by_then : (k : Reading) (came rest said : List ℕ) (said_then : Option (List ℕ)) → HasSaid k (Some (came ++ rest)) (Some rest) (Some said) said_then
    → said_then ≡ Some (said ++ text_of k came)
said_by_then k came rest said said_then has =
    let same : has.came ≡ came = append_cancel_right has.came came rest (sym has.gave) in
    taken_by said (text_of k has.came) said_then has.lines ∙ ap (λ (b : List ℕ). Some (said ++ text_of k b)) same
