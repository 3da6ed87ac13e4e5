-- Tagged replies stand one behind another, and what their lines are.
use Rattle.std.proofs.Common.{◌≡◌, ℕ, zero, suc, ◌-◌, ◌+◌, ◌≤◌, Bool, true, false, cond, eqb, ◌++◌, List, [], ◌∷◌, length, drop, map, decimal, codes, Ok, refl, sym, ap, subst, ◌∙◌, append_assoc, arith}
use Rattle.std.specs.declared.result.Result.{Result}
use Rattle.channel_frame.specs.declared.frames.Frame.{Frame}
use Rattle.channel_frame.specs.declared.frames.Front.{Front}
use Rattle.channel_frame.specs.declared.frames.Front.TheVariants as front
use Rattle.channel_frame.specs.StreamReading.{front}
use Rattle.channel_frame.specs.AnnouncedFrames.{IsWholeFront}
use Rattle.channel_frame.proofs.ReadingLaws.{drop_before}
use Rattle.channel_frame.proofs.FrontLaws.{front_stays, whole_within}
use Rattle.frame_lines.specs.declared.told.TellCause.{TellCause}
use Rattle.frame_lines.specs.FrameLines.{line_for}
use Rattle.frame_lines.specs.FrameTurns.{PutsLine}
use Rattle.frame_lines.specs.LineKinds.{Short, Whole, IsInOrder}
use Rattle.trace_lines.specs.declared.fronts.ReplyFront.{ReplyFront}
use Rattle.trace_lines.specs.declared.fronts.ReplyFront.TheVariants as reply
use Rattle.trace_lines.specs.TaggedReplies.{behind_tag, reply_front, IsWholeReply, and_then_replies, replies_past, replies_of, and_then_rest, rest_past, rest_behind, with_session, reply_line, reply_at, tagged}

-- ---- what stands at the front

-- A whole frame behind a tag is a whole reply.
pub whole_behind_tag : (session : ℕ) (bytes : List ℕ) → IsWholeFront bytes → IsWholeReply (4 ∷ session ∷ bytes)
whole_behind_tag session bytes whole = record { session = session; frame = whole.frame; len = 2 + whole.len; stands = ap (behind_tag session) whole.stands }

tag_within : (x : Front) (s t n k : ℕ) (f : Frame) → ((g : Frame) (m : ℕ) → x ≡ front.Whole g m → m ≤ k) → behind_tag s x ≡ reply.Whole t f n → (2 ≤ n) × (n ≤ 2 + k)
tag_within front.Short s t n k f fits e = absurd cc
tag_within (front.Bad d) s t n k f fits e = absurd cc
tag_within (front.Whole g m) s t n k f fits e = let same : 2 + m ≡ n = cc in let few = fits g m refl in (omega arith, omega (arith, few))

tagged_within : (tag : Bool) (s t n : ℕ) (bytes : List ℕ) (f : Frame) → cond tag (behind_tag s (front bytes)) reply.Untagged ≡ reply.Whole t f n → (2 ≤ n) × (n ≤ 2 + length bytes)
tagged_within true s t n bytes f e = tag_within (front bytes) s t n (length bytes) f (λ g m is. (whole_within bytes g m is).1) e
tagged_within false s t n bytes f e = absurd cc

one_byte : (tag : Bool) (t n : ℕ) (f : Frame) → cond tag reply.Unfinished reply.Untagged ≡ reply.Whole t f n → ⊥
one_byte true t n f e = cc
one_byte false t n f e = cc

-- a whole reply has two bytes at least, and stands within the bytes
pub reply_within : (bytes : List ℕ) (s n : ℕ) (f : Frame) → reply_front bytes ≡ reply.Whole s f n → (2 ≤ n) × (n ≤ length bytes)
reply_within [] s n f e = absurd cc
reply_within (b ∷ []) s n f e = absurd (one_byte (eqb b 4) s n f e)
reply_within (b ∷ c ∷ bytes) s n f e = let within = tagged_within (eqb b 4) c s n bytes f e in (within.0, omega (arith, within.1))

-- ---- replies and what is left, a step at a time

replies_past-drop : (bytes : List ℕ) (n : ℕ) → replies_past bytes n ≡ replies_of (drop n bytes)
replies_past-drop [] zero = refl
replies_past-drop [] (suc n) = refl
replies_past-drop (b ∷ bytes) zero = refl
replies_past-drop (b ∷ bytes) (suc n) = replies_past-drop bytes n

rest_past-drop : (bytes : List ℕ) (n : ℕ) → rest_past bytes n ≡ rest_behind (drop n bytes)
rest_past-drop [] zero = refl
rest_past-drop [] (suc n) = refl
rest_past-drop (b ∷ bytes) zero = refl
rest_past-drop (b ∷ bytes) (suc n) = rest_past-drop bytes n

replies_step : (bytes : List ℕ) (s n : ℕ) (f : Frame) → reply_front bytes ≡ reply.Whole s f n → replies_of bytes ≡ (s, f) ∷ replies_of (drop n bytes)
replies_step [] s n f e = absurd cc
replies_step (b ∷ bytes) s n f e =
    ap (λ (x : ReplyFront). and_then_replies x (replies_past bytes)) e
    ∙ ap (λ (rs : List (ℕ × Frame)). (s, f) ∷ rs) (replies_past-drop bytes (n - 1) ∙ ap replies_of (sym (drop_before n b bytes (omega (arith, (reply_within (b ∷ bytes) s n f e).0)))))

rest_step : (bytes : List ℕ) (s n : ℕ) (f : Frame) → reply_front bytes ≡ reply.Whole s f n → rest_behind bytes ≡ rest_behind (drop n bytes)
rest_step [] s n f e = absurd cc
rest_step (b ∷ bytes) s n f e =
    ap (λ (x : ReplyFront). and_then_rest (b ∷ bytes) x (rest_past bytes)) e
    ∙ rest_past-drop bytes (n - 1) ∙ ap rest_behind (sym (drop_before n b bytes (omega (arith, (reply_within (b ∷ bytes) s n f e).0))))

-- no reply stands at the front
abbrev IsEnd : ReplyFront → Type 0
IsEnd reply.Unfinished = Unit {0}
IsEnd reply.Untagged = Unit {0}
IsEnd (reply.Faulty e) = Unit {0}
IsEnd (reply.Whole s f n) = ⊥

no_more : (x : ReplyFront) (rest : ℕ → List (ℕ × Frame)) → IsEnd x → and_then_replies x rest ≡ []
no_more reply.Unfinished rest end = refl
no_more reply.Untagged rest end = refl
no_more (reply.Faulty e) rest end = refl
no_more (reply.Whole s f n) rest end = absurd end

all_left : (x : ReplyFront) (bytes : List ℕ) (rest : ℕ → List ℕ) → IsEnd x → and_then_rest bytes x rest ≡ bytes
all_left reply.Unfinished bytes rest end = refl
all_left reply.Untagged bytes rest end = refl
all_left (reply.Faulty e) bytes rest end = refl
all_left (reply.Whole s f n) bytes rest end = absurd end

-- ---- whatever more comes

-- what stands at the front stays there
behind_stays : (x y : Front) (s : ℕ) → (behind_tag s x ≡ reply.Unfinished → ⊥) → ((x ≡ front.Short → ⊥) → y ≡ x) → behind_tag s y ≡ behind_tag s x
behind_stays front.Short y s other same = absurd (other refl)
behind_stays (front.Bad e) y s other same = ap (behind_tag s) (same (λ u. cc))
behind_stays (front.Whole f n) y s other same = ap (behind_tag s) (same (λ u. cc))

tagged_stays : (tag : Bool) (s : ℕ) (x y : Front) → (cond tag (behind_tag s x) reply.Untagged ≡ reply.Unfinished → ⊥) → ((x ≡ front.Short → ⊥) → y ≡ x)
    → cond tag (behind_tag s y) reply.Untagged ≡ cond tag (behind_tag s x) reply.Untagged
tagged_stays true s x y other same = behind_stays x y s other same
tagged_stays false s x y other same = refl

one_stays : (tag : Bool) (x : ReplyFront) → (cond tag reply.Unfinished reply.Untagged ≡ reply.Unfinished → ⊥) → cond tag x reply.Untagged ≡ cond tag reply.Unfinished reply.Untagged
one_stays true x other = absurd (other refl)
one_stays false x other = refl

one_more : (b : ℕ) (more : List ℕ) → (reply_front (b ∷ []) ≡ reply.Unfinished → ⊥) → reply_front (b ∷ more) ≡ reply_front (b ∷ [])
one_more b [] other = refl
one_more b (s ∷ more) other = one_stays (eqb b 4) (behind_tag s (front more)) other

front_held : (held more : List ℕ) → (reply_front held ≡ reply.Unfinished → ⊥) → reply_front (held ++ more) ≡ reply_front held
front_held [] more other = absurd (other refl)
front_held (b ∷ []) more other = one_more b more other
front_held (b ∷ s ∷ held) more other = tagged_stays (eqb b 4) s (front held) (front (held ++ more)) other (λ short. front_stays held more short)

-- ---- in order

-- a reply that is whole, behind its line
record HasReply (x : ReplyFront) (line : Result (List ℕ) TellCause) (len : ℕ) : Type 0 where
  pub session : ℕ
  pub frame : Frame
  pub stands : x ≡ reply.Whole session frame len
  pub told : reply_line (session, frame) ≡ line

whole_reply : (x : ReplyFront) (at len : ℕ) (line : Result (List ℕ) TellCause) → reply_at at x ≡ Whole line len → HasReply x line len
whole_reply reply.Unfinished at len line is = absurd cc
whole_reply reply.Untagged at len line is = absurd cc
whole_reply (reply.Faulty e) at len line is = absurd cc
whole_reply (reply.Whole s f n) at len line is =
    let same : n ≡ len = cc in
    record { session = s; frame = f; stands = ap (reply.Whole s f) same; told = cc }

within : (at len : ℕ) (bytes : List ℕ) (line : Result (List ℕ) TellCause) → reply_at at (reply_front bytes) ≡ Whole line len → (1 ≤ len) × (len ≤ length bytes)
within at len bytes line is =
    let whole = whole_reply (reply_front bytes) at len line is in
    let fits = reply_within bytes whole.session len whole.frame whole.stands in
    (omega (arith, fits.0), fits.1)

first : (at len : ℕ) (bytes : List ℕ) (line : Result (List ℕ) TellCause) → reply_at at (reply_front bytes) ≡ Whole line len
    → (map reply_line (replies_of bytes) ≡ line ∷ map reply_line (replies_of (drop len bytes))) × (rest_behind bytes ≡ rest_behind (drop len bytes))
first at len bytes line is =
    let whole = whole_reply (reply_front bytes) at len line is in
    let others : List (Result (List ℕ) TellCause) = map reply_line (replies_of (drop len bytes)) in (
      ap (map reply_line) (replies_step bytes whole.session len whole.frame whole.stands) ∙ ap (λ (l : Result (List ℕ) TellCause). l ∷ others) whole.told,
      rest_step bytes whole.session len whole.frame whole.stands,
    )

is_end : (x : ReplyFront) (at : ℕ) → ((line : Result (List ℕ) TellCause) (len : ℕ) → reply_at at x ≡ Whole line len → ⊥) → IsEnd x
is_end reply.Unfinished at none = tt
is_end reply.Untagged at none = tt
is_end (reply.Faulty e) at none = tt
is_end (reply.Whole s f n) at none = none (reply_line (s, f)) n refl

last : (at : ℕ) (bytes : List ℕ) → ((line : Result (List ℕ) TellCause) (len : ℕ) → reply_at at (reply_front bytes) ≡ Whole line len → ⊥)
    → (map reply_line (replies_of bytes) ≡ []) × (rest_behind bytes ≡ bytes)
last at [] none = (refl, refl)
last at (b ∷ bytes) none =
    let x : ReplyFront = reply_front (b ∷ bytes) in
    let end = is_end x at none in
    (ap (map reply_line) (no_more x (replies_past bytes) end), all_left x (b ∷ bytes) (rest_past bytes) end)

not_short : (x : ReplyFront) (at : ℕ) → (reply_at at x ≡ Short → ⊥) → x ≡ reply.Unfinished → ⊥
not_short x at other is = other (ap (reply_at at) is)

pub replies_in_order : IsInOrder tagged
replies_in_order = record {
  none = λ at. refl;
  within = within;
  first = first;
  last = last;
  stays = λ at bytes more other. ap (reply_at at) (front_held bytes more (not_short (reply_front bytes) at other));
}

-- ---- the line of a reply

-- the line of a frame, with a session in front
told_line : (s : ℕ) (f : Frame) (before now items : List ℕ) (u : Unit {0}) → PutsLine (line_for f) [] items (Ok u) → now ≡ before ++ (decimal s ++ (codes " " ++ items)) → PutsLine (reply_line (s, f)) before now (Ok u)
told_line s f before now items u puts put = (
  decimal s ++ (codes " " ++ puts.0),
  ap (with_session s) puts.1,
  put ∙ ap (λ (b : List ℕ). before ++ (decimal s ++ (codes " " ++ b))) puts.2
      ∙ ap (λ (b : List ℕ). before ++ (decimal s ++ b)) (sym (append_assoc (codes " ") puts.0 (10 ∷ [])))
      ∙ ap (λ (b : List ℕ). before ++ b) (sym (append_assoc (decimal s) (codes " " ++ puts.0) (10 ∷ []))),
)

pub puts_reply : (s : ℕ) (f : Frame) (before now old items : List ℕ) (put : Result (Unit {0}) TellCause) (u : Unit {0}) → old ≡ [] → PutsLine (line_for f) old items put → put ≡ Ok u
    → now ≡ before ++ (decimal s ++ (codes " " ++ items)) → PutsLine (reply_line (s, f)) before now (Ok u)
puts_reply s f before now old items put u none puts is add =
    told_line s f before now items u (subst (λ (l : List ℕ). PutsLine (line_for f) l items (Ok u)) none (subst (λ (p : Result (Unit {0}) TellCause). PutsLine (line_for f) old items p) is puts)) add
