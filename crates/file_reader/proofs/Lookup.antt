-- The search for a comment line: a turn of the code's loop, from the line at a place of the file to the next; the answer by the
-- reader's; the part that is shown. For users: a comment that is found lies in the file (`comment_inside`) and is not empty
-- (`comment_some`), so that the empty part tells a refusal.
use Rattle.std.specs.Prelude.{Result, Err, Ok}
use Prim.Native.Nat.{ℕ, suc, ◌+◌, ◌-◌, ◌≤◌, ◌<◌}
use mathlib.Core.Path.{◌≡◌, refl, ap, sym, ◌∙◌}
use mathlib.Core.List.{List, [], ◌∷◌}
use mathlib.Core.Bool.{Bool, true, false, cond}
use native.Mathlib.Omega.{arith}
use native.Mathlib.Nat.{eq-zero-or-pos}
use mathlib.Core.Logic.{⊎_elim}
use lib.ListN.{length, take, drop, length-drop, length-take, drop_of_length-le}
use lib.Seq.{drop-nil}
use lib.Dec.{eqb, ltb}
use borrow.Author.Tests.{ne_eqb, eq-eqb, eqb-false, lt-ltb, le-ltb}
use denote.Ref.{Bor}
use Rattle.basics.proofs.Clash.{clash}
use Rattle.refusals.specs.Answers.{Answer, number, refused}
use Rattle.refusals.specs.declared.Refusal.{Refusal}
use Rattle.recorded.specs.declared.Test.{Test}
use Rattle.file_reader.specs.private.Gathering.{gathered}
use Rattle.file_reader.specs.declared.Failed.{Failed}
use Rattle.file_text.specs.Lines.{Line, lines, span_at, at_crlf, extend}
use Rattle.file_text.proofs.LineAt.{inside, lines-at}
use Rattle.refusals.proofs.Answering.{number_pos, number_injective}
use Rattle.file_kinds.specs.Kinds.{is_comment}
use Rattle.file_reader.specs.private.Reading.{read_recorded, comment_at}
use Rattle.file_reader.specs.Comments.{Part, Shows, no_part, found, no_comment, comment_from, comment_lines}
use Rattle.file_reader.specs.declared.Found.{Found}
use Rattle.file_text.specs.declared.Span.{Span}

pub find_past : (f : List ℕ) (at k : ℕ) (C : Answer Part) → comment_from k at (lines (drop at f)) ≡ C → length f ≤ at → no_comment ≡ C
unfolding comment_from lines
find_past f at k C q h = rw (drop_of_length-le f h) at q

-- a turn of the search; t says whether the line is a comment, and C is what the search started with
pub record FindTurn (f : List ℕ) (at : ℕ) (s : Span) (t : Bool) (k : ℕ) (C : Answer Part) : Type 0 where
  pub here : at < length f
  pub span : s ≡ span_at f at
  pub kind : t ≡ is_comment (take (s.end - at) (drop at f))
  pub goal : comment_from k at (lines (drop at f)) ≡ C

module _ {f : List ℕ} {at : ℕ} {s : Span} {t : Bool} {k : ℕ} {C : Answer Part} (T : FindTurn f at s t k C) where
  step : (size : ℕ) × (comment_from k at (record { text = take (s.end - at) (drop at f); size = size } ∷ lines (drop s.next f)) ≡ C) × (at + size ≡ s.next)
  step = let w = lines-at f at s T.span T.here in (w.0, rw w.1 at T.goal, w.2)

  pub find_other : t ≡ false → comment_from k s.next (lines (drop s.next f)) ≡ C
  unfolding comment_from
  find_other x = rw step.2 at (rw (sym T.kind ∙ x, comment_from) at step.1)

  pub find_later : t ≡ true → 1 < k → comment_from (k - 1) s.next (lines (drop s.next f)) ≡ C
  unfolding comment_from
  find_later x y = rw step.2 at (rw (lt-ltb 1 k y) at (rw (sym T.kind ∙ x, comment_from) at step.1))

  found_length : length (take (s.end - at) (drop at f)) ≡ s.end - at
  found_length =
      let b = inside f at s T.span (omega (arith, T.here)) in
      length-take (s.end - at) (drop at f) ∙ omega (arith, b, length-drop at f)

  pub find_here : t ≡ true → k ≤ 1 → k ≡ 1 → found (Ok (record { start = at; len = s.end - at })) ≡ C
  unfolding comment_from
  find_here x y z = rw (eq-eqb k 1 z, found_length) at (rw (le-ltb 1 k y) at (rw (sym T.kind ∙ x, comment_from) at step.1))

  pub find_zero : t ≡ true → k ≤ 1 → (k ≡ 1 → ⊥) → no_comment ≡ C
  unfolding comment_from
  find_zero x y z = rw (ne_eqb k 1 z) at (rw (le-ltb 1 k y) at (rw (sym T.kind ∙ x, comment_from) at step.1))

-- the search starts behind the first line
pub find_start : (f : List ℕ) (s : Span) (e : s ≡ span_at f 0) (k : ℕ) → comment_from k s.next (lines (drop s.next f)) ≡ comment_lines k (lines f)
unfolding comment_from lines
find_start f s e k = ⊎_elim none some (eq-zero-or-pos (length f))
  where
    none : length f ≡ 0 → comment_from k s.next (lines (drop s.next f)) ≡ comment_lines k (lines f)
    none z =
        let n : f ≡ [] = drop_of_length-le f {i = 0} (omega arith) in
        rw (n, drop-nil s.next)

    some : 0 < length f → comment_from k s.next (lines (drop s.next f)) ≡ comment_lines k (lines f)
    some z =
        let w = lines-at f 0 s e z in
        let m : w.0 ≡ s.next = omega (arith, w.2) in
        sym (ap (comment_lines k) w.1 ∙ ap (λ (n : ℕ). comment_from k n (lines (drop s.next f))) m)

-- the answer of the reader first: its refusal n, and else what the search finds
lookup_by : (x : Refusal) (n : ℕ) (c : Answer Part) → number x ≡ n → refused x no_part ≡ cond (eqb n 0) c (record { refusal = n; value = no_part })
lookup_by x n c e =
    let z : eqb n 0 ≡ false = ne_eqb n 0 (λ d. omega (arith, number_pos x)) in
    rw (z, e)

lookup_none : (n : ℕ) (c : Answer Part) → n ≡ 0 → c ≡ cond (eqb n 0) c (record { refusal = n; value = no_part })
lookup_none n c e = rw e

module _ (f : List ℕ) (k : ℕ) (m : Result Test Failed) (p : gathered m ≡ read_recorded true f) where
  refusal_is : {a : Answer Test} → gathered m ≡ a → a.refusal ≡ (read_recorded true f).refusal
  refusal_is d = ap (λ (a : Answer Test). a.refusal) (sym d ∙ p)

  pub lookup_refused : {x : Failed} → m ≡ Err x → refused x.why no_part ≡ comment_at f k
  unfolding comment_at
  lookup_refused {x} e = lookup_by x.why (read_recorded true f).refusal (comment_lines k (lines f)) (refusal_is (ap gathered e))

  pub lookup_found : {t : Test} → m ≡ Ok t → comment_lines k (lines f) ≡ comment_at f k
  unfolding comment_at
  lookup_found e = lookup_none (read_recorded true f).refusal (comment_lines k (lines f)) (sym (refusal_is (ap gathered e)))

-- ---- where a comment lies

-- no line's text is longer than the line with its end, and the lines are as long as the file
size : List Line → ℕ
size [] = 0
size (l ∷ ls) = l.size + size ls

Sound : List Line → Type 0
Sound [] = Unit {0}
Sound (l ∷ ls) = (length l.text ≤ l.size) × Sound ls

extend_sound : (t : Bool) (b : ℕ) (ls : List Line) → Sound ls → Sound (extend t b ls)
unfolding Sound
extend_sound t b [] h = (omega arith, tt)
extend_sound true b (l ∷ ls) h = (omega arith, h.1)
extend_sound false b (l ∷ ls) h = (omega arith, h.1)

lines_sound : (s : List ℕ) → Sound (lines s)
unfolding lines Sound
lines_sound [] = tt
lines_sound (b ∷ s) = go (eqb b 10) refl (lines_sound s)
  where
    go : (t : Bool) → eqb b 10 ≡ t → Sound (lines s) → Sound (lines (b ∷ s))
    go true e ih = rw (e, lines) (omega arith, ih)
    go false e ih = rw (e, lines) (extend_sound (at_crlf b s) b (lines s) ih)

extend-size : (t : Bool) (b : ℕ) (ls : List Line) → size (extend t b ls) ≡ suc (size ls)
unfolding size
extend-size t b [] = refl
extend-size true b (l ∷ ls) = omega arith
extend-size false b (l ∷ ls) = omega arith

lines-size : (s : List ℕ) → size (lines s) ≡ length s
unfolding lines size
lines-size [] = refl
lines-size (b ∷ s) = go (eqb b 10) refl (lines-size s)
  where
    go : (t : Bool) → eqb b 10 ≡ t → size (lines s) ≡ length s → size (lines (b ∷ s)) ≡ suc (length s)
    go true e ih = rw (e, lines) (omega arith)
    go false e ih = rw (e, lines) (omega (arith, extend-size (at_crlf b s) b (lines s)))

-- a comment lies in the file
from_inside : (k at : ℕ) (ls : List Line) → Sound ls → (comment_from k at ls).value.start + (comment_from k at ls).value.len ≤ at + size ls
unfolding comment_from size Sound
from_inside k at [] h = omega arith
from_inside k at (l ∷ ls) h =
    go (is_comment l.text) refl (ltb 1 k) refl (eqb k 1) refl (from_inside k (at + l.size) ls h.1) (from_inside (k - 1) (at + l.size) ls h.1)
  where
    go : (t : Bool) → is_comment l.text ≡ t → (u : Bool) → ltb 1 k ≡ u → (v : Bool) → eqb k 1 ≡ v
        → (comment_from k (at + l.size) ls).value.start + (comment_from k (at + l.size) ls).value.len ≤ at + l.size + size ls
        → (comment_from (k - 1) (at + l.size) ls).value.start + (comment_from (k - 1) (at + l.size) ls).value.len ≤ at + l.size + size ls
        → (comment_from k at (l ∷ ls)).value.start + (comment_from k at (l ∷ ls)).value.len ≤ at + (l.size + size ls)
    go false e u d v c same less = rw (e, comment_from) (omega arith)
    go true e true d v c same less = rw (e, comment_from) (rw d (omega arith))
    go true e false d true c same less = rw (e, comment_from) (rw (d, c) (omega (arith, h.0)))
    go true e false d false c same less = rw (e, comment_from) (rw (d, c) (omega arith))

pub comment_inside : (f : List ℕ) (k : ℕ) → (comment_at f k).value.start + (comment_at f k).value.len ≤ length f
unfolding comment_at size Sound
comment_inside f k = go (eqb (read_recorded true f).refusal 0) refl (lines f) (lines_sound f) (lines-size f)
  where
    go : (t : Bool) → eqb (read_recorded true f).refusal 0 ≡ t → (ls : List Line) → Sound ls → size ls ≡ length f
        → (cond t (comment_lines k ls) (record { refusal = (read_recorded true f).refusal; value = no_part })).value.start
        + (cond t (comment_lines k ls) (record { refusal = (read_recorded true f).refusal; value = no_part })).value.len ≤ length f
    go false e ls h n = omega arith
    go true e [] h n = omega arith
    go true e (l ∷ ls) h n = omega (arith, from_inside k l.size ls h.1)

-- a comment is not empty
from_some : (k at : ℕ) (ls : List Line) → (comment_from k at ls).refusal ≡ 0 → 0 < (comment_from k at ls).value.len
unfolding comment_from
from_some k at [] h = absurd (omega arith)
from_some k at (l ∷ ls) h = go (is_comment l.text) refl (ltb 1 k) refl (eqb k 1) refl (from_some k (at + l.size) ls) (from_some (k - 1) (at + l.size) ls) h
  where
    some-text : (s : List ℕ) → is_comment s ≡ true → 0 < length s
    some-text [] e = clash cc
    some-text (b ∷ s) e = omega arith

    go : (t : Bool) → is_comment l.text ≡ t → (u : Bool) → ltb 1 k ≡ u → (v : Bool) → eqb k 1 ≡ v
        → ((comment_from k (at + l.size) ls).refusal ≡ 0 → 0 < (comment_from k (at + l.size) ls).value.len)
        → ((comment_from (k - 1) (at + l.size) ls).refusal ≡ 0 → 0 < (comment_from (k - 1) (at + l.size) ls).value.len)
        → (comment_from k at (l ∷ ls)).refusal ≡ 0 → 0 < (comment_from k at (l ∷ ls)).value.len
    go false e u d v c same less x = rw (e, comment_from) (same (rw (e, comment_from) at x))
    go true e true d v c same less x = rw (e, comment_from) (rw d (less (rw d at (rw (e, comment_from) at x))))
    go true e false d true c same less x = rw (e, comment_from) (rw (d, c) (some-text l.text e))
    go true e false d false c same less x = let y : ◌≡◌ {A = ℕ} 17 0 = rw (d, c) at (rw (e, comment_from) at x) in absurd (omega arith)

pub comment_some : (f : List ℕ) (k : ℕ) → (comment_at f k).refusal ≡ 0 → 0 < (comment_at f k).value.len
unfolding comment_at
comment_some f k x = go (eqb (read_recorded true f).refusal 0) refl (lines f) x
  where
    go : (t : Bool) → eqb (read_recorded true f).refusal 0 ≡ t → (ls : List Line)
        → (cond t (comment_lines k ls) (record { refusal = (read_recorded true f).refusal; value = no_part })).refusal ≡ 0
        → 0 < (cond t (comment_lines k ls) (record { refusal = (read_recorded true f).refusal; value = no_part })).value.len
    go false e ls y = absurd (eqb-false _ _ e y)
    go true e [] y = absurd (omega arith)
    go true e (l ∷ ls) y = from_some k l.size ls y

-- ---- the part that is shown, by the answer of `comment_at`
module _ (f : List ℕ) (k : ℕ) (x : Result Found Refusal) (p : found x ≡ comment_at f k) where
  part_is : {place : Found} → x ≡ Ok place → record { start = place.start; len = place.len } ≡ (comment_at f k).value
  part_is e = ap (λ (a : Answer Part). a.value) (ap found (sym e) ∙ p)

  pub part_inside : {place : Found} → x ≡ Ok place → place.start + place.len ≤ length f
  part_inside {place} e =
      let q : place.start + place.len ≡ (comment_at f k).value.start + (comment_at f k).value.len = ap (λ (a : Part). a.start + a.len) (part_is e) in
      omega (arith, comment_inside f k)

-- ---- one answer
-- no two answers read alike
pub found_injective : (r q : Result Found Refusal) → found r ≡ found q → r ≡ q
found_injective (Ok a) (Ok b) e =
    let s : a.start ≡ b.start = ap (λ (x : Answer Part). x.value.start) e in
    let n : a.len ≡ b.len = ap (λ (x : Answer Part). x.value.len) e in
    λ i. Ok (record { start = s i; len = n i })
found_injective (Ok a) (Err y) e = absurd (omega (arith, ap (λ (x : Answer Part). x.refusal) e, number_pos y))
found_injective (Err x) (Ok b) e = absurd (omega (arith, ap (λ (y : Answer Part). y.refusal) e, number_pos x))
found_injective (Err x) (Err y) e = ap Err (number_injective x y (ap (λ (z : Answer Part). z.refusal) e))

-- two slices that show one part are the same memory
pub shows_unique : (file r q : Bor (List ℕ)) (p : Part) → Shows file r p → Shows file q p → (r.ref_ptr.0 ≡ q.ref_ptr.0) × (r.ref_ptr.1 ≡ q.ref_ptr.1) × (r.now ≡ q.now)
shows_unique file r q p a b = (a.block ∙ sym b.block, a.offset ∙ sym b.offset, a.bytes ∙ sym b.bytes)
