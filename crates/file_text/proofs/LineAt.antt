-- The line at a place of a file. In order: where the code's loop finds the line; and for
-- readers that go from line to line, its bounds (`inside`) and the lines from there on (`lines-at`).
use Prim.Native.Nat.{ℕ, ◌+◌, ◌-◌, ◌≤◌, ◌<◌, max}
use mathlib.Core.Path.{◌≡◌, refl, ap, sym, ◌∙◌}
use mathlib.Core.List.{List, ◌∷◌}
use native.Mathlib.Omega.{arith}
use native.Mathlib.Decide.{dec_lt}
use lib.ListN.{length, take, drop, drop_of_length-le, length-drop}
use lib.Seq.{drop-drop}
use Rattle.file_text.specs.Lines.{lines, span_at}
use Rattle.file_text.specs.private.ScanSteps.{end_size}
use Rattle.file_text.specs.declared.Span.{Span}
use Rattle.file_text.proofs.FirstLine.{line_len, line_size, lines_first_of, len_end_of, len_more_of, size_end_of, size_more_of, size_le, len_le_size, size_pos, span_is}

-- the line at a place: its end is there, it goes on, or the file ends
span_of : {a b c d : ℕ} → a ≡ c → b ≡ d → ◌≡◌ {A = Span} (record { end = a; next = b }) (record { end = c; next = d })
span_of p q = λ i. record { end = p i; next = q i }

-- S is the line that the loop looks for
module _ (f : List ℕ) (at : ℕ) (S : Span) where
  span_past : span_at f at ≡ S → length f ≤ at → record { end = at; next = at } ≡ S
  unfolding line_len line_size
  span_past q h = rw (drop_of_length-le f h) (span_of (omega arith) (omega arith)) ∙ (sym (span_is f at) ∙ q)

  module _ (q : span_at f at ≡ S) (h : at < length f) where
    pub span-end : (e : ℕ) → e ≡ end_size (drop at f) → 0 < e → record { end = at; next = at + e } ≡ S
    span-end e p k =
        span_of (omega (arith, len_end_of (drop at f) (omega arith))) (omega (arith, size_end_of (drop at f) (omega arith))) ∙ (sym (span_is f at) ∙ q)

    pub span_more : (e : ℕ) → e ≡ end_size (drop at f) → e ≤ 0 → span_at f (at + 1) ≡ S
    span_more e p k =
        let n : 0 < length (drop at f) = omega (arith, length-drop at f) in
        span_is f (at + 1)
        ∙ rw (← drop-drop 1 at f) (span_of (omega (arith, len_more_of (drop at f) n (omega arith))) (omega (arith, size_more_of (drop at f) n (omega arith))))
        ∙ (sym (span_is f at) ∙ q)

-- the file ends: ahead of the place, or behind it and the loop has come to it
pub span_last : (f : List ℕ) (at i : ℕ) → span_at f i ≡ span_at f at → length f ≤ i → (at ≤ length f → i ≤ length f) → (e : ℕ) → e ≡ max at (length f)
    → record { end = e; next = e } ≡ span_at f at
span_last f at i q h k e m = go (dec_lt at (length f))
  where
    go : Dec (at < length f) → record { end = e; next = e } ≡ span_at f at
    go (yes l) = let n : e ≡ i = omega arith in rw n (span_past f i (span_at f at) q h)
    go (no l) = let n : e ≡ at = omega arith in rw n (span_past f at (span_at f at) refl (omega arith))

-- the bounds of a line
pub record Inside (f : List ℕ) (at end next : ℕ) : Type 0 where
  pub start : at ≤ end
  pub ends : end ≤ next
  pub fits : next ≤ length f
  pub moves : at < length f → at < next

module _ (f : List ℕ) (at : ℕ) (s : Span) (e : s ≡ span_at f at) where
  end_is : s.end ≡ at + line_len (drop at f)
  end_is = ap (λ (x : Span). x.end) (e ∙ span_is f at)

  next_is : s.next ≡ at + line_size (drop at f)
  next_is = ap (λ (x : Span). x.next) (e ∙ span_is f at)

  pub inside : at ≤ length f → Inside f at s.end s.next
  inside h = record {
    start = omega (arith, end_is);
    ends = omega (arith, end_is, next_is, len_le_size (drop at f));
    fits = omega (arith, next_is, size_le (drop at f), length-drop at f);
    moves = λ l. omega (arith, next_is, size_pos (drop at f) (omega (arith, length-drop at f)));
  }

  -- the first line is the text between the place and the line's end, and the others start at next
  pub lines-at : at < length f
      → (size : ℕ) × (lines (drop at f) ≡ record { text = take (s.end - at) (drop at f); size = size } ∷ lines (drop s.next f)) × (at + size ≡ s.next)
  lines-at h =
      let a : s.end - at ≡ line_len (drop at f) = omega (arith, end_is) in (
        line_size (drop at f),
        rw (a, next_is, ← drop-drop (line_size (drop at f)) at f) (lines_first_of (drop at f) (omega (arith, length-drop at f))),
        sym next_is,
      )
