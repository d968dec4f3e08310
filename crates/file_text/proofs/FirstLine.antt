-- The first line of a list of bytes by its length and its size, as the code finds it: byte by byte up to the first end of line. That it is
-- the first of `lines` is `lines_first_of`; `span_at` by these numbers is `span_is`. In order: one byte more of the length and of the
-- size; the first line; the same over any list; the bounds.
use Prim.Native.Nat.{ℕ, suc, ◌+◌, ◌≤◌, ◌<◌}
use mathlib.Core.Path.{◌≡◌, refl, ap}
use mathlib.Core.List.{List, [], ◌∷◌}
use mathlib.Core.Bool.{Bool, true, false, ◌&&◌, cond}
use native.Mathlib.Omega.{arith}
use lib.ListN.{length, take, drop, length-drop}
use lib.Seq.{length-take-le}
use lib.Dec.{eqb}
use borrow.Author.Tests.{eqb-true, eqb-false, ne_eqb, eq-eqb}
use Rattle.file_text.specs.Lines.{Line, lines, at_crlf, extend, first_span, span_at}
use Rattle.file_text.specs.private.ScanSteps.{end_size}

-- the bytes of the first line without its end
unfoldable pub line_len : List ℕ → ℕ
line_len [] = 0
line_len (b ∷ s) = elim (eqb (end_size (b ∷ s)) 0) [ true ↦ suc (line_len s) | false ↦ 0 ]

-- and with it
unfoldable pub line_size : List ℕ → ℕ
line_size s = line_len s + end_size (drop (line_len s) s)

len_end : (b : ℕ) (s : List ℕ) → (end_size (b ∷ s) ≡ 0 → ⊥) → line_len (b ∷ s) ≡ 0
unfolding line_len
len_end b s h = rw (ne_eqb (end_size (b ∷ s)) 0 h, line_len)

len_more : (b : ℕ) (s : List ℕ) → end_size (b ∷ s) ≡ 0 → line_len (b ∷ s) ≡ suc (line_len s)
unfolding line_len
len_more b s h = rw (eq-eqb (end_size (b ∷ s)) 0 h, line_len)

size_end : (b : ℕ) (s : List ℕ) → (end_size (b ∷ s) ≡ 0 → ⊥) → line_size (b ∷ s) ≡ end_size (b ∷ s)
unfolding line_size
size_end b s h = rw (len_end b s h) (omega arith)

size_more : (b : ℕ) (s : List ℕ) → end_size (b ∷ s) ≡ 0 → line_size (b ∷ s) ≡ suc (line_size s)
unfolding line_size
size_more b s h = rw (len_more b s h) (omega arith)

-- the first line, as the code finds it
abbrev first_line : List ℕ → List Line
first_line s = record { text = take (line_len s) s; size = line_size s } ∷ lines (drop (line_size s) s)

lines_lf : (b : ℕ) (s : List ℕ) → eqb b 10 ≡ true → lines (b ∷ s) ≡ record { text = []; size = 1 } ∷ lines s
unfolding lines
lines_lf b s e = rw (e, lines)

lines_other : (b : ℕ) (s : List ℕ) → eqb b 10 ≡ false → lines (b ∷ s) ≡ extend (at_crlf b s) b (lines s)
unfolding lines
lines_other b s e = rw (e, lines)

crlf_next : (b c : ℕ) (s : List ℕ) → at_crlf b (c ∷ s) ≡ true → eqb c 10 ≡ true
crlf_next b c s e = go (eqb b 13) e
  where
    go : (t : Bool) → (t && eqb c 10) ≡ true → eqb c 10 ≡ true
    go true h = h
    go false h = cc

crlf_none : (b : ℕ) → at_crlf b [] ≡ false
crlf_none b = go (eqb b 13)
  where
    go : (t : Bool) → (t && false) ≡ false
    go true = refl
    go false = refl

end_lf : (b : ℕ) (s : List ℕ) → eqb b 10 ≡ true → end_size (b ∷ s) ≡ 1
end_lf b s e = rw e

end_crlf : (b : ℕ) (s : List ℕ) → eqb b 10 ≡ false → at_crlf b s ≡ true → end_size (b ∷ s) ≡ 2
end_crlf b s e f = rw (e, f)

end_none : (b : ℕ) (s : List ℕ) → eqb b 10 ≡ false → at_crlf b s ≡ false → end_size (b ∷ s) ≡ 0
end_none b s e f = rw (e, f)

first_lf : (b : ℕ) (s : List ℕ) → eqb b 10 ≡ true → lines (b ∷ s) ≡ first_line (b ∷ s)
first_lf b s e =
    let n : end_size (b ∷ s) ≡ 1 = end_lf b s e in
    rw (lines_lf b s e, size_end b s (omega arith), len_end b s (omega arith), n)

first_crlf : (b c : ℕ) (s : List ℕ) → eqb b 10 ≡ false → at_crlf b (c ∷ s) ≡ true → lines (b ∷ c ∷ s) ≡ first_line (b ∷ c ∷ s)
first_crlf b c s e f =
    let n : end_size (b ∷ c ∷ s) ≡ 2 = end_crlf b (c ∷ s) e f in
    rw (lines_other b (c ∷ s) e, f, lines_lf c s (crlf_next b c s f), size_end b (c ∷ s) (omega arith), len_end b (c ∷ s) (omega arith), n)

first_one : (b : ℕ) → eqb b 10 ≡ false → lines (b ∷ []) ≡ first_line (b ∷ [])
unfolding line_len line_size lines
first_one b e =
    let n : end_size (b ∷ []) ≡ 0 = end_none b [] e (crlf_none b) in
    rw (lines_other b [] e, size_more b [] n, len_more b [] n)

first_more : (b c : ℕ) (s : List ℕ) → eqb b 10 ≡ false → at_crlf b (c ∷ s) ≡ false
    → lines (c ∷ s) ≡ first_line (c ∷ s) → lines (b ∷ c ∷ s) ≡ first_line (b ∷ c ∷ s)
first_more b c s e f ih =
    let n : end_size (b ∷ c ∷ s) ≡ 0 = end_none b (c ∷ s) e f in
    rw (lines_other b (c ∷ s) e, f, ih, size_more b (c ∷ s) n, len_more b (c ∷ s) n)

lines_first : (b : ℕ) (s : List ℕ)
    → lines (b ∷ s) ≡ record { text = take (line_len (b ∷ s)) (b ∷ s); size = line_size (b ∷ s) } ∷ lines (drop (line_size (b ∷ s)) (b ∷ s))
lines_first b [] = go (eqb b 10) refl
  where
    go : (t : Bool) → eqb b 10 ≡ t → lines (b ∷ []) ≡ first_line (b ∷ [])
    go true e = first_lf b [] e
    go false e = first_one b e
lines_first b (c ∷ s) = go (eqb b 10) refl (at_crlf b (c ∷ s)) refl (lines_first c s)
  where
    go : (t : Bool) → eqb b 10 ≡ t → (u : Bool) → at_crlf b (c ∷ s) ≡ u → lines (c ∷ s) ≡ first_line (c ∷ s) → lines (b ∷ c ∷ s) ≡ first_line (b ∷ c ∷ s)
    go true e u f ih = first_lf b (c ∷ s) e
    go false e true f ih = first_crlf b c s e f
    go false e false f ih = first_more b c s e f ih

-- the same over any list
pub len_end_of : (s : List ℕ) → 0 < end_size s → line_len s ≡ 0
unfolding line_len
len_end_of [] h = refl
len_end_of (b ∷ s) h = len_end b s (omega arith)

pub size_end_of : (s : List ℕ) → 0 < end_size s → line_size s ≡ end_size s
size_end_of [] h = absurd (omega arith)
size_end_of (b ∷ s) h = size_end b s (omega arith)

pub len_more_of : (s : List ℕ) → 0 < length s → end_size s ≡ 0 → line_len s ≡ suc (line_len (drop 1 s))
len_more_of [] h e = absurd (omega arith)
len_more_of (b ∷ s) h e = len_more b s e

pub size_more_of : (s : List ℕ) → 0 < length s → end_size s ≡ 0 → line_size s ≡ suc (line_size (drop 1 s))
size_more_of [] h e = absurd (omega arith)
size_more_of (b ∷ s) h e = size_more b s e

pub lines_first_of : (s : List ℕ) → 0 < length s → lines s ≡ record { text = take (line_len s) s; size = line_size s } ∷ lines (drop (line_size s) s)
lines_first_of [] h = absurd (omega arith)
lines_first_of (b ∷ s) h = lines_first b s

end_le : (s : List ℕ) → end_size s ≤ length s
end_le [] = omega arith
end_le (b ∷ s) = go (eqb b 10) s
  where
    go : (t : Bool) (s : List ℕ) → cond t 1 (cond (at_crlf b s) 2 0) ≤ suc (length s)
    go true s = omega arith
    go false [] = rw (crlf_none b) (omega arith)
    go false (c ∷ s) = go2 (at_crlf b (c ∷ s))
      where
        go2 : (t : Bool) → cond t 2 0 ≤ suc (suc (length s))
        go2 true = omega arith
        go2 false = omega arith

-- a line is a part of the file: it takes a byte at least, and no more than there are
len_le : (s : List ℕ) → line_len s ≤ length s
unfolding line_len
len_le [] = omega arith
len_le (b ∷ s) = go (eqb (end_size (b ∷ s)) 0) refl (len_le s)
  where
    go : (t : Bool) → eqb (end_size (b ∷ s)) 0 ≡ t → line_len s ≤ length s → line_len (b ∷ s) ≤ suc (length s)
    go true e ih = rw (e, line_len) (omega arith)
    go false e ih = rw (e, line_len) (omega arith)

pub size_le : (s : List ℕ) → line_size s ≤ length s
unfolding line_size
size_le s = omega (arith, end_le (drop (line_len s) s), length-drop (line_len s) s, len_le s)

pub len_le_size : (s : List ℕ) → line_len s ≤ line_size s
unfolding line_size
len_le_size s = omega arith

pub size_pos : (s : List ℕ) → 0 < length s → 0 < line_size s
size_pos [] h = absurd (omega arith)
size_pos (b ∷ s) h = go (eqb (end_size (b ∷ s)) 0) refl
  where
    go : (t : Bool) → eqb (end_size (b ∷ s)) 0 ≡ t → 0 < line_size (b ∷ s)
    go true e = rw (size_more b s (eqb-true _ _ e)) (omega arith)
    go false e = let n : end_size (b ∷ s) ≡ 0 → ⊥ = eqb-false _ _ e in rw (size_end b s n) (omega arith)

-- the line at a place by these numbers
pub span_is : (f : List ℕ) (at : ℕ) → span_at f at ≡ record { end = at + line_len (drop at f); next = at + line_size (drop at f) }
unfolding span_at lines line_len line_size
span_is f at = go (drop at f)
  where
    e : at ≡ at + line_len []
    e = omega arith

    n : at ≡ at + line_size []
    n = omega arith

    go : (s : List ℕ) → first_span at (lines s) ≡ record { end = at + line_len s; next = at + line_size s }
    go [] = λ i. record { end = e i; next = n i }
    go (b ∷ s) =
        rw (lines_first b s) (ap (λ (k : ℕ). record { end = at + k; next = at + line_size (b ∷ s) }) (length-take-le (line_len (b ∷ s)) (b ∷ s) (len_le (b ∷ s))))
