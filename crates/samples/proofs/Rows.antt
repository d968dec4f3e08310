-- The loop over the gauges, turn by turn: the rows so far and those still to be made are all rows, padded with zeros
-- (`MakingRows`).
use mathlib.Core.Path.{◌≡◌, refl, sym, ap, ◌∙◌}
use mathlib.Core.List.{List, [], ◌∷◌, ◌++◌, append-nil, append_assoc}
use Prim.Native.Nat.{ℕ, zero, suc, ◌+◌, ◌-◌, ◌≤◌, ◌<◌}
use native.Mathlib.Numerals.{add-one}
use native.Mathlib.Omega.{arith}
use lib.ListN.{length, take, drop, set, replicate, length-set, take-append-drop}
use lib.Seq.{take-suc-set, drop-set-lt, drop-cons}
use Rattle.table.specs.Tables.{padded}
use Rattle.samples.specs.Xorshift.{after}
use Rattle.samples.specs.Samples.{sample_row, sample_rows}
use Rattle.samples.specs.private.Rows.{IsSampled}
use Rattle.samples.specs.declared.Sampled.{Sampled}

-- i rows are made, and the state is s
pub record MakingRows (density l g x : ℕ) (rows : List ℕ) (s i : ℕ) : Type 0 where
  pub most : i ≤ g
  pub size : length rows ≡ 64
  pub whole : take i rows ++ sample_rows density l (g - i) s ≡ sample_rows density l g x
  pub rest : drop i rows ≡ replicate (64 - i) 0

rows_cons : (density l n s : ℕ) → sample_rows density l (suc n) s ≡ sample_row density l s ∷ sample_rows density l n (after l s)
unfolding sample_rows
rows_cons density l n s = refl

tail : List ℕ → List ℕ
tail [] = []
tail (a ∷ s) = s

rest_more : (rows : List ℕ) (i n : ℕ) → i < length rows → drop i rows ≡ replicate (suc n) 0 → drop (suc i) rows ≡ replicate n 0
unfolding tail
rest_more rows i n h e = ap tail (sym (drop-cons rows i 0 h) ∙ e)

pub rows_more : {density l g x : ℕ} {rows : List ℕ} {s i : ℕ} {r : Sampled} → MakingRows density l g x rows s i → i < g → g ≤ 64
    → IsSampled density l s r → MakingRows density l g x (set rows i r.row) r.state (i + 1)
rows_more {density} {l} {g} {x} {rows} {s} {i} {r} m h k e =
    let d : g - i ≡ suc (g - (i + 1)) = omega arith in
    let z : 64 - i ≡ suc (64 - (i + 1)) = omega arith in
    let n : i < length rows = omega (arith, m.size) in
    record {
      most = omega arith;
      size = length-set rows i r.row ∙ m.size;
      whole =
          ap (λ (y : ℕ). take y (set rows i r.row) ++ sample_rows density l (g - (i + 1)) r.state) (add-one i)
          ∙ ap (λ (y : List ℕ). y ++ sample_rows density l (g - (i + 1)) r.state) (take-suc-set rows i r.row n)
          ∙ append_assoc (take i rows) (r.row ∷ []) (sample_rows density l (g - (i + 1)) r.state)
          ∙ ap (λ (y : List ℕ). take i rows ++ y)
          (ap (λ (y : ℕ). y ∷ sample_rows density l (g - (i + 1)) r.state) e.row
          ∙ ap (λ (y : ℕ). sample_row density l s ∷ sample_rows density l (g - (i + 1)) y) e.state
          ∙ sym (rows_cons density l (g - (i + 1)) s) ∙ ap (λ (y : ℕ). sample_rows density l y s) (sym d))
          ∙ m.whole;
      rest =
          drop-set-lt (i + 1) rows i r.row (omega arith) ∙ ap (λ (y : ℕ). drop y rows) (add-one i)
          ∙ rest_more rows i (64 - (i + 1)) n (m.rest ∙ ap (λ (y : ℕ). replicate y 0) z);
    }

pub rows_length : (density l g x : ℕ) → length (sample_rows density l g x) ≡ g
unfolding sample_rows
rows_length density l zero x = refl
rows_length density l (suc g) x = ap suc (rows_length density l g (after l x))

pub rows_done : {density l g x : ℕ} {rows : List ℕ} {s i : ℕ} → MakingRows density l g x rows s i → g ≤ i → rows ≡ padded (sample_rows density l g x)
unfolding sample_rows
rows_done {density} {l} {g} {x} {rows} {s} {i} m h =
    let z : g - i ≡ 0 = omega arith in
    let e : i ≡ length (sample_rows density l g x) = omega (arith, rows_length density l g x, m.most) in
    sym (take-append-drop i rows)
    ∙ ap (λ (y : List ℕ). y ++ drop i rows) (sym (append-nil (take i rows)) ∙ ap (λ (y : ℕ). take i rows ++ sample_rows density l y s) (sym z) ∙ m.whole)
    ∙ ap (λ (y : List ℕ). sample_rows density l g x ++ y) (m.rest ∙ ap (λ (y : ℕ). replicate (64 - y) 0) e)
