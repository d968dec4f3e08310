-- The loop over the cases, turn by turn: the row so far, with the row still to be made, is the whole row (`Making`).
use mathlib.Core.Path.{◌≡◌, refl, sym, ap, ◌∙◌}
use Prim.Native.Nat.{ℕ, suc, ◌+◌, ◌-◌, ◌*◌, ◌%◌, ◌^◌, ◌≤◌, ◌<◌}
use native.Mathlib.Nat.{add-mul, add_assoc, mul_assoc, pow-suc, mul_comm, add-zero, one-mul, zero-mul}
use native.Mathlib.Numerals.{add-one}
use native.Mathlib.Omega.{arith}
use lib.Pow.{shl_exact}
use borrow.Author.Tests.{lt-ltb, le-ltb}
use Rattle.samples.specs.Xorshift.{step, after}
use Rattle.samples.specs.Samples.{present, sample_row}
use Rattle.samples.specs.private.Rows.{IsSampled}
use Rattle.samples.specs.declared.Sampled.{Sampled}

-- ---- a row: c cases are made, and the state is s
pub record Making (density l x row s c : ℕ) : Type 0 where
  pub most : c ≤ l
  pub small : row < 2 ^ c
  pub whole : row + sample_row density (l - c) s * 2 ^ c ≡ sample_row density l x
  pub state : after (l - c) s ≡ after l x

row_more : (density n s : ℕ) → sample_row density (suc n) s ≡ present density (step s) + sample_row density n (step s) * 2
unfolding sample_row
row_more density n s = refl

after_more : (n s : ℕ) → after (suc n) s ≡ after n (step s)
unfolding after
after_more n s = refl

regroup : (row p r w : ℕ) → row + (p + r * 2) * w ≡ (row + p * w) + r * (w * 2)
regroup row p r w =
    ap (λ (y : ℕ). row + y) (add-mul p (r * 2) w ∙ ap (λ (y : ℕ). p * w + y) (mul_assoc r 2 w ∙ ap (λ (y : ℕ). r * y) (mul_comm 2 w)))
    ∙ sym (add_assoc row (p * w) (r * (w * 2)))

module _ (density l x row s c : ℕ) (m : Making density l x row s c) (h : c < l) (p : ℕ) (next : ℕ) (e : next ≡ step s) (d : present density next ≡ p) where
  making_more : row + p * 2 ^ c < 2 ^ (c + 1) → Making density l x (row + p * 2 ^ c) next (c + 1)
  making_more small =
      let k : l - c ≡ suc (l - (c + 1)) = omega arith in
      record {
        most = omega arith;
        small = small;
        whole =
            ap (λ (w : ℕ). (row + p * 2 ^ c) + sample_row density (l - (c + 1)) next * w) (ap (λ (y : ℕ). 2 ^ y) (add-one c) ∙ pow-suc 2 c)
            ∙ sym (regroup row p (sample_row density (l - (c + 1)) next) (2 ^ c))
            ∙ ap (λ (y : ℕ). row + y * 2 ^ c)
            (ap (λ (y : ℕ). y + sample_row density (l - (c + 1)) next * 2) (sym d)
            ∙ ap (λ (y : ℕ). present density y + sample_row density (l - (c + 1)) y * 2) e
            ∙ sym (row_more density (l - (c + 1)) s) ∙ ap (λ (y : ℕ). sample_row density y s) (sym k))
            ∙ m.whole;
        state = ap (after (l - (c + 1))) e ∙ sym (after_more (l - (c + 1)) s) ∙ ap (λ (y : ℕ). after y s) (sym k) ∙ m.state;
      }

power : (c : ℕ) → 2 ^ (c + 1) ≡ 2 ^ c * 2
power c = ap (λ (y : ℕ). 2 ^ y) (add-one c) ∙ pow-suc 2 c

shifted : (c : ℕ) → c < 64 → 1 * 2 ^ c % 2 ^ 64 ≡ 1 * 2 ^ c
shifted c h = shl_exact {a = 1} 1 c 64 (omega arith) (omega arith)

pub making_pair : {density l x row s c next : ℕ} → Making density l x row s c → c < l → l ≤ 64 → next ≡ step s → next % 256 < density
    → Making density l x (row + 1 * 2 ^ c % 2 ^ 64) next (c + 1)
making_pair {density} {l} {x} {row} {s} {c} {next} m h k e t =
    rw (shifted c (omega arith))
    (making_more density l x row s c m h 1 next e (rw (lt-ltb (next % 256) density t)) (omega (arith, m.small, one-mul (2 ^ c), power c)))

pub making_skip : {density l x row s c next : ℕ} → Making density l x row s c → c < l → next ≡ step s → density ≤ next % 256
    → Making density l x row next (c + 1)
making_skip {density} {l} {x} {row} {s} {c} {next} m h e t =
    let z : row + 0 * 2 ^ c ≡ row = ap (λ (y : ℕ). row + y) (zero-mul (2 ^ c)) ∙ add-zero row in
    rw z at (making_more density l x row s c m h 0 next e (rw (le-ltb (next % 256) density t)) (omega (arith, z, m.small, power c)))

pub making_done : {density l x row s c : ℕ} → Making density l x row s c → l ≤ c → {r : Sampled} → r ≡ record { row = row; state = s }
    → IsSampled density l x r
unfolding sample_row after
making_done {density} {l} {x} {row} {s} {c} m h {r} e =
    let z : l - c ≡ 0 = omega arith in
    record {
      row =
          ap (λ (y : Sampled). y.row) e ∙ sym (add-zero row) ∙ ap (λ (y : ℕ). row + y) (sym (zero-mul (2 ^ c)))
          ∙ ap (λ (y : ℕ). row + sample_row density y s * 2 ^ c) (sym z) ∙ m.whole;
      state = ap (λ (y : Sampled). y.state) e ∙ ap (λ (y : ℕ). after y s) (sym z) ∙ m.state;
    }
