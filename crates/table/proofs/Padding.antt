-- A set of pairs in its 64 rows: a list padded with zeros has the list's entries, and zeros past them, and changes as
-- the list does.
use mathlib.Core.Path.{◌≡◌, sym, ap, ◌∙◌}
use mathlib.Core.List.{List, ◌++◌}
use Prim.Native.Nat.{ℕ, ◌+◌, ◌-◌, ◌≤◌, ◌<◌}
use native.Mathlib.Decide.{dec_lt}
use native.Mathlib.Omega.{arith}
use lib.ListN.{length, get_or, set, replicate, length-append, length-set, length-replicate, get_or-replicate, get_or-append, get_or-eq_default}
use lib.Seq.{ext_get_or, set-append_left, get_or-append-add}
use Rattle.table.specs.Tables.{padded}

pub pad_length : (xs : List ℕ) → length xs ≤ 64 → length (padded xs) ≡ 64
pad_length xs h = omega (arith, length-append xs (replicate (64 - length xs) 0), length-replicate {A = ℕ} (64 - length xs) 0)

-- the zeros after it are what is past the end
pub pad_get_or : (xs : List ℕ) (i : ℕ) → get_or (padded xs) i 0 ≡ get_or xs i 0
pad_get_or xs i = go (dec_lt i (length xs))
  where
    zeros : (n j : ℕ) → ◌≡◌ {A = ℕ} (get_or (replicate n 0) j 0) 0
    zeros n j = back (dec_lt j n)
      where
        back : Dec (j < n) → ◌≡◌ {A = ℕ} (get_or (replicate n 0) j 0) 0
        back (yes l) = get_or-replicate n j 0 0 l
        back (no l) = get_or-eq_default (replicate n 0) 0 (omega (arith, length-replicate {A = ℕ} n 0))

    go : Dec (i < length xs) → get_or (padded xs) i 0 ≡ get_or xs i 0
    go (yes l) = get_or-append xs (replicate (64 - length xs) 0) 0 i l
    go (no l) =
        let e : length xs + (i - length xs) ≡ i = omega arith in
        ap (λ (j : ℕ). get_or (padded xs) j 0) (sym e) ∙ get_or-append-add xs (replicate (64 - length xs) 0) (i - length xs) 0
        ∙ zeros (64 - length xs) (i - length xs)
        ∙ sym (get_or-eq_default xs 0 (omega arith))

pub pad_ext : (xs ys : List ℕ) → length xs ≡ 64 → length ys ≤ 64 → ((i : ℕ) → get_or xs i 0 ≡ get_or ys i 0) → xs ≡ padded ys
pad_ext xs ys n h f = ext_get_or 0 xs (padded ys) (n ∙ sym (pad_length ys h)) (λ i l. f i ∙ sym (pad_get_or ys i))

pub pad_set : (xs : List ℕ) (i a : ℕ) → i < length xs → set (padded xs) i a ≡ padded (set xs i a)
pad_set xs i a l = set-append_left xs (replicate (64 - length xs) 0) i a l ∙ ap (λ (n : ℕ). set xs i a ++ replicate (64 - n) 0) (sym (length-set xs i a))
