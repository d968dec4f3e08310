-- A cover in its places can be read again: from place `at` onward it is as it was put (`take-put`).
use mathlib.Core.Path.{◌≡◌, sym, ap, ◌∙◌}
use mathlib.Core.List.{List, [], ◌∷◌, ◌++◌, append_assoc, append-nil}
use Prim.Native.Nat.{ℕ, suc, ◌+◌, ◌≤◌}
use native.Mathlib.Omega.{arith}
use lib.ListN.{length, get_or, take, set}
use lib.Seq.{take-suc, take-set-lt, length-take-le, set_at}
use Rattle.cover_search.specs.Spending.{put}

pub take-put : (at : ℕ) (c l : List ℕ) → at + length c ≤ length l → take (at + length c) (put at c l) ≡ take at l ++ c
unfolding put
take-put at [] l h = let e : at + 0 ≡ at = omega arith in ap (λ (n : ℕ). take n l) e ∙ sym (append-nil (take at l))
take-put at (x ∷ c) l h =
    let e : at + suc (length c) ≡ suc at + length c = omega arith in
    ap (λ (n : ℕ). take n (set (put (suc at) c l) at x)) e
    ∙ take-set-lt (suc at + length c) (put (suc at) c l) at x (omega arith)
    ∙ ap (λ (y : List ℕ). set y at x) (take-put (suc at) c l (omega arith) ∙ ap (λ (y : List ℕ). y ++ c) (take-suc l at 0 (omega arith))
    ∙ append_assoc (take at l) (get_or l at 0 ∷ []) c)
    ∙ set_at (take at l) (get_or l at 0) c x at (length-take-le at l (omega arith))
