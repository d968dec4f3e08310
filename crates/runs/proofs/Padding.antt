-- Picks in an array of 64: one more at the first zero, and the last one cleared. Laws of a list padded with zeros are
-- in crate `table`, proofs/Padding.antt; picks by number and by place in crate `replay`, proofs/Numbers.antt.
use mathlib.Core.Path.{◌≡◌, refl, sym, ap, ◌∙◌}
use mathlib.Core.List.{List, [], ◌∷◌, ◌++◌}
use Prim.Native.Nat.{ℕ, suc, ◌-◌, ◌<◌}
use native.Mathlib.Decide.{ℕ_discrete, dec_lt}
use native.Mathlib.Omega.{arith}
use lib.ListN.{length, get_or, set, take, replicate, length-append, length-set, get_or-append, get_or-eq_default}
use lib.Seq.{get_or-append_seam, get_or-set_same, get_or-set_other, take-append_seam}
use Rattle.table.specs.Tables.{padded}
use Rattle.table.proofs.Padding.{pad_length, pad_get_or, pad_ext}

length_one : (xs : List ℕ) (a : ℕ) → length (xs ++ (a ∷ [])) ≡ suc (length xs)
length_one xs a = omega (arith, length-append xs (a ∷ []))

-- an entry more, at the first zero
pub pad_snoc : (xs : List ℕ) (a : ℕ) → length xs < 64 → set (padded xs) (length xs) a ≡ padded (xs ++ (a ∷ []))
pad_snoc xs a h =
    pad_ext (set (padded xs) (length xs) a) (xs ++ (a ∷ [])) (length-set (padded xs) (length xs) a ∙ pad_length xs (omega arith))
    (omega (arith, length_one xs a)) (λ i.
    go i (ℕ_discrete i (length xs)) (dec_lt i (length xs)))
  where
    go : (i : ℕ) → Dec (i ≡ length xs) → Dec (i < length xs) → get_or (set (padded xs) (length xs) a) i 0 ≡ get_or (xs ++ (a ∷ [])) i 0
    go i (yes e) d =
        ap (λ (j : ℕ). get_or (set (padded xs) (length xs) a) j 0) e ∙ get_or-set_same (padded xs) (length xs) a 0 (omega (arith, pad_length xs (omega arith)))
        ∙ sym (ap (λ (j : ℕ). get_or (xs ++ (a ∷ [])) j 0) e ∙ get_or-append_seam xs a [] 0)
    go i (no e) (yes l) = get_or-set_other (padded xs) (length xs) i a 0 e ∙ pad_get_or xs i ∙ sym (get_or-append xs (a ∷ []) 0 i l)
    go i (no e) (no l) =
        get_or-set_other (padded xs) (length xs) i a 0 e ∙ pad_get_or xs i ∙ get_or-eq_default xs 0 (omega arith)
        ∙ sym (get_or-eq_default (xs ++ (a ∷ [])) 0 (omega (arith, length_one xs a)))

-- and the last entry cleared
pub pad_unsnoc : (xs : List ℕ) (a : ℕ) → length xs < 64 → set (padded (xs ++ (a ∷ []))) (length xs) 0 ≡ padded xs
pad_unsnoc xs a h =
    pad_ext (set (padded (xs ++ (a ∷ []))) (length xs) 0) xs
    (length-set (padded (xs ++ (a ∷ []))) (length xs) 0 ∙ pad_length (xs ++ (a ∷ [])) (omega (arith, length_one xs a))) (omega arith) (λ i.
    go i (ℕ_discrete i (length xs)) (dec_lt i (length xs)))
  where
    go : (i : ℕ) → Dec (i ≡ length xs) → Dec (i < length xs) → get_or (set (padded (xs ++ (a ∷ []))) (length xs) 0) i 0 ≡ get_or xs i 0
    go i (yes e) d =
        ap (λ (j : ℕ). get_or (set (padded (xs ++ (a ∷ []))) (length xs) 0) j 0) e
        ∙ get_or-set_same (padded (xs ++ (a ∷ []))) (length xs) 0 0 (omega (arith, pad_length (xs ++ (a ∷ [])) (omega (arith, length_one xs a)), length_one xs a))
        ∙ sym (get_or-eq_default xs 0 (omega arith))
    go i (no e) (yes l) = get_or-set_other (padded (xs ++ (a ∷ []))) (length xs) i 0 0 e ∙ pad_get_or (xs ++ (a ∷ [])) i ∙ get_or-append xs (a ∷ []) 0 i l
    go i (no e) (no l) =
        get_or-set_other (padded (xs ++ (a ∷ []))) (length xs) i 0 0 e ∙ pad_get_or (xs ++ (a ∷ [])) i
        ∙ get_or-eq_default (xs ++ (a ∷ [])) 0 (omega (arith, length_one xs a))
        ∙ sym (get_or-eq_default xs 0 (omega arith))

-- ---- the front of the array, and the last entry
pub take-padded : (xs : List ℕ) (n : ℕ) → n ≡ length xs → take n (padded xs) ≡ xs
take-padded xs n e = ap (λ (m : ℕ). take m (padded xs)) e ∙ take-append_seam xs (replicate (64 - length xs) 0)

-- a list that is not empty ends with something
pub last_split : (p : List ℕ) → 0 < length p → (q : List ℕ) × (g : ℕ) × (p ≡ q ++ (g ∷ []))
last_split [] h = absurd (omega arith)
last_split (x ∷ []) h = ([], x, refl)
last_split (x ∷ (y ∷ p)) h =
    let (q, g, e) = last_split (y ∷ p) (omega arith) in
    (x ∷ q, g, ap (λ (l : List ℕ). x ∷ l) e)
