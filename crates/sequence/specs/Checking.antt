-- What one who has a list of ladders to check needs beside crate `lists`: that one list is in another, in its order,
-- and that each of its sets was compared with the next.
--
-- Elsewhere: what such a reader finds, `checked_part`, `checked_whole` and `checked_pairwise` in proofs/Complete.antt.
use Rattle.std.specs.Prelude.{◌≡◌, ◌⊎◌, List, [], ◌∷◌}

-- ys is xs with some of its elements left out, the others in their order
abbrev pub SubList : {A : Type 0} → List A → List A → Type 0
SubList [] [] = Unit {0}
SubList [] (x ∷ xs) = Unit {0}
SubList (y ∷ ys) [] = ⊥
SubList (y ∷ ys) (x ∷ xs) = ((y ≡ x) × SubList ys xs) ⊎ SubList (y ∷ ys) xs

-- each element is in relation r to the one right after it
abbrev pub Steps : {A : Type 0} → (A → A → Type 0) → List A → Type 0
Steps r [] = Unit {0}
Steps r (x ∷ []) = Unit {0}
Steps r (x ∷ (y ∷ l)) = r x y × Steps r (y ∷ l)
