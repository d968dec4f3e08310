-- Two texts are the same when they have the same bytes in the same order, and as many; and a text in small letters.
use Rattle.std.specs.Prelude.{ℕ, ◌+◌, List, [], ◌∷◌, Bool, true, false, cond, ◌&&◌, eqb, leb}

abbrev pub same_bytes : List ℕ → List ℕ → Bool
same_bytes [] [] = true
same_bytes [] (b ∷ t) = false
same_bytes (a ∷ s) [] = false
same_bytes (a ∷ s) (b ∷ t) = eqb a b && same_bytes s t

-- the letters A to Z, bytes 65 to 90, as a to z; every other byte as it is
unfoldable pub small : ℕ → ℕ
small b = cond (leb 65 b && leb b 90) (b + 32) b
