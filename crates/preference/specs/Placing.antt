-- What goes by place in a preference (02, R-12: "'Lowest', 'lower-numbered' and 'above' in the rules for candidates and moves, ties in a pick sequence, and
-- the listing order all go by place in it"), as the steps around the code that goes by number compute it. A preference is 64 numbers, of which n count
-- (Preferences.antt). Every array is read by its 64 places, so nothing has to be known of it.
--
-- In order: whether a preference is "the arrangement 1, 2, 3 and on", which "gives the former results", so that nothing needs to be done for it; the place
-- of each number; rows in the order of the numbers; a number as the preference, or its places, have it, and picks so.
--
-- Elsewhere: that gathered rows are the rows by place, and by the places the rows by number again, and that picks become places and numbers again,
-- `gathered_array`, `gathered_back`, `places-of-picks` and `numbers-of-picks` in proofs/Gathering.antt.
use Rattle.std.specs.Prelude.{Bool, cond, Option, Some, None, List, ℕ, ◌-◌, min, eqb, ltb, length, get_or}
use Rattle.sets.specs.Lists.{tabulate, all_below}
use Rattle.table.specs.Pairs.{row}
use Rattle.lists.specs.Arrangements.{place_of}
use Rattle.preference.specs.Preferences.{is_preference, order_of, numbers_of, plain_numbers}

-- k is "the arrangement 1, 2, 3 and on" of n numbers
unfoldable pub is_plain : ℕ → List ℕ → Bool
is_plain n k = all_below (λ i. eqb (get_or k i 0) (get_or (plain_numbers n) i 0)) 64

-- the place of each row index in an arrangement o, which is an arrangement too
abbrev pub inverse : List ℕ → List ℕ
inverse o = tabulate (place_of o) (length o)

-- the place of each number of the preference k, from 1; of what is no preference of n numbers, none
unfoldable pub placed_as : ℕ → List ℕ → Option (List ℕ)
placed_as n k = cond (is_preference n k) (Some (numbers_of (inverse (order_of n k)))) None

-- the 64 entries of an array
unfoldable pub entries : List ℕ → List ℕ
entries x = tabulate (row x) 64

-- the row of the number g, and the rows of the first n numbers, at most 64, in their order
abbrev pub row_numbered : List ℕ → ℕ → ℕ
row_numbered rows g = row (entries rows) (g - 1)

unfoldable pub gathered : ℕ → List ℕ → List ℕ → List ℕ
gathered n rows numbers = tabulate (λ i. row_numbered rows (get_or numbers i 0)) (min n 64)

-- the number g as the array l has it, entry g - 1, where it is one of 1..n; any other stays
unfoldable pub renumber : List ℕ → ℕ → ℕ → ℕ
renumber l n g = cond (eqb g 0) 0 (cond (ltb n g) g (row (entries l) (g - 1)))

-- the first n of the 64 picks k so; those behind stay
unfoldable pub renumbered : List ℕ → ℕ → List ℕ → List ℕ
renumbered l n k = tabulate (λ i. cond (ltb i n) (renumber l n (get_or k i 0)) (get_or k i 0)) 64
