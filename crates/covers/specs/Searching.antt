-- The search of R-7, over any ladders and pairs: "For k = 0, 1, 2 and on, the search tries each ladder that holds the first uncovered
-- pair, none at k = 0, and under it starts over with what is still uncovered and k - 1; it stops as soon as nothing is uncovered."
-- `search` is one function for each uncovered set, `try_each` one for each next ladder; they fall on k and on the ladders. What they find
-- is said by `Arranged` and `Ahead`, which look at no search; that it is so is proved in proofs/Searching.antt.
use Rattle.std.specs.Prelude.{◌≡◌, ◌⊎◌, Bool, true, false, cond, List, [], ◌∷◌, ℕ, zero, suc, ◌+◌, ◌<◌, T, length}
use Rattle.std.proofs.Math.Option.{Option, none, some}

-- the ladders tried, and the cover found, if one was
pub record Outcome (L : Type 0) : Type 0 where
  pub tried : ℕ
  pub cover : Option (List L)

-- the outcome o under the ladder l, which is one more tried; `next` is that of the ladders after l, tried where o has no cover
unfoldable pub under : {L : Type 0} → L → Outcome L → Outcome L → Outcome L
under l o next = elim o.cover [
  | none ↦ record { tried = suc (o.tried + next.tried); cover = next.cover }
  | some c ↦ record { tried = suc o.tried; cover = some (l ∷ c) }
]

module _ {P L : Type 0} (holds : L → P → Bool) where
  -- what is still uncovered under the ladder l
  unfoldable pub uncovered : L → List P → List P
  uncovered l [] = []
  uncovered l (p ∷ left) = cond (holds l p) (uncovered l left) (p ∷ uncovered l left)

  -- each ladder of the list that holds p in turn, where `on` starts over with what is still uncovered
  unfoldable pub try_each : (List P → Outcome L) → P → List P → List L → Outcome L
  try_each on p left [] = record { tried = 0; cover = none }
  try_each on p left (l ∷ ls) = elim (holds l p) [ true ↦ under l (on (uncovered l left)) (try_each on p left ls) | false ↦ try_each on p left ls ]

  -- covers of `left` by at most k of the ladders ls
  unfoldable pub search : List L → ℕ → List P → Outcome L
  search ls zero [] = record { tried = 0; cover = some [] }
  search ls zero (p ∷ left) = record { tried = 0; cover = none }
  search ls (suc k) [] = record { tried = 0; cover = some [] }
  search ls (suc k) (p ∷ left) = try_each (search ls k) p (p ∷ left) ls

  -- from k on, up to k + n, until a cover is found; the ladders tried are counted "over all k"
  unfoldable pub search_from : List L → List P → ℕ → ℕ → Outcome L
  search_from ls left k zero = search ls k left
  search_from ls left k (suc n) = elim (search ls k left).cover [
    | none ↦ let o = search_from ls left (suc k) n in record { tried = (search ls k left).tried + o.tried; cover = o.cover }
    | some c ↦ search ls k left
  ]

  -- "For k = 0, 1, 2 and on": as many ladders as pairs always suffice (`fewest-rule` in proofs/Searching.antt)
  unfoldable pub fewest : List L → List P → Outcome L
  fewest ls left = search_from ls left 0 (length left)

  -- the ladders tried at 0, .. , k - 1
  unfoldable pub tried_below : List L → List P → ℕ → ℕ
  tried_below ls left zero = 0
  tried_below ls left (suc k) = tried_below ls left k + (search ls k left).tried

  -- o is what the rule gives: the cover c, found at k and at no smaller number, and the ladders tried up to and at k
  pub record ByRule (ls : List L) (left : List P) (k : ℕ) (c : List L) (o : Outcome L) : Type 0 where
    pub found : (search ls k left).cover ≡ some c
    pub not_before : (j : ℕ) → j < k → (search ls j left).cover ≡ none
    pub outcome : o ≡ record { tried = tried_below ls left (suc k); cover = some c }

  -- each of the sequence holds the first pair that those before it leave uncovered, and all of it leaves none
  abbrev pub Arranged : List P → List L → Type 0
  Arranged left [] = left ≡ []
  Arranged [] (l ∷ c) = ⊥
  Arranged (p ∷ left) (l ∷ c) = T (holds l p) × Arranged (uncovered l (p ∷ left)) c

-- one sequence comes before another where the first difference says so
abbrev pub Ahead : {L : Type 0} → (L → L → Type 0) → List L → List L → Type 0
Ahead before [] d = ⊥
Ahead before (l ∷ c) [] = ⊥
Ahead before (l ∷ c) (m ∷ d) = before l m ⊎ ((l ≡ m) × Ahead before c d)
