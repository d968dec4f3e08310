-- What the private steps of extending compute. No public promise mentions it: that it finds the first maximal chain is proved in
-- proofs/Picking.antt. `unpicked` and `left` are as in crate `search`, whose tests these are: the places of the unpicked gauges beside the rows, and the
-- left cases. Places count from 0: place i is gauge i + 1.
use Rattle.std.specs.Prelude.{Bool, ◌&&◌, List, ℕ, ◌<◌, Option, MatchOption}
use Rattle.sets.specs.Sets.{is_subset}
use Rattle.search.specs.Finding.{remainder_in, candidate_in, within, FirstOf}

-- the gauge at place g is a candidate whose remainder contains the cases `owed`
unfoldable pub fits_in : List ℕ → ℕ → ℕ → ℕ → ℕ → Bool
fits_in rows unpicked left owed g = candidate_in (within unpicked rows) left 64 g && is_subset owed (remainder_in rows left g)

-- r is the lowest number below n at which f holds, or none where there is none
abbrev pub FirstPlace : (ℕ → Bool) → ℕ → Option ℕ → Type 0
FirstPlace f n r = MatchOption r (FirstOf f 0 n n) (λ k. (k < n) × FirstOf f 0 n k)
