-- R-7 on a table: the search over its gauge list ls and its pairs in order, and what its cover is in R-7's words ("The cover returned is
-- the first of least number in that order"). A table is its list of rows r, and w is its number of cases. That the search gives the first
-- cover of least number, for every table, is `fewest-ladders` in proofs/Fewest.antt; every cover of that number can be arranged
-- (`least_arranged`), so the first is one among all of them.
use Rattle.std.specs.Prelude.{◌≡◌, ◌⊎◌, List, ℕ, length}
use Rattle.lists.specs.Lists.{Precedes}
use Rattle.conflicts.specs.Covers.{Cover}
use Rattle.covers.specs.Covers.{LeastNumber}
use Rattle.pairs.specs.PairOrder.{holds, pairs}
use Rattle.covers.specs.Searching.{Outcome, fewest, Arranged, Ahead}

abbrev pub fewest_ladders : ℕ → List ℕ → List (List ℕ) → Outcome (List ℕ)
fewest_ladders w r ls = fewest holds ls (pairs w r)

-- c is a cover of the least number k, each ladder of it holds the first pair that those before it leave uncovered, and it comes before
-- every other such cover, ladder by ladder in gauge order
pub record FirstLeast (w : ℕ) (r : List ℕ) (k : ℕ) (c : List (List ℕ)) : Type 0 where
  pub least : LeastNumber r k
  pub covers : Cover r c
  pub number : length c ≡ k
  pub arranged : Arranged holds (pairs w r) c
  pub first : (d : List (List ℕ)) → Cover r d → length d ≡ k → Arranged holds (pairs w r) d → (c ≡ d) ⊎ Ahead Precedes c d
