-- Covers of a table by chains, and the least number of R-7 (02: "find the least number of ladders that together hold every pair; 0 for a
-- table without pairs"), of the table whose rows are r. A ladder of 02 is a maximal chain. A cover by ladders is R-2's `Cover`; here it is
-- counted as a list, in which a set that comes twice counts twice, so a cover of the least number has none twice.
--
-- In order: the chains of a table; a cover by any of them; the least number.
--
-- Elsewhere: that every table has a least number, `least_exists` in proofs/Fewest.antt, and only one, `least_unique` in proofs/Covers.antt; that it
-- is 0 exactly for a table without pairs, `least_zero`, and that no cover by any chains is smaller, `none_smaller`, both there.
use Rattle.std.specs.Prelude.{◌≡◌, ℕ, ◌≤◌, length}
use mathlib.Core.List.{List, Memᴰ}
use Rattle.table.specs.Pairs.{Within}
use Rattle.table.specs.Chains.{IsChain}
use Rattle.conflicts.specs.Covers.{Together, Cover}

-- "any chains, ladders or not": a chain of the table
pub record ChainOf (r s : List ℕ) : Type 0 where
  pub within : Within r s
  pub chain : IsChain s

-- chains of the table that "together hold every pair"
pub record ChainCover (r : List ℕ) (xs : List (List ℕ)) : Type 0 where
  pub chains : (x : List ℕ) → Memᴰ x xs → ChainOf r x
  pub together : Together r (λ x. Memᴰ x xs)

-- k maximal chains cover the table, and fewer do not
pub record LeastNumber (r : List ℕ) (k : ℕ) : Type 0 where
  pub cover : List (List ℕ)
  pub covers : Cover r cover
  pub number : length cover ≡ k
  pub least : (xs : List (List ℕ)) → Cover r xs → k ≤ length xs
