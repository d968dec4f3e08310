-- Conflicts and essential pairs (02, R-2: "Rivals and deciding pairs"), of the table whose rows are r: a *conflict* is 02's rival, an
-- *essential* pair is 02's deciding pair, and a ladder of 02 is a maximal chain. A pair is its gauge and its case, both numbered from 1,
-- and `Has r g c` says that it is a pair of the table.
use Rattle.std.specs.Prelude.{◌≢◌, List, ℕ}
use Rattle.table.specs.Pairs.{Has}
use Rattle.table.specs.Chains.{IsMaximal}

-- "Rivals of a pair g:c are the pairs h:d with g and h different, c and d different, and g:d and h:c both missing from the table": h:d is a
-- conflict of g:c. Of two pairs of the table the differences follow from what is missing (`apart_follows` in proofs/Searching.antt).
pub record Conflict (r : List ℕ) (g c h d : ℕ) : Type 0 where
  pub pair : Has r h d
  pub gauges : g ≢ h
  pub cases : c ≢ d
  pub missing : Has r g d → ⊥
  pub missing_back : Has r h c → ⊥

-- "p's rivals include q's": the conflicts of p = g:c include those of q = h:d
abbrev pub Includes : List ℕ → ℕ → ℕ → ℕ → ℕ → Type 0
Includes r g c h d = (k e : ℕ) → Conflict r h d k e → Conflict r g c k e

-- "rivals strictly contain": the conflicts of g:c include those of h:d, and not the other way round
pub record StrictlyContains (r : List ℕ) (g c h d : ℕ) : Type 0 where
  pub include : Includes r g c h d
  pub strict : Includes r h d g c → ⊥

-- "A pair is deciding when no other pair's rivals strictly contain its own": g:c is essential. No pair's conflicts strictly contain
-- themselves, so h:d is any pair here.
pub record Essential (r : List ℕ) (g c : ℕ) : Type 0 where
  pub pair : Has r g c
  pub none : (h d : ℕ) → Has r h d → StrictlyContains r h d g c → ⊥

-- "the ladders that hold a deciding pair": the set m holds an essential pair
pub record HoldsEssential (r m : List ℕ) : Type 0 where
  pub gauge : ℕ
  pub case : ℕ
  pub held : Has m gauge case
  pub essential : Essential r gauge case

-- "every ladder with pair p holds pair q", for p = g:c and q = h:d
abbrev pub HoldsWith : List ℕ → ℕ → ℕ → ℕ → ℕ → Type 0
HoldsWith r g c h d = (m : List ℕ) → IsMaximal r m → Has m g c → Has m h d
