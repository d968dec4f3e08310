-- Chains and maximal chains (01, "Tables, chains, ladders"). *Maximal chain* is 01's "ladder".
use Rattle.std.specs.Prelude.{◌≡◌, ◌⊎◌, List, ℕ}
use Rattle.table.specs.Pairs.{Has, Within}

-- "no two pairs g:c and h:d such that both g:d and h:c are missing from the set": of any two pairs of s, one of the crossed pairs is in s
abbrev pub IsChain : List ℕ → Type 0
IsChain s = (g h c d : ℕ) → Has s g c → Has s h d → Has s g d ⊎ Has s h c

-- "a chain that no other chain of the same table strictly contains", of the table whose rows are r
pub record IsMaximal (r s : List ℕ) : Type 0 where
  pub within : Within r s
  pub chain : IsChain s
  pub largest : (s' : List ℕ) → Within r s' → IsChain s' → Within s' s → s' ≡ s
