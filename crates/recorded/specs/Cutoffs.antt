-- What 02 says of the table of a recorded test at a cutoff (R-5), in words of pairs, one field a sentence. The table
-- itself, bit by bit, is `table_at` of Tests.antt; that it has what is said here is `cutoff_claims` in
-- proofs/Cutoffs.antt.
use Rattle.std.specs.Prelude.{◌≡◌, ◌↔◌, List, ℕ, ◌≤◌, pos, nat_abs}
use Rattle.table.specs.Pairs.{Has}
use Rattle.recorded.specs.Tests.{reading_of, table_at}
use Rattle.recorded.specs.declared.Kind.TheVariants.{Integer}
use Rattle.recorded.specs.declared.Test.{Test}

-- the rows of the table of the test t at a cutoff
pub record CutoffClaims (t : Test) (cutoff : ℕ) (rows : List ℕ) : Type 0 where
  -- "a pair exists when the magnitude of v reaches it"; every entry of a pattern test is a pair
  pub reached : (g c : ℕ) → Has rows g c ↔ (Has t.entries g c × (t.kind ≡ Integer → cutoff ≤ nat_abs (reading_of t g c)))
  -- "A listed zero is an entry without a pair."
  pub listed_zero : (g c : ℕ) → t.kind ≡ Integer → reading_of t g c ≡ pos 0 → ¬ Has rows g c
  -- "Raising the cutoff never adds a pair.": a pair at a higher one is a pair here too; a cutoff that is refused has
  -- no pairs
  pub raising : (higher : ℕ) → cutoff ≤ higher → (g c : ℕ) → Has (table_at t higher).value.rows g c → Has rows g c
