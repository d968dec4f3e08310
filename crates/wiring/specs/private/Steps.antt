-- What the private steps of the code promise each other. `Wires` of specs/Wiring.antt is what the public function promises; the tests by which a pair
-- is found are in crate `pair_orders`, specs/private/Growing.antt.
use Rattle.std.specs.Prelude.{◌≡◌, Bool, List, ℕ, suc, ◌≤◌, ◌<◌, length, take, Option, Some, None}
use Rattle.std.proofs.lemmas.List.Edits.{sets}
use Rattle.sets.specs.Sets.{is_subset}
use Rattle.sets.specs.Lists.{all_below}
use Rattle.table.specs.declared.Table.{Table}
use Rattle.table.specs.declared.Chain.{Chain}
use Rattle.table.specs.Pairs.{row, Within, Cases}
use Rattle.table.specs.Chains.{IsChain}
use Rattle.table.specs.Tables.{chain_rows, chain_refusal}
use Rattle.pairs.specs.PairOrder.{Pair}
use Rattle.pair_orders.specs.Adding.{Next, FirstOrder, pair_bytes}
use Rattle.wiring.specs.Wiring.{Leads, LadderChecks, Checks}

-- ---- the checks, and what is known where they pass
pub record LadderChecked (t : Table) (s x : Chain) (n : ℕ) : Type 0 where
  pub number : LadderChecks t s x n
  pub passes : n ≡ 0 → chain_refusal t x ≡ 0
  pub leads : n ≡ 0 → Leads t s x

pub record Checked (t : Table) (s x : Chain) (n : ℕ) : Type 0 where
  pub number : Checks t s x n
  pub chain_passes : n ≡ 0 → chain_refusal t s ≡ 0
  pub chain : n ≡ 0 → IsChain (chain_rows s)
  pub passes : n ≡ 0 → chain_refusal t x ≡ 0
  pub leads : n ≡ 0 → Leads t s x

-- each of the first n rows of s is within that of x
unfoldable pub includes : List ℕ → List ℕ → ℕ → Bool
includes x s n = all_below (λ i. is_subset (row s i) (row x i)) n

-- ---- the pair that comes next
-- the place that was found, or n where there is none
abbrev pub place_or : ℕ → Option ℕ → ℕ
place_or n (Some k) = k
place_or n None = n

-- of the 64 rows x and s, the first n are a chain and a chain that contains it
pub record Between (x s : List ℕ) (n : ℕ) : Type 0 where
  pub few : n ≤ 64
  pub length_outer : length x ≡ 64
  pub length_inner : length s ≡ 64
  pub outer : IsChain (take n x)
  pub inner : IsChain (take n s)
  pub within : Within (take n x) (take n s)
  pub cases : Cases 64 (take n x)

-- and a pair is missing
pub record Waiting (x s : List ℕ) (n : ℕ) : Type 0 where
  pub between : Between x s n
  pub missing : ¬ (take n s ≡ take n x)

-- place k of row i is the pair that comes next
pub record NextPlace (x s : List ℕ) (n i k : ℕ) : Type 0 where
  pub row : i < n
  pub case : k < 64
  pub next : Next (take n x) (take n s) (suc i, suc k)

-- ---- the order, stored
-- the order from s to x takes `size` bytes, for which the buffer l has room
pub record Ready (x s : List ℕ) (n size : ℕ) (l : List ℕ) : Type 0 where
  pub between : Between x s n
  pub order : List Pair
  pub first : FirstOrder (take n x) (take n s) order
  pub bytes : length (pair_bytes order) ≡ size
  pub room : size ≤ length l

-- the buffer l with the order from s to x at its front is m
abbrev pub StoresOrder : List ℕ → List ℕ → List ℕ → List ℕ → Type 0
StoresOrder x s l m = (ps : List Pair) → FirstOrder x s ps → m ≡ sets l 0 (pair_bytes ps)
