-- What the private steps compute and keep: a union of rows for each pair, by which two pairs' conflicts are compared
-- in a few steps on sets (`includes_short` in proofs/Comparing.antt), and the store of these unions. Places count
-- from 0: place k of row i is the pair of gauge i + 1 and case k + 1. Rows are the 64 of a table, of which those from
-- the n-th on are empty.
use Rattle.std.specs.Prelude.{◌≡◌, ◌↔◌, Bool, not, ◌&&◌, ◌||◌, cond, List, ℕ, zero, suc, ◌+◌, ◌*◌, ◌-◌, ◌≤◌, ◌<◌, T, length, get_or}
use Rattle.sets.specs.Sets.{bit, meet, join, is_subset}
use Rattle.sets.specs.Lists.{tabulate}
use Rattle.table.specs.Pairs.{row, Has}
use Rattle.conflicts.specs.Conflicts.{StrictlyContains, Essential}

-- the cases of a that are not in b
unfoldable pub without : ℕ → ℕ → ℕ
without a b = a - meet a b

-- what a row has of the conflicts of place k of the row `own`: the cases that `own` lacks, unless the row has place k
unfoldable pub conflict_row : ℕ → ℕ → ℕ → ℕ
conflict_row a own k = cond (bit a k) 0 (without a own)

unfoldable pub conflict_rows : List ℕ → ℕ → ℕ → List ℕ
conflict_rows r g k = tabulate (λ i. conflict_row (row r i) (row r g) k) 64

-- the union of the first n rows that have a conflict of place k of the row `own`: that lack k and are not within `own`
unfoldable pub joined : ℕ → ℕ → ℕ → ℕ → ℕ
joined seen a own k = cond (bit a k || is_subset a own) seen (join seen a)

unfoldable pub against : List ℕ → ℕ → ℕ → ℕ → ℕ
against r own k zero = 0
against r own k (suc i) = joined (against r own k i) (row r i) own k

-- the conflicts of place k of the row `outer` include those of a pair of the row `inner` whose union is u
unfoldable pub includes : ℕ → ℕ → ℕ → ℕ → Bool
includes u k outer inner = not (bit u k) && is_subset (meet u outer) inner

-- no row from the n-th on has a case
abbrev pub Past : List ℕ → ℕ → Type 0
Past r n = (i : ℕ) → n ≤ i → row r i ≡ 0

-- the store has the unions of the pairs of the first m rows: that of place k of row i is at 64 i + k
pub record Stored (r : List ℕ) (n m : ℕ) (store : List ℕ) : Type 0 where
  pub size : length store ≡ 4096
  pub entry : (i k : ℕ) → i < m → k < 64 → T (bit (row r i) k) → get_or store (i * 64 + k) 0 ≡ against r (row r i) k n

-- the store is filled for a table's rows
pub record Ready (r : List ℕ) (n : ℕ) (store : List ℕ) : Type 0 where
  pub few : n ≤ 64
  pub past : Past r n
  pub stored : Stored r n n store

-- place k of row g is a pair of the table, one of its first n rows
pub record Placed (r : List ℕ) (n g k : ℕ) : Type 0 where
  pub among : g < n
  pub low : k < 64
  pub held : T (bit (row r g) k)

-- a pair of row h, and a pair of any row, has conflicts that strictly contain those of place k of row g
abbrev pub OutdoneIn : List ℕ → ℕ → ℕ → ℕ → Type 0
OutdoneIn r g k h = (d : ℕ) × Has r (suc h) d × StrictlyContains r (suc h) d (suc g) (suc k)

abbrev pub Outdone : List ℕ → ℕ → ℕ → Type 0
Outdone r g k = (h : ℕ) × (d : ℕ) × Has r h d × StrictlyContains r h d (suc g) (suc k)

-- the set has the places of row g that are essential pairs
abbrev pub EssentialRow : List ℕ → ℕ → ℕ → Type 0
EssentialRow r g set = (k : ℕ) → T (bit set k) ↔ Essential r (suc g) (suc k)
