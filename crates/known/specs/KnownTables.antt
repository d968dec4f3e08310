-- The known tables (01, "Known tables": K1 to K10), as statements about the definitions that the contracts use, at "the arrangement 1, 2, 3 and on":
-- `GaugeList`, `pick_seq_by`, `IsChain`, `IsMaximal` and `FirstContaining`, and rules 1 to 5, `move_on`, from a fresh start. Sets are written as in 01, rows
-- in braces: {2,3} is 2 ∷ 3 ∷ []. A set of pairs is written by its rows too: 1:2, 1:3, 3:2 in three rows is {2,3} {} {2}. *Maximal chain* is 01's
-- "ladder". The one list is `known_tables`, the one theorem `AllKnown`, at the end, with the limits of demand 3 that K2 and K3 attain; both are proved in
-- proofs/AllKnown.antt.
use Rattle.std.specs.Prelude.{◌≡◌, ◌≢◌, ℕ, suc, ◌+◌, ◌-◌, ◌^◌, ◌≤◌, ◌<◌, length, replicate}
use mathlib.Core.List.{List, [], ◌∷◌, ◌++◌, map, Memᴰ}
use Rattle.std.specs.Int.Count.{ones}
use Rattle.table.specs.declared.Table.{Table}
use Rattle.table.specs.Pairs.{Within}
use Rattle.table.specs.Chains.{IsChain, IsMaximal}
use Rattle.table.specs.Tables.{Legal, table_rows}
use Rattle.rules.specs.Sequences.{All}
use Rattle.rules.specs.Machine.{Down, Handed, Back, Ended, at, fresh, nothing, hands, ends, Move, gives, after_by}
use Rattle.rules.specs.Calls.{Call, handed, moves_until, is_hand_out, is_hand_out_or_end}
use Rattle.lists.specs.Arrangements.{plain}
use Rattle.lists.specs.Preferred.{pick_seq_by}
use Rattle.lists.specs.Lists.{gauge_side, list_key, GaugeList}
use Rattle.lists.specs.Growing.{FirstContaining}
use Rattle.lists.specs.OnTable.{move_on, calls_on}
use Rattle.lists.specs.Demand.{start_limit, gap_limit, most_sets}

-- ---- sets and tables written out
-- a set of cases by its case numbers: case c is place c - 1
abbrev pub cases : List ℕ → ℕ
cases [] = 0
cases (c ∷ cs) = 2 ^ (c - 1) + cases cs

-- a set of pairs by its rows
abbrev pub pairs : List (List ℕ) → List ℕ
pairs rows = map cases rows

-- the table with l cases and these rows
abbrev pub table : ℕ → List (List ℕ) → Table
table l rows = record { gauges = length rows; cases = l; rows = pairs rows ++ replicate (64 - length rows) 0 }

-- the number of pairs of a set
abbrev pub count : List ℕ → ℕ
count [] = 0
count (r ∷ s) = ones r + count s

-- ---- what 01 says of a known table
-- a maximal chain as 01 gives it: its set, its picks as gauge numbers, how many pairs
pub record Entry : Type 0 where
  pub set : List ℕ
  pub picks : List ℕ
  pub size : ℕ

abbrev pub entry : List (List ℕ) → List ℕ → ℕ → Entry
entry rows picks size = record { set = pairs rows; picks = picks; size = size }

-- a table that 01 takes, with g gauges and l cases
pub record Shape (t : Table) (g l : ℕ) : Type 0 where
  pub legal : Legal t
  pub gauges : t.gauges ≡ g
  pub cases : t.cases ≡ l

-- the gauge list of the table t is these and no others, in this order; a pick sequence holds row indices, one less than gauge numbers
pub record Lists (t : Table) (g l : ℕ) (es : List Entry) : Type 0 where
  pub shape : Shape t g l
  pub list : GaugeList t (map (λ (e : Entry). e.set) es)
  pub picks : map (λ (e : Entry). map suc (pick_seq_by (plain g) e.set)) es ≡ map (λ (e : Entry). e.picks) es
  pub sizes : map (λ (e : Entry). count e.set) es ≡ map (λ (e : Entry). e.size) es

-- s is a set of pairs of t, but no chain
pub record NoChain (t : Table) (s : List ℕ) : Type 0 where
  pub within : Within (table_rows t) s
  pub no_chain : ¬ IsChain s

-- s is a chain of t, but not a maximal one
pub record NotMaximal (t : Table) (s : List ℕ) : Type 0 where
  pub within : Within (table_rows t) s
  pub chain : IsChain s
  pub not_maximal : ¬ IsMaximal (table_rows t) s

-- s is a chain of t, and the answer to growing it is x
pub record Grows (t : Table) (s x : List ℕ) : Type 0 where
  pub within : Within (table_rows t) s
  pub chain : IsChain s
  pub first : FirstContaining (table_rows t) (list_key (gauge_side t) (plain t.gauges)) s x

-- move k of the gauge run, counted from 1, by rules 1 to 5 from the fresh start: what it gives, and the state after it
abbrev pub move_of : Table → ℕ → Move
move_of t k = move_on (gauge_side t) (plain t.gauges) (after_by (move_on (gauge_side t) (plain t.gauges)) (k - 1) fresh)

-- move n ends, and none before it does
pub record FirstEnd (t : Table) (n : ℕ) : Type 0 where
  pub last : (move_of t n).given ≡ ends
  pub sooner : (k : ℕ) → 1 ≤ k → k < n → (move_of t k).given ≢ ends

-- ---- the tables
-- "K1 {1} {2}"
abbrev pub k1 : Table
k1 = table 2 ((1 ∷ []) ∷ (2 ∷ []) ∷ [])

-- "K2 {2,3} {1,3} {1,2}"
abbrev pub k2 : Table
k2 = table 3 ((2 ∷ 3 ∷ []) ∷ (1 ∷ 3 ∷ []) ∷ (1 ∷ 2 ∷ []) ∷ [])

-- "K3 {1,2} {1,2} {2,3}"
abbrev pub k3 : Table
k3 = table 3 ((1 ∷ 2 ∷ []) ∷ (1 ∷ 2 ∷ []) ∷ (2 ∷ 3 ∷ []) ∷ [])

-- "K4 {1,2} {1,2}"
abbrev pub k4 : Table
k4 = table 2 ((1 ∷ 2 ∷ []) ∷ (1 ∷ 2 ∷ []) ∷ [])

-- "K5 two empty rows, L = 3"
abbrev pub k5 : Table
k5 = table 3 ([] ∷ [] ∷ [])

-- "K10 {1}, L = 1"
abbrev pub k10 : Table
k10 = table 1 ((1 ∷ []) ∷ [])

-- ---- the one list
pub data Known : Type 0 where
  K1 : Known
  K2 : Known
  K3 : Known
  K4 : Known
  K5 : Known
  K6 : Known
  K7 : Known
  K8 : Known
  K9 : Known
  K10 : Known

abbrev pub Claim : Known → Type 0
-- "ladders 1:1, then 2:2"
Claim K1 = Lists k1 2 2 (entry ((1 ∷ []) ∷ [] ∷ []) (1 ∷ []) 1 ∷ entry ([] ∷ (2 ∷ []) ∷ []) (2 ∷ []) 1 ∷ [])
-- "six ladders, picks (1,2) (1,3) (2,1) (2,3) (3,1) (3,2), three pairs each"
Claim K2 =
    Lists k2 3 3
    (entry ((2 ∷ 3 ∷ []) ∷ (3 ∷ []) ∷ [] ∷ []) (1 ∷ 2 ∷ []) 3
    ∷ entry ((2 ∷ 3 ∷ []) ∷ [] ∷ (2 ∷ []) ∷ []) (1 ∷ 3 ∷ []) 3
    ∷ entry ((3 ∷ []) ∷ (1 ∷ 3 ∷ []) ∷ [] ∷ []) (2 ∷ 1 ∷ []) 3
    ∷ entry ([] ∷ (1 ∷ 3 ∷ []) ∷ (1 ∷ []) ∷ []) (2 ∷ 3 ∷ []) 3
    ∷ entry ((2 ∷ []) ∷ [] ∷ (1 ∷ 2 ∷ []) ∷ []) (3 ∷ 1 ∷ []) 3
    ∷ entry ([] ∷ (1 ∷ []) ∷ (1 ∷ 2 ∷ []) ∷ []) (3 ∷ 2 ∷ []) 3
    ∷ [])
-- "two ladders, picks (1,2,3) with five pairs and (3,1,2) with four"
Claim K3 =
    Lists k3 3 3
    (entry ((1 ∷ 2 ∷ []) ∷ (1 ∷ 2 ∷ []) ∷ (2 ∷ []) ∷ []) (1 ∷ 2 ∷ 3 ∷ []) 5
    ∷ entry ((2 ∷ []) ∷ (2 ∷ []) ∷ (2 ∷ 3 ∷ []) ∷ []) (3 ∷ 1 ∷ 2 ∷ []) 4
    ∷ [])
-- "one ladder, all four pairs"
Claim K4 = Lists k4 2 2 (entry ((1 ∷ 2 ∷ []) ∷ (1 ∷ 2 ∷ []) ∷ []) (1 ∷ 2 ∷ []) 4 ∷ [])
-- "one empty ladder; move 1 hands out, move 2 ends"
Claim K5 = Lists k5 2 3 (entry ([] ∷ [] ∷ []) [] 0 ∷ []) × ((move_of k5 1).given ≡ hands []) × ((move_of k5 2).given ≡ ends)
-- "1:2, 2:3, 3:1 in K2: not a chain"
Claim K6 = NoChain k2 (pairs ((2 ∷ []) ∷ (3 ∷ []) ∷ (1 ∷ []) ∷ []))
-- "1:2, 1:3 in K2: a chain, no ladder"
Claim K7 = NotMaximal k2 (pairs ((2 ∷ 3 ∷ []) ∷ [] ∷ [] ∷ []))
-- "3:2 in K2 grows to 1:2, 1:3, 3:2"
Claim K8 = Grows k2 (pairs ([] ∷ [] ∷ (2 ∷ []) ∷ [])) (pairs ((2 ∷ 3 ∷ []) ∷ [] ∷ (2 ∷ []) ∷ []))
-- "K2's gauge run first ends with move 25"
Claim K9 = FirstEnd k2 25
-- "pick, hand out, take back, end"; gauge 1 is row index 0
Claim K10 =
    Shape k10 1 1 × (move_of k10 1 ≡ gives nothing (at (0 ∷ []) Down)) × (move_of k10 2 ≡ gives (hands (0 ∷ [])) (at (0 ∷ []) Handed))
    × (move_of k10 3 ≡ gives nothing (at [] (Back 0))) × (move_of k10 4 ≡ gives ends (at [] Ended))

abbrev pub known_tables : List Known
known_tables = K1 ∷ K2 ∷ K3 ∷ K4 ∷ K5 ∷ K6 ∷ K7 ∷ K8 ∷ K9 ∷ K10 ∷ []

-- all ten are in it, and each of them holds
-- Theorem alone: `known_tables_lem` in proofs/AllKnown.antt
pub record AllKnown : Type 0 where
  pub complete : (k : Known) → Memᴰ k known_tables
  pub holds : All Claim known_tables

-- ---- the limits of demand 3 are attained, whatever the budgets, a refused one among them
-- Theorem alone: `limits_attained` in proofs/AllKnown.antt
pub record Attained : Type 0 where
  -- K3 needs G + 1 moves to its first hand-out
  pub start : moves_until is_hand_out (calls_on (gauge_side k3) (plain 3) (1 ∷ 1 ∷ 2000000 ∷ 1 ∷ 1 ∷ [])) ≡ start_limit k3.gauges
  -- and 2 G + 1 from there to the next
  pub first : Call
  pub later : List Call
  pub parts : calls_on (gauge_side k3) (plain 3) (4 ∷ 3 ∷ 2000000 ∷ 0 ∷ 1 ∷ 3 ∷ []) ≡ first ∷ later
  pub handed_out : (y : List ℕ) × (first.answer ≡ handed y)
  pub gap : moves_until is_hand_out_or_end later ≡ gap_limit k3.gauges
  -- K2 has (min G L)! maximal chains
  pub list : List (List ℕ)
  pub listed : GaugeList k2 list
  pub many : length list ≡ most_sets k2
