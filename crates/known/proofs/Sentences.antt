-- What a reader finds in the known tables and in the limits that they attain. First what each form of a claim says (`shape_is`, `lists_are`, `no_chain_is`,
-- `not_maximal_is`, `grows_to`, `first_end`, with moves counted as `move_of_lem` says); then in 01's numbers the moves of K5 and K9 (`k5_moves`, `k9_ends`), and
-- 4, 7 and 6 for the limits of demand 3 on K3 and K2 (`k3_start`, `k3_gap`, `k2_many`).
use mathlib.Core.Path.{◌≡◌, ap}
use mathlib.Core.Logic.{◌≢◌}
use mathlib.Core.List.{List, [], ◌∷◌, map}
use Prim.Native.Nat.{ℕ, suc, ◌-◌, ◌≤◌, ◌<◌}
use native.Mathlib.Omega.{arith}
use lib.ListN.{length}
use Rattle.table.specs.declared.Table.{Table}
use Rattle.table.specs.Pairs.{Within}
use Rattle.table.specs.Chains.{IsChain, IsMaximal}
use Rattle.table.specs.Tables.{table_rows, table_refusal}
use Rattle.table.proofs.Legality.{legal_passes}
use Rattle.rules.specs.Machine.{fresh, hands, ends, after_by}
use Rattle.rules.specs.Calls.{Call, handed, moves_until, is_hand_out, is_hand_out_or_end}
use Rattle.rules.proofs.Sequences.{All_get}
use Rattle.lists.specs.Arrangements.{plain}
use Rattle.lists.specs.Preferred.{pick_seq_by}
use Rattle.lists.specs.Lists.{gauge_side, list_key, GaugeList}
use Rattle.lists.specs.Growing.{FirstContaining}
use Rattle.lists.specs.OnTable.{move_on, calls_on}
use Rattle.known.specs.KnownTables.{count, Entry, Shape, Lists, NoChain, NotMaximal, Grows, move_of, FirstEnd, k2, k3, k5, K5, K9}
use Rattle.known.specs.KnownTables.{Claim, AllKnown, Attained}

-- ---- the forms of a claim
-- a table of g gauges and l cases that 10 and 11 do not refuse
pub shape_is : (t : Table) (g l : ℕ) → Shape t g l → (table_refusal t ≡ 0) × (t.gauges ≡ g) × (t.cases ≡ l)
shape_is t g l s = (legal_passes t s.legal, s.gauges, s.cases)

-- its ladders, in order, with their picks by number and how many pairs each has
pub lists_are : (t : Table) (g l : ℕ) (es : List Entry) → Lists t g l es → (table_refusal t ≡ 0) × GaugeList t (map (λ (e : Entry). e.set) es)
    × (map (λ (e : Entry). map suc (pick_seq_by (plain g) e.set)) es ≡ map (λ (e : Entry). e.picks) es)
    × (map (λ (e : Entry). count e.set) es ≡ map (λ (e : Entry). e.size) es)
lists_are t g l es h = ((shape_is t g l h.shape).0, h.list, h.picks, h.sizes)

pub no_chain_is : (t : Table) (s : List ℕ) → NoChain t s → Within (table_rows t) s × (¬ IsChain s)
no_chain_is t s h = (h.within, h.no_chain)

pub not_maximal_is : (t : Table) (s : List ℕ) → NotMaximal t s → Within (table_rows t) s × IsChain s × (¬ IsMaximal (table_rows t) s)
not_maximal_is t s h = (h.within, h.chain, h.not_maximal)

pub grows_to : (t : Table) (s x : List ℕ) → Grows t s x
    → Within (table_rows t) s × IsChain s × FirstContaining (table_rows t) (list_key (gauge_side t) (plain t.gauges)) s x
grows_to t s x h = (h.within, h.chain, h.first)

pub first_end : (t : Table) (n : ℕ) → FirstEnd t n → ((move_of t n).given ≡ ends) × ((k : ℕ) → 1 ≤ k → k < n → (move_of t k).given ≢ ends)
first_end t n h = (h.last, h.sooner)

-- move k + 1 is made from the state after k moves
pub move_of_lem : (t : Table) (k : ℕ) → move_of t (suc k) ≡ move_on (gauge_side t) (plain t.gauges) (after_by (move_on (gauge_side t) (plain t.gauges)) k fresh)
move_of_lem t k =
    let e : suc k - 1 ≡ k = omega arith in
    ap (λ (n : ℕ). move_on (gauge_side t) (plain t.gauges) (after_by (move_on (gauge_side t) (plain t.gauges)) n fresh)) e

-- ---- in 01's numbers
-- "K5 .. move 1 hands out, move 2 ends"
pub k5_moves : AllKnown → ((move_of k5 1).given ≡ hands []) × ((move_of k5 2).given ≡ ends)
k5_moves a = let c : Claim K5 = All_get Claim (a.complete K5) a.holds in (c.1, c.2)

-- "K2's gauge run first ends with move 25"
pub k9_ends : AllKnown → ((move_of k2 25).given ≡ ends) × ((k : ℕ) → 1 ≤ k → k < 25 → (move_of k2 k).given ≢ ends)
k9_ends a = first_end k2 25 (All_get Claim (a.complete K9) a.holds)

-- the limits of demand 3: G + 1 moves to the first hand-out of K3, 2 G + 1 from there to the next, and (min G L)! ladders of K2
pub k3_start : Attained → moves_until is_hand_out (calls_on (gauge_side k3) (plain 3) (1 ∷ 1 ∷ 2000000 ∷ 1 ∷ 1 ∷ [])) ≡ 4
k3_start a = a.start

pub k3_gap : Attained → (c : Call) × (cs : List Call) × (calls_on (gauge_side k3) (plain 3) (4 ∷ 3 ∷ 2000000 ∷ 0 ∷ 1 ∷ 3 ∷ []) ≡ c ∷ cs)
    × ((y : List ℕ) × (c.answer ≡ handed y)) × (moves_until is_hand_out_or_end cs ≡ 7)
k3_gap a = (a.first, a.later, a.parts, a.handed_out, a.gap)

pub k2_many : Attained → (xs : List (List ℕ)) × GaugeList k2 xs × (length xs ≡ 6)
k2_many a = (a.list, a.listed, a.many)
