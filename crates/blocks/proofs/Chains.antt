-- A set that a call hands out is a set of pairs of the table, so the table of its pairs is legal, and its file has room where the longest has.
use mathlib.Core.Path.{◌≡◌, sym, ap, ◌∙◌, subst}
use mathlib.Core.Bool.{Bool}
use mathlib.Core.List.{List, [], ◌∷◌}
use Prim.Native.Nat.{ℕ, ◌^◌, ◌≤◌, ◌<◌}
use native.Mathlib.Omega.{arith}
use lib.ListN.{length}
use borrow.Author.Tests.{lt-ltb, ltb-true}
use Rattle.basics.proofs.Clash.{clash}
use Rattle.sets.specs.Sets.{◌⊆◌, lowest}
use Rattle.sets.proofs.Order.{sub_trans, subset_is, is_subset_lem}
use Rattle.sets.proofs.Masks.{below_lowest}
use Rattle.table.specs.declared.Table.{Table}
use Rattle.table.specs.Pairs.{row, Within}
use Rattle.table.specs.Tables.{Legal, table_rows}
use Rattle.table.proofs.Padding.{pad_length, pad_get_or}
use Rattle.table.proofs.Places.{row_past, within_sub}
use Rattle.table.proofs.Legality.{length_rows, row-table_rows}
use Rattle.rules.specs.Machine.{State, Move, Given, nothing, hands, ends}
use Rattle.rules.specs.ByNumber.{move}
use Rattle.rules.specs.private.Fitting.{Fits}
use Rattle.rules.specs.Calls.{spent, handed, Call, most_budget, call_by}
use Rattle.rules.specs.private.Reports.{says, last_by}
use Rattle.rules.proofs.Calls.{Paid, cost, cost_lap, cost_pos, call_law}
use Rattle.rules.proofs.Reports.{all_whole, calls_spent}
use Rattle.rules.proofs.Renaming.{renamed_call, call-renamed}
use Rattle.lists.specs.Lists.{Side, gauge_side}
use Rattle.lists.specs.ByNumber.{candidates}
use Rattle.lists.specs.OnTable.{hand_out, call_on, ReachedOn}
use Rattle.lists.specs.private.Arranging.{index_at, prefer}
use Rattle.lists.proofs.Arranging.{length-arrange}
use Rattle.lists.proofs.CandidateTree.{candidate_tree}
use Rattle.lists.proofs.ChainRows.{chain_of_within}
use Rattle.lists.proofs.PlacedRuns.{follows, same_out, reached_placed}
use Rattle.runs.specs.Calling.{arrangement}
use Rattle.runs.specs.private.Either.{call_of}
use Rattle.runs.specs.Omitting.{moves_of}
use Rattle.runs.proofs.Demands.{Started}
use Rattle.blocks.specs.Filling.{pair_table}

below : (a b n : ℕ) → n ≤ 64 → a ⊆ b → b < 2 ^ n → a < 2 ^ n
below a b n h s l =
    ltb-true a (2 ^ n)
    (sym (below_lowest a n h) ∙ is_subset_lem a (lowest n) (sub_trans a b (lowest n) s (subset_is b (lowest n) (below_lowest b n h ∙ lt-ltb b (2 ^ n) l))))

pub pair_legal : (t : Table) → Legal t → (x : List ℕ) → Within (table_rows t) x → Legal (pair_table t x)
pair_legal t l x w = record {
  gauges_low = l.gauges_low;
  gauges_high = l.gauges_high;
  cases_low = l.cases_low;
  cases_high = l.cases_high;
  rows_length = pad_length x (omega (arith, size, l.gauges_high));
  rows_bits =
      λ i.
      rw (pad_get_or x i)
      (below (row x i) (row t.rows i) t.cases l.cases_high (rw (row-table_rows t l i) at (within_sub (table_rows t) x w i)) (l.rows_bits i));
  rows_rest = λ i h. pad_get_or x i ∙ row_past x i (omega (arith, size, h));
}
  where
    size : length x ≡ t.gauges
    size = w.size ∙ length_rows t l

says-handed : (out : List ℕ → List ℕ) (g : Given) (x : List ℕ) → says out g ≡ handed x → (p : List ℕ) × (out p ≡ x)
says-handed out nothing x e = clash cc
says-handed out (hands p) x e = (p, cc)
says-handed out ends x e = clash cc

pub handed_within : (t : Table) (order : List ℕ) (omit : Bool) (s : State) (x : List ℕ)
    → (call_of t (gauge_side t) (arrangement (gauge_side t) order) omit most_budget s).answer ≡ handed x → Within (table_rows t) x
handed_within t order omit s x e =
    let mv : State → Move = moves_of t (gauge_side t) (arrangement (gauge_side t) order) omit in
    let w = (all_whole mv (hand_out (gauge_side t)) (most_budget ∷ []) s).0 (omega arith) in
    let c : Call = call_of t (gauge_side t) (arrangement (gauge_side t) order) omit most_budget s in
    let p = says-handed (hand_out (gauge_side t)) (last_by mv c.moves s) x (sym w.last ∙ e) in
    subst (Within (table_rows t)) p.1 (chain_of_within (table_rows t) p.0)

-- a run that omits nothing is never spent by a budget of 129 or more: nor is the one by number, on the arranged rows, that it follows
pub never_spent : (t : Table) (order : List ℕ) → Started gauge_side t order → (b : ℕ) → 129 ≤ b → b ≤ most_budget → (s : State)
    → ReachedOn (gauge_side t) (arrangement (gauge_side t) order) s → (call_on (gauge_side t) (arrangement (gauge_side t) order) b s).answer ≡ spent → ⊥
never_spent t order g b low high s r e =
    let p = (reached_placed side o g.fair.counted g.arranged s).0 r in
    let z : State = p.state in
    let c : Call = call_by (move (candidates rows)) (hand_out (prefer o side)) b z in
    let same : call_on side o b s ≡ renamed_call (index_at o) c =
    ap (call_on side o b) (sym p.is)
    ∙ call-renamed (follows side o g.fair.counted g.arranged) (same_out side o g.fair.counted g.arranged) b z p.good in
    by_number z p.good (sym (ap (λ (x : Call). x.answer) same) ∙ e)
  where
    side : Side
    side = gauge_side t

    o : List ℕ
    o = arrangement side order

    rows : List ℕ
    rows = (prefer o side).rows

    by_number : (z : State) → Fits (candidates rows) z.picks z.phase
        → (call_by (move (candidates rows)) (hand_out (prefer o side)) b z).answer ≡ spent → ⊥
    by_number z h e =
        let kids : List ℕ → List ℕ = candidates rows in
        let n : ℕ = length rows in
        let c : Call = call_by (move kids) (hand_out (prefer o side)) b z in
        let p : Paid spent c.moves (cost n c.next.picks c.next.phase) (cost n z.picks z.phase) =
        rw e at (call_law kids (hand_out (prefer o side)) n (candidate_tree rows) b z h).paid in
        let m : c.moves ≡ b = (((calls_spent kids (hand_out (prefer o side)) (b ∷ []) z).0 high).only e).0 in
        omega (
          arith,
          p,
          m,
          length-arrange t.gauges o g.arranged (table_rows t),
          g.legal.gauges_high,
          cost_lap kids n (candidate_tree rows) z.picks z.phase h,
          cost_pos n c.next.picks c.next.phase,
          low,
        )
