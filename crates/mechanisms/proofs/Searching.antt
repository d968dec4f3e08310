-- The search on the boards of a small table's ladders is R-7's rule on the ladders, so it finds the first cover of
-- least number, or "spent" where the rule needs more than the budget: one law for each way out (`answer-spent`,
-- `answer-cover`); there is always a cover (`some-cover`).
use mathlib.Core.Path.{◌≡◌, sym, ap, ap₂, ◌∙◌}
use mathlib.Core.Bool.{Bool, cond}
use mathlib.Core.Option
use mathlib.Core.Option.{none, some, some-injective}
use mathlib.Core.List.{List, ◌++◌, map, Memᴰ}
use Prim.Native.Nat.{ℕ, ◌+◌, ◌-◌, ◌≤◌, ◌<◌}
use native.Mathlib.Omega.{arith}
use borrow.Author.Tests.{lt-ltb, le-ltb}
use lib.ListN.{length, take, replicate, length-map, length-replicate}
use Rattle.basics.proofs.Clash.{clash}
use Rattle.table.specs.declared.Table.{Table}
use Rattle.table.specs.declared.Chain.{Chain}
use Rattle.table.specs.Pairs.{Within}
use Rattle.table.specs.Tables.{table_rows, blank_chain}
use Rattle.table.proofs.Legality.{row-table_rows}
use Rattle.lists.specs.Lists.{gauge_side, GaugeList, Precedes}
use Rattle.lists.proofs.Plain.{base_list}
use Rattle.pairs.specs.PairOrder.{holds, pairs}
use Rattle.covers.specs.Searching.{Outcome, ByRule}
use Rattle.covers.specs.Fewest.{fewest_ladders, FirstLeast}
use Rattle.covers.proofs.Searching.{from-fewest}
use Rattle.covers.proofs.Covers.{none_smaller}
use Rattle.covers.proofs.Sides.{by_gauges, least_few}
use Rattle.covers.proofs.Fewest.{all_held, fewest-ladders}
use Rattle.boards.specs.Boards.{board, corner}
use Rattle.boards.proofs.Transfer.{mapped}
use Rattle.boards.proofs.Bits.{Small}
use Rattle.boards.proofs.Boards.{Fits8, board-from, small_within}
use Rattle.boards.proofs.Packing.{corner-board}
use Rattle.cover_search.specs.Spending.{Spending, found, spend, up_to, laid, no_boards, Finds}
use Rattle.cover_search.specs.declared.Search.{Search}
use Rattle.cover_search.specs.declared.Search.TheVariants.{Cover, Nothing, Spent}
use Rattle.cover_search.proofs.Spending.{as_nothing, as_found, Tried, whole_is, spent_is}
use Rattle.cover_search.proofs.Steps.{told_spent, told_nothing, told_cover}
use Rattle.cover_search.proofs.Laying.{take-put}
use Rattle.mechanisms.specs.Covering.{Reading, covered, spent_at, covered_by, within_budget, by_rule, Searched}
use Rattle.mechanisms.specs.private.Steps.{SmallTable, shown}
use Rattle.mechanisms.proofs.Listing.{small_fits}
use Rattle.mechanisms.proofs.Chains.{chain_of, chains_back}

pub within_over : (t : Table) (b k : ℕ) (c : List (List ℕ)) (tried : ℕ) → b < tried → within_budget t b k c tried ≡ spent_at b
unfolding within_budget
within_over t b k c tried h = ap (λ (x : Bool). cond x (spent_at b) (covered_by t k tried c)) (lt-ltb b tried h)

pub within_whole : (t : Table) (b k : ℕ) (c : List (List ℕ)) (tried : ℕ) → tried ≤ b → within_budget t b k c tried ≡ covered_by t k tried c
unfolding within_budget
within_whole t b k c tried h = ap (λ (x : Bool). cond x (spent_at b) (covered_by t k tried c)) (le-ltb b tried h)

module _ (t : Table) (h : SmallTable t) (xs : List (List ℕ)) (g : GaugeList t xs) where
  fits : Fits8 t.cases (table_rows t)
  fits = small_fits t h

  rule : (k : ℕ) × (c : List (List ℕ)) × ByRule holds xs (pairs t.cases (table_rows t)) k c (fewest_ladders t.cases (table_rows t) xs)
      × FirstLeast t.cases (table_rows t) k c
  rule = fewest-ladders t.cases (table_rows t) fits.cases xs g

  abbrev k : ℕ
  k = rule.0

  abbrev c : List (List ℕ)
  c = rule.1

  first : FirstLeast t.cases (table_rows t) k c
  first = rule.3

  abbrev needed : ℕ
  needed = (by_rule t xs).tried

  few : k ≤ 8
  few = omega (arith, by_gauges (table_rows t) k first.least, fits.rows)

  -- the rule, at most up to 8, on the boards
  on_boards : up_to (map board xs) (board (table_rows t)) 0 8 ≡ mapped board (fewest_ladders t.cases (table_rows t) xs)
  on_boards =
      board-from t.cases (table_rows t) fits xs ((base_list t (gauge_side t) xs).0 g) 0 8
      ∙ ap (mapped board) (from-fewest holds Precedes xs g.ascends (pairs t.cases (table_rows t))
      (all_held t.cases (table_rows t) fits.cases xs g) 8 k c few rule.2.found)

  small_cover : (x : List ℕ) → Memᴰ x c → Small x × (length x ≤ 8)
  small_cover x m =
      let w : Within (table_rows t) x = (first.covers.maximal x m).within in
      (small_within (table_rows t) x fits.small w, omega (arith, w.size, fits.rows))

  -- ---- what the search found
  module _ (b : ℕ) (boards : List ℕ) (left : ℕ) (e : boards ≡ map board xs) (d : left ≡ board (corner t.rows)) (s : Search) (cover : List ℕ)
      (f : Finds 0 (spend b (up_to boards left 0 8)) no_boards s cover) where
    abbrev o : Outcome ℕ
    o = up_to boards left 0 8

    o_is : o ≡ mapped board (fewest_ladders t.cases (table_rows t) xs)
    o_is =
        ap₂ (λ (x : List ℕ) (y : ℕ). up_to x y 0 8) e
        (d ∙ corner-board t.rows (table_rows t) (λ i. sym (row-table_rows t h.legal i)) fits.small fits.rows)
        ∙ on_boards

    tried-is : o.tried ≡ needed
    tried-is = ap (λ (x : Outcome ℕ). x.tried) o_is

    cover-is : o.cover ≡ some (map board c)
    cover-is =
        ap (λ (x : Outcome ℕ). x.cover) o_is
        ∙ ap (λ (x : Outcome (List ℕ)). Option.map (map board) x.cover) rule.2.outcome

    searched : (r : Reading) → r ≡ within_budget t b k c needed → Searched t b xs r
    searched r q = record {
      number = k;
      cover = c;
      first = first;
      none_smaller = none_smaller (table_rows t) k first.least;
      few = least_few t h.legal k first.least;
      rule = rule.2;
      says = q;
    }

    pub answer-spent : s ≡ Spent → (r : Reading) → r ≡ spent_at b → Searched t b xs r
    answer-spent z r q =
        let l : b < o.tried = spent_is b o (told_spent 0 (spend b o) (sym z ∙ f.says)) in
        searched r (q ∙ sym (within_over t b k c needed (omega (arith, tried-is, l))))

    pub some-cover : (m : ℕ) → s ≡ Nothing m → ⊥
    some-cover m z =
        let w : Tried b o m none = whole_is b o m none (told_nothing 0 (spend b o) m (sym z ∙ f.says) ∙ sym (as_nothing m)) in
        let y : some (map board c) ≡ none = sym cover-is ∙ w.cover in
        clash cc

    module _ (rest count : ℕ) (z : s ≡ Cover rest count) where
      told : (c' : List ℕ) × (spend b o ≡ found rest c') × (count ≡ 0 + length c')
      told = told_cover 0 (spend b o) rest count (sym z ∙ f.says)

      tried : Tried b o rest (some told.0)
      tried = whole_is b o rest (some told.0) (told.1 ∙ sym (as_found rest told.0))

      boards-are : told.0 ≡ map board c
      boards-are = some-injective told.0 (map board c) (sym tried.cover ∙ cover-is)

      count-is : count ≡ k
      count-is = omega (arith, told.2, ap length boards-are, length-map c board, first.number)

      pub rest-low : rest ≤ b
      rest-low = omega (arith, tried.sum)

      pub count_low : count ≤ 8
      count_low = omega (arith, count-is, few)

      front : take count cover ≡ map board c
      front =
          ap₂ (λ (n : ℕ) (y : List ℕ). take n y) told.2 (f.cover ∙ ap (λ (x : Spending). laid 0 x no_boards) told.1)
          ∙ take-put 0 told.0 no_boards (omega (arith, told.2, count_low, length-replicate {A = ℕ} 8 0)) ∙ boards-are

      pub answer-cover : (r : Reading) → r ≡ shown t.gauges (take count cover) count (b - rest) → Searched t b xs r
      answer-cover r q = searched r (q ∙ says ∙ sym (within_whole t b k c needed (omega (arith, tried.sum, tried-is))))
        where
          needed-is : b - rest ≡ needed
          needed-is = omega (arith, tried.sum, tried-is)

          behind : 8 - count ≡ 8 - length c
          behind = omega (arith, count-is, first.number)

          says : shown t.gauges (take count cover) count (b - rest) ≡ covered_by t k needed c
          says =
              ap (λ (y : List ℕ). shown t.gauges y count (b - rest)) front
              ∙ ap₂ (λ (n m : ℕ). record {
                reply = covered;
                number = n;
                tried = m;
                cover =
                    map (chain_of t.gauges) (map board c) ++ replicate (8 - count) blank_chain;
              }) count-is needed-is
              ∙ ap₂ (λ (y : List Chain) (n : ℕ). record { reply = covered; number = k; tried = needed; cover = y ++ replicate n blank_chain })
              (chains_back t.gauges c small_cover) behind
