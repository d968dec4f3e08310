-- The turns of extending, on a table whose rows are r and a chain whose rows are s: the picks made so far are a front of `grow` of crate
-- `lists`, whose chain is the first maximal one that contains s, and what the loop holds is what these picks leave (`Picked`). A turn picks what
-- `grow` picks next (`picked_next`); where nothing fits, or no turn is left, the picks are all of `grow` (`picked-end`, `picked_all`).
use mathlib.Core.Path.{◌≡◌, refl, sym, ap, ap₂, ◌∙◌, subst, subst₂, fun_ext}
use mathlib.Core.Bool.{Bool, true, false, ◌&&◌, ◌||◌, cond}
use mathlib.Core.List.{List, [], ◌∷◌, ◌++◌, head?, append-nil}
use Prim.Native.Nat.{ℕ, suc, ◌+◌, ◌-◌, ◌≤◌, ◌<◌}
use native.Mathlib.Decide.{ℕ_discrete}
use native.Mathlib.Omega.{arith}
use lib.Dec.{T}
use lib.Bits.{bit_and}
use lib.ListN.{length, set, length-set, replicate}
use lib.Seq.{append_snoc, get_or-set_same, get_or-set_other}
use Rattle.table.specs.Tables.{padded}
use Rattle.sets.specs.Sets.{meet, is_subset, lowest}
use Rattle.sets.specs.First.{Without}
use Rattle.sets.specs.Lists.{all_below}
use Rattle.sets.proofs.Tests.{and_l, is_false}
use Rattle.sets.proofs.Order.{is_subset_lem, zero_sub}
use Rattle.table.specs.Pairs.{row}
use Rattle.table.specs.Unions.{union_of}
use Rattle.table.proofs.Unions.{union_first, union_subset}
use Rattle.lists.specs.PickSequence.{is_in}
use Rattle.lists.specs.Picks.{remainder, select}
use Rattle.lists.specs.ByNumber.{candidate}
use Rattle.lists.specs.OnTable.{chain_of}
use Rattle.lists.proofs.Selecting.{head-select, nil_select}
use Rattle.lists.proofs.Remainders.{remainder_left}
use Rattle.lists.proofs.Candidates.{cand-of}
use Rattle.lists.proofs.ChainRows.{length-chain_of, chain_of_snoc}
use Rattle.lists.proofs.Growing.{covers, fitting, grow_from, grow, grow_end, grow_more}
use Rattle.search.specs.Finding.{remainder_in, FirstOf, within}
use Rattle.table.proofs.Padding.{pad_set}
use Rattle.search.proofs.ChainArrays.{chain_none}
use Rattle.search.proofs.Within.{length-within, within-lowest, within_without}
use Rattle.search.proofs.AfterPicks.{full, Rows, After, after_fresh, snoc_hit, snoc_miss, candidate_wide, after_pick}
use Rattle.extend.specs.private.PickSteps.{fits_in}

-- ---- what the arrays hold after some turns: `outer` has the table's rows, and `unpicked` the places of the gauges that are not picked
pub record Picked (r s : List ℕ) (n : ℕ) (outer : List ℕ) (unpicked : ℕ) (owed : List ℕ) (left : ℕ) (rows : List ℕ) (turns : ℕ) : Type 0 where
  pub table : Rows r
  pub count : length r ≡ n
  pub same : (i : ℕ) → row outer i ≡ row r i
  pub picks : List ℕ
  pub after : After r picks (within unpicked outer) left
  pub owes : (i : ℕ) → row owed i ≡ cond (is_in i picks) 0 (row s i)
  pub built : rows ≡ padded (chain_of r picks)
  pub size_owed : length owed ≡ 64
  pub front : picks ++ grow_from r s picks (n - turns) ≡ grow r s

pub picked_start : (r s outer owed : List ℕ) (n unpicked left : ℕ) → Rows r → length r ≡ n → length owed ≡ 64
    → ((i : ℕ) → row outer i ≡ row r i) → ((i : ℕ) → row owed i ≡ row s i) → unpicked ≡ lowest n → left ≡ full
    → Picked r s n outer unpicked owed left (replicate 64 0) 0
unfolding grow is_in
picked_start r s outer owed n unpicked left ok c zo h ho u e = record {
  table = ok;
  count = c;
  same = h;
  picks = [];
  after =
      subst₂ (λ (x y : ℕ). After r [] (within x outer) y) (sym u) (sym e)
      (after_fresh r (within (lowest n) outer) (within-lowest r outer n (omega (arith, ok.few)) c h));
  owes = ho;
  built = chain_none r ok.few;
  size_owed = zo;
  front = ap (grow_from r s []) (omega arith);
}

module _ (r s : List ℕ) (n : ℕ) (outer : List ℕ) (unpicked : ℕ) (owed : List ℕ) (left : ℕ) (rows : List ℕ) (turns : ℕ)
    (k : Picked r s n outer unpicked owed left rows turns) where
  abbrev p : List ℕ
  p = k.picks

  -- the union of what is owed is included where every row of s that is not picked is
  owed_subset : (z : ℕ) → is_subset (union_of owed 0 n) z ≡ all_below (λ i. is_in i p || is_subset (row s i) z) n
  owed_subset z =
      ap (λ (x : ℕ). is_subset x z) (union_first owed n (omega (arith, k.count, k.table.few))) ∙ union_subset owed n z
      ∙ ap (λ (f : ℕ → Bool). all_below f n) (fun_ext (λ i. ap (λ (x : ℕ). is_subset x z) (k.owes i) ∙ go (is_in i p) i))
    where
      go : (b : Bool) (i : ℕ) → is_subset (cond b 0 (row s i)) z ≡ (b || is_subset (row s i) z)
      go true i = is_subset_lem 0 z (zero_sub z)
      go false i = refl

  own : (g : ℕ) → meet (row outer g) left ≡ remainder r p g
  own g = ap₂ meet (k.same g) k.after.remains ∙ sym (remainder_left r full p g (k.table.inside g))

  fits_is : (g : ℕ) → fits_in outer unpicked left (union_of owed 0 n) g ≡ fitting r s p g
  unfolding fits_in fitting covers
  fits_is g =
      ap₂ (λ (a b : Bool). a && b) (candidate_wide r p (within unpicked outer) left k.table k.after g)
      (owed_subset (remainder_in outer left g) ∙ ap₂ (λ (z m : ℕ). all_below (λ i. is_in i p || is_subset (row s i) z) m) (own g) (sym k.count))

  -- no turn is left
  pub picked_all : n ≤ turns → rows ≡ padded (chain_of r (grow r s))
  unfolding grow_from
  picked_all e =
      k.built
      ∙ ap (λ (q : List ℕ). padded (chain_of r q)) (sym (append-nil p) ∙ ap (λ (m : ℕ). p ++ grow_from r s p m) none ∙ k.front)
    where
      none : 0 ≡ n - turns
      none = omega arith

  module _ (u g : ℕ) (e : u ≡ union_of owed 0 n) (f : FirstOf (fits_in outer unpicked left u) 0 n g) (more : turns < n) where
    at : (i : ℕ) → fits_in outer unpicked left u i ≡ fitting r s p i
    at i = ap (λ (x : ℕ). fits_in outer unpicked left x i) e ∙ fits_is i

    low : (i : ℕ) → i < g → T (fitting r s p i) → ⊥
    low i h t = subst T (sym (at i) ∙ f.least i (omega arith) h) t

    turn : n - turns ≡ suc (n - (turns + 1))
    turn = omega arith

    -- nothing fits
    pub picked-end : n ≤ g → rows ≡ padded (chain_of r (grow r s))
    picked-end h =
        k.built
        ∙ ap (λ (q : List ℕ). padded (chain_of r q)) (sym (append-nil p) ∙ ap (λ (q : List ℕ). p ++ q) (sym stop) ∙ k.front)
      where
        nothing : select (fitting r s p) (length r) ≡ []
        nothing = nil_select (fitting r s p) (length r) (λ i b. low i (omega (arith, k.count)))

        stop : grow_from r s p (n - turns) ≡ []
        stop = ap (grow_from r s p) turn ∙ grow_end r s p (n - (turns + 1)) (ap head? nothing)

    -- g is picked
    module _ (h : g < n) (rest : ℕ) (w : Without unpicked g rest) where
      fit : T (fitting r s p g)
      fit = subst T (at g) (rw (f.found h).1 tt)

      new : is_in g p ≡ false
      unfolding fitting
      new = is_false (is_in g p) (cand-of r p g (and_l (candidate r p g) (covers r s p g) fit)).fresh

      few : g < 64
      few = omega (arith, k.count, k.table.few)

      own_row : row (within unpicked outer) g ≡ row outer g
      own_row = k.after.entry g ∙ ap (λ (b : Bool). cond b 0 (row r g)) new ∙ sym (k.same g)

      pub picked_next : Picked r s n outer rest (set owed g 0) (bit_and (row outer g) left) (set rows g (bit_and (row outer g) left)) (turns + 1)
      unfolding meet
      picked_next = record {
        table = k.table;
        count = k.count;
        same = k.same;
        picks = p ++ (g ∷ []);
        after =
            subst₂ (After r (p ++ (g ∷ []))) (sym (within_without unpicked g rest outer few w)) (ap (λ (x : ℕ). meet x left) own_row)
            (after_pick r p (within unpicked outer) left g new (omega (arith, few, length-within unpicked outer)) k.after);
        owes = λ i. owe i (ℕ_discrete i g);
        built = build;
        size_owed = length-set owed g 0 ∙ k.size_owed;
        front = append_snoc p g (grow_from r s (p ++ (g ∷ [])) (n - (turns + 1))) ∙ ap (λ (q : List ℕ). p ++ q) (sym grown) ∙ k.front;
      }
        where
          grown : grow_from r s p (n - turns) ≡ g ∷ grow_from r s (p ++ (g ∷ [])) (n - (turns + 1))
          grown =
              ap (grow_from r s p) turn
              ∙ grow_more r s p (n - (turns + 1)) g (head-select (fitting r s p) (length r) g (omega (arith, k.count)) fit low)

          owe : (i : ℕ) → Dec (i ≡ g) → row (set owed g 0) i ≡ cond (is_in i (p ++ (g ∷ []))) 0 (row s i)
          owe i (yes d) =
              ap (row (set owed g 0)) d ∙ get_or-set_same owed g 0 0 (omega (arith, k.size_owed, few))
              ∙ sym (ap (λ (b : Bool). cond b 0 (row s i)) (snoc_hit p g i d))
          owe i (no d) = get_or-set_other owed g i 0 0 d ∙ k.owes i ∙ sym (ap (λ (b : Bool). cond b 0 (row s i)) (snoc_miss p g i d))

          build : set rows g (bit_and (row outer g) left) ≡ padded (chain_of r (p ++ (g ∷ [])))
          build =
              ap₂ (λ (x : List ℕ) (v : ℕ). set x g v) k.built (own g)
              ∙ pad_set (chain_of r p) g (remainder r p g) (omega (arith, length-chain_of r p, k.count))
              ∙ ap padded (sym (chain_of_snoc r p g (rw new tt) (omega (arith, k.count))))
