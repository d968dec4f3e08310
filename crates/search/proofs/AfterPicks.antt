-- What the rows of the unpicked gauges and the left cases say of a table and picks (`After`), how one pick more
-- changes them, and that the candidates among them are 01's: the lowest that a search finds is the head of the
-- table's candidates.
use mathlib.Core.Path.{◌≡◌, refl, sym, ap, ap₂, ◌∙◌, subst, fun_ext}
use mathlib.Core.Bool.{Bool, true, false, not, ◌&&◌, ◌||◌, cond}
use mathlib.Core.Option.{some}
use mathlib.Core.List.{List, [], ◌∷◌, ◌++◌, head?}
use Prim.Native.Nat.{ℕ, suc, ◌≤◌, ◌<◌, min}
use native.Mathlib.Nat.{min-eq_left}
use native.Mathlib.Decide.{ℕ_discrete, dec_lt}
use native.Mathlib.Omega.{arith}
use lib.Dec.{T, eqb, ltb, ltb→lt, lt→ltb}
use lib.ListN.{length, set}
use lib.Seq.{get_or-set_same, get_or-set_other}
use borrow.Author.Tests.{lt-ltb, le-ltb, eqb-true, eq-eqb, ne_eqb}
use Rattle.basics.proofs.Clash.{clash}
use Rattle.sets.specs.Sets.{meet, ◌⊆◌, is_subset, is_proper_subset, lowest}
use Rattle.sets.specs.Lists.{all_below}
use Rattle.sets.proofs.Tests.{and_l, and_r, and_i}
use Rattle.sets.proofs.Order.{meet_comm, is_subset_lem, subset_is, sub_refl, sub_zero, zero_sub}
use Rattle.table.specs.Pairs.{row}
use Rattle.table.proofs.Places.{row_past}
use Rattle.rules.specs.ByNumber.{above}
use Rattle.lists.specs.PickSequence.{is_in}
use Rattle.lists.specs.Picks.{common, remainder}
use Rattle.lists.specs.ByNumber.{rules_out, candidate, candidates}
use Rattle.lists.proofs.Unpicked.{is_in_snoc}
use Rattle.lists.proofs.Remainders.{remainder_left, remainder_past, common_snoc}
use Rattle.lists.proofs.Candidates.{cand-of}
use Rattle.lists.proofs.Selecting.{nil_select, head-select, above-select}
use Rattle.search.specs.Finding.{remainder_in, blocks, candidate_in, FirstOf}
use Rattle.search.proofs.SearchLoops.{candidate_more}

-- all 64 cases, which hold every row
abbrev pub full : ℕ
full = lowest 64

-- rows that a table can have: at most 64, each within the 64 cases
pub record Rows (r : List ℕ) : Type 0 where
  pub few : length r ≤ 64
  pub inside : (i : ℕ) → row r i ⊆ full

-- the rows of the unpicked gauges, and the left cases, after the picks p
pub record After (r p unpicked : List ℕ) (left : ℕ) : Type 0 where
  pub entry : (i : ℕ) → row unpicked i ≡ cond (is_in i p) 0 (row r i)
  pub remains : left ≡ common r p full

pub after_fresh : (r unpicked : List ℕ) → ((i : ℕ) → row unpicked i ≡ row r i) → After r [] unpicked full
unfolding is_in common
after_fresh r unpicked h = record { entry = h; remains = refl }

-- a place is among the picks and one more: it is that one, or was among them
pub snoc_hit : (p : List ℕ) (g i : ℕ) → i ≡ g → is_in i (p ++ (g ∷ [])) ≡ true
snoc_hit p g i e = is_in_snoc p g i ∙ ap (λ (b : Bool). is_in i p || b) (eq-eqb i g e) ∙ or-true (is_in i p)
  where
    or-true : (b : Bool) → (b || true) ≡ true
    or-true true = refl
    or-true false = refl

pub snoc_miss : (p : List ℕ) (g i : ℕ) → ¬ (i ≡ g) → is_in i (p ++ (g ∷ [])) ≡ is_in i p
snoc_miss p g i e = is_in_snoc p g i ∙ ap (λ (b : Bool). is_in i p || b) (ne_eqb i g e) ∙ or-false (is_in i p)
  where
    or-false : (b : Bool) → (b || false) ≡ b
    or-false true = refl
    or-false false = refl

none_meet : (x : ℕ) → meet 0 x ≡ 0
none_meet x = zero_sub x

module _ (r p unpicked : List ℕ) (left : ℕ) (ok : Rows r) (o : After r p unpicked left) where
  -- what is left of the row of a gauge: the gauge's remainder, or nothing where it is picked
  remains_in : (i : ℕ) → remainder_in unpicked left i ≡ cond (is_in i p) 0 (remainder r p i)
  remains_in i = ap₂ meet (o.entry i) o.remains ∙ go (is_in i p)
    where
      go : (b : Bool) → meet (cond b 0 (row r i)) (common r p full) ≡ cond b 0 (remainder r p i)
      go true = none_meet (common r p full)
      go false = sym (remainder_left r full p i (ok.inside i))

  pub remains_unpicked : (i : ℕ) → is_in i p ≡ false → remainder_in unpicked left i ≡ remainder r p i
  remains_unpicked i e = remains_in i ∙ ap (λ (b : Bool). cond b 0 (remainder r p i)) e

  -- the two tests of a place below agree
  agree : (g h : ℕ) → ¬ (remainder r p g ≡ 0) → not (blocks (remainder r p g) (remainder_in unpicked left h) (ltb h g)) ≡ not (rules_out r p g h)
  unfolding blocks rules_out is_proper_subset
  agree g h f =
      ap not (ap (λ (y : ℕ). is_subset x y && (not (eqb x y) || ltb h g)) (remains_in h) ∙ go (is_in h p) (is_subset x y) refl (eqb x y) refl (eqb y x) refl)
    where
      x : ℕ
      x = remainder r p g

      y : ℕ
      y = remainder r p h

      flip : (a b : Bool) → eqb x y ≡ a → eqb y x ≡ b → a ≡ b
      flip a b e d = sym e ∙ same (ℕ_discrete x y) ∙ d
        where
          same : Dec (x ≡ y) → eqb x y ≡ eqb y x
          same (yes s) = eq-eqb x y s ∙ sym (eq-eqb y x (sym s))
          same (no s) = ne_eqb x y s ∙ sym (ne_eqb y x (λ z. s (sym z)))

      none : is_subset x 0 ≡ false
      none = is-no (is_subset x 0) refl
        where
          is-no : (b : Bool) → is_subset x 0 ≡ b → b ≡ false
          is-no true e = absurd (f (sub_zero x (subset_is x 0 e)))
          is-no false e = refl

      bools : (s a b l : Bool) → a ≡ b → (b ≡ true → s ≡ true) → (s && (not a || l)) ≡ ((s && not a) || (l && b))
      bools true true true true q k = refl
      bools true true true false q k = refl
      bools true true false l q k = clash cc
      bools true false true l q k = clash cc
      bools true false false true q k = refl
      bools true false false false q k = refl
      bools false a true l q k = let e : false ≡ true = k refl in clash cc
      bools false a false true q k = refl
      bools false a false false q k = refl

      go : (c s : Bool) → is_subset x y ≡ s → (a : Bool) → eqb x y ≡ a → (b : Bool) → eqb y x ≡ b
          → (is_subset x (cond c 0 y) && (not (eqb x (cond c 0 y)) || ltb h g)) ≡ (not c && ((is_subset x y && not (eqb x y)) || (ltb h g && eqb y x)))
      go true s es a ea b eb = ap (λ (t : Bool). t && (not (eqb x 0) || ltb h g)) none
      go false s es a ea b eb =
          bools (is_subset x y) (eqb x y) (eqb y x) (ltb h g) (ea ∙ flip a b ea eb ∙ sym eb) (λ e. is_subset_lem x y (subst (λ (z : ℕ). x ⊆ z) (eqb-eq e) (self x)))
        where
          eqb-eq : eqb y x ≡ true → x ≡ y
          eqb-eq e = sym (eqb-true y x e)

          self : (z : ℕ) → z ⊆ z
          self z = sub_refl z

  -- 01's candidates
  candidate_in_lem : (g : ℕ) → candidate_in unpicked left (length r) g ≡ candidate r p g
  unfolding candidate_in candidate
  candidate_in_lem g = go (is_in g p) refl (dec_lt g (length r))
    where
      n : ℕ
      n = length r

      and-false : (a : Bool) → (a && false) ≡ false
      and-false true = refl
      and-false false = refl

      empty : remainder_in unpicked left g ≡ 0
          → (ltb g (min n 64) && (not (eqb (remainder_in unpicked left g) 0) && all_below
          (λ h. not (blocks (remainder_in unpicked left g) (remainder_in unpicked left h) (ltb h g))) (min n 64))) ≡ false
      empty e =
          ap (λ (b : Bool). ltb g (min n 64) && (not b && all_below (λ h. not (blocks (remainder_in unpicked left g) (remainder_in unpicked left h) (ltb h g)))
          (min n 64))) (eq-eqb (remainder_in unpicked left g) 0 e) ∙ and-false (ltb g (min n 64))

      Goal : Type 0
      Goal =
          (ltb g (min n 64) && (not (eqb (remainder_in unpicked left g) 0) && all_below
          (λ h. not (blocks (remainder_in unpicked left g) (remainder_in unpicked left h) (ltb h g))) (min n 64)))
          ≡ (ltb g n && (not (is_in g p) && (not (eqb (remainder r p g) 0) && all_below (λ h. not (rules_out r p g h)) n)))

      inside : is_in g p ≡ false → g < n → Dec (remainder r p g ≡ 0) → Goal
      inside e l (yes z) =
          empty (remains_unpicked g e ∙ z)
          ∙ sym (ap (λ (b : Bool). ltb g n && (not (is_in g p) && (not b && all_below (λ h. not (rules_out r p g h)) n))) (eq-eqb (remainder r p g) 0 z)
          ∙ ap (λ (b : Bool). ltb g n && b) (and-false (not (is_in g p))) ∙ and-false (ltb g n))
      inside e l (no z) =
          rw (min-eq_left ok.few, lt-ltb g n l, e, remains_unpicked g e)
          (ap (λ (b : Bool). not (eqb (remainder r p g) 0) && b) (ap (λ (f : ℕ → Bool). all_below f n) (fun_ext (λ h. agree g h z))))

      go : (b : Bool) → is_in g p ≡ b → Dec (g < n) → Goal
      go true e d =
          empty (remains_in g ∙ ap (λ (b : Bool). cond b 0 (remainder r p g)) e)
          ∙ sym (ap (λ (b : Bool). ltb g n && (not b && (not (eqb (remainder r p g) 0) && all_below (λ h. not (rules_out r p g h)) n))) e ∙ and-false (ltb g n))
      go false e (yes l) = inside e l (ℕ_discrete (remainder r p g) 0)
      go false e (no l) =
          empty (remains_unpicked g e ∙ remainder_past r p g (omega arith))
          ∙ sym (ap (λ (b : Bool). b && (not (is_in g p) && (not (eqb (remainder r p g) 0) && all_below (λ h. not (rules_out r p g h)) n)))
          (le-ltb g n (omega arith)))

  -- the same where all 64 places are looked at: nothing is past the table's
  pub candidate_wide : (g : ℕ) → candidate_in unpicked left 64 g ≡ candidate r p g
  candidate_wide g = candidate_more unpicked left (length r) g ok.few past ∙ candidate_in_lem g
    where
      none : (i : ℕ) (b : Bool) → length r ≤ i → cond b 0 (row r i) ≡ 0
      none i true l = refl
      none i false l = row_past r i l

      past : (i : ℕ) → length r ≤ i → row unpicked i ≡ 0
      past i l = o.entry i ∙ none i (is_in i p) l

  -- ---- the search
  module _ (from g : ℕ) (s : FirstOf (candidate_in unpicked left 64) from 64 g) where
    low : (i : ℕ) → from ≤ i → i < g → T (candidate r p i) → ⊥
    low i a b t = subst T (sym (candidate_wide i) ∙ s.least i a b) t

    pub found-candidate : g < 64 → T (candidate r p g)
    found-candidate h = subst T (candidate_wide g) (rw (s.found h).1 tt)

    pub found_below : g < 64 → g < length r
    found_below h = (cand-of r p g (found-candidate h)).below

    from_low : g < 64 → from ≤ g
    from_low h = (s.found h).0

    -- none is found: 64 places were looked at
    end_low : (g < 64 → ⊥) → (i : ℕ) → i < length r → i < g
    end_low h i l = go (dec_lt g 64)
      where
        go : Dec (g < 64) → i < g
        go (yes y) = absurd (h y)
        go (no y) = omega (arith, ok.few)

    -- from the first place on: the lowest candidate, or none
    pub lowest-found : from ≡ 0 → g < 64 → head? (candidates r p) ≡ some g
    unfolding candidates
    lowest-found z h = head-select (candidate r p) (length r) g (found_below h) (found-candidate h) (λ i b. low i (omega arith) b)

    pub lowest-none : from ≡ 0 → (g < 64 → ⊥) → candidates r p ≡ []
    unfolding candidates
    lowest-none z h = nil_select (candidate r p) (length r) (λ i b. low i (omega arith) (end_low h i b))

    -- from behind the place b on: the lowest candidate above b, or none
    above_low : (b : ℕ) → from ≡ suc b → (i : ℕ) → i < g → T (ltb b i && candidate r p i) → ⊥
    above_low b z i l t = low i (omega (arith, ltb→lt b i (and_l (ltb b i) (candidate r p i) t))) l (and_r (ltb b i) (candidate r p i) t)

    pub above-found : (b : ℕ) → from ≡ suc b → g < 64 → head? (above b (candidates r p)) ≡ some g
    unfolding candidates
    above-found b z h =
        ap head? (above-select b (candidate r p) (length r))
        ∙ head-select (λ i. ltb b i && candidate r p i) (length r) g (found_below h)
        (and_i (ltb b g) (candidate r p g) (lt→ltb b g (omega (arith, from_low h))) (found-candidate h)) (λ i l. above_low b z i l)

    pub above-none : (b : ℕ) → from ≡ suc b → (g < 64 → ⊥) → above b (candidates r p) ≡ []
    unfolding candidates
    above-none b z h =
        above-select b (candidate r p) (length r)
        ∙ nil_select (λ i. ltb b i && candidate r p i) (length r) (λ i l. above_low b z i (end_low h i l))

-- ---- one pick more, and one fewer
module _ (r p unpicked : List ℕ) (left g : ℕ) (new : is_in g p ≡ false) (l : g < length unpicked) where
  pub after_pick : After r p unpicked left → After r (p ++ (g ∷ [])) (set unpicked g 0) (meet (row unpicked g) left)
  after_pick o = record {
    entry = λ i. go i (ℕ_discrete i g);
    remains =
        ap₂ meet (o.entry g ∙ ap (λ (b : Bool). cond b 0 (row r g)) new) o.remains ∙ meet_comm (row r g) (common r p full) ∙ sym (common_snoc r p g full);
  }
    where
      go : (i : ℕ) → Dec (i ≡ g) → row (set unpicked g 0) i ≡ cond (is_in i (p ++ (g ∷ []))) 0 (row r i)
      go i (yes e) =
          ap (λ (j : ℕ). row (set unpicked g 0) j) e ∙ get_or-set_same unpicked g 0 0 l ∙ sym (ap (λ (b : Bool). cond b 0 (row r i)) (snoc_hit p g i e))
      go i (no e) = get_or-set_other unpicked g i 0 0 e ∙ o.entry i ∙ sym (ap (λ (b : Bool). cond b 0 (row r i)) (snoc_miss p g i e))

  pub after_unpick : After r (p ++ (g ∷ [])) unpicked left → After r p (set unpicked g (row r g)) (common r p full)
  after_unpick o = record { entry = λ i. go i (ℕ_discrete i g); remains = refl }
    where
      go : (i : ℕ) → Dec (i ≡ g) → row (set unpicked g (row r g)) i ≡ cond (is_in i p) 0 (row r i)
      go i (yes e) =
          ap (λ (j : ℕ). row (set unpicked g (row r g)) j) e ∙ get_or-set_same unpicked g (row r g) 0 l ∙ ap (row r) (sym e)
          ∙ sym (ap (λ (b : Bool). cond b 0 (row r i)) (ap (λ (j : ℕ). is_in j p) e ∙ new))
      go i (no e) = get_or-set_other unpicked g i (row r g) 0 e ∙ o.entry i ∙ ap (λ (b : Bool). cond b 0 (row r i)) (snoc_miss p g i e)
