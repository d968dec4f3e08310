-- The table with one entry flipped: a row toggled at one place makes it (`flip_of`); it can be had for every place of a legal table
-- (`flipped_exists`), is one table (`flipped_unique`), legal again (`flipped_legal`), and flipped at the same place the old one (`flip_twice`).
use mathlib.Core.Path.{◌≡◌, refl, sym, ap, ◌∙◌, subst}
use mathlib.Core.Logic.{◌⊎◌, inl, inr, ◌↔◌}
use mathlib.Core.Bool.{Bool, true, false, not, ◌&&◌, ◌||◌, cond}
use mathlib.Core.List.{List}
use Prim.Native.Nat.{ℕ, suc, ◌-◌, ◌^◌, ◌≤◌, ◌<◌}
use native.Mathlib.Decide.{ℕ_discrete}
use native.Mathlib.Omega.{arith}
use native.Mathlib.Nat.{min-eq_left}
use lib.Dec.{T, T_not, eqb, ltb}
use lib.ListN.{set, length-set}
use lib.Seq.{get_or-set_same, get_or-set_other}
use borrow.Author.Tests.{eqb-true, ne_eqb, eq-eqb, lt-ltb, ltb-true}
use Rattle.basics.proofs.Clash.{clash}
use Rattle.sets.specs.Sets.{bit, join, lowest, ◌⊆◌}
use Rattle.sets.specs.First.{Without, With}
use Rattle.sets.proofs.Tests.{test}
use Rattle.sets.proofs.Order.{bits_sub, is_subset_lem, sub_zero}
use Rattle.sets.proofs.Masks.{below_lowest}
use Rattle.sets.proofs.OnePlace.{none_in, without_of, with_of, bit-lowest}
use Rattle.table.specs.declared.Table.{Table}
use Rattle.table.specs.Pairs.{row, Has}
use Rattle.table.specs.Tables.{Legal}
use Rattle.table.proofs.Places.{has_place, place_has, small_cases, same_pairs_rows}
use Rattle.conflicts.proofs.Searching.{has_dec}
use Rattle.trials.specs.Trials.{Flipped}
use Rattle.trials.specs.private.Steps.{Placed, Toggled}
use Rattle.trials.proofs.Comparing.{table_same}

-- ---- a row with one place the other way
toggle_and : (x y : Bool) → (y ≡ true → x ≡ true) → (x && not y) ≡ cond y (not x) x
toggle_and true true h = refl
toggle_and true false h = refl
toggle_and false true h = let e : false ≡ true = h refl in clash cc
toggle_and false false h = refl

toggle_or : (x y : Bool) → (y ≡ true → x ≡ false) → (x || y) ≡ cond y (not x) x
toggle_or true true h = let e : true ≡ false = h refl in clash cc
toggle_or true false h = refl
toggle_or false true h = refl
toggle_or false false h = refl

pub toggle_out : (a k r : ℕ) → bit a k ≡ true → Without a k r → Toggled a k r
toggle_out a k r h w = record { bits = λ i. w.bits i ∙ toggle_and (bit a i) (eqb i k) (λ d. ap (bit a) (eqb-true i k d) ∙ h) }

pub toggle_in : (a k r : ℕ) → k < 64 → bit a k ≡ false → With a k r → Toggled a k r
toggle_in a k r l h w = record { bits = λ i. (w.inside l).bits i ∙ toggle_or (bit a i) (eqb i k) (λ d. ap (bit a) (eqb-true i k d) ∙ h) }

toggled_exists : (a k : ℕ) → k < 64 → (r : ℕ) × Toggled a k r
toggled_exists a k l = go (bit a k) refl
  where
    go : (x : Bool) → bit a k ≡ x → (r : ℕ) × Toggled a k r
    go true e = (a - 2 ^ k, toggle_out a k (a - 2 ^ k) e (without_of a k e))
    go false e = (join a (2 ^ k), toggle_in a k (join a (2 ^ k)) l e (with_of a k l))

-- ---- one row toggled is one entry flipped
module _ (t : Table) (g c : ℕ) (p : Placed t g c) (x : ℕ) (e : Toggled (row t.rows (g - 1)) (c - 1) x) where
  abbrev changed : List ℕ
  changed = set t.rows (g - 1) x

  own_row : row changed (g - 1) ≡ x
  own_row = get_or-set_same t.rows (g - 1) x 0 (omega (arith, p.gauge_low, p.gauge_high, p.legal.gauges_high, p.legal.rows_length))

  bit_here : bit (row changed (g - 1)) (c - 1) ≡ not (bit (row t.rows (g - 1)) (c - 1))
  bit_here =
      let a : ℕ = row t.rows (g - 1) in
      ap (λ (y : ℕ). bit y (c - 1)) own_row ∙ e.bits (c - 1)
      ∙ ap (λ (b : Bool). cond b (not (bit a (c - 1))) (bit a (c - 1))) (eq-eqb (c - 1) (c - 1) refl)

  bit_other : (j m : ℕ) → ¬ ((j ≡ g - 1) × (m ≡ c - 1)) → bit (row changed j) m ≡ bit (row t.rows j) m
  bit_other j m ne = go (ℕ_discrete j (g - 1))
    where
      go : Dec (j ≡ g - 1) → bit (row changed j) m ≡ bit (row t.rows j) m
      go (yes d) =
          let a : ℕ = row t.rows (g - 1) in
          ap (λ (y : ℕ). bit (row changed y) m) d ∙ ap (λ (y : ℕ). bit y m) own_row ∙ e.bits m
          ∙ ap (λ (b : Bool). cond b (not (bit a m)) (bit a m)) (ne_eqb m (c - 1) (λ f. ne (d, f)))
          ∙ sym (ap (λ (y : ℕ). bit (row t.rows y) m) d)
      go (no d) = ap (λ (y : ℕ). bit y m) (get_or-set_other t.rows (g - 1) j x 0 d)

  pub flip_of : Flipped t g c (record { gauges = t.gauges; cases = t.cases; rows = changed })
  flip_of = record {
    gauges = refl;
    cases = refl;
    size = length-set t.rows (g - 1) x;
    here = (
      λ h n. T_not (bit (row t.rows (g - 1)) (c - 1)) (subst T bit_here h.set) n.set,
      λ n. record { gauge = p.gauge_low; case = p.case_low; set = subst T (sym bit_here) (absent n (test (bit (row t.rows (g - 1)) (c - 1)))) },
    );
    others = λ h d ne. (
      λ q. record { gauge = q.gauge; case = q.case; set = subst T (bit_other (h - 1) (d - 1) (apart h d ne q.gauge q.case)) q.set },
      λ q. record { gauge = q.gauge; case = q.case; set = subst T (sym (bit_other (h - 1) (d - 1) (apart h d ne q.gauge q.case))) q.set },
    );
  }
    where
      absent : ¬ Has t.rows g c → T (bit (row t.rows (g - 1)) (c - 1)) ⊎ T (not (bit (row t.rows (g - 1)) (c - 1)))
          → T (not (bit (row t.rows (g - 1)) (c - 1)))
      absent n (inl b) = absurd (n (record { gauge = p.gauge_low; case = p.case_low; set = b }))
      absent n (inr b) = b

      apart : (h d : ℕ) → ¬ ((h ≡ g) × (d ≡ c)) → 1 ≤ h → 1 ≤ d → ¬ ((h - 1 ≡ g - 1) × (d - 1 ≡ c - 1))
      apart h d ne i j f =
          let a : h - 1 ≡ g - 1 = f.0 in
          let b : d - 1 ≡ c - 1 = f.1 in
          ne (omega (arith, p.gauge_low), omega (arith, p.case_low))

pub flipped_exists : (t : Table) (g c : ℕ) → Placed t g c → (u : Table) × Flipped t g c u
flipped_exists t g c p =
    let (x, e) = toggled_exists (row t.rows (g - 1)) (c - 1) (omega (arith, p.case_low, p.case_high, p.legal.cases_high)) in
    (record { gauges = t.gauges; cases = t.cases; rows = set t.rows (g - 1) x }, flip_of t g c p x e)

-- ---- one table
-- what holds at the place flipped, and at every other, holds at all
by_places : (g c : ℕ) (P : ℕ → ℕ → Type 0) → P g c → ((h d : ℕ) → ¬ ((h ≡ g) × (d ≡ c)) → P h d) → (h d : ℕ) → P h d
by_places g c P here other h d = go (ℕ_discrete h g) (ℕ_discrete d c)
  where
    go : Dec (h ≡ g) → Dec (d ≡ c) → P h d
    go (yes a) (yes b) = rw (a, b) here
    go (yes a) (no b) = other h d (λ f. b f.1)
    go (no a) b = other h d (λ f. a f.0)

pub flipped_unique : (t : Table) (g c : ℕ) (u w : Table) → Flipped t g c u → Flipped t g c w → u ≡ w
flipped_unique t g c u w a b =
    table_same u w (a.gauges ∙ sym b.gauges) (a.cases ∙ sym b.cases)
    (same_pairs_rows u.rows w.rows (a.size ∙ sym b.size)
    (by_places g c (λ h d. Has u.rows h d ↔ Has w.rows h d)
    (λ q. b.here.1 (a.here.0 q), λ q. a.here.1 (b.here.0 q))
    (λ h d ne. (λ q. (b.others h d ne).1 ((a.others h d ne).0 q), λ q. (a.others h d ne).1 ((b.others h d ne).0 q)))))

-- "flipping twice gives the table back"
pub flip_twice : (t : Table) (g c : ℕ) (u w : Table) → Flipped t g c u → Flipped u g c w → w ≡ t
flip_twice t g c u w a b =
    table_same w t (b.gauges ∙ a.gauges) (b.cases ∙ a.cases)
    (same_pairs_rows w.rows t.rows (b.size ∙ a.size)
    (by_places g c (λ h d. Has w.rows h d ↔ Has t.rows h d)
    (λ q. back (has_dec t.rows g c) (b.here.0 q), λ q. b.here.1 (λ y. a.here.0 y q))
    (λ h d ne. (λ q. (a.others h d ne).0 ((b.others h d ne).0 q), λ q. (b.others h d ne).1 ((a.others h d ne).1 q)))))
  where
    back : Dec (Has t.rows g c) → ¬ Has u.rows g c → Has t.rows g c
    back (yes h) n = h
    back (no h) n = absurd (n (a.here.1 h))

-- ---- a legal table
module _ (t : Table) (g c : ℕ) (p : Placed t g c) (u : Table) (f : Flipped t g c u) where
  -- a pair of the new table is at the place flipped, or was there
  pair_old : (i k : ℕ) → T (bit (row u.rows i) k) → ((suc i ≡ g) × (suc k ≡ c)) ⊎ T (bit (row t.rows i) k)
  pair_old i k b = go (ℕ_discrete (suc i) g) (ℕ_discrete (suc k) c)
    where
      kept : ¬ ((suc i ≡ g) × (suc k ≡ c)) → T (bit (row t.rows i) k)
      kept ne = has_place t.rows i k ((f.others (suc i) (suc k) ne).0 (place_has u.rows i k b))

      go : Dec (suc i ≡ g) → Dec (suc k ≡ c) → ((suc i ≡ g) × (suc k ≡ c)) ⊎ T (bit (row t.rows i) k)
      go (yes x) (yes y) = inl (x, y)
      go (yes x) (no y) = inr (kept (λ z. y z.1))
      go (no x) y = inr (kept (λ z. x z.0))

  case_below : (i k : ℕ) → T (bit (row u.rows i) k) → k < t.cases
  case_below i k b = go (pair_old i k b)
    where
      go : ((suc i ≡ g) × (suc k ≡ c)) ⊎ T (bit (row t.rows i) k) → k < t.cases
      go (inl x) = omega (arith, x.1, p.case_high)
      go (inr x) = small_cases t.cases t.rows p.legal.rows_bits i k x

  row_below : (i : ℕ) → row u.rows i < 2 ^ t.cases
  row_below i =
      let l : t.cases ≤ 64 = p.legal.cases_high in
      let s : row u.rows i ⊆ lowest t.cases = bits_sub (row u.rows i) (lowest t.cases) (λ k b. subst T (sym (low k (case_below i k b))) tt) in
      ltb-true (row u.rows i) (2 ^ t.cases) (sym (below_lowest (row u.rows i) t.cases l) ∙ is_subset_lem (row u.rows i) (lowest t.cases) s)
    where
      low : (k : ℕ) → k < t.cases → bit (lowest t.cases) k ≡ true
      low k h =
          bit-lowest t.cases k ∙ ap (λ (m : ℕ). ltb k m) (min-eq_left p.legal.cases_high) ∙ lt-ltb k t.cases h

  row_empty : (i : ℕ) → t.gauges ≤ i → row u.rows i ≡ 0
  row_empty i l = sub_zero (row u.rows i) (bits_sub (row u.rows i) 0 (λ k b. absurd (none k (pair_old i k b))))
    where
      none : (k : ℕ) → ((suc i ≡ g) × (suc k ≡ c)) ⊎ T (bit (row t.rows i) k) → ⊥
      none k (inl x) = omega (arith, x.0, p.gauge_high)
      none k (inr x) = subst T (ap (λ (y : ℕ). bit y k) (p.legal.rows_rest i l) ∙ none_in k) x

  -- "the flipped table is legal"
  pub flipped_legal : Legal u
  flipped_legal = record {
    gauges_low = omega (arith, f.gauges, p.legal.gauges_low);
    gauges_high = omega (arith, f.gauges, p.legal.gauges_high);
    cases_low = omega (arith, f.cases, p.legal.cases_low);
    cases_high = omega (arith, f.cases, p.legal.cases_high);
    rows_length = f.size ∙ p.legal.rows_length;
    rows_bits = λ i. subst (λ (n : ℕ). row u.rows i < 2 ^ n) (sym f.cases) (row_below i);
    rows_rest = λ i l. row_empty i (omega (arith, f.gauges));
  }

  -- and another than the old one
  pub flipped_other : ¬ (u ≡ t)
  flipped_other e = twice (has_dec t.rows g c)
    where
      same : Has t.rows g c ↔ (¬ Has t.rows g c)
      same = subst (λ (w : Table). Has w.rows g c ↔ (¬ Has t.rows g c)) e f.here

      twice : Dec (Has t.rows g c) → ⊥
      twice (yes h) = same.0 h h
      twice (no h) = h (same.1 h)
