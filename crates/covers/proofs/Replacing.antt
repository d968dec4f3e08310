-- R-8: where one gauge's row changes, or one case's column, the least number moves by at most 1 (`one_gauge`, `one_case`; `one_replaced` for any two
-- tables), and 1 is reached either way (`one_reached`). What the definitions say to a reader: Sentences.antt. From a cover of the one table, take that row
-- out of each chain and add the new row as a chain of its own; a case by exchanging sides.
use mathlib.Core.Path.{◌≡◌, refl, sym, ap, ◌∙◌, subst}
use mathlib.Core.Logic.{◌⊎◌, inl, inr}
use mathlib.Core.List.Memᴰ
use mathlib.Core.List.{List, [], ◌∷◌, map, Memᴰ}
use Prim.Native.Nat.{ℕ, zero, suc, ◌+◌, ◌-◌, ◌≤◌}
use native.Mathlib.Decide.{ℕ_discrete}
use native.Mathlib.Omega.{arith}
use lib.Dec.{T}
use lib.ListN.{length-map}
use Rattle.sets.specs.Sets.{bit}
use Rattle.sets.proofs.Digits.{bit-suc}
use Rattle.sets.proofs.OnePlace.{none_in}
use Rattle.table.specs.declared.Table.{Table}
use Rattle.table.specs.Pairs.{row, Has, Cases}
use Rattle.table.specs.Tables.{Legal, table_rows, table_refusal, rows_fit, padded}
use Rattle.table.proofs.Places.{has_place, place_has, by_place_lem}
use Rattle.table.proofs.Legality.{legal_of, legal_cases}
use Rattle.transpose.specs.Transposing.{transpose}
use Rattle.transpose.proofs.Transposition.{length-transpose, has_transpose}
use Rattle.covers.specs.Covers.{ChainOf, ChainCover, LeastNumber}
use Rattle.covers.specs.Replacing.{OneGauge, OneCase, Replaced, AtMostOne, MovesAtMostOne, ReplacingClaim}
use Rattle.covers.proofs.Rows.{only, only_same, without, length-without, without_same, without_other, without_chain}
use Rattle.covers.proofs.Covers.{only_of, cover_chains, none_smaller}
use Rattle.covers.proofs.Sides.{least_transpose}
use Rattle.covers.proofs.Samples.{least_both, least_one}

-- ---- one gauge
gauge_back : (g : ℕ) (r r' : List ℕ) → OneGauge g r r' → OneGauge g r' r
gauge_back g r r' d = record { shape = sym d.shape; others = λ h c n. ((d.others h c n).1, (d.others h c n).0) }

module _ (g : ℕ) (r r' : List ℕ) (d : OneGauge g r r') where
  abbrev i : ℕ
  i = g - 1

  -- the chain x of r, without that gauge
  abbrev cleared : List ℕ → List ℕ
  cleared x = without x (g - 1)

  cleared_of : (x : List ℕ) → ChainOf r x → ChainOf r' (cleared x)
  cleared_of x h = record {
    within = record {
      size = length-without x i ∙ h.within.size ∙ sym d.shape;
      inside = by_place_lem (without x i) (Has r') (λ j k t. at j k t (ℕ_discrete j i));
    };
    chain = without_chain x i h.chain;
  }
    where
      at : (j k : ℕ) → T (bit (row (without x i) j) k) → Dec (j ≡ i) → Has r' (suc j) (suc k)
      at j k t (yes e) = absurd (subst T (none_in k) (subst (λ (a : ℕ). T (bit a k)) (without_same x i j e) t))
      at j k t (no e) =
          (d.others (suc j) (suc k) (λ q. e (omega (arith, q)))).0
          (h.within.inside (suc j) (suc k) (place_has x j k (subst (λ (a : ℕ). T (bit a k)) (without_other x i j e) t)))

  replaced : (xs : List (List ℕ)) → ChainCover r xs → ChainCover r' (only r' i ∷ map cleared xs)
  replaced xs h = record {
    chains = λ x m. each x (Memᴰ.cases_cons m);
    together = by_place_lem r' Held (λ j k t. at j k t (ℕ_discrete j i));
  }
    where
      Held : ℕ → ℕ → Type 0
      Held c e = (x : List ℕ) × Memᴰ x (only r' i ∷ map cleared xs) × Has x c e

      each : (x : List ℕ) → (x ≡ only r' i) ⊎ Memᴰ x (map cleared xs) → ChainOf r' x
      each x (inl e) = subst (ChainOf r') (sym e) (only_of r' i)
      each x (inr m) = let k = Memᴰ.of_map cleared xs m in subst (ChainOf r') k.2 (cleared_of k.0 (h.chains k.0 k.1))

      at : (j k : ℕ) → T (bit (row r' j) k) → Dec (j ≡ i) → Held (suc j) (suc k)
      at j k t (yes e) = (only r' i, Memᴰ.head refl, place_has (only r' i) j k (subst (λ (a : ℕ). T (bit a k)) (sym (only_same r' i j e)) t))
      at j k t (no e) =
          let (x, m, q) = h.together (suc j) (suc k) ((d.others (suc j) (suc k) (λ q. e (omega (arith, q)))).1 (place_has r' j k t)) in (
            cleared x,
            Memᴰ.tail (Memᴰ.map cleared m),
            place_has (without x i) j k (subst (λ (a : ℕ). T (bit a k)) (sym (without_other x i j e)) (has_place x j k q)),
          )

  one_more_lem : (k j : ℕ) → LeastNumber r k → LeastNumber r' j → j ≤ k + 1
  one_more_lem k j a b =
      omega (
        arith,
        none_smaller r' j b (only r' i ∷ map cleared a.cover) (replaced a.cover (cover_chains r a.cover a.covers)),
        length-map a.cover cleared,
        a.number,
      )

one_gauge : (g : ℕ) (r r' : List ℕ) → OneGauge g r r' → (k j : ℕ) → LeastNumber r k → LeastNumber r' j → AtMostOne k j
one_gauge g r r' d k j a b = record { more = omega (arith, one_more_lem g r r' d k j a b); fewer = omega (arith, one_more_lem g r' r (gauge_back g r r' d) j k b a) }

-- ---- one case
module _ (w c : ℕ) (r r' : List ℕ) (h : Cases w r) (h' : Cases w r') where
  case_gauge : OneCase c r r' → OneGauge c (transpose w r) (transpose w r')
  case_gauge d = record {
    shape = length-transpose w r' ∙ sym (length-transpose w r);
    others = λ e g n. (
      λ p. (has_transpose w r' h' g e).0 ((d.others g e n).0 ((has_transpose w r h g e).1 p)),
      λ p. (has_transpose w r h g e).0 ((d.others g e n).1 ((has_transpose w r' h' g e).1 p)),
    );
  }

  one_case : OneCase c r r' → (k j : ℕ) → LeastNumber r k → LeastNumber r' j → AtMostOne k j
  one_case d k j a b = one_gauge c (transpose w r) (transpose w r') (case_gauge d) k j (least_transpose w r h k a) (least_transpose w r' h' j b)

-- ---- two tables
tables_replaced : (t u : Table) → Legal t → Legal u → Replaced t u → MovesAtMostOne t u
tables_replaced t u l m d k j a b = go d.one
  where
    go : ((g : ℕ) × OneGauge g (table_rows t) (table_rows u)) ⊎ ((c : ℕ) × OneCase c (table_rows t) (table_rows u)) → AtMostOne k j
    go (inl e) = one_gauge e.0 (table_rows t) (table_rows u) e.1 k j a b
    go (inr e) =
        one_case t.cases e.0 (table_rows t) (table_rows u) (legal_cases t l)
        (subst (λ (w : ℕ). Cases w (table_rows u)) d.cases (legal_cases u m)) e.1 k j a b

pub one_replaced : ReplacingClaim
one_replaced = record { differs = tables_replaced }

-- ---- 1 is reached
-- K1 of 01, and K1 with its second gauge loose, which loses the pair 2:2: so they differ in one gauge's row, and in one case's column
abbrev pub both : Table
both = record { gauges = 2; cases = 2; rows = padded (1 ∷ 2 ∷ []) }

abbrev pub loose : Table
loose = record { gauges = 2; cases = 2; rows = padded (1 ∷ 0 ∷ []) }

-- the second row has at most the second case
only_second : (a : ℕ) → (a ≡ 2) ⊎ (a ≡ 0) → (k : ℕ) → T (bit a k) → k ≡ 1
unfolding bit
only_second a (inl e) zero t = absurd (rw e at t)
only_second a (inl e) (suc zero) t = refl
only_second a (inl e) (suc (suc k)) t = absurd (subst T (bit-suc 2 (suc k) ∙ bit-suc 1 k ∙ none_in k) (subst (λ (x : ℕ). T (bit x (suc (suc k)))) e t))
only_second a (inr e) k t = absurd (subst T (none_in k) (subst (λ (x : ℕ). T (bit x k)) e t))

-- a pair of another gauge than the second, or of another case than the second, is in both
kept : (a b : ℕ) → (a ≡ 2) ⊎ (a ≡ 0) → (h c : ℕ) → ¬ (h ≡ 2) ⊎ ¬ (c ≡ 2) → Has (1 ∷ a ∷ []) h c → Has (1 ∷ b ∷ []) h c
kept a b e h c n p = by_place_lem (1 ∷ a ∷ []) (λ g d. ¬ (g ≡ 2) ⊎ ¬ (d ≡ 2) → Has (1 ∷ b ∷ []) g d) at h c p n
  where
    at : (i k : ℕ) → T (bit (row (1 ∷ a ∷ []) i) k) → ¬ (suc i ≡ 2) ⊎ ¬ (suc k ≡ 2) → Has (1 ∷ b ∷ []) (suc i) (suc k)
    at zero k t m = place_has (1 ∷ b ∷ []) 0 k t
    at (suc zero) k t (inl m) = absurd (m refl)
    at (suc zero) k t (inr m) = absurd (m (ap suc (only_second a e k t)))
    at (suc (suc i)) k t m = place_has (1 ∷ b ∷ []) (suc (suc i)) k t

by_gauge : OneGauge 2 (table_rows loose) (table_rows both)
by_gauge = record { shape = refl; others = λ h c n. (kept 0 2 (inr refl) h c (inl n), kept 2 0 (inl refl) h c (inl n)) }

by_case : OneCase 2 (table_rows loose) (table_rows both)
by_case = record { shape = refl; others = λ h c n. (kept 0 2 (inr refl) h c (inr n), kept 2 0 (inl refl) h c (inr n)) }

-- two tables within the claim, which differ in one gauge's row only, and in one case's column only; the one needs one ladder and the other two
pub record Reached (t u : Table) : Type 0 where
  pub legal : Legal t × Legal u
  pub replaced : Replaced t u
  pub by_gauge_is : (g : ℕ) × OneGauge g (table_rows t) (table_rows u)
  pub by_case_is : (c : ℕ) × OneCase c (table_rows t) (table_rows u)
  pub numbers : LeastNumber (table_rows t) 1 × LeastNumber (table_rows u) 2

pub one_reached : Reached loose both
unfolding table_refusal rows_fit
one_reached = record {
  legal = (legal_of loose refl refl, legal_of both refl refl);
  replaced = record { gauges = refl; cases = refl; one = inl (2, by_gauge) };
  by_gauge_is = (2, by_gauge);
  by_case_is = (2, by_case);
  numbers = (least_one, least_both);
}
