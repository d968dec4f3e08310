-- The two sides exchanged, as sets of pairs. In order: a column, bit by bit; transposing, bit by bit and twice; the pairs of a transposed
-- set (`has_transpose`); chains and maximal chains, which transposing keeps. The way of the code is in Turning.antt, the square of 64 by
-- 64 that it computes, cut to the shape of a table, in Sides.antt.
use mathlib.Core.Path.{◌≡◌, refl, sym, ap, ◌∙◌, subst}
use mathlib.Core.Logic.{◌⊎◌, inl, inr, ◌↔◌}
use mathlib.Core.List.{List, [], ◌∷◌}
use Prim.Native.Nat.{ℕ, zero, suc, ◌+◌, ◌*◌, ◌/◌, ◌%◌, ◌^◌, ◌<◌}
use native.Mathlib.Nat.{pow-suc}
use native.Mathlib.Decide.{dec_lt}
use native.Mathlib.Omega.{arith}
use lib.Dec.{T, not_T, eqb}
use lib.Arith.{digits_div, digits_mod}
use lib.ListN.{length}
use lib.Seq.{ext_get_or}
use Rattle.sets.specs.Sets.{bit}
use Rattle.sets.proofs.Tests.{is_false}
use Rattle.sets.proofs.Digits.{bit_zero, bit-suc, lt2}
use Rattle.sets.proofs.Order.{eq_of_bits}
use Rattle.sets.proofs.Tabulated.{length-tabulate, get_or-tabulate}
use Rattle.table.specs.Pairs.{row, Has, Within, Cases}
use Rattle.table.specs.Chains.{IsChain, IsMaximal}
use Rattle.transpose.specs.Transposing.{column, transpose}
use Rattle.table.proofs.Places.{has_place, place_has, by_place_lem, row_past, CrossPlaces, chain_places, places_chain}
use Rattle.sets.proofs.OnePlace.{none_in}

no_case : (k : ℕ) → T (bit 0 k) → ⊥
no_case k t = subst T (none_in k) t

pub bit-column : (rows : List ℕ) (k i : ℕ) → bit (column rows k) i ≡ bit (row rows i) k
unfolding column bit
bit-column [] k i = none_in i ∙ sym (none_in k)
bit-column (r ∷ rows) k zero =
    bit_zero (column rows k * 2 + r / 2 ^ k % 2) ∙ ap (λ (x : ℕ). eqb x 1) (digits_mod (column rows k) (lt2 (r / 2 ^ k)))
bit-column (r ∷ rows) k (suc i) =
    bit-suc (column rows k * 2 + r / 2 ^ k % 2) i ∙ ap (λ (x : ℕ). bit x i) (digits_div (column rows k) (lt2 (r / 2 ^ k))) ∙ bit-column rows k i

pub column_lt : (rows : List ℕ) (k : ℕ) → column rows k < 2 ^ length rows
unfolding column
column_lt [] k = omega arith
column_lt (r ∷ rows) k = omega (arith, column_lt rows k, lt2 (r / 2 ^ k), pow-suc 2 (length rows))

pub length-transpose : (w : ℕ) (rows : List ℕ) → length (transpose w rows) ≡ w
unfolding transpose
length-transpose w rows = length-tabulate (column rows) w

bit-transpose : (w : ℕ) (rows : List ℕ) → Cases w rows → (i k : ℕ) → bit (row (transpose w rows) k) i ≡ bit (row rows i) k
unfolding transpose
bit-transpose w rows h i k = go (dec_lt k w)
  where
    go : Dec (k < w) → bit (row (transpose w rows) k) i ≡ bit (row rows i) k
    go (yes l) = ap (λ (x : ℕ). bit x i) (get_or-tabulate (column rows) w k l) ∙ bit-column rows k i
    go (no l) =
        ap (λ (x : ℕ). bit x i) (row_past (transpose w rows) k (omega (arith, length-transpose w rows))) ∙ none_in i
        ∙ sym (is_false (bit (row rows i) k) (not_T (bit (row rows i) k) (λ t. l (h i k t))))

pub cases_transpose : (w : ℕ) (rows : List ℕ) → Cases w rows → Cases (length rows) (transpose w rows)
cases_transpose w rows h k i t = go (dec_lt i (length rows))
  where
    go : Dec (i < length rows) → i < length rows
    go (yes l) = l
    go (no l) = absurd (no_case k (subst (λ (x : ℕ). T (bit x k)) (row_past rows i (omega arith)) (rw (bit-transpose w rows h i k) at t)))

pub transpose_twice : (n w : ℕ) (rows : List ℕ) → length rows ≡ n → Cases w rows → transpose n (transpose w rows) ≡ rows
transpose_twice n w rows e h =
    ext_get_or 0 (transpose n (transpose w rows)) rows (length-transpose n (transpose w rows) ∙ sym e) (λ i l.
    eq_of_bits (row (transpose n (transpose w rows)) i) (row rows i) (λ k.
    bit-transpose n (transpose w rows) back k i ∙ bit-transpose w rows h i k))
  where
    back : Cases n (transpose w rows)
    back = subst (λ (m : ℕ). Cases m (transpose w rows)) e (cases_transpose w rows h)

-- by pairs: g:c in one exactly when c:g in the other
pub has_transpose : (w : ℕ) (rows : List ℕ) → Cases w rows → (g c : ℕ) → Has rows g c ↔ Has (transpose w rows) c g
has_transpose w rows h g c = (
  λ p. by_place_lem rows (λ g c. Has (transpose w rows) c g) (λ i k t. place_has (transpose w rows) k i (rw (bit-transpose w rows h i k) t)) g c p,
  λ p. by_place_lem (transpose w rows) (λ c g. Has rows g c) (λ k i t. place_has rows i k (rw (bit-transpose w rows h i k) at t)) c g p,
)

pub cases_within : (w : ℕ) (r s : List ℕ) → Cases w r → Within r s → Cases w s
cases_within w r s h v i k t = h i k (has_place r i k (v.inside (suc i) (suc k) (place_has s i k t)))

chain_transpose : (w : ℕ) (s : List ℕ) → Cases w s → IsChain s → IsChain (transpose w s)
chain_transpose w s h ch = places_chain (transpose w s) cross
  where
    c : CrossPlaces s
    c = chain_places s ch

    cross : CrossPlaces (transpose w s)
    cross k l i j t u = go (c i j k l (rw (bit-transpose w s h i k) at t) (rw (bit-transpose w s h j l) at u))
      where
        go : T (bit (row s i) l) ⊎ T (bit (row s j) k) → T (bit (row (transpose w s) k) j) ⊎ T (bit (row (transpose w s) l) i)
        go (inl x) = inr (rw (bit-transpose w s h i l) x)
        go (inr x) = inl (rw (bit-transpose w s h j k) x)

within_transpose : (w : ℕ) (r s : List ℕ) → Cases w r → Within r s → Within (transpose w r) (transpose w s)
within_transpose w r s h v = record {
  size = length-transpose w s ∙ sym (length-transpose w r);
  inside = λ c g p. (has_transpose w r h g c).0 (v.inside g c ((has_transpose w s (cases_within w r s h v) g c).1 p));
}

pub maximal_transpose : (w : ℕ) (rows s : List ℕ) → Cases w rows → IsMaximal rows s → IsMaximal (transpose w rows) (transpose w s)
maximal_transpose w rows s h m = record {
  within = within_transpose w rows s h m.within;
  chain = chain_transpose w s hs m.chain;
  largest = largest;
}
  where
    n : ℕ
    n = length rows

    hs : Cases w s
    hs = cases_within w rows s h m.within

    largest : (s' : List ℕ) → Within (transpose w rows) s' → IsChain s' → Within s' (transpose w s) → s' ≡ transpose w s
    largest s' v c k = sym (transpose_twice w n s' (v.size ∙ length-transpose w rows) h') ∙ ap (transpose w) same
      where
        h' : Cases n s'
        h' = cases_within n (transpose w rows) s' (cases_transpose w rows h) v

        back : List ℕ
        back = transpose n s'

        inside : Within rows back
        inside =
            subst (λ (r : List ℕ). Within r back) (transpose_twice n w rows refl h)
            (within_transpose n (transpose w rows) s' (cases_transpose w rows h) v)

        contains : Within back s
        contains = subst (λ (r : List ℕ). Within back r) (transpose_twice n w s m.within.size hs) (within_transpose n s' (transpose w s) h' k)

        same : back ≡ s
        same = m.largest back inside (chain_transpose n s' h' c) contains
