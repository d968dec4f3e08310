-- The table at a cutoff in 02's words: the table of a legal test has the pairs that 02 says (`legal_claims`), and so
-- has what `table_at` answers (`cutoff_claims`, which its contract has). Then what a caller reads out of the claims,
-- a law for each sentence: a pair exists when the magnitude of the reading reaches the cutoff (`reading_pair`,
-- `pair_reading`), of a pattern test every entry is one (`entry_pair`); a listed zero is an entry without a pair
-- (`zero_pairless`); of two answers, the one at the higher cutoff has no pair that the other lacks
-- (`raised_adds_none`). Last: one set of rows has the claims (`claims_unique`), and a higher cutoff can take a pair
-- away (`raising_drops`).
--
-- Elsewhere: the same of the definition `table_of` alone, for any cutoff, Reaching.antt.
use mathlib.Core.Path.{◌≡◌, refl, sym, ap, ◌∙◌, subst}
use mathlib.Core.Bool.{Bool, true, false, cond}
use mathlib.Core.List.{List}
use Prim.Native.Nat.{ℕ, ◌-◌, ◌≤◌, ◌<◌}
use native.Mathlib.Decide.{dec_lt}
use native.Mathlib.Omega.{arith}
use lib.Dec.{T, eqb, leb, leb→le}
use lib.IntN.{pos, nat_abs}
use lib.ListN.{length, get_or-replicate, length-replicate, get_or-eq_default}
use Rattle.basics.proofs.Clash.{clash}
use Rattle.sets.specs.Sets.{bit}
use Rattle.sets.proofs.OnePlace.{none_in}
use Rattle.sets.proofs.Tests.{and_l}
use Rattle.table.specs.Pairs.{row, Has}
use Rattle.table.specs.Tables.{in_range, no_rows, blank_table, made}
use Rattle.table.specs.declared.Table.{Table}
use Rattle.std.specs.Prelude.{Result}
use Rattle.refusals.specs.declared.Refusal.{Refusal}
use Rattle.table.proofs.Places.{same_pairs_rows}
use Rattle.refusals.specs.Answers.{Answer, verdict}
use Rattle.recorded.specs.Tests.{reading_of, LegalTest, test_refusal, table_of, cutoff_refusal, table_at}
use Rattle.recorded.specs.Cutoffs.{CutoffClaims}
use Rattle.recorded.specs.declared.Kind.TheVariants.{Pattern, Integer}
use Rattle.recorded.specs.declared.Test.{Test}
use Rattle.recorded.proofs.Legality.{test_legal, full_test, full_reading, full_legal}
use Rattle.recorded.proofs.Reaching.{raise_within, table_pairs, zero_no_pair}

-- ---- a cutoff and a test that are not refused
passed : (b : Bool) (n : ℕ) → cond b n 21 ≡ 0 → (b ≡ true) × (n ≡ 0)
passed true n e = (refl, e)
passed false n e = absurd (omega arith)

module _ (t : Test) (cutoff : ℕ) (z : cutoff_refusal t cutoff ≡ 0) where
  both : (in_range 1000000 cutoff ≡ true) × (test_refusal t ≡ 0)
  unfolding cutoff_refusal
  both = passed (in_range 1000000 cutoff) (test_refusal t) z

  least : 1 ≤ cutoff
  least = leb→le 1 cutoff (and_l (leb 1 cutoff) (leb cutoff 1000000) (subst T (sym both.0) tt))

-- the blank table has no pair
none_blank : (g c : ℕ) → Has no_rows g c → ⊥
none_blank g c h = subst T (none_in (c - 1)) (subst (λ (x : ℕ). T (bit x (c - 1))) (empty (g - 1) (dec_lt (g - 1) 64)) h.set)
  where
    empty : (i : ℕ) → Dec (i < 64) → row no_rows i ≡ 0
    empty i (yes l) = get_or-replicate {A = ℕ} 64 i 0 0 l
    empty i (no l) = get_or-eq_default no_rows 0 {n = i} (omega (arith, length-replicate {A = ℕ} 64 0))

-- what is at a higher cutoff, refused or not
raised : (t : Test) → length t.entries ≡ 64 → (low high : ℕ) → low ≤ high → (g c : ℕ) → Has (table_at t high).value.rows g c → Has (table_of t low).rows g c
raised t e low high h g c p = go (eqb (cutoff_refusal t high) 0) refl p
  where
    go : (b : Bool) → eqb (cutoff_refusal t high) 0 ≡ b → Has (cond b (table_of t high) blank_table).rows g c → Has (table_of t low).rows g c
    go true d q = (raise_within t low high e h).inside g c q
    go false d q = absurd (none_blank g c q)

-- the table of a legal test
legal_claims : (t : Test) → LegalTest t → (cutoff : ℕ) → 1 ≤ cutoff → CutoffClaims t cutoff (table_of t cutoff).rows
legal_claims t ok cutoff l = record {
  reached = table_pairs t ok cutoff;
  listed_zero = λ g c. zero_no_pair t ok cutoff g c l;
  raising = λ higher h. raised t ok.entries_legal.rows_length cutoff higher h;
}

-- and what `table_at` answers
pub cutoff_claims : (t : Test) → length t.entries ≡ 64 → length t.readings ≡ 4096 → (cutoff : ℕ) (r : Result Table Refusal) → made r ≡ table_at t cutoff
    → verdict r ≡ 0 → CutoffClaims t cutoff (made r).value.rows
cutoff_claims t m n cutoff r e v =
    let z : cutoff_refusal t cutoff ≡ 0 = sym (ap (λ (a : Answer Table). a.refusal) e) ∙ v in
    let is : (made r).value.rows ≡ (table_of t cutoff).rows =
    ap (λ (a : Answer Table). a.value.rows) e ∙ ap (λ (k : ℕ). (cond (eqb k 0) (table_of t cutoff) blank_table).rows) z in
    subst (CutoffClaims t cutoff) (sym is) (legal_claims t (test_legal t m n (both t cutoff z).1) cutoff (least t cutoff z))

-- ---- what a caller reads
module _ (t : Test) (cutoff : ℕ) (rows : List ℕ) (claims : CutoffClaims t cutoff rows) (g c : ℕ) where
  pub reading_pair : Has t.entries g c → cutoff ≤ nat_abs (reading_of t g c) → Has rows g c
  reading_pair h l = (claims.reached g c).1 (h, λ k. l)

  pub pair_reading : t.kind ≡ Integer → Has rows g c → cutoff ≤ nat_abs (reading_of t g c)
  pair_reading k p = ((claims.reached g c).0 p).1 k

  pub entry_pair : t.kind ≡ Pattern → Has t.entries g c → Has rows g c
  entry_pair k h = (claims.reached g c).1 (h, λ i. clash cc)

  pub zero_pairless : t.kind ≡ Integer → reading_of t g c ≡ pos 0 → ¬ Has rows g c
  zero_pairless k z = claims.listed_zero g c k z

-- two answers of `table_at` on one test
pub raised_adds_none : (t : Test) (low high : ℕ) (a b : Result Table Refusal) → CutoffClaims t low (made a).value.rows → made b ≡ table_at t high → low ≤ high
    → (g c : ℕ) → Has (made b).value.rows g c → Has (made a).value.rows g c
raised_adds_none t low high a b claims e h g c p =
    claims.raising high h g c (subst (λ (x : Answer Table). Has x.value.rows g c) e p)

-- ---- one set of rows, and a pair that goes
pub claims_unique : (t : Test) (cutoff : ℕ) (x y : List ℕ) → length x ≡ length y → CutoffClaims t cutoff x → CutoffClaims t cutoff y → x ≡ y
claims_unique t cutoff x y e a b =
    same_pairs_rows x y e (λ g c. (λ p. (b.reached g c).1 ((a.reached g c).0 p), λ p. (a.reached g c).1 ((b.reached g c).0 p)))

-- the reading 5 reaches 5 and not 6
pub raising_drops : Has (table_of (full_test (pos 5)) 5).rows 1 1 × (¬ Has (table_of (full_test (pos 5)) 6).rows 1 1)
raising_drops = ((table_pairs t ok 5 1 1).1 (entry, λ k. omega (arith, far)), λ p. omega (arith, far, ((table_pairs t ok 6 1 1).0 p).1 refl))
  where
    t : Test
    t = full_test (pos 5)

    ok : LegalTest t
    ok = full_legal (pos 5) (omega arith)

    far : nat_abs (reading_of t 1 1) ≡ 5
    far = ap nat_abs (full_reading (pos 5) 0 (omega arith))

    entry : Has t.entries 1 1
    entry = (ok.at_entry 1 1 (omega arith) (omega arith) (omega arith) (omega arith) (λ e. omega (arith, far, ap nat_abs e))).1
