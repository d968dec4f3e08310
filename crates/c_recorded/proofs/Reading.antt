-- A test by what was read, and what reading says of it: what is put reads back (`test_words_lem`, `test_back`), and a
-- word that is no kind gets 10, or else 11 (`no_kind_shape`, `no_kind_rest`, `no_kind_refused`).
--
-- Pins, which nothing else cites: `test_words_lem`.
use mathlib.Core.Path.{◌≡◌, refl, ap, sym, ◌∙◌}
use mathlib.Core.Bool.{Bool, true, false, ◌&&◌, ◌||◌, cond}
use mathlib.Core.Logic.{◌⊎◌, inl, inr}
use mathlib.Core.List.{List, [], ◌∷◌, ◌++◌, append-nil}
use Prim.Native.Nat.{ℕ, ◌+◌, ◌≤◌}
use native.Mathlib.Omega.{arith}
use lib.Dec.{eqb}
use lib.IntN.{ℤ}
use lib.ListN.{length, drop, get_or-append}
use lib.Seq.{sets as stored, sets-eq, ext_get_or, get_or-append-add}
use Rattle.basics.proofs.Clash.{clash}
use Rattle.sets.specs.Sets.{bit}
use Rattle.sets.specs.Lists.{tabulate, all_below}
use Rattle.sets.proofs.Tabulated.{length-tabulate, get_or-tabulate, all_fails}
use Rattle.table.specs.Tables.{in_range, rows_fit, table_refusal, no_rows}
use Rattle.recorded.specs.Tests.{listed, fits_at, place_fits, test_refusal, LegalTest}
use Rattle.recorded.specs.declared.Kind.{Kind}
use Rattle.recorded.specs.declared.Kind.TheVariants.{Pattern, Integer}
use Rattle.recorded.specs.declared.Test.{Test}
use Rattle.words.specs.Layouts.{word_at, rows_at}
use Rattle.c_recorded.specs.Layouts.{is_kind, kind_of, kind_word, readings_at, stray_reading, readings_beside, test_at, test_words}
use Rattle.c_recorded.proofs.Readings.{readings_front}

-- ---- the readings beside a word, where the code's test t of it said yes, and where it said no

pub beside_none : (x : ℕ) (v : List ℤ) (t : Bool) → t ≡ is_kind x → t ≡ false → stray_reading ≡ readings_beside x v
beside_none x v t e n = rw (sym e ∙ n)

-- ---- what is put reads back, whatever comes after it
same_test : (t : Test) (k : Kind) (r : List ℕ) (s : List ℤ) → k ≡ t.kind → r ≡ t.entries → s ≡ t.readings
    → ◌≡◌ {A = Test} (record { kind = k; gauges = t.gauges; cases = t.cases; entries = r; readings = s }) t
same_test t k r s ek er es = rw (ek, er, es)

kind_back : (k : Kind) → kind_of (kind_word k) ≡ k
kind_back Pattern = refl
kind_back Integer = refl

beside_back : (k : Kind) (v : List ℤ) → readings_beside (kind_word k) v ≡ readings_at v
beside_back Pattern v = refl
beside_back Integer v = refl

rows_back : (k g l : ℕ) (rows rest : List ℕ) → length rows ≡ 64 → rows_at 3 ((k ∷ (g ∷ (l ∷ rows))) ++ rest) ≡ rows
rows_back k g l rows rest e =
    let f : ℕ → ℕ = λ i. word_at ((k ∷ (g ∷ (l ∷ rows))) ++ rest) (3 + i) in
    ext_get_or 0 (tabulate f 64) rows (length-tabulate f 64 ∙ sym e) (λ i b.
    get_or-tabulate f 64 i (omega (arith, length-tabulate f 64))
    ∙ get_or-append-add (k ∷ (g ∷ (l ∷ []))) (rows ++ rest) i 0
    ∙ get_or-append rows rest 0 i (omega (arith, length-tabulate f 64)))

module _ (t : Test) (m : length t.entries ≡ 64) (n : length t.readings ≡ 4096) where
  front_back : (rest : List ℕ) (more : List ℤ) → test_at (test_words t ++ rest) (t.readings ++ more) ≡ t
  front_back rest more =
      same_test t _ _ _ (kind_back t.kind) (rows_back (kind_word t.kind) t.gauges t.cases t.entries rest m)
      (beside_back t.kind (t.readings ++ more) ∙ readings_front t.readings more n)

  pub test_back : (w : List ℕ) (v : List ℤ) → 67 ≤ length w → 4096 ≤ length v → test_at (stored w 0 (test_words t)) (stored v 0 t.readings) ≡ t
  test_back w v h k =
      ap (λ (x : List ℕ). test_at x (stored v 0 t.readings)) (sets-eq (test_words t) w 0 (omega (arith, m)))
      ∙ ap (λ (y : List ℤ). test_at (test_words t ++ drop (0 + length (test_words t)) w) y) (sets-eq t.readings v 0 (omega (arith, n)))
      ∙ front_back (drop (0 + length (test_words t)) w) (drop (0 + length t.readings) v)

-- the words and the readings of a legal test read as that test
pub test_words_lem : (t : Test) → LegalTest t → test_at (test_words t) t.readings ≡ t
test_words_lem t ok =
    ap (λ (x : List ℕ). test_at x t.readings) (sym (append-nil (test_words t)))
    ∙ ap (λ (y : List ℤ). test_at (test_words t ++ []) y) (sym (append-nil t.readings))
    ∙ front_back t ok.entries_legal.rows_length ok.readings_length [] []

-- ---- a word that is no kind
or_right : (a b : Bool) → (a || b) ≡ false → b ≡ false
or_right false b e = e
or_right true b e = clash cc

stray_place : false ≡ fits_at no_rows stray_reading 0
unfolding fits_at place_fits bit
stray_place = refl

stray_unfit : all_below (fits_at no_rows stray_reading) 4096 ≡ false
stray_unfit = sym (all_fails (fits_at no_rows stray_reading) 4096 0 false (omega arith) stray_place refl)

-- it gets what its shape and its entries get, and else 11
module _ (w : List ℕ) (v : List ℤ) (h : is_kind (word_at w 0) ≡ false) where
  no_kind : test_refusal (test_at w v) ≡ cond (eqb (table_refusal (listed (test_at w v))) 0) 11 (table_refusal (listed (test_at w v)))
  unfolding test_refusal
  no_kind = rw (h, or_right (eqb (word_at w 0) 1) (eqb (word_at w 0) 2) h, stray_unfit)

  pub no_kind_shape : (in_range 64 (word_at w 1) && in_range 64 (word_at w 2)) ≡ false → test_refusal (test_at w v) ≡ 10
  unfolding table_refusal
  no_kind_shape e = no_kind ∙ rw e

  pub no_kind_rest : (in_range 64 (word_at w 1) && in_range 64 (word_at w 2)) ≡ true → test_refusal (test_at w v) ≡ 11
  unfolding table_refusal
  no_kind_rest e = no_kind ∙ rw e (go (rows_fit (word_at w 1) (word_at w 2) (rows_at 3 w)))
    where
      go : (b : Bool) → ◌≡◌ {A = ℕ} (cond (eqb (cond b 0 11) 0) 11 (cond b 0 11)) 11
      go true = refl
      go false = refl

  pub no_kind_refused : (test_refusal (test_at w v) ≡ 10) ⊎ (test_refusal (test_at w v) ≡ 11)
  no_kind_refused = go (in_range 64 (word_at w 1) && in_range 64 (word_at w 2)) refl
    where
      go : (b : Bool) → (in_range 64 (word_at w 1) && in_range 64 (word_at w 2)) ≡ b → (test_refusal (test_at w v) ≡ 10) ⊎ (test_refusal (test_at w v) ≡ 11)
      go false e = inl (no_kind_shape e)
      go true e = inr (no_kind_rest e)
