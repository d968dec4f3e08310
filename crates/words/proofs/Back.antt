-- What was put is read back: words that are one list after the other in a slice.
--
-- In order: what is read has 64 rows and 64 numbers (`rows_size`, `numbers_size`), and is known by its words
-- (`rows_are`, `numbers_are`, `number_small`, `number_large`); a slice with words over its front (`front_is`); the
-- words, a table and a chain that come after other words (`word_behind`, `table_behind`, `chain_behind`); a table and
-- a chain put over the front of a slice are read there (`table_back`, `chain_back`), so what an entry that returned 0
-- left in a slice reads as its answer (`table_left`, `chain_left`).
--
-- Elsewhere: how words are put, Storing.antt; proposals, crate `c_trials`.
use mathlib.Core.Path.{◌≡◌, refl, ap, ap₂, sym, ◌∙◌, subst}
use mathlib.Core.List.{List, [], ◌++◌}
use Prim.Native.Nat.{ℕ, suc, ◌+◌, ◌≤◌, ◌<◌}
use native.Mathlib.Nat.{zero-add, add-zero, min-eq_left, min-eq_right}
use native.Mathlib.Decide.{dec_lt}
use native.Mathlib.Omega.{arith}
use lib.ListN.{length, drop, get_or, get_or-append}
use lib.Seq.{sets as stored, sets-eq, get_or-append-add, ext_get_or}
use Rattle.sets.proofs.Tabulated.{length-tabulate, get_or-tabulate}
use Rattle.refusals.specs.Answers.{Answer}
use Rattle.table.specs.declared.Table.{Table}
use Rattle.table.specs.declared.Chain.{Chain}
use Rattle.words.specs.Layouts.{word_at, rows_at, as_number, numbers_at, table_at, chain_at, table_words, chain_words}
use Rattle.words.specs.Serving.{Gives}
use Rattle.words.proofs.Reading.{table_is, chain_is}
use Rattle.words.proofs.Answers.{gives_long, gives_zero}

-- ---- what is read has its size
pub rows_size : (a : ℕ) (w : List ℕ) → length (rows_at a w) ≡ 64
rows_size a w = length-tabulate (λ i. word_at w (a + i)) 64

pub numbers_size : (a : ℕ) (w : List ℕ) → length (numbers_at a w) ≡ 64
numbers_size a w = length-tabulate (λ i. as_number (word_at w (a + i))) 64

-- ---- rows and numbers by their words
pub rows_are : (w : List ℕ) (a : ℕ) (rows : List ℕ) → length rows ≡ 64 → ((i : ℕ) → i < 64 → word_at w (a + i) ≡ get_or rows i 0) → rows_at a w ≡ rows
rows_are w a rows n h =
    ext_get_or 0 (rows_at a w) rows (rows_size a w ∙ sym n) (λ i l.
    let few : i < 64 = subst (λ (k : ℕ). i < k) (rows_size a w) l in
    get_or-tabulate (λ j. word_at w (a + j)) 64 i few ∙ h i few)

-- a number that a byte holds reads as itself
pub numbers_are : (w : List ℕ) (a : ℕ) (numbers : List ℕ) → length numbers ≡ 64
    → ((i : ℕ) → i < 64 → (word_at w (a + i) ≡ get_or numbers i 0) × (get_or numbers i 0 ≤ 255)) → numbers_at a w ≡ numbers
numbers_are w a numbers n h =
    ext_get_or 0 (numbers_at a w) numbers (numbers_size a w ∙ sym n) (λ i l.
    let few : i < 64 = subst (λ (k : ℕ). i < k) (numbers_size a w) l in
    get_or-tabulate (λ j. as_number (word_at w (a + j))) 64 i few ∙ ap as_number (h i few).0 ∙ min-eq_left (h i few).1)

-- so no word above 64 becomes the number of a gauge or a case
pub number_small : (w : List ℕ) (a i : ℕ) → i < 64 → word_at w (a + i) ≤ 255 → get_or (numbers_at a w) i 0 ≡ word_at w (a + i)
number_small w a i l h = get_or-tabulate (λ j. as_number (word_at w (a + j))) 64 i l ∙ min-eq_left h

pub number_large : (w : List ℕ) (a i : ℕ) → i < 64 → 64 < word_at w (a + i) → 64 < get_or (numbers_at a w) i 0
number_large w a i l h = go (dec_lt (word_at w (a + i)) 255)
  where
    go : Dec (word_at w (a + i) < 255) → 64 < get_or (numbers_at a w) i 0
    go (yes k) = subst (λ (x : ℕ). 64 < x) (sym (number_small w a i l (omega arith))) h
    go (no k) = subst (λ (x : ℕ). 64 < x) (sym (get_or-tabulate (λ j. as_number (word_at w (a + j))) 64 i l ∙ min-eq_right (omega arith))) (omega arith)

-- ---- a slice with words over its front
pub front_is : (w vs : List ℕ) → length vs ≤ length w → stored w 0 vs ≡ vs ++ drop (length vs) w
front_is w vs h = sets-eq vs w 0 (rw zero-add h) ∙ ap (λ (k : ℕ). vs ++ drop k w) (zero-add (length vs))

-- ---- the slice w is p, of a words, and then q
module _ (w p q : List ℕ) (a : ℕ) (e : w ≡ p ++ q) (n : length p ≡ a) where
  pub word_behind : (i : ℕ) → word_at w (a + i) ≡ get_or q i 0
  word_behind i = ap₂ (λ (x : List ℕ) (k : ℕ). word_at x (k + i)) e (sym n) ∙ get_or-append-add p q i 0

  first_behind : word_at w a ≡ get_or q 0 0
  first_behind = ap (word_at w) (sym (add-zero a)) ∙ word_behind 0

pub table_behind : (w p r : List ℕ) (a : ℕ) (t : Table) → w ≡ p ++ (table_words t ++ r) → length p ≡ a → length t.rows ≡ 64 → table_at a w ≡ t
table_behind w p r a t e n m =
    sym (table_is w a t.gauges t.cases t.rows (sym (first_behind w p (table_words t ++ r) a e n)) (sym (word_behind w p (table_words t ++ r) a e n 1))
    (sym (rows_are w (a + 2) t.rows m (λ i l. word i ∙ get_or-append t.rows r 0 i (omega arith)))))
  where
    word : (i : ℕ) → word_at w (a + 2 + i) ≡ get_or (t.rows ++ r) i 0
    word i = ap (word_at w) (omega arith) ∙ word_behind w p (table_words t ++ r) a e n (suc (suc i))

pub chain_behind : (w p r : List ℕ) (a : ℕ) (s : Chain) → w ≡ p ++ (chain_words s ++ r) → length p ≡ a → length s.rows ≡ 64 → chain_at a w ≡ s
chain_behind w p r a s e n m =
    sym (chain_is w a s.gauges s.rows (sym (first_behind w p (chain_words s ++ r) a e n))
    (sym (rows_are w (a + 1) s.rows m (λ i l. word i ∙ get_or-append s.rows r 0 i (omega arith)))))
  where
    word : (i : ℕ) → word_at w (a + 1 + i) ≡ get_or (s.rows ++ r) i 0
    word i = ap (word_at w) (omega arith) ∙ word_behind w p (chain_words s ++ r) a e n (suc i)

-- ---- put over the front of a slice, and read there
pub table_back : (w : List ℕ) (t : Table) → length t.rows ≡ 64 → 66 ≤ length w → table_at 0 (stored w 0 (table_words t)) ≡ t
table_back w t m h =
    table_behind (stored w 0 (table_words t)) [] (drop (length (table_words t)) w) 0 t (front_is w (table_words t) (omega arith)) refl m

pub chain_back : (w : List ℕ) (s : Chain) → length s.rows ≡ 64 → 65 ≤ length w → chain_at 0 (stored w 0 (chain_words s)) ≡ s
chain_back w s m h =
    chain_behind (stored w 0 (chain_words s)) [] (drop (length (chain_words s)) w) 0 s (front_is w (chain_words s) (omega arith)) refl m

-- ---- what an entry left in a slice is its answer
answer_is : {A : Type 0} (a : Answer A) (v : A) → a.refusal ≡ 0 → v ≡ a.value → a ≡ record { refusal = 0; value = v }
answer_is a v e d = λ k. record { refusal = e k; value = sym d k }

module _ {Short : Type 0} {P : Answer Table → Type 0} (out out' : List ℕ) (r : ℕ) (z : r ≡ 0) where
  pub table_left : Gives Short P (λ (a : Answer Table). a.refusal) (λ (a : Answer Table). table_words a.value) out out' r → (¬ Short → 66 ≤ length out)
      → ((a : Answer Table) → P a → a.refusal ≡ 0 → length a.value.rows ≡ 64) → P (record { refusal = 0; value = table_at 0 out' })
  table_left g long size =
      let (a, p, n, e) = gives_zero out out' r z g in
      subst P (answer_is a (table_at 0 out') n (ap (table_at 0) e ∙ table_back out a.value (size a p n) (long (gives_long out out' r z g)))) p

module _ {Short : Type 0} {P : Answer Chain → Type 0} (out out' : List ℕ) (r : ℕ) (z : r ≡ 0) where
  pub chain_left : Gives Short P (λ (a : Answer Chain). a.refusal) (λ (a : Answer Chain). chain_words a.value) out out' r → (¬ Short → 65 ≤ length out)
      → ((a : Answer Chain) → P a → a.refusal ≡ 0 → length a.value.rows ≡ 64) → P (record { refusal = 0; value = chain_at 0 out' })
  chain_left g long size =
      let (a, p, n, e) = gives_zero out out' r z g in
      subst P (answer_is a (chain_at 0 out') n (ap (chain_at 0) e ∙ chain_back out a.value (size a p n) (long (gives_long out out' r z g)))) p
