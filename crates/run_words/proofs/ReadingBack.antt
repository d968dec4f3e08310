-- What is put reads back: the words of a value over the front of a slice read as that value (`value-back`), for either side and every phase, where
-- the value has 64 rows, 64 numbers of a preference and 64 picks, each number at most 255 (`Held`). A value that is read is of that kind, whatever
-- the words are (`numbers_read`, and `rows_size` of words/proofs/Back). The words of an answer read back too (`outcome_back`, `moves_back`, `chain_back`,
-- `picks_back`).
--
-- In order: numbers that a word holds; words over the front of a slice; the parts of a value among its words; its phase; the value; an answer.
--
-- Elsewhere: that fresh starts and run calls return such values, c_runs/proofs/Returned.antt.
use mathlib.Core.Path.{◌≡◌, refl, sym, ap, ◌∙◌}
use mathlib.Core.Bool.{Bool, true, false, not}
use mathlib.Core.List.{List, [], ◌∷◌, ◌++◌}
use Prim.Native.Nat.{ℕ, ◌+◌, ◌≤◌, ◌<◌, min}
use native.Mathlib.Decide.{dec_lt}
use native.Mathlib.Omega.{arith}
use lib.Dec.{eqb}
use lib.ListN.{length, drop, get_or, length-append, get_or-append, get_or-eq_default}
use lib.Seq.{sets as stored, sets-eq, get_or-append-add}
use borrow.Author.Tests.{eq-eqb}
use Rattle.sets.proofs.Tabulated.{get_or-tabulate}
use Rattle.table.specs.declared.Table.{Table}
use Rattle.table.specs.declared.Chain.{Chain}
use Rattle.rules.specs.Machine.{Phase, Down, Handed, Back, Ended}
use Rattle.runs.specs.Paused.{Value}
use Rattle.words.specs.Layouts.{word_at, numbers_at, table_at, chain_at, table_words, chain_words}
use Rattle.words.proofs.Reading.{table_is, chain_is}
use Rattle.words.proofs.Back.{numbers_size, rows_are, numbers_are}
use Rattle.run_words.specs.Values.{phase_of, is_value, mark_at, value_at, mark_of, word_of, value_words, answer_words}

-- ---- numbers that a word holds
-- 64 numbers of gauges or cases
pub record Numbers (k : List ℕ) : Type 0 where
  pub size : length k ≡ 64
  pub small : (i : ℕ) → get_or k i 0 ≤ 255

-- a value that words hold
pub record Held (v : Value) : Type 0 where
  pub rows : length v.table.rows ≡ 64
  pub order : Numbers v.order
  pub picks : Numbers v.picks

pub numbers_read : (a : ℕ) (w : List ℕ) → Numbers (numbers_at a w)
numbers_read a w = record { size = numbers_size a w; small = λ i. go i (dec_lt i 64) }
  where
    go : (i : ℕ) → Dec (i < 64) → get_or (numbers_at a w) i 0 ≤ 255
    go i (yes l) = omega (arith, get_or-tabulate (λ i. min (word_at w (a + i)) 255) 64 i l)
    go i (no l) = omega (arith, get_or-eq_default (numbers_at a w) 0 {n = i} (omega (arith, numbers_size a w)))

-- ---- words over the front of a slice
front_at : (w vs : List ℕ) → length vs ≤ length w → (i : ℕ) → i < length vs → word_at (stored w 0 vs) i ≡ get_or vs i 0
front_at w vs h i l =
    ap (λ (x : List ℕ). get_or x i 0) (sets-eq vs w 0 (omega arith)) ∙ get_or-append vs (drop (0 + length vs) w) 0 i l

-- a part among others
module _ (a b c d : List ℕ) where
  abbrev all : List ℕ
  all = a ++ b ++ c ++ d

  first_at : (i : ℕ) → i < length a → get_or all i 0 ≡ get_or a i 0
  first_at i l =
      get_or-append (a ++ b ++ c) d 0 i (omega (arith, length-append (a ++ b) c, length-append a b))
      ∙ get_or-append (a ++ b) c 0 i (omega (arith, length-append a b)) ∙ get_or-append a b 0 i l

  second_at : (i : ℕ) → i < length b → get_or all (length a + i) 0 ≡ get_or b i 0
  second_at i l =
      get_or-append (a ++ b ++ c) d 0 (length a + i) (omega (arith, length-append (a ++ b) c, length-append a b))
      ∙ get_or-append (a ++ b) c 0 (length a + i) (omega (arith, length-append a b)) ∙ get_or-append-add a b i 0

  third_at : (i : ℕ) → i < length c → get_or all (length (a ++ b) + i) 0 ≡ get_or c i 0
  third_at i l =
      get_or-append (a ++ b ++ c) d 0 (length (a ++ b) + i) (omega (arith, length-append (a ++ b) c)) ∙ get_or-append-add (a ++ b) c i 0

  fourth_at : (i : ℕ) → get_or all (length (a ++ b ++ c) + i) 0 ≡ get_or d i 0
  fourth_at i = get_or-append-add (a ++ b ++ c) d i 0

-- ---- the phase
module _ (k : ℕ) (w : List ℕ) (ek : word_at w 0 ≡ k) where
  is_value_lem : (f : Phase) (b : Bool) → word_at w 196 ≡ (mark_of f).phase → word_at w 197 ≡ (mark_of f).from → word_at w 198 ≡ word_of b → is_value k w ≡ true
  unfolding is_value
  is_value_lem Down true ep ef eo = rw (ep, ef, eo, eq-eqb (word_at w 0) k ek)
  is_value_lem Down false ep ef eo = rw (ep, ef, eo, eq-eqb (word_at w 0) k ek)
  is_value_lem Handed true ep ef eo = rw (ep, ef, eo, eq-eqb (word_at w 0) k ek)
  is_value_lem Handed false ep ef eo = rw (ep, ef, eo, eq-eqb (word_at w 0) k ek)
  is_value_lem (Back x) true ep ef eo = rw (ep, eo, eq-eqb (word_at w 0) k ek)
  is_value_lem (Back x) false ep ef eo = rw (ep, eo, eq-eqb (word_at w 0) k ek)
  is_value_lem Ended true ep ef eo = rw (ep, ef, eo, eq-eqb (word_at w 0) k ek)
  is_value_lem Ended false ep ef eo = rw (ep, ef, eo, eq-eqb (word_at w 0) k ek)

  phase_by : (f : Phase) → phase_of (mark_of f).phase (mark_of f).from ≡ f
  unfolding phase_of
  phase_by Down = refl
  phase_by Handed = refl
  phase_by (Back x) = refl
  phase_by Ended = refl

  phase_back : (f : Phase) (b : Bool) → word_at w 196 ≡ (mark_of f).phase → word_at w 197 ≡ (mark_of f).from → word_at w 198 ≡ word_of b
      → phase_of (mark_at k w).phase (mark_at k w).from ≡ f
  phase_back f b ep ef eo = rw (is_value_lem f b ep ef eo, ep, ef) (phase_by f)

omit_back : (b : Bool) → not (eqb (word_of b) 0) ≡ b
omit_back true = refl
omit_back false = refl

-- ---- the value
value_same : (t u : Table) (k l p q : List ℕ) (n m : ℕ) (f e : Phase) (o z : Bool) → t ≡ u → k ≡ l → p ≡ q → n ≡ m → f ≡ e → o ≡ z
    → ◌≡◌ {A = Value} (record { table = t; order = k; picks = p; count = n; phase = f; omit = o })
    (record { table = u; order = l; picks = q; count = m; phase = e; omit = z })
value_same t u k l p q n m f e o z a i b c d h = rw (a, i, b, c, d, h)

module _ (n : ℕ) (v : Value) (h : Held v) where
  -- the four parts of its words
  abbrev front : List ℕ
  front = n ∷ table_words v.table

  abbrev rest : List ℕ
  rest = v.count ∷ ((mark_of v.phase).phase ∷ ((mark_of v.phase).from ∷ (word_of v.omit ∷ [])))

  abbrev up_to : List ℕ
  up_to = front ++ v.order ++ v.picks

  front_long : length front ≡ 67
  front_long = omega (arith, h.rows)

  order_long : length (front ++ v.order) ≡ 131
  order_long = omega (arith, length-append front v.order, h.rows, h.order.size)

  picks_long : length up_to ≡ 195
  picks_long = omega (arith, length-append (front ++ v.order) v.picks, order_long, h.picks.size)

  words_long : length (value_words n v) ≡ 199
  words_long = omega (arith, length-append up_to rest, picks_long)

  module _ (w : List ℕ) (l : 199 ≤ length w) where
    abbrev put : List ℕ
    put = stored w 0 (value_words n v)

    at : (i : ℕ) → i < 199 → word_at put i ≡ get_or (value_words n v) i 0
    at i b = front_at w (value_words n v) (omega (arith, words_long)) i (omega (arith, words_long))

    at_front : (i : ℕ) → i < 67 → word_at put i ≡ get_or front i 0
    at_front i b = at i (omega arith) ∙ first_at front v.order v.picks rest i (omega (arith, front_long))

    at-order : (i : ℕ) → i < 64 → word_at put (67 + i) ≡ get_or v.order i 0
    at-order i b =
        at (67 + i) (omega arith) ∙ ap (λ (j : ℕ). get_or (value_words n v) (j + i) 0) (sym front_long)
        ∙ second_at front v.order v.picks rest i (omega (arith, h.order.size))

    at-picks : (i : ℕ) → i < 64 → word_at put (131 + i) ≡ get_or v.picks i 0
    at-picks i b =
        at (131 + i) (omega arith) ∙ ap (λ (j : ℕ). get_or (value_words n v) (j + i) 0) (sym order_long)
        ∙ third_at front v.order v.picks rest i (omega (arith, h.picks.size))

    at_rest : (i : ℕ) → i < 4 → word_at put (195 + i) ≡ get_or rest i 0
    at_rest i b =
        at (195 + i) (omega arith) ∙ ap (λ (j : ℕ). get_or (value_words n v) (j + i) 0) (sym picks_long)
        ∙ fourth_at front v.order v.picks rest i

    row_at : (i : ℕ) → i < 64 → word_at put (3 + i) ≡ get_or v.table.rows i 0
    row_at i b = at_front (3 + i) (omega arith) ∙ get_or-append-add (n ∷ v.table.gauges ∷ v.table.cases ∷ []) v.table.rows i 0

    pub side-back : word_at put 0 ≡ n
    side-back = at_front 0 (omega arith)

    pub value-back : value_at n put ≡ v
    value-back =
        value_same (table_at 1 put) v.table (numbers_at 67 put) v.order (numbers_at 131 put) v.picks (word_at put 195) v.count
        (phase_of (mark_at n put).phase (mark_at n put).from) v.phase (not (eqb (word_at put 198) 0)) v.omit
        (sym (table_is put 1 v.table.gauges v.table.cases v.table.rows (sym (at_front 1 (omega arith))) (sym (at_front 2 (omega arith)))
        (sym (rows_are put 3 v.table.rows h.rows row_at))))
        (numbers_are put 67 v.order h.order.size (λ i b. (at-order i b, h.order.small i)))
        (numbers_are put 131 v.picks h.picks.size (λ i b. (at-picks i b, h.picks.small i)))
        (at_rest 0 (omega arith))
        (phase_back n put side-back v.phase v.omit (at_rest 1 (omega arith)) (at_rest 2 (omega arith)) (at_rest 3 (omega arith)))
        (ap (λ (x : ℕ). not (eqb x 0)) (at_rest 3 (omega arith)) ∙ omit_back v.omit)

-- ---- an answer
module _ (o m : ℕ) (s : Chain) (p : List ℕ) (e : length s.rows ≡ 64) (k : Numbers p) (w : List ℕ) (l : 131 ≤ length w) where
  abbrev ahead : List ℕ
  ahead = o ∷ (m ∷ chain_words s)

  abbrev given : List ℕ
  given = stored w 0 (answer_words o m s p)

  ahead_long : length ahead ≡ 67
  ahead_long = omega (arith, e)

  answer_long : length (answer_words o m s p) ≡ 131
  answer_long = omega (arith, length-append ahead p, ahead_long, k.size)

  given_at : (i : ℕ) → i < 131 → word_at given i ≡ get_or (answer_words o m s p) i 0
  given_at i b = front_at w (answer_words o m s p) (omega (arith, answer_long)) i (omega (arith, answer_long))

  at_ahead : (i : ℕ) → i < 67 → word_at given i ≡ get_or ahead i 0
  at_ahead i b = given_at i (omega arith) ∙ get_or-append ahead p 0 i (omega (arith, ahead_long))

  at_sequence : (i : ℕ) → i < 64 → word_at given (67 + i) ≡ get_or p i 0
  at_sequence i b =
      given_at (67 + i) (omega arith) ∙ ap (λ (j : ℕ). get_or (answer_words o m s p) (j + i) 0) (sym ahead_long) ∙ get_or-append-add ahead p i 0

  pub outcome_back : word_at given 0 ≡ o
  outcome_back = at_ahead 0 (omega arith)

  pub moves_back : word_at given 1 ≡ m
  moves_back = at_ahead 1 (omega arith)

  pub chain_back : chain_at 2 given ≡ s
  chain_back =
      sym (chain_is given 2 s.gauges s.rows (sym (at_ahead 2 (omega arith)))
      (sym (rows_are given 3 s.rows e (λ i b. at_ahead (3 + i) (omega arith) ∙ get_or-append-add (o ∷ m ∷ s.gauges ∷ []) s.rows i 0))))

  pub picks_back : numbers_at 67 given ≡ p
  picks_back = numbers_are given 67 p k.size (λ i b. (at_sequence i b, k.small i))
