-- What the entry left is read back: where it returned 0, the first three words and the 8 chains behind them are those of the library's answer
-- (`cover_back`).
--
-- In order: words before a place stay as they are (`stored_before`, `chains_before`); a chain that is put at a place is read there (`chain_put`), and so
-- is each of a list of chains (`chains_back`); the cover of an answer is 8 chains of 64 rows (`cover_sized`); the entry.
use mathlib.Core.Path.{◌≡◌, refl, sym, ap, ap₂, ◌∙◌, subst}
use mathlib.Core.Bool.{Bool, true, false, ◌||◌, cond}
use mathlib.Core.Logic.{◌⊎◌, inr}
use mathlib.Core.List.{List, [], ◌∷◌, ◌++◌, map, append_assoc, Memᴰ}
use Prim.Native.Nat.{ℕ, zero, suc, ◌+◌, ◌*◌, ◌-◌, ◌≤◌, ◌<◌}
use native.Mathlib.Nat.{min-le_left}
use native.Mathlib.Decide.{ℕ_discrete, dec_lt}
use native.Mathlib.Omega.{arith}
use lib.Dec.{eqb, ltb}
use lib.ListN.{length, take, drop, get_or, set, replicate, length-append, length-map, length-replicate, get_or-append}
use lib.Seq.{sets as stored, sets-eq, length-sets, length-take-le, get_or-set_other}
use borrow.Author.Tests.{eq-eqb, ne_eqb, lt-ltb}
use Rattle.basics.proofs.Clash.{clash}
use Rattle.sets.proofs.Tabulated.{get_or-tabulate}
use Rattle.table.specs.declared.Table.{Table}
use Rattle.table.specs.declared.Chain.{Chain}
use Rattle.table.specs.Tables.{table_rows, table_refusal, padded, blank_chain}
use Rattle.table.proofs.Padding.{pad_length}
use Rattle.mechanisms.specs.Covering.{Reading, spent_at, covered_by, most_tried, most_side, most_ladders, refusal_of, within_budget, by_rule, Searched, Covers}
use Rattle.words.specs.Layouts.{word_at, rows_at, table_at, chain_at, chain_words}
use Rattle.words.proofs.Reading.{chain_is}
use Rattle.words.proofs.Back.{rows_size, rows_are, front_is, chain_behind}
use Rattle.c_covers.specs.Serving.{reply_number, reply_kind, with_chains, CoveredWords, CoversWords}

-- ---- words before a place
stored_before : (vs w : List ℕ) (a j : ℕ) → j < a → word_at (stored w a vs) j ≡ word_at w j
stored_before [] w a j l = refl
stored_before (v ∷ vs) w a j l = stored_before vs (set w a v) (suc a) j (omega arith) ∙ get_or-set_other w a j v 0 (λ e. omega arith)

chains_before : (ss : List Chain) (w : List ℕ) (a j : ℕ) → j < a → word_at (with_chains w a ss) j ≡ word_at w j
unfolding with_chains
chains_before [] w a j l = refl
chains_before (s ∷ ss) w a j l = chains_before ss (stored w a (chain_words s)) (a + 65) j (omega arith) ∙ stored_before (chain_words s) w a j l

-- ---- chains
chain_same : (w u : List ℕ) (a : ℕ) → ((j : ℕ) → j < a + 65 → word_at w j ≡ word_at u j) → chain_at a w ≡ chain_at a u
chain_same w u a h =
    sym (chain_is w a (word_at u a) (rows_at (a + 1) u) (sym (h a (omega arith)))
    (sym (rows_are w (a + 1) (rows_at (a + 1) u) (rows_size (a + 1) u) (λ i l.
    h (a + 1 + i) (omega arith) ∙ sym (get_or-tabulate (λ j. word_at u (a + 1 + j)) 64 i l)))))

chain_put : (w : List ℕ) (a : ℕ) (s : Chain) → length s.rows ≡ 64 → a + 65 ≤ length w → chain_at a (stored w a (chain_words s)) ≡ s
chain_put w a s m h =
    chain_behind (stored w a (chain_words s)) (take a w) (drop (a + length (chain_words s)) w) a s
    (sets-eq (chain_words s) w a (omega arith) ∙ append_assoc (take a w) (chain_words s) (drop (a + length (chain_words s)) w))
    (length-take-le a w (omega arith)) m

-- each has 64 rows
abbrev Sized : List Chain → Type 0
Sized [] = Unit {0}
Sized (s ∷ ss) = (length s.rows ≡ 64) × Sized ss

chains_back : (ss : List Chain) (w : List ℕ) (a : ℕ) → Sized ss → a + 65 * length ss ≤ length w → (i : ℕ) → i < length ss
    → chain_at (a + 65 * i) (with_chains w a ss) ≡ get_or ss i blank_chain
unfolding with_chains
chains_back [] w a z h i l = absurd (omega arith)
chains_back (s ∷ ss) w a z h zero l =
    ap (λ (b : ℕ). chain_at b (with_chains (stored w a (chain_words s)) (a + 65) ss)) (omega arith)
    ∙ chain_same (with_chains (stored w a (chain_words s)) (a + 65) ss) (stored w a (chain_words s)) a (λ j k.
    chains_before ss (stored w a (chain_words s)) (a + 65) j k)
    ∙ chain_put w a s z.0 (omega arith)
chains_back (s ∷ ss) w a z h (suc i) l =
    ap (λ (b : ℕ). chain_at b (with_chains (stored w a (chain_words s)) (a + 65) ss)) (omega arith)
    ∙ chains_back ss (stored w a (chain_words s)) (a + 65) z.1 (omega (arith, length-sets w a (chain_words s))) i (omega arith)

-- ---- the cover of an answer
sized_blank : (n : ℕ) → Sized (replicate n blank_chain)
sized_blank zero = tt
sized_blank (suc n) = (length-replicate {A = ℕ} 64 0, sized_blank n)

-- the rows of a ladder, as a chain
abbrev held : ℕ → List ℕ → Chain
held g x = record { gauges = g; rows = padded x }

sized_chains : (g n : ℕ) (c : List (List ℕ)) → ((x : List ℕ) → Memᴰ x c → length x ≤ 64)
    → Sized (map (held g) c ++ replicate n blank_chain)
sized_chains g n [] h = sized_blank n
sized_chains g n (x ∷ c) h = (pad_length x (h x (Memᴰ.head refl)), sized_chains g n c (λ y m. h y (Memᴰ.tail m)))

-- a table that is not refused has at most 8 gauges
few_by : (m : ℕ) (x y z w : Bool) → cond (eqb m 0) (cond x 18 (cond (y || z) 23 (cond w 24 0))) m ≡ 0 → y ≡ false
few_by m x y z w e = go (ℕ_discrete m 0)
  where
    tests : (x y z w : Bool) → ◌≡◌ {A = ℕ} (cond x 18 (cond (y || z) 23 (cond w 24 0))) 0 → y ≡ false
    tests true y z w d = absurd (omega arith)
    tests false true z w d = absurd (omega arith)
    tests false false z w d = refl

    go : Dec (m ≡ 0) → y ≡ false
    go (yes k) = tests x y z w (sym (ap (λ (b : Bool). cond b (cond x 18 (cond (y || z) 23 (cond w 24 0))) m) (eq-eqb m 0 k)) ∙ e)
    go (no k) = absurd (k (sym (ap (λ (b : Bool). cond b (cond x 18 (cond (y || z) 23 (cond w 24 0))) m) (ne_eqb m 0 k)) ∙ e))

few_gauges : (t : Table) (b n : ℕ) → refusal_of t b n ≡ 0 → t.gauges ≤ 8
unfolding refusal_of
few_gauges t b n e = go (dec_lt most_side t.gauges)
  where
    go : Dec (most_side < t.gauges) → t.gauges ≤ 8
    go (yes l) =
        let d : true ≡ false =
        sym (lt-ltb most_side t.gauges l)
        ∙ few_by (table_refusal t) (ltb most_tried b) (ltb most_side t.gauges) (ltb most_side t.cases) (ltb most_ladders n) e in
        clash cc
    go (no l) = omega arith

module _ (t : Table) (b : ℕ) (size : length t.rows ≡ 64) (a : Reading) (c : Covers t b a) (z : reply_number a.reply ≡ 0) where
  searched : Searched t b c.ladders a × (t.gauges ≤ 8)
  searched = go (ℕ_discrete (refusal_of t b (length c.ladders)) 0)
    where
      go : Dec (refusal_of t b (length c.ladders) ≡ 0) → Searched t b c.ladders a × (t.gauges ≤ 8)
      go (yes e) = (c.searches e, few_gauges t b (length c.ladders) e)
      go (no e) = absurd (e (sym (ap (λ (r : Reading). reply_number r.reply) (c.refuses (omega arith))) ∙ z))

  cover_sized : Sized a.cover × (length a.cover ≡ 8)
  unfolding within_budget
  cover_sized = go (ltb b (by_rule t c.ladders).tried) searched.0.says
    where
      x : Searched t b c.ladders a
      x = searched.0

      rows : (y : List ℕ) → Memᴰ y x.cover → length y ≤ 64
      rows y m = omega (arith, (x.first.covers.maximal y m).within.size, table-few)
        where
          table-few : length (table_rows t) ≤ 64
          table-few = omega (arith, length-take-le t.gauges t.rows (omega (arith, searched.1)), searched.1)

      few : length x.cover ≤ 8
      few = omega (arith, x.first.number, x.few, min-le_left t.gauges t.cases, searched.1)

      go : (k : Bool) → a ≡ cond k (spent_at b) (covered_by t x.number (by_rule t c.ladders).tried x.cover) → Sized a.cover × (length a.cover ≡ 8)
      go true e = subst (λ (r : Reading). Sized r.cover × (length r.cover ≡ 8)) (sym e) (sized_blank 8, length-replicate {A = Chain} 8 blank_chain)
      go false e =
          subst (λ (r : Reading). Sized r.cover × (length r.cover ≡ 8)) (sym e) (
            sized_chains t.gauges (8 - length x.cover) x.cover rows,
            length-append (map (held t.gauges) x.cover) (replicate (8 - length x.cover) blank_chain)
                ∙ ap₂ (λ (k l : ℕ). k + l) (length-map x.cover (held t.gauges)) (length-replicate {A = Chain} (8 - length x.cover) blank_chain)
                ∙ omega (arith, few),
          )

-- ---- the entry
-- the words w read as the library's answer for the table t and the budget b: what it is, the least number, the ladders tried, and 8 chains
pub record ReadsCover (t : Table) (b : ℕ) (w : List ℕ) : Type 0 where
  pub answer : Reading
  pub covers : Covers t b answer
  pub kind : word_at w 0 ≡ reply_kind answer.reply
  pub number : word_at w 1 ≡ answer.number
  pub tried : word_at w 2 ≡ answer.tried
  pub chain : (i : ℕ) → i < 8 → chain_at (3 + 65 * i) w ≡ get_or answer.cover i blank_chain

module _ (t : List ℕ) (b : ℕ) (out out' : List ℕ) (g : CoversWords t b out out' 0) where
  not_short : ¬ ((length t < 66) ⊎ (length out < 523))
  not_short s = omega (arith, (g.short s).0)

  given : CoveredWords (table_at 0 t) b out out' 0
  given = g.served not_short

  abbrev x : Reading
  x = given.answer

  long : 523 ≤ length out
  long = let k : ¬ (length out < 523) = λ l. not_short (inr l) in omega arith

  sized : Sized x.cover × (length x.cover ≡ 8)
  sized = cover_sized (table_at 0 t) b (rows_size 2 t) x given.covers (sym given.number)

  -- the chains behind the first three words
  cover_chain : (i : ℕ) → i < 8 → chain_at (3 + 65 * i) out' ≡ get_or x.cover i blank_chain
  cover_chain i l =
      ap (chain_at (3 + 65 * i)) given.leaves
      ∙ chains_back x.cover (stored out 0 (reply_kind x.reply ∷ (x.number ∷ (x.tried ∷ [])))) 3 sized.0
      (omega (arith, sized.1, long, length-sets out 0 (reply_kind x.reply ∷ (x.number ∷ (x.tried ∷ []))))) i (omega (arith, sized.1))

  -- the first three words
  word : (i : ℕ) → i < 3 → word_at out' i ≡ get_or (reply_kind x.reply ∷ (x.number ∷ (x.tried ∷ []))) i 0
  word i l =
      ap (λ (y : List ℕ). word_at y i) given.leaves
      ∙ chains_before x.cover (stored out 0 (reply_kind x.reply ∷ (x.number ∷ (x.tried ∷ [])))) 3 i l
      ∙ ap (λ (y : List ℕ). word_at y i) (front_is out (reply_kind x.reply ∷ (x.number ∷ (x.tried ∷ []))) (omega (arith, long)))
      ∙ get_or-append (reply_kind x.reply ∷ (x.number ∷ (x.tried ∷ []))) (drop 3 out) 0 i l

  pub cover_back : ReadsCover (table_at 0 t) b out'
  cover_back = record {
    answer = x;
    covers = given.covers;
    kind = word 0 (omega arith);
    number = word 1 (omega arith);
    tried = word 2 (omega arith);
    chain = cover_chain;
  }
