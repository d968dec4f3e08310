-- A batch on words gives one thing, for every slice and every budget: there is an answer (`gauge_lists_exist`, `case_lists_exist`), and no other
-- (`lists_unique`). One proof for either side, over what its ladders have: G words each (`Wide`).
use mathlib.Core.Path.{◌≡◌, sym, ap, ap₂, ◌∙◌}
use mathlib.Core.Logic.{◌⊎◌, inl, inr}
use mathlib.Core.List.{List, [], ◌∷◌}
use Prim.Native.Nat.{ℕ, zero, suc, ◌+◌, ◌-◌, ◌*◌, ◌/◌, ◌≤◌, ◌<◌}
use native.Mathlib.Nat.{zero-mul, suc-mul, add_comm, mul-le-mul_right, div-mul-le_self}
use native.Mathlib.Omega.{arith}
use lib.ListN.{length, drop, length-append, length-drop}
use Rattle.table.specs.Tables.{Legal}
use Rattle.table.specs.declared.Table.{Table}
use Rattle.rules.specs.Machine.{State, Move}
use Rattle.rules.specs.Sequences.{All}
use Rattle.rules.specs.Calls.{Reply, refused, spent, handed, end, most_budget, call_by}
use Rattle.lists.specs.Lists.{Side, gauge_side, case_side}
use Rattle.lists.specs.OnTable.{hand_out}
use Rattle.runs.specs.Paused.{Value}
use Rattle.runs.specs.Calling.{held, value_refusal, PausedAt}
use Rattle.runs.specs.Omitting.{moves_of}
use Rattle.runs.specs.Batches.{Batch, Tale, onward, batch_by, joined, Denied, Comes, batch_on, Batched}
use Rattle.runs.proofs.Demands.{Starts}
use Rattle.runs.proofs.BatchSides.{adds_calls}
use Rattle.runs.proofs.BatchDeciding.{batched_cases, batched_unique, batched_exists, gauge_words, case_words}
use Rattle.words.proofs.Answers.{short_dec, or_dec, two_exists, two_unique}
use Rattle.words.proofs.Back.{rows_size}
use Rattle.run_words.specs.Values.{value_at}
use Rattle.run_words.proofs.ReadingBack.{numbers_read}
use Rattle.c_runs.proofs.Sides.{Startable, gauges_start, cases_start}
use Rattle.c_batches.specs.Serving.{Answered, BatchCall, Lists}
use Rattle.c_batches.proofs.Serving.{Given, lists_of}

-- ---- the ladders of a batch fit
few : (mv : State → Move) (f : List ℕ → List ℕ) (k b : ℕ) (s : State) → length (batch_by mv f k b s).sets ≤ k
few mv f zero b s = omega arith
few mv f (suc k) b s =
    go (call_by mv f b s).answer (call_by mv f b s).moves (call_by mv f b s).next (λ m y. few mv f k (b - m) y)
  where
    go : (a : Reply) (m : ℕ) (y : State) → ((m : ℕ) (y : State) → length (batch_by mv f k (b - m) y).sets ≤ k)
        → length (onward mv f (batch_by mv f k) b a m y).sets ≤ suc k
    go (refused i) m y h = omega arith
    go spent m y h = omega arith
    go (handed x) m y h = omega (arith, h m y)
    go end m y h = omega arith

joined_long : (g : ℕ) (xs : List (List ℕ)) → All (λ (x : List ℕ). length x ≡ g) xs → length (joined xs) ≡ length xs * g
joined_long g [] a = sym (zero-mul g)
joined_long g (x ∷ xs) a =
    length-append x (joined xs) ∙ ap₂ (λ (i j : ℕ). i + j) a.0 (joined_long g xs a.1) ∙ add_comm g (length xs * g) ∙ sym (suc-mul (length xs) g)

-- each ladder of a batch has G words
abbrev Wide : (Table → Side) → Type 0
Wide side =
    (v : Value) → Legal v.table → (words b : ℕ) (s : State) → b ≤ most_budget
    → All (λ (x : List ℕ). length x ≡ v.table.gauges) (batch_on side v words b s).sets

module _ (side : Table → Side) (all : Startable side) (n : ℕ) (w : List ℕ) (b : ℕ) (out : List ℕ) where
  starts : Starts side (value_at n w)
  starts = all (value_at n w).table (rows_size 3 w) (value_at n w).order (numbers_read 67 w).size

  short : Dec ((length w < 199) ⊎ (length out < 3))
  short = or_dec (short_dec w 199) (short_dec out 3)

  -- a batch leaves as many words as it was lent
  words_long : Wide side → (r : Batch) (now before : List ℕ) → Batched side (value_at n w) b before r now → length now ≡ length before
  words_long wide r now before h = go (batched_cases side v b before starts r now h)
    where
      v : Value
      v = value_at n w

      go : ((m : ℕ) × ¬ (m ≡ 0) × Denied m before r now)
          ⊎ ((s : State) × (value_refusal side v ≡ 0) × PausedAt side v s × (b ≤ most_budget)
          × Comes v.table v.order v.omit (batch_on side v (length before) b s) before r now)
          → length now ≡ length before
      go (inl (m, z, d)) = ap length d.buffer
      go (inr (s, z, q, l, c)) =
          let t : Tale = batch_on side v (length before) b s in
          let g : ℕ = v.table.gauges in
          let e : length (joined t.sets) ≡ length t.sets * g = joined_long g t.sets (wide v (starts z).legal (length before) b s l) in
          let k : length t.sets * g ≤ (length before / g) * g =
          mul-le-mul_right g (few (moves_of v.table (side v.table) (held side v) v.omit) (hand_out (side v.table)) (length before / g) b s) in
          ap length c.buffer
          ∙ omega (
            arith,
            length-append (joined t.sets) (drop (length (joined t.sets)) before),
            length-drop (length (joined t.sets)) before,
            e,
            k,
            div-mul-le_self (length before) g,
          )

  lists_exist : Wide side → (w' : List ℕ) × (out' : List ℕ) × (r : ℕ) × Lists side n w b out w' out' r
  lists_exist wide =
      let (r, now, h) = batched_exists side (value_at n w) b (drop 3 out) starts in
      let p : BatchCall side (value_at n w) b (drop 3 out) (record { batch = r; words = now }) =
      record { batched = h; calls = adds_calls side (value_at n w) (length (drop 3 out)) b starts; long = words_long wide r now (drop 3 out) h } in
      let e : (w' : List ℕ) × (out' : List ℕ) × (i : ℕ) × Given side all n w b out w' out' i = two_exists w out short (record { batch = r; words = now }) p in
      (e.0, e.1, e.2, lists_of side all e.3)

  one : (x y : Answered) → BatchCall side (value_at n w) b (drop 3 out) x → BatchCall side (value_at n w) b (drop 3 out) y → x ≡ y
  one x y p q =
      let (e, d) = batched_unique side (value_at n w) b (drop 3 out) starts x.batch x.words y.batch y.words p.batched q.batched in
      ap₂ (λ (i : Batch) (l : List ℕ). record { batch = i; words = l }) e d

  pub lists_unique : (w₁ out₁ w₂ out₂ : List ℕ) (r₁ r₂ : ℕ) → Lists side n w b out w₁ out₁ r₁ → Lists side n w b out w₂ out₂ r₂
      → (w₁ ≡ w₂) × (out₁ ≡ out₂) × (r₁ ≡ r₂)
  lists_unique w₁ out₁ w₂ out₂ r₁ r₂ g h = two_unique w out short one w₁ out₁ w₂ out₂ r₁ r₂ g.gives h.gives

pub gauge_lists_exist : (w : List ℕ) (b : ℕ) (out : List ℕ) → (w' : List ℕ) × (out' : List ℕ) × (r : ℕ) × Lists gauge_side 1 w b out w' out' r
gauge_lists_exist w b out = lists_exist gauge_side gauges_start 1 w b out gauge_words

pub case_lists_exist : (w : List ℕ) (b : ℕ) (out : List ℕ) → (w' : List ℕ) × (out' : List ℕ) × (r : ℕ) × Lists case_side 2 w b out w' out' r
case_lists_exist w b out = lists_exist case_side cases_start 2 w b out case_words
