-- A batch on words, from what the library promises of it (`batch_at`): the words ahead of its ladders are over the
-- front of the slice (`put_batch`), a refusal leaves the slice as it was (`batch_kept`), and what is left reads as
-- the batch (`batch-back`), which makes the contract (`lists_of`). One proof for either side.
use mathlib.Core.Path.{◌≡◌, refl, sym, ap, ap₂, ◌∙◌, subst}
use mathlib.Core.Logic.{◌⊎◌, inl, inr}
use mathlib.Core.Bool.{Bool}
use mathlib.Core.List.{List, [], ◌∷◌, ◌++◌, append-nil}
use Prim.Native.Nat.{ℕ, ◌+◌, ◌-◌, ◌/◌, ◌≤◌, ◌<◌}
use native.Mathlib.Decide.{dec_lt}
use native.Mathlib.Omega.{arith}
use lib.ListN.{length, take, drop, length-append, length-drop, take-append-drop, drop_of_length-le}
use lib.Seq.{sets as stored, sets-eq, take_all, drop_at, length-take-le}
use Rattle.table.specs.declared.Table.{Table}
use Rattle.rules.specs.Machine.{State}
use Rattle.rules.specs.Calls.{most_budget}
use Rattle.lists.specs.Lists.{Side}
use Rattle.lists.specs.OnTable.{hand_out}
use Rattle.runs.specs.Paused.{Value}
use Rattle.runs.specs.Calling.{held, value_refusal, PausedAt}
use Rattle.runs.specs.Omitting.{moves_of}
use Rattle.runs.specs.Batches.{Ending, denied, full, used, over, closing, Batch, Tale, batch_on, Batched, CarriesBatch, Denied, Comes}
use Rattle.runs.specs.Sides.{side_of}
use Rattle.runs.specs.declared.batches.Close.{Close}
use Rattle.runs.specs.declared.batches.Close.TheVariants.{Full, Spent, End}
use Rattle.runs.proofs.BatchSides.{not_denied}
use Rattle.runs.proofs.BatchDeciding.{batched_cases, batch_reached}
use Rattle.words.specs.Layouts.{Put}
use Rattle.words.specs.Serving.{GivesTwo, ServedTwo}
use Rattle.words.proofs.Answers.{left_zero}
use Rattle.words.proofs.Back.{rows_size}
use Rattle.run_words.specs.Values.{side_word, value_at, value_words, close_of}
use Rattle.run_words.proofs.ReadingBack.{Held, numbers_read, value-back}
use Rattle.c_runs.proofs.Sides.{Startable}
use Rattle.c_runs.proofs.Returned.{paused-held}
use Rattle.c_batches.specs.Serving.{Answered, refusal_of, stop_of, batch_words, ending_read, batch_read, BatchCall, Lists}

-- ---- the words of a slice
-- as many words as it has, over the front of a slice
whole : (out words : List ℕ) → length words ≡ length out → stored out 0 words ≡ words
whole out words e =
    sets-eq words out 0 (omega (arith, e))
    ∙ ap (λ (l : List ℕ). words ++ l) (drop_of_length-le out {i = 0 + length words} (omega (arith, e)))
    ∙ append-nil words

-- three words over the front of a slice whose rest was written anew
head_over : (out words : List ℕ) (a b c : ℕ) → 3 ≤ length out → length words ≡ length (drop 3 out)
    → stored (take 3 out ++ words) 0 (a ∷ (b ∷ (c ∷ []))) ≡ stored out 0 (a ∷ (b ∷ (c ∷ words)))
head_over out words a b c long size =
    let head : List ℕ = a ∷ (b ∷ (c ∷ [])) in
    let three : length (take 3 out) ≡ 3 = length-take-le 3 out long in
    let all : length out ≡ 3 + length words = omega (arith, length-drop 3 out, size) in
    sets-eq head (take 3 out ++ words) 0 (omega (arith, length-append (take 3 out) words, three))
    ∙ ap (λ (l : List ℕ). head ++ l) (drop_at (take 3 out) words 3 three)
    ∙ sym (whole out (a ∷ (b ∷ (c ∷ words))) (omega (arith, all)))

-- the part of a slice that the ladders get, as it is lent, and the slice with other words for it
abbrev pub part : List ℕ → List ℕ
part out = take (length out - 3) (drop 3 out)

abbrev pub back : List ℕ → List ℕ → List ℕ
back out ys = take 3 out ++ (ys ++ drop (length out - 3) (drop 3 out))

part_is : (out : List ℕ) → part out ≡ drop 3 out
part_is out = take_all (length out - 3) (drop 3 out) (omega (arith, length-drop 3 out))

back_is : (out ys : List ℕ) → back out ys ≡ take 3 out ++ ys
back_is out ys =
    ap (λ (z : List ℕ). take 3 out ++ (ys ++ z)) (drop_of_length-le (drop 3 out) {i = length out - 3} (omega (arith, length-drop 3 out)))
    ∙ ap (λ (z : List ℕ). take 3 out ++ z) (append-nil ys)

-- the number of how the code's batch closed is that of how it stopped, and it is not refused
pub close_ending : (o : Close) → close_of o ≡ stop_of (closing o)
close_ending Full = refl
close_ending Spent = refl
close_ending End = refl

pub close_accepted : (o : Close) → 0 ≡ refusal_of (closing o)
close_accepted Full = refl
close_accepted Spent = refl
close_accepted End = refl

pub put_batch : (out ys out' : List ℕ) (b : Batch) (stop : ℕ) → 3 ≤ length out → length ys ≡ length (part out) → stop ≡ stop_of b.ending
    → Put (back out ys) 0 (stop ∷ (b.ladders ∷ (b.moves ∷ []))) out' → Put out 0 (batch_words (record { batch = b; words = ys })) out'
put_batch out ys out' b stop long size e p = record {
  words =
      p.words
      ∙ ap₂ (λ (l : List ℕ) (k : ℕ). stored l 0 (k ∷ (b.ladders ∷ (b.moves ∷ [])))) (back_is out ys) e
      ∙ head_over out ys (stop_of b.ending) b.ladders b.moves long (size ∙ ap length (part_is out));
}

-- what the library promises of the part, of the value that the words read as
pub batch_at : (c : Bool) {b : ℕ} {v : Value} {r : Batch} {ys : List ℕ} (out w : List ℕ) → v ≡ value_at (side_word c) w
    → Batched (side_of c) v b (part out) r ys → CarriesBatch (side_of c) v (length (part out)) b → length ys ≡ length (part out)
    → BatchCall (side_of c) (value_at (side_word c) w) b (drop 3 out) (record { batch = r; words = ys })
batch_at c {b} {v} {r} {ys} out w e h calls l =
    subst (λ (u : Value). BatchCall (side_of c) u b (drop 3 out) (record { batch = r; words = ys })) e
    (subst (λ (l : List ℕ). BatchCall (side_of c) v b l (record { batch = r; words = ys })) (part_is out)
    (record { batched = h; calls = calls; long = l }))

-- ---- what is left reads as the batch
ending_back : (e : Ending) → ((n : ℕ) → e ≡ denied n → ⊥) → ending_read (stop_of e) ≡ e
ending_back (denied n) h = absurd (h n refl)
ending_back full h = refl
ending_back used h = refl
ending_back over h = refl

accepted : (e : Ending) → ((n : ℕ) → e ≡ denied n → ⊥) → refusal_of e ≡ 0
accepted (denied n) h = absurd (h n refl)
accepted full h = refl
accepted used h = refl
accepted over h = refl

batch_same : (e f : Ending) (l m : ℕ) (v w : Value) → e ≡ f → v ≡ w
    → ◌≡◌ {A = Batch} (record { ending = e; ladders = l; moves = m; next = v }) (record { ending = f; ladders = l; moves = m; next = w })
batch_same e f l m v w x y = rw (x, y)

module _ (side : Table → Side) (all : Startable side) (n : ℕ) (w : List ℕ) (b : ℕ) (out : List ℕ) where
  abbrev v : Value
  v = value_at n w

  abbrev pub Given : List ℕ → List ℕ → ℕ → Type 0
  Given w' out' r =
      GivesTwo ((length w < 199) ⊎ (length out < 3)) (BatchCall side v b (drop 3 out)) (λ (x : Answered). refusal_of x.batch.ending)
      (λ (x : Answered). value_words n x.batch.next) batch_words w out w' out' r

  -- a batch that was not refused, and the value after it
  record Moved (x : Answered) : Type 0 where
    not_refused : (m : ℕ) → x.batch.ending ≡ denied m → ⊥
    next_held : Held x.batch.next

  abbrev tale : State → Tale
  tale s = batch_on side v (length (drop 3 out)) b s

  abbrev Found : Answered → Type 0
  Found x =
      ((m : ℕ) × ¬ (m ≡ 0) × Denied m (drop 3 out) x.batch x.words)
      ⊎ ((s : State) × (value_refusal side v ≡ 0) × PausedAt side v s × (b ≤ most_budget)
      × Comes v.table v.order v.omit (tale s) (drop 3 out) x.batch x.words)

  found : (x : Answered) → BatchCall side v b (drop 3 out) x → Found x
  found x p =
      batched_cases side v b (drop 3 out) (λ z. all v.table (rows_size 3 w) v.order (numbers_read 67 w).size z) x.batch x.words p.batched

  refuses_none : (x : Answered) (s : State) → b ≤ most_budget → Comes v.table v.order v.omit (tale s) (drop 3 out) x.batch x.words
      → (m : ℕ) → x.batch.ending ≡ denied m → ⊥
  refuses_none x s l c m d =
      not_denied (moves_of v.table (side v.table) (held side v) v.omit) (hand_out (side v.table)) (length (drop 3 out) / v.table.gauges) b s m l
      (sym (ap (λ (y : Batch). y.ending) c.says) ∙ d)

  moved : (x : Answered) → BatchCall side v b (drop 3 out) x → refusal_of x.batch.ending ≡ 0 → Moved x
  moved x p e = go (found x p)
    where
      go : Found x → Moved x
      go (inl (m, z, d)) = absurd (z (sym (ap (λ (y : Batch). refusal_of y.ending) d.says) ∙ e))
      go (inr (s, z, q, l, c)) = record {
        not_refused = refuses_none x s l c;
        next_held =
            subst Held (sym (ap (λ (y : Batch). y.next) c.says))
            (paused-held side all v.table v.order (rows_size 3 w) (numbers_read 67 w) z v.omit (tale s).next
            (batch_reached v.table (side v.table) (held side v) v.omit (length (drop 3 out) / v.table.gauges) b s q.reached));
      }

  -- a refusal leaves the words as they were
  pub batch_kept : (x : Answered) → BatchCall side v b (drop 3 out) x → ¬ (refusal_of x.batch.ending ≡ 0) → back out x.words ≡ out
  batch_kept x p e =
      back_is out x.words ∙ ap (λ (l : List ℕ). take 3 out ++ l) (go (found x p)) ∙ take-append-drop 3 out
    where
      go : Found x → x.words ≡ drop 3 out
      go (inl (m, z, d)) = d.buffer
      go (inr (s, z, q, l, c)) = absurd (e (accepted x.batch.ending (refuses_none x s l c)))

  module _ (w' out' : List ℕ) (r : ℕ) (g : Given w' out' r) where
    long : r ≡ 0 → ¬ ((length w < 199) ⊎ (length out < 3))
    long e s = omega (arith, (g.short s).0)

    pub batch-back : r ≡ 0 → Batched side v b (drop 3 out) (batch_read n w' out') (drop 3 out')
    batch-back e =
        let s : ServedTwo (BatchCall side v b (drop 3 out)) (λ (x : Answered). refusal_of x.batch.ending)
        (λ (x : Answered). value_words n x.batch.next) batch_words w out w' out' r = g.served (long e) in
        let x : Answered = s.answer in
        let m : Moved x = moved x s.promised (sym s.says ∙ e) in
        let words : out' ≡ batch_words x = put x s.promised.long (s.leaves_second ∙ left_zero r (batch_words x) out e) (room-two (long e)) in
        let next : value_at n w' ≡ x.batch.next =
        ap (value_at n) (s.leaves_first ∙ left_zero r (value_words n x.batch.next) w e)
        ∙ value-back n x.batch.next m.next_held w (room-one (long e)) in
        let same : batch_read n w' out' ≡ x.batch =
        ap (λ (l : List ℕ). batch_read n w' l) words
        ∙ batch_same (ending_read (stop_of x.batch.ending)) x.batch.ending x.batch.ladders x.batch.moves (value_at n w') x.batch.next
        (ending_back x.batch.ending m.not_refused) next in
        subst (λ (y : Batch). Batched side v b (drop 3 out) y (drop 3 out')) (sym same)
        (subst (λ (l : List ℕ). Batched side v b (drop 3 out) x.batch (drop 3 l)) (sym words) s.promised.batched)
      where
        room-one : ¬ ((length w < 199) ⊎ (length out < 3)) → 199 ≤ length w
        room-one h = at (dec_lt (length w) 199)
          where
            at : Dec (length w < 199) → 199 ≤ length w
            at (yes z) = absurd (h (inl z))
            at (no z) = omega arith

        room-two : ¬ ((length w < 199) ⊎ (length out < 3)) → 3 ≤ length out
        room-two h = at (dec_lt (length out) 3)
          where
            at : Dec (length out < 3) → 3 ≤ length out
            at (yes z) = absurd (h (inr z))
            at (no z) = omega arith

        put : (x : Answered) → length x.words ≡ length (drop 3 out) → out' ≡ stored out 0 (batch_words x) → 3 ≤ length out → out' ≡ batch_words x
        put x size d l =
            let most : length out ≡ 3 + length x.words = omega (arith, length-drop 3 out, size) in
            d ∙ whole out (batch_words x) (omega (arith, most))

-- ---- the contract
pub lists_of : (side : Table → Side) (all : Startable side) {n : ℕ} {w : List ℕ} {b : ℕ} {out w' out' : List ℕ} {r : ℕ} → Given side all n w b out w' out' r
    → Lists side n w b out w' out' r
lists_of side all {n} {w} {b} {out} {w'} {out'} {r} g = record { gives = g; reads = batch-back side all n w b out w' out' r g }
