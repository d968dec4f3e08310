-- `Filled` can be met for every value, of 64 rows and 64 numbers as the code's are, and every buffer (`filled_exists`), and leaves one answer and one
-- buffer (`filled_unique`); no two answers of the code read alike (`filling_injective`); and the longest file is attained (`longest_attained`).
--
-- In order: the calls of a block are so many and no other number (`fills_unique`), and there is such a number (`fills_exist`): the least at which they
-- stop; then `Filled`, the answers of the code, and the longest file. Elsewhere: whether a value is the paused value of a reached state is decided by
-- `paused_decided`, runs/proofs/Deciding.antt.
use Rattle.std.specs.Prelude.{Result, Ok, Err}
use Rattle.refusals.specs.declared.Refusal.{Refusal}
use mathlib.Core.Path.{◌≡◌, refl, sym, ap, ap₂, ◌∙◌, subst}
use mathlib.Core.Logic.{◌⊎◌, inl, inr}
use mathlib.Core.Bool.{Bool, true, Bool-discrete}
use mathlib.Core.List.{List, ◌++◌}
use Prim.Native.Nat.{ℕ, zero, suc, ◌+◌, ◌<◌}
use native.Mathlib.Nat.{add-zero}
use native.Mathlib.Decide.{ℕ_discrete, dec_lt}
use native.Mathlib.Omega.{arith}
use lib.ListN.{length, drop}
use Rattle.table.specs.declared.Table.{Table}
use Rattle.refusals.proofs.Answering.{number_injective, number_pos}
use Rattle.rules.specs.Machine.{State}
use Rattle.lists.specs.Lists.{gauge_side}
use Rattle.runs.specs.Paused.{Value, paused}
use Rattle.runs.specs.Calling.{value_refusal, PausedAt}
use Rattle.table.specs.declared.Gauge.{Gauge}
use Rattle.runs.specs.declared.paused.Run.{Run}
use Rattle.runs.proofs.Readings.{gauge_value_injective}
use Rattle.runs.proofs.Answered.{paused_state}
use Rattle.runs.proofs.Deciding.{paused_decided}
use Rattle.runs.proofs.Demands.{Started}
use Rattle.runs.proofs.Starting.{gauge_started}
use Rattle.file_writer.specs.Writing.{write_file}
use Rattle.file_writer.proofs.Sizes.{full_table, full_length}
use Rattle.blocks.specs.declared.Block.{Block}
use Rattle.blocks.specs.Filling.{longest, Filling, block, calls, after, text, is_end, is_none, has, Untouched, Stops, Fills, Filled}
use Rattle.blocks.proofs.Calls.{calls_stop_at}
use Rattle.blocks.proofs.Fillings.{refusing}

-- ---- the calls of a block
module _ (t : Table) (order : List ℕ) (omit : Bool) (s : State) (before : List ℕ) where
  filling_same : (f g : Filling) → f.refusal ≡ g.refusal → f.value ≡ g.value → f.used ≡ g.used → f.over ≡ g.over → f ≡ g
  filling_same f g a b c d = go f.refusal g.refusal f.value g.value f.used g.used f.over g.over a b c d
    where
      go : (n m : ℕ) (v w : Value) (i j : ℕ) (o p : Bool) → n ≡ m → v ≡ w → i ≡ j → o ≡ p
          → ◌≡◌ {A = Filling} (record { refusal = n; value = v; used = i; over = o }) (record { refusal = m; value = w; used = j; over = p })
      go n m v w i j o p a b c d = rw (a, b, c, d)

  fills_unique : (f g : Filling) (x y : List ℕ) → Fills t order omit s before f x → Fills t order omit s before g y → (f ≡ g) × (x ≡ y)
  fills_unique f g x y a b = (
    filling_same f g (a.accepted ∙ sym b.accepted) (a.value ∙ ap (λ (n : ℕ). paused t order omit (after t order omit n s)) same ∙ sym b.value) used
        (a.over ∙ ap (λ (n : ℕ). has is_end (calls t order omit n s)) same ∙ sym b.over),
    a.bytes ∙ ap₂ (λ (n k : ℕ). text t order omit n s ++ drop k before) same used ∙ sym b.bytes,
  )
    where
      go : Dec (a.count < b.count) → Dec (b.count < a.count) → a.count ≡ b.count
      go (yes l) d = absurd (b.sooner a.count l a.stops)
      go (no l) (yes m) = absurd (a.sooner b.count m b.stops)
      go (no l) (no m) = omega arith

      same : a.count ≡ b.count
      same = go (dec_lt a.count b.count) (dec_lt b.count a.count)

      used : f.used ≡ g.used
      used = a.used ∙ ap (λ (n : ℕ). length (text t order omit n s)) same ∙ sym b.used

  is_stop : (n : ℕ) → Dec (Stops t order omit s (length before) n)
  is_stop n = go (Bool-discrete (has is_none (calls t order omit n s)) true) (dec_lt (length before) (length (text t order omit n s) + longest))
    where
      neither : ¬ (has is_none (calls t order omit n s) ≡ true) → ¬ (length before < length (text t order omit n s) + longest)
          → ¬ Stops t order omit s (length before) n
      neither e l (inl h) = e h
      neither e l (inr h) = l h

      go : Dec (has is_none (calls t order omit n s) ≡ true) → Dec (length before < length (text t order omit n s) + longest)
          → Dec (Stops t order omit s (length before) n)
      go (yes e) d = yes (inl e)
      go (no e) (yes l) = yes (inr l)
      go (no e) (no l) = no (neither e l)

  -- the least number from k on at which they stop
  least : (fuel k : ℕ) → ((j : ℕ) → j < k → ¬ Stops t order omit s (length before) j) → Stops t order omit s (length before) (k + fuel)
      → (n : ℕ) × Stops t order omit s (length before) n × ((j : ℕ) → j < n → ¬ Stops t order omit s (length before) j)
  least zero k low h = (k, subst (Stops t order omit s (length before)) (add-zero k) h, low)
  least (suc fuel) k low h = go (is_stop k) (least fuel (suc k))
    where
      lower : ¬ Stops t order omit s (length before) k → (j : ℕ) → j < suc k → Dec (j ≡ k) → ¬ Stops t order omit s (length before) j
      lower n j l (yes e) = subst (λ (i : ℕ). ¬ Stops t order omit s (length before) i) (sym e) n
      lower n j l (no e) = low j (omega arith)

      go : Dec (Stops t order omit s (length before) k)
          → (((j : ℕ) → j < suc k → ¬ Stops t order omit s (length before) j) → Stops t order omit s (length before) (suc k + fuel)
          → (n : ℕ) × Stops t order omit s (length before) n × ((j : ℕ) → j < n → ¬ Stops t order omit s (length before) j))
          → (n : ℕ) × Stops t order omit s (length before) n × ((j : ℕ) → j < n → ¬ Stops t order omit s (length before) j)
      go (yes z) more = (k, z, low)
      go (no z) more =
          let e : k + suc fuel ≡ suc k + fuel = omega arith in
          more (λ j l. lower z j l (ℕ_discrete j k)) (subst (Stops t order omit s (length before)) e h)

  fills_exist : (f : Filling) × (now : List ℕ) × Fills t order omit s before f now
  fills_exist =
      let at : length before ≡ 0 + length before = omega arith in
      let (n, z, low) =
      least (length before) 0 (λ j k. absurd (omega arith)) (subst (Stops t order omit s (length before)) at (calls_stop_at t order omit (length before) s)) in
      let f : Filling =
      record {
        refusal = 0;
        value = paused t order omit (after t order omit n s);
        used = length (text t order omit n s);
        over = has is_end (calls t order omit n s);
      } in (
        f,
        text t order omit n s ++ drop f.used before,
        record { accepted = refl; count = n; stops = z; sooner = λ j l. low j (omega arith); used = refl; bytes = refl; value = refl; over = refl },
      )

-- ---- one answer, for every value and every buffer
untouched_unique : (n : ℕ) (before : List ℕ) (f g : Filling) (x y : List ℕ) → Untouched n before f x → Untouched n before g y → (f ≡ g) × (x ≡ y)
untouched_unique n before f g x y a b = (a.says ∙ sym b.says, a.buffer ∙ sym b.buffer)

module _ (v : Value) (rows : length v.table.rows ≡ 64) (long : length v.order ≡ 64) where
  -- what a value that 10, 11 and 27 do not refuse comes with
  starts : value_refusal gauge_side v ≡ 0 → Started gauge_side v.table v.order
  starts ok = gauge_started v.table rows v.order long ok

  pub filled_unique : (before : List ℕ) (f g : Filling) (x y : List ℕ) → Filled v before f x → Filled v before g y → (f ≡ g) × (x ≡ y)
  filled_unique before f g x y a b = go (ℕ_discrete (value_refusal gauge_side v) 0) (dec_lt (length before) longest)
    where
      by_state : value_refusal gauge_side v ≡ 0 → Dec (length before < longest)
          → ((s : State) × PausedAt gauge_side v s) ⊎ ((s : State) → PausedAt gauge_side v s → ⊥) → (f ≡ g) × (x ≡ y)
      by_state z l (inr n) = untouched_unique 15 before f g x y (a.value z n) (b.value z n)
      by_state z (yes l) (inl (s, p)) = untouched_unique 16 before f g x y (a.short z s p l) (b.short z s p l)
      by_state z (no l) (inl (s, p)) =
          fills_unique v.table v.order v.omit s before f g x y (a.fills z s p (omega arith)) (b.fills z s p (omega arith))

      go : Dec (value_refusal gauge_side v ≡ 0) → Dec (length before < longest) → (f ≡ g) × (x ≡ y)
      go (no z) l = untouched_unique _ before f g x y (a.table (omega (arith, z))) (b.table (omega (arith, z)))
      go (yes z) l = by_state z l (paused_decided gauge_side v (starts z))

  pub filled_exists : (before : List ℕ) → (f : Filling) × (now : List ℕ) × Filled v before f now
  filled_exists before = go (ℕ_discrete (value_refusal gauge_side v) 0) (dec_lt (length before) longest)
    where
      untouched : (n : ℕ) → Untouched n before (refusing n) before
      untouched n = record { says = refl; buffer = refl }

      by_state : value_refusal gauge_side v ≡ 0 → Dec (length before < longest)
          → ((s : State) × PausedAt gauge_side v s) ⊎ ((s : State) → PausedAt gauge_side v s → ⊥) → (f : Filling) × (now : List ℕ) × Filled v before f now
      by_state z l (inr n) = (
        refusing 15,
        before,
        record {
          table = λ h. absurd (omega arith);
          value = λ e h. untouched 15;
          short = λ e s p. absurd (n s p);
          fills = λ e s p. absurd (n s p);
        },
      )
      by_state z (yes l) (inl (s, p)) = (
        refusing 16,
        before,
        record {
          table = λ h. absurd (omega arith);
          value = λ e h. absurd (h s p);
          short = λ e x q h. untouched 16;
          fills = λ e x q h. absurd (omega arith);
        },
      )
      by_state z (no l) (inl (s, p)) =
          let (f, now, h) = fills_exist v.table v.order v.omit s before in (
            f,
            now,
            record {
              table = λ k. absurd (omega arith);
              value = λ e k. absurd (k s p);
              short = λ e x q k. absurd (omega arith);
              fills = λ e x q k. subst (λ (y : State). Fills v.table v.order v.omit y before f now)
                  (paused_state v.table v.order v.omit s x (sym p.stands ∙ q.stands)) h;
            },
          )

      go : Dec (value_refusal gauge_side v ≡ 0) → Dec (length before < longest) → (f : Filling) × (now : List ℕ) × Filled v before f now
      go (no z) l = (
        refusing (value_refusal gauge_side v),
        before,
        record {
          table = λ h. untouched (value_refusal gauge_side v);
          value = λ e. absurd (z e);
          short = λ e. absurd (z e);
          fills = λ e. absurd (z e);
        },
      )
      go (yes z) l = by_state z l (paused_decided gauge_side v (starts z))

-- ---- no two answers read alike
pub filling_injective : (a b : Result Block Refusal) → block a ≡ block b → a ≡ b
filling_injective (Ok a) (Ok b) e =
    ap Ok
    (go a.run b.run a.used b.used a.over b.over (gauge_value_injective a.run b.run (ap (λ (f : Filling). f.value) e))
    (ap (λ (f : Filling). f.used) e) (ap (λ (f : Filling). f.over) e))
  where
    go : (v w : Run Gauge) (i j : ℕ) (o p : Bool) → v ≡ w → i ≡ j → o ≡ p
        → ◌≡◌ {A = Block} (record { run = v; used = i; over = o }) (record { run = w; used = j; over = p })
    go v w i j o p b c d = rw (b, c, d)
filling_injective (Ok a) (Err y) e = absurd (omega (arith, ap (λ (f : Filling). f.refusal) e, number_pos y))
filling_injective (Err x) (Ok b) e = absurd (omega (arith, ap (λ (f : Filling). f.refusal) e, number_pos x))
filling_injective (Err x) (Err y) e = ap Err (number_injective x y (ap (λ (f : Filling). f.refusal) e))

-- ---- the longest file is that of the full table
pub longest_attained : length (write_file full_table) ≡ longest
longest_attained = full_length
