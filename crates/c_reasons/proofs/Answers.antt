-- What the entries give that ask why a pair is left out is there for every input (`explains_gauge`, `explains_case`), and is one thing only
-- (`explains_unique`, of either side); with slices no longer than their layouts it is the library's answer (`explains_served`).
--
-- Elsewhere: what holds of every entry, words/proofs/Answers; one answer of the library's own functions, `explained_unique` in explain/proofs/Answers.
use mathlib.Core.Path.{◌≡◌, refl, ap}
use mathlib.Core.Logic.{◌⊎◌}
use mathlib.Core.List.{List, [], ◌∷◌, map}
use Prim.Native.Nat.{ℕ, suc, ◌≤◌, ◌<◌}
use native.Mathlib.Decide.{ℕ_discrete}
use native.Mathlib.Omega.{arith}
use lib.ListN.{length}
use Rattle.refusals.specs.Answers.{Answer, answer}
use Rattle.table.specs.declared.Table.{Table}
use Rattle.rules.specs.Machine.{Handed, at}
use Rattle.lists.specs.Lists.{Side, gauge_side, case_side}
use Rattle.runs.specs.Paused.{Value}
use Rattle.runs.specs.Calling.{value_refusal, PausedAt}
use Rattle.runs.proofs.Demands.{Starts, StartsAll}
use Rattle.runs.proofs.Starting.{gauge_started, case_started}
use Rattle.explain.specs.Reasons.{Question, gauge_question, case_question, first_lacking, reason_refusal, no_pick, Explained, Reasoned}
use Rattle.explain.proofs.Answers.{explained_unique}
use Rattle.words.specs.Layouts.{table_at, numbers_at}
use Rattle.words.specs.Serving.{words_after}
use Rattle.words.proofs.Serving.{long_two}
use Rattle.words.proofs.Answers.{short_dec, or_dec, gives_is, gives_exists, gives_unique}
use Rattle.words.proofs.Back.{rows_size, numbers_size}
use Rattle.run_words.specs.Values.{value_at}
use Rattle.c_reasons.specs.Serving.{Explains, ClaimsReasons}
use Rattle.c_reasons.proofs.Deciding.{picks_one, handed_decided}

-- ---- an answer for every value
module _ (side : Table → Side) (question : Table → ℕ → ℕ → Question) (v : Value) (g c : ℕ) (starts : Starts side v) where
  named : List ℕ → Answer ℕ
  named p = answer (reason_refusal v.table (side v.table) p g c) (first_lacking (question v.table g c).meets (map suc p)) 0

  explained_some : (a : Answer ℕ) × Explained side question v g c a
  unfolding named
  explained_some = go (ℕ_discrete (value_refusal side v) 0)
    where
      stands : value_refusal side v ≡ 0 → Dec ((p : List ℕ) × PausedAt side v (at p Handed)) → (a : Answer ℕ) × Explained side question v g c a
      stands z (yes (p, h)) = (
        named p,
        record {
          table = λ l. absurd (omega arith);
          value = λ _ none. absurd (none p h);
          pick = λ _ q k. ap named (picks_one side v p q h k);
        },
      )
      stands z (no n) = (
        no_pick 15,
        record { table = λ l. absurd (omega arith); value = λ _ _. refl; pick = λ _ q k. absurd (n (q, k)) },
      )

      go : Dec (value_refusal side v ≡ 0) → (a : Answer ℕ) × Explained side question v g c a
      go (yes z) = stands z (handed_decided side v (starts z))
      go (no z) = (no_pick (value_refusal side v), record { table = λ _. refl; value = λ y. absurd (z y); pick = λ y. absurd (z y) })

-- ---- the entries
module _ (side : Table → Side) (question : Table → ℕ → ℕ → Question) (n : ℕ) (w : List ℕ) (g c : ℕ) (out : List ℕ) where
  reason_dec : Dec ((length w < 199) ⊎ (length out < 1))
  reason_dec = or_dec (short_dec w 199) (short_dec out 1)

  pub explains_unique : (a b : List ℕ) (r q : ℕ) → Explains side question n w g c out a r → Explains side question n w g c out b q → (a ≡ b) × (r ≡ q)
  explains_unique = gives_unique out reason_dec (explained_unique side question (value_at n w) g c)

  -- 199 and 1 words are enough: it is the number and the pick of the library's answer
  pub explains_served : 199 ≤ length w → 1 ≤ length out → (a : Answer ℕ) → Explained side question (value_at n w) g c a → (out' : List ℕ) (r : ℕ)
      → Explains side question n w g c out out' r → (r ≡ a.refusal) × (out' ≡ words_after a.refusal (a.value ∷ []) out)
  explains_served lw lo = gives_is out (explained_unique side question (value_at n w) g c) (long_two lw lo)

  explains_some : StartsAll side (table_at 1 w) → (out' : List ℕ) × (r : ℕ) × Explains side question n w g c out out' r
  explains_some all =
      let (a, p) = explained_some side question (value_at n w) g c (all (numbers_at 67 w) (numbers_size 67 w)) in gives_exists out reason_dec a p

pub explains_gauge : (w : List ℕ) (g c : ℕ) (out : List ℕ) → (out' : List ℕ) × (r : ℕ) × Explains gauge_side gauge_question 1 w g c out out' r
explains_gauge w g c out = explains_some gauge_side gauge_question 1 w g c out (gauge_started (table_at 1 w) (rows_size 3 w))

pub explains_case : (w : List ℕ) (g c : ℕ) (out : List ℕ) → (out' : List ℕ) × (r : ℕ) × Explains case_side case_question 2 w g c out out' r
explains_case w g c out = explains_some case_side case_question 2 w g c out (case_started (table_at 1 w) (rows_size 3 w))

-- ---- what both entries claim, put to use: of the value that the words read as
pub reasons_used : (side : Table → Side) (question : Table → ℕ → ℕ → Question) (n : ℕ) (w : List ℕ) → ClaimsReasons side question n w
    → value_refusal side (value_at n w) ≡ 0 → (p : List ℕ) → PausedAt side (value_at n w) (at p Handed) → (g c : ℕ)
    → Reasoned (table_at 1 w) (side (table_at 1 w)) (question (table_at 1 w) g c) g c p
reasons_used side question n w h = h
