-- Why a pair is left out (02, R-6: "For a table pair outside the ladder, name the first picked gauge whose table row
-- lacks that case; in a case run, the first picked case that the pair's gauge does not respond under"). *Ladder* is
-- 02's word for a maximal chain; that of a paused value whose phase is Handed is the chain of its picks, `hand_out` of
-- crate `lists`, by gauge rows. Picks are given by number here, in the order of the picks.
--
-- In order: the question as each side puts it; the pick named; what the entries answer (`Explained`); the claim of
-- R-6 on the picks before the pair's own (`Reasoned`), which each entry promises of the ladder that it is asked about
-- (`HasReasons`); how an answer reads.
--
-- Elsewhere: that `Explained` leaves one answer and can be met, `explained_unique` and `explained_made` in
-- proofs/Answers.antt; the claim, `reasoned` in proofs/Reasoning.antt.
use Rattle.std.specs.Prelude.{◌≡◌, Bool, true, false, cond, ℕ, suc, ◌<◌, eqb, Result, Ok, Err}
use mathlib.Core.List.{List, [], ◌∷◌, ◌++◌, map, Memᴰ}
use Rattle.table.specs.declared.Table.{Table}
use Rattle.table.specs.Pairs.{Has}
use Rattle.table.specs.Tables.{table_rows}
use Rattle.refusals.specs.Answers.{Answer, answer, number}
use Rattle.rules.specs.Machine.{Handed, at}
use Rattle.lists.specs.Lists.{Side}
use Rattle.lists.specs.OnTable.{hand_out}
use Rattle.conflicts.specs.Tests.{has_pair}
use Rattle.essentials.specs.Answers.{pair_refusal}
use Rattle.runs.specs.Paused.{Value}
use Rattle.runs.specs.Calling.{value_refusal, PausedAt}
use Rattle.refusals.specs.declared.Refusal.{Refusal}

-- ---- the question
-- a pair as a side's run is asked about it: its own number on that side, and whether a pick has the pair's other
-- number in the table
pub record Question : Type 0 where
  pub own : ℕ
  pub meets : ℕ → Bool

-- of the pair g:c of the table t in a gauge run: its own gauge; a picked gauge's "table row" has "that case"
abbrev pub gauge_question : Table → ℕ → ℕ → Question
gauge_question t g c = record { own = g; meets = λ x. has_pair (table_rows t) x c }

-- in a case run: its own case; "the pair's gauge" responds under a picked case
abbrev pub case_question : Table → ℕ → ℕ → Question
case_question t g c = record { own = c; meets = λ x. has_pair (table_rows t) g x }

-- by the mark of a side (`side_of`, runs/specs/Sides)
abbrev pub question_of : Bool → Table → ℕ → ℕ → Question
question_of false = gauge_question
question_of true = case_question

-- ---- the pick named
-- the first of the picks that lacks the pair's other number; 0, which is no number, where there is none
unfoldable pub first_lacking : (ℕ → Bool) → List ℕ → ℕ
first_lacking meets [] = 0
first_lacking meets (x ∷ p) = cond (meets x) (first_lacking meets p) x

-- the same as a statement: x lacks it, and none of the picks before it does
pub record IsFirstLacking (meets : ℕ → Bool) (p : List ℕ) (x : ℕ) : Type 0 where
  pub sooner : List ℕ
  pub later : List ℕ
  pub picked : p ≡ sooner ++ (x ∷ later)
  pub lacks : meets x ≡ false
  pub none : (y : ℕ) → Memᴰ y sooner → meets y ≡ true

-- ---- the answer
-- the number for the pair g:c after the value, or 0, in the run of the side s whose picks are p: "then 19 if the pair
-- is not in the table, then 22: the pair is in the ladder"
unfoldable pub reason_refusal : Table → Side → List ℕ → ℕ → ℕ → ℕ
reason_refusal t s p g c = cond (eqb (pair_refusal t g c) 0) (cond (has_pair (hand_out s p) g c) 22 0) (pair_refusal t g c)

-- "A refusal yields its number and nothing else": no pick
abbrev pub no_pick : ℕ → Answer ℕ
no_pick n = record { refusal = n; value = 0 }

-- a answers the question why the pair g:c is not in the ladder of the value v: 10 and 11 for the table, and right
-- after them 27 for the preference that it keeps (R-12); then 15 for a value that no number of moves leads to, "also
-- for another phase"; then 19 and 22; and else the first pick that lacks the pair's other number: by the run's own
-- picks, in their own order
pub record Explained (side : Table → Side) (question : Table → ℕ → ℕ → Question) (v : Value) (g c : ℕ) (a : Answer ℕ) : Type 0 where
  pub table : 0 < value_refusal side v → a ≡ no_pick (value_refusal side v)
  pub value : value_refusal side v ≡ 0 → ((p : List ℕ) → PausedAt side v (at p Handed) → ⊥) → a ≡ no_pick 15
  pub pick : value_refusal side v ≡ 0 → (p : List ℕ) → PausedAt side v (at p Handed)
      → a ≡ answer (reason_refusal v.table (side v.table) p g c) (first_lacking (question v.table g c).meets (map suc p)) 0

-- ---- the claim
-- "the picks made before the pair's own gauge .., or .. all picks if that was never picked"
unfoldable pub made_before : ℕ → List ℕ → List ℕ
made_before own [] = []
made_before own (x ∷ p) = cond (eqb own x) [] (x ∷ made_before own p)

-- of the pair g:c and the ladder that the side s hands out for the picks p: among the picks made before the pair's
-- own, "such a pick exists for every pair left out and for no pair kept"; and the pick named is the first such among
-- all picks
pub record Reasoned (t : Table) (s : Side) (q : Question) (g c : ℕ) (p : List ℕ) : Type 0 where
  pub left_out : Has (table_rows t) g c → ¬ Has (hand_out s p) g c → (x : ℕ) × Memᴰ x (made_before q.own (map suc p)) × (q.meets x ≡ false)
  pub kept : Has (hand_out s p) g c → (x : ℕ) → Memᴰ x (made_before q.own (map suc p)) → q.meets x ≡ true
  pub named : Has (table_rows t) g c → ¬ Has (hand_out s p) g c → IsFirstLacking q.meets (map suc p) (first_lacking q.meets (map suc p))

-- of every pair, and the ladder of the value v
abbrev pub HasReasons : (Table → Side) → (Table → ℕ → ℕ → Question) → Value → Type 0
HasReasons side question v =
    value_refusal side v ≡ 0 → (p : List ℕ) → PausedAt side v (at p Handed) → (g c : ℕ)
    → Reasoned v.table (side v.table) (question v.table g c) g c p

-- ---- how an answer reads, by the numbers of its side: 01's number, 0 where nothing is refused, and the pick's number
abbrev pub reason_of : {S : Type 0} → (S → ℕ) → Result S Refusal → Answer ℕ
reason_of n (Ok x) = record { refusal = 0; value = n x }
reason_of n (Err why) = no_pick (number why)
