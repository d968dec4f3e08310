-- The count of a table's ladders (02, R-4: "one call for each pick sequence the rules can reach, the empty one included .. the answer is the
-- ladder count and the calls, and the count is the length of the gauge run's list. "Spent" is answered exactly when the table has more such
-- sequences than the budget, with the budget as the calls and no count"), under a preference (R-12: "a count .. now take a preference"). The list is
-- the gauge list under it, `PreferredList` of crate `lists`, which looks at no run. That `Counts` leaves one answer for every table, preference and
-- budget is `counts_some` in proofs/Answers.antt and `counts_only` in proofs/Laws.antt.
use Rattle.std.specs.Prelude.{◌≡◌, ◌↔◌, ◌≢◌, cond, ℕ, ◌<◌, leb, ltb, length, Result, Ok, Err}
use mathlib.Core.List.{List, Memᴰ}
use Rattle.table.specs.declared.Table.{Table}
use Rattle.refusals.specs.Answers.{number}
use Rattle.refusals.specs.declared.Refusal.{Refusal}
use Rattle.rules.specs.Sequences.{Sorted}
use Rattle.rules.specs.Machine.{Phase, at}
use Rattle.lists.specs.Lists.{Side, gauge_side, PreferredList}
use Rattle.lists.specs.OnTable.{ReachedOn}
use Rattle.preference.specs.Preferences.{preferred_refusal, order_of}
use Rattle.count.specs.declared.Count.{Count}
use Rattle.count.specs.declared.Count.TheVariants.{Counted, Spent}

-- 02's answers: the number of a refusal; spent, with the calls; the count of ladders, with the calls
pub data CountAnswer : Type 0 where
  refused : ℕ → CountAnswer
  spent : ℕ → CountAnswer
  counted : ℕ → ℕ → CountAnswer

-- how the code's answer reads
abbrev pub count_says : Result Count Refusal → CountAnswer
count_says (Ok (Counted x)) = counted x.ladders x.calls
count_says (Ok (Spent calls)) = spent calls
count_says (Err x) = refused (number x)

-- p is the picks of some state of the side s, under the preference o, that some number of moves, 0 included, from a fresh start leads to
pub record ReachedPicks (s : Side) (o p : List ℕ) : Type 0 where
  pub phase : Phase
  pub reached : ReachedOn s o (at p phase)

-- the pick sequences that the rules can reach, each once
pub record PickSequences (s : Side) (o : List ℕ) (ps : List (List ℕ)) : Type 0 where
  pub once : Sorted (λ (p q : List ℕ). p ≢ q) ps
  pub members : (p : List ℕ) → Memᴰ p ps ↔ ReachedPicks s o p

-- "The budget is 0 to 1,000,000 calls"
abbrev pub most_calls : ℕ
most_calls = 1000000

-- the answer that is due for the budget b, where there are so many ladders and so many sequences: "A budget above 1,000,000 gets 18, after the
-- table's checks"
unfoldable pub due_answer : ℕ → ℕ → ℕ → CountAnswer
due_answer b ladders sequences = cond (ltb most_calls b) (refused 18) (cond (leb sequences b) (counted ladders sequences) (spent b))

-- a is the answer for the table t under the preference o, with the budget b
pub record CountsBy (t : Table) (o : List ℕ) (b : ℕ) (a : CountAnswer) : Type 0 where
  pub ladders : List (List ℕ)
  pub listed : PreferredList t (gauge_side t) o ladders
  pub sequences : List (List ℕ)
  pub reached : PickSequences (gauge_side t) o sequences
  pub says : a ≡ due_answer b (length ladders) (length sequences)

-- a is the answer for the table t, the 64 numbers k of a preference and the budget b: 10 and 11, then 27, "right after the table's checks, before all
-- others" (R-12), and else the count
pub record Counts (t : Table) (k : List ℕ) (b : ℕ) (a : CountAnswer) : Type 0 where
  pub refusal : 0 < preferred_refusal t t.gauges k → a ≡ refused (preferred_refusal t t.gauges k)
  pub count : preferred_refusal t t.gauges k ≡ 0 → CountsBy t (order_of t.gauges k) b a
