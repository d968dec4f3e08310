-- Fewest mechanisms (02, R-7: "For tables up to 8 by 8, find the least number of ladders that together hold every pair; 0 for a table without
-- pairs .. The cover returned is the first of least number in that order .. The budget is 0 to 1,000,000 ladders tried, the number tried over
-- all k is reported, and "spent" is answered exactly when the rule needs more, with the budget as that number and no cover. (18 as before,
-- then 23: G or L above 8, then 24: more than 1,024 ladders.)").
--
-- In order: an answer; the answers that there are, and how the code gives them; which is refused; the answer for a table and a budget (`Covers`).
--
-- Elsewhere: covers, the least number and the first cover, covers/specs/Covers and Fewest, which look at no search; the rule that tells the
-- ladders tried, covers/specs/Searching; that `Covers` can be met for every table and leaves one answer, `covers_some` and `covers_only` in
-- proofs/Answers.antt.
use Rattle.std.specs.Prelude.{◌≡◌, ◌||◌, cond, List, ◌++◌, map, ℕ, ◌-◌, ◌≤◌, ◌<◌, min, eqb, ltb, length, replicate, Result, Ok, Err}
use Rattle.table.specs.declared.Table.{Table}
use Rattle.table.specs.declared.Chain.{Chain}
use Rattle.table.specs.Tables.{table_rows, table_refusal, padded, blank_chain}
use Rattle.refusals.specs.Answers.{number as number_of}
use Rattle.refusals.specs.declared.Refusal.{Refusal}
use Rattle.lists.specs.Lists.{GaugeList}
use Rattle.pairs.specs.PairOrder.{holds, pairs}
use Rattle.covers.specs.Covers.{ChainCover}
use Rattle.covers.specs.Searching.{Outcome, ByRule}
use Rattle.covers.specs.Fewest.{fewest_ladders, FirstLeast}
use Rattle.mechanisms.specs.declared.Fewest.{Fewest}
use Rattle.mechanisms.specs.declared.Fewest.TheVariants.{Covered, Spent}

-- ---- an answer
pub data CoverReply : Type 0 where
  covered : CoverReply
  spent : CoverReply
  refused : ℕ → CoverReply

pub record Reading : Type 0 where
  pub reply : CoverReply
  pub number : ℕ
  pub tried : ℕ
  pub cover : List Chain

-- ---- the answers that there are
-- the places of a cover, all blank
abbrev pub no_chains : List Chain
no_chains = replicate 8 blank_chain

-- "A refusal yields its number and nothing else" (01)
abbrev pub refusal_reading : ℕ → Reading
refusal_reading n = record { reply = refused n; number = 0; tried = 0; cover = no_chains }

-- "with the budget as that number and no cover"
abbrev pub spent_at : ℕ → Reading
spent_at b = record { reply = spent; number = 0; tried = b; cover = no_chains }

-- how the code's answer reads
abbrev pub fewest_says : Fewest → Reading
fewest_says (Covered c) = record { reply = covered; number = c.number; tried = c.tried; cover = c.chains }
fewest_says (Spent tried) = spent_at tried

abbrev pub fewest : Result Fewest Refusal → Reading
fewest (Ok f) = fewest_says f
fewest (Err x) = refusal_reading (number_of x)

-- the least number, the ladders tried, and the cover, each ladder as a chain by rows, with blank chains behind it
abbrev pub chains : Table → List (List ℕ) → List Chain
chains t c = map (λ x. record { gauges = t.gauges; rows = padded x }) c ++ replicate (8 - length c) blank_chain

abbrev pub covered_by : Table → ℕ → ℕ → List (List ℕ) → Reading
covered_by t k tried c = record { reply = covered; number = k; tried = tried; cover = chains t c }

-- ---- which is refused
abbrev pub most_tried : ℕ
most_tried = 1000000

abbrev pub most_side : ℕ
most_side = 8

abbrev pub most_ladders : ℕ
most_ladders = 1024

-- the number of the refusal of the table t, with n ladders, and the budget b, or 0: "18 as before", after the table's checks, then 23, then 24
unfoldable pub refusal_of : Table → ℕ → ℕ → ℕ
refusal_of t b n =
    cond (eqb (table_refusal t) 0)
    (cond (ltb most_tried b) 18 (cond (ltb most_side t.gauges || ltb most_side t.cases) 23 (cond (ltb most_ladders n) 24 0)))
    (table_refusal t)

-- ---- the answer
-- ""spent" is answered exactly when the rule needs more"
unfoldable pub within_budget : Table → ℕ → ℕ → List (List ℕ) → ℕ → Reading
within_budget t b k c tried = cond (ltb b tried) (spent_at b) (covered_by t k tried c)

-- what the rule gives on the table t, whose ladders are xs
abbrev pub by_rule : Table → List (List ℕ) → Outcome (List ℕ)
by_rule t xs = fewest_ladders t.cases (table_rows t) xs

-- r is the answer for the table t, whose ladders are xs, and the budget b, where nothing is refused
pub record Searched (t : Table) (b : ℕ) (xs : List (List ℕ)) (r : Reading) : Type 0 where
  pub number : ℕ
  pub cover : List (List ℕ)
  -- the least number, and the first cover of that number
  pub first : FirstLeast t.cases (table_rows t) number cover
  -- "no cover by any chains, ladders or not, is smaller"
  pub none_smaller : (ys : List (List ℕ)) → ChainCover (table_rows t) ys → number ≤ length ys
  -- so the cover has its place among 8 chains
  pub few : number ≤ min t.gauges t.cases
  -- "the number tried over all k": the rule finds this cover at k = number and at no smaller one, and counts all that it tries up to there
  pub rule : ByRule holds xs (pairs t.cases (table_rows t)) number cover (by_rule t xs)
  pub says : r ≡ within_budget t b number cover (by_rule t xs).tried

-- r is the answer for the table t and the budget b
pub record Covers (t : Table) (b : ℕ) (r : Reading) : Type 0 where
  pub ladders : List (List ℕ)
  pub listed : GaugeList t ladders
  pub refuses : 0 < refusal_of t b (length ladders) → r ≡ refusal_reading (refusal_of t b (length ladders))
  pub searches : refusal_of t b (length ladders) ≡ 0 → Searched t b ladders r
