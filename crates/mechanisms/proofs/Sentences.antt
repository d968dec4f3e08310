-- What a reader finds in the promise of R-7, sentence by sentence, where nothing is refused: "spent" exactly when the rule needs more than the budget
-- (`spent_exactly`); and of an answer that covers, its number is the least, by any chains (`covered-least`), its cover the first of that number
-- (`covered-first`), and its ladders tried are those of all k (`covered-tried`). That one answer is left: `covers_only`, Answers.antt.
use mathlib.Core.Path.{◌≡◌, sym, ap, ◌∙◌, subst}
use mathlib.Core.Logic.{◌⊎◌, inl, inr, ◌↔◌}
use mathlib.Core.Option.{none}
use mathlib.Core.List.{List}
use Prim.Native.Nat.{ℕ, suc, ◌≤◌, ◌<◌, min}
use native.Mathlib.Decide.{dec_lt}
use native.Mathlib.Omega.{arith}
use lib.ListN.{length}
use Rattle.basics.proofs.Clash.{clash}
use Rattle.table.specs.declared.Table.{Table}
use Rattle.table.specs.Tables.{table_rows}
use Rattle.lists.specs.Lists.{Precedes}
use Rattle.conflicts.specs.Covers.{Cover}
use Rattle.pairs.specs.PairOrder.{Pair, holds, pairs}
use Rattle.covers.specs.Covers.{ChainCover, LeastNumber}
use Rattle.covers.specs.Searching.{Outcome, search, tried_below, Arranged, Ahead}
use Rattle.mechanisms.specs.Covering.{covered, spent, Reading, spent_at, chains, covered_by, by_rule, Searched}
use Rattle.mechanisms.proofs.Searching.{within_over, within_whole}

apart : covered ≡ spent → ⊥
apart e = clash cc

module _ (t : Table) (b : ℕ) (xs : List (List ℕ)) (r : Reading) (s : Searched t b xs r) where
  abbrev all : List Pair
  all = pairs t.cases (table_rows t)

  abbrev needed : ℕ
  needed = (by_rule t xs).tried

  abbrev whole : Reading
  whole = covered_by t s.number needed s.cover

  by_budget : ((b < needed) × (r ≡ spent_at b)) ⊎ ((needed ≤ b) × (r ≡ whole))
  by_budget = go (dec_lt b needed)
    where
      go : Dec (b < needed) → ((b < needed) × (r ≡ spent_at b)) ⊎ ((needed ≤ b) × (r ≡ whole))
      go (yes l) = inl (l, s.says ∙ within_over t b s.number s.cover needed l)
      go (no l) = inr (omega arith, s.says ∙ within_whole t b s.number s.cover needed (omega arith))

  -- ""spent" is answered exactly when the rule needs more, with the budget as that number and no cover"
  pub spent_exactly : (r ≡ spent_at b) ↔ (b < (by_rule t xs).tried)
  spent_exactly = (λ e. more e by_budget, λ l. over l by_budget)
    where
      more : r ≡ spent_at b → ((b < needed) × (r ≡ spent_at b)) ⊎ ((needed ≤ b) × (r ≡ whole)) → b < needed
      more e (inl x) = x.0
      more e (inr x) = absurd (apart (ap (λ (y : Reading). y.reply) (sym x.1 ∙ e)))

      over : b < needed → ((b < needed) × (r ≡ spent_at b)) ⊎ ((needed ≤ b) × (r ≡ whole)) → r ≡ spent_at b
      over l (inl x) = x.1
      over l (inr x) = absurd (omega (arith, x.0))

  module _ (c : r.reply ≡ covered) where
    is_whole : r ≡ whole
    is_whole = go by_budget
      where
        go : ((b < needed) × (r ≡ spent_at b)) ⊎ ((needed ≤ b) × (r ≡ whole)) → r ≡ whole
        go (inl x) = absurd (apart (sym c ∙ ap (λ (y : Reading). y.reply) x.1))
        go (inr x) = x.1

    same : s.number ≡ r.number
    same = ap (λ (y : Reading). y.number) (sym is_whole)

    -- "the least number of ladders that together hold every pair"; "no cover by any chains, ladders or not, is smaller"; it is at most min G L
    pub covered-least : LeastNumber (table_rows t) r.number × ((ys : List (List ℕ)) → ChainCover (table_rows t) ys → r.number ≤ length ys)
        × (r.number ≤ min t.gauges t.cases)
    covered-least =
        (subst (LeastNumber (table_rows t)) same s.first.least, λ ys h. omega (arith, same, s.none_smaller ys h), omega (arith, same, s.few))

    -- "The cover returned is the first of least number in that order"
    pub covered-first : (d : List (List ℕ)) × (r.cover ≡ chains t d) × (length d ≡ r.number) × Cover (table_rows t) d × Arranged holds all d
        × ((e : List (List ℕ)) → Cover (table_rows t) e → length e ≡ r.number → Arranged holds all e → (d ≡ e) ⊎ Ahead Precedes d e)
    covered-first = (
      s.cover,
      ap (λ (y : Reading). y.cover) is_whole,
      s.first.number ∙ same,
      s.first.covers,
      s.first.arranged,
      λ e h n a. s.first.first e h (n ∙ sym same) a,
    )

    -- "the number tried over all k is reported": all that is tried up to the least number, and at no smaller k was there a cover
    pub covered-tried : (r.tried ≡ tried_below holds xs all (suc r.number)) × ((j : ℕ) → j < r.number → (search holds xs j all).cover ≡ none)
    covered-tried = (
      ap (λ (y : Reading). y.tried) is_whole ∙ ap (λ (o : Outcome (List ℕ)). o.tried) s.rule.outcome
          ∙ ap (λ (k : ℕ). tried_below holds xs all (suc k)) same,
      λ j l. s.rule.not_before j (omega (arith, same)),
    )
