-- What a caller reads off the promise, sentence by sentence (specs/Serving; 02, R-7).
--
-- In order: the number, 100 where a slice is too short (`covers_100`), else "18 as before, then 23: G or L above 8, then 24: more than 1,024 ladders" of the
-- table's own ladders, after the table's checks (`covered_number`); where it is 0, the words of the first cover of least number with the ladders tried, or,
-- "exactly when the rule needs more" than the budget, of spent, "with the budget as that number and no cover" (`covered_words`); where it is not, every word as
-- it was (`covered_kept`).
--
-- Elsewhere: how those words read, Back.antt.
use mathlib.Core.Path.{◌≡◌, refl, ap, sym, ◌∙◌}
use mathlib.Core.Bool.{Bool, true, false, cond}
use mathlib.Core.Logic.{◌⊎◌}
use mathlib.Core.List.{List, [], ◌∷◌}
use Prim.Native.Nat.{ℕ, ◌≤◌, ◌<◌}
use native.Mathlib.Decide.{ℕ_discrete}
use native.Mathlib.Omega.{arith}
use lib.Dec.{ltb}
use lib.ListN.{length}
use lib.Seq.{sets as stored}
use borrow.Author.Tests.{eq-eqb, ne_eqb, lt-ltb, le-ltb}
use Rattle.table.specs.declared.Table.{Table}
use Rattle.table.specs.declared.Chain.{Chain}
use Rattle.table.specs.Tables.{table_rows}
use Rattle.lists.specs.Lists.{GaugeList}
use Rattle.covers.specs.Fewest.{FirstLeast}
use Rattle.mechanisms.specs.Covering.{Reading, no_chains, chains, spent_at, covered_by, refusal_of, within_budget, by_rule}
use Rattle.c_covers.specs.Serving.{reply_number, with_chains, with_cover, CoveredWords, CoversWords}

pub covers_100 : {t : List ℕ} {b : ℕ} {out out' : List ℕ} {r : ℕ} → CoversWords t b out out' r → (length t < 66) ⊎ (length out < 523)
    → (r ≡ 100) × (out' ≡ out)
covers_100 g h = g.short h

-- ---- the answers where nothing is refused
module _ (t : Table) (b k : ℕ) (ys : List (List ℕ)) (tried : ℕ) where
  answered_zero : reply_number (within_budget t b k ys tried).reply ≡ 0
  unfolding within_budget
  answered_zero = go (ltb b tried)
    where
      go : (x : Bool) → reply_number (cond x (spent_at b) (covered_by t k tried ys)).reply ≡ 0
      go true = refl
      go false = refl

  within_covered : tried ≤ b → within_budget t b k ys tried ≡ covered_by t k tried ys
  unfolding within_budget
  within_covered l = rw (le-ltb b tried l)

  within_spent : b < tried → within_budget t b k ys tried ≡ spent_at b
  unfolding within_budget
  within_spent l = rw (lt-ltb b tried l)

-- the slice w with these words over its front: what the answer is, the least number, the ladders tried, and the chains
abbrev pub put_cover : List ℕ → ℕ → ℕ → ℕ → List Chain → List ℕ
put_cover w kind k tried cover = with_chains (stored w 0 (kind ∷ (k ∷ (tried ∷ [])))) 3 cover

module _ (t : Table) (b : ℕ) (out out' : List ℕ) (r : ℕ) where
  number_is : (c : CoveredWords t b out out' r) → r ≡ refusal_of t b (length c.covers.ladders)
  number_is c = go (ℕ_discrete (refusal_of t b (length c.covers.ladders)) 0)
    where
      go : Dec (refusal_of t b (length c.covers.ladders) ≡ 0) → r ≡ refusal_of t b (length c.covers.ladders)
      go (no z) = c.number ∙ ap (λ (a : Reading). reply_number a.reply) (c.covers.refuses (omega arith))
      go (yes z) =
          let s = c.covers.searches z in
          c.number ∙ ap (λ (a : Reading). reply_number a.reply) s.says ∙ answered_zero t b s.number s.cover (by_rule t c.covers.ladders).tried
          ∙ sym z

  pub covered_number : CoveredWords t b out out' r → (xs : List (List ℕ)) × GaugeList t xs × (r ≡ refusal_of t b (length xs))
  covered_number c = (c.covers.ladders, c.covers.listed, number_is c)

  pub covered_words : CoveredWords t b out out' r → r ≡ 0
      → (xs : List (List ℕ)) × GaugeList t xs × (k : ℕ) × (ys : List (List ℕ)) × FirstLeast t.cases (table_rows t) k ys
      × ((by_rule t xs).tried ≤ b → out' ≡ put_cover out 1 k (by_rule t xs).tried (chains t ys))
      × (b < (by_rule t xs).tried → out' ≡ put_cover out 2 0 b no_chains)
  covered_words c z =
      let s = c.covers.searches (sym (number_is c) ∙ z) in
      let tried = (by_rule t c.covers.ladders).tried in
      let put : out' ≡ with_cover (within_budget t b s.number s.cover tried) out =
      c.leaves ∙ ap (λ (x : Bool). cond x (with_cover c.answer out) out) (eq-eqb r 0 z) ∙ ap (λ (a : Reading). with_cover a out) s.says in (
        c.covers.ladders,
        c.covers.listed,
        s.number,
        s.cover,
        s.first,
        λ l. put ∙ ap (λ (a : Reading). with_cover a out) (within_covered t b s.number s.cover tried l),
        λ l. put ∙ ap (λ (a : Reading). with_cover a out) (within_spent t b s.number s.cover tried l),
      )

  pub covered_kept : CoveredWords t b out out' r → ¬ (r ≡ 0) → out' ≡ out
  covered_kept c z = c.leaves ∙ ap (λ (x : Bool). cond x (with_cover c.answer out) out) (ne_eqb r 0 z)
