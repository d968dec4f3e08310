-- `explain::explain` meets its contract: a refusal of the checks (`refused-explained`), or what the search found on the side's rows
-- (`named-explained`); the claim of R-6 goes with each (`has_reasons`).
use mathlib.Core.Path.{◌≡◌, refl, sym, ap, ap₂, ◌∙◌, subst}
use mathlib.Core.Bool.{Bool}
use mathlib.Core.List.{List}
use Prim.Native.Nat.{ℕ, ◌-◌, ◌<◌}
use native.Mathlib.Omega.{arith}
use borrow.Author.Rules.{rules}
use borrow.Author.Tests.{ne_eqb}
use lib.ListN.{length}
use Rattle.std.proofs.Common.{Err}
use Rattle.table.specs.Tables.{Legal}
use Rattle.refusals.specs.Answers.{Answer, verdict}
use Rattle.refusals.proofs.Answering.{number_pos}
use Rattle.conflicts.specs.Tests.{has_pair}
use Rattle.runs.specs.Paused.{Value, value_of}
use Rattle.runs.specs.Sides.{side_of}
use Rattle.runs.proofs.Demands.{Starts}
use Rattle.runs.proofs.Marked.{side_started}
use Rattle.explain.specs.Reasons.{question_of, Explained, HasReasons, reason_of}
use Rattle.explain.specs.private.Asking.{own_of, AsksAt, RowsOf, Numbered, found_in, kept_by}
use Rattle.explain.proofs.Reasoning.{Sees}
use Rattle.explain.proofs.Answers.{side_sees, own_is, rows_few, refused-explained, legal, pair, numbers, named-explained, has_reasons}
use Rattle.explain.proofs.explain.Goals as goal

-- a value of the side that the mark b names
module _ (b : Bool) (v : Value) (size : length v.table.rows ≡ 64) (long : length v.order ≡ 64) where
  starts : Starts (side_of b) v
  starts = side_started b v size long

  reasons : HasReasons (side_of b) (question_of b) v
  reasons = has_reasons (side_of b) v starts (question_of b) (λ g d. own_of b d g) (λ l g d. side_sees b v.table l g d)

  module _ (g d : ℕ) where
    refused : (n : ℕ) → 0 < n → AsksAt (side_of b) v (has_pair v.table.rows g d) n
        → Explained (side_of b) (question_of b) v g d (record { refusal = n; value = 0 })
    refused n l a = refused-explained (side_of b) v starts g d size (question_of b) n l a

    module _ (a : AsksAt (side_of b) v (has_pair v.table.rows g d) 0) where
      table_legal : Legal v.table
      table_legal = legal (side_of b) v starts g d size a

      sees : Sees v.table (side_of b v.table) (question_of b v.table g d) g d (own_of b d g)
      sees = let h = pair (side_of b) v starts g d size a in side_sees b v.table table_legal g d h.gauge h.case

      numbered : length v.picks ≡ 64 → Numbered v.picks v.count
      numbered wide = numbers (side_of b) v starts g d size a wide (rows_few b v.table table_legal)

      -- what the search found on the rows in R, from the numbers `other` and `own`
      named : (R : List ℕ) → (Legal v.table → RowsOf (side_of b v.table) R) → (other own x : ℕ) → other ≡ own_of b d g → own ≡ own_of b g d
          → x ≡ found_in R (other - 1) v.picks v.count own → (n : ℕ) → n ≡ kept_by x
          → Explained (side_of b) (question_of b) v g d (record { refusal = n; value = x })
      named R rows other own x eo ew is n e =
          named-explained (side_of b) v starts g d size a (question_of b) (own_of b d g) sees R (rows table_legal) x
          (is ∙ ap₂ (λ (k o : ℕ). found_in R (k - 1) v.picks v.count o) eo (ew ∙ own_is b v.table g d)) n e

pub returns-in_err-check-clause-explained : goal.returns-in_err-check-clause-explained
returns-in_err-check-clause-explained g c =
    let rows-length : length c.args.p.table.rows ≡ 64 = search rules in
    let order-length : length c.args.p.order.numbers ≡ 64 = search rules in
    let v : Value = value_of g.S.Side.number c.args.p in
    let e : c.from_residual.result ≡ Err c.in_err-check.field-0.0 = search rules in
    subst (λ (a : Answer ℕ). Explained (side_of g.S.Side.CASES) (question_of g.S.Side.CASES) v c.args.g.0 c.args.c.0 a)
    (sym (ap (reason_of g.S.Side.number) e))
    (refused g.S.Side.CASES v rows-length order-length c.args.g.0 c.args.c.0 _ (number_pos c.in_err-check.field-0.0)
    (subst (AsksAt (side_of g.S.Side.CASES) v (has_pair c.args.p.table.rows c.args.g.0 c.args.c.0)) (ap verdict c.in_err-check.was) c.check.ensures))

pub returns-in_err-check-clause-reasons : goal.returns-in_err-check-clause-reasons
returns-in_err-check-clause-reasons g c =
    let rows-length : length c.args.p.table.rows ≡ 64 = search rules in
    let order-length : length c.args.p.order.numbers ≡ 64 = search rules in
    reasons g.S.Side.CASES (value_of g.S.Side.number c.args.p) rows-length order-length

pub overflow_sub-other : goal.overflow_sub-other
overflow_sub-other g c =
    let rows-length : length c.args.p.table.rows ≡ 64 = search rules in
    let order-length : length c.args.p.order.numbers ≡ 64 = search rules in
    let v : Value = value_of g.S.Side.number c.args.p in
    omega (
      arith,
      c.own_number-other.ensures,
      (sees g.S.Side.CASES v rows-length order-length c.args.g.0 c.args.c.0
          (subst (AsksAt (side_of g.S.Side.CASES) v (has_pair c.args.p.table.rows c.args.g.0 c.args.c.0)) (ap verdict c.in_ok-check.was) c.check.ensures)).other_low,
    )

pub first_lacking-requires : goal.first_lacking-requires
first_lacking-requires g c =
    let rows-length : length c.args.p.table.rows ≡ 64 = search rules in
    let order-length : length c.args.p.order.numbers ≡ 64 = search rules in
    let v : Value = value_of g.S.Side.number c.args.p in
    let picks-length : length c.args.p.picks.numbers ≡ 64 = search rules in
    numbered g.S.Side.CASES v rows-length order-length c.args.g.0 c.args.c.0
    (subst (AsksAt (side_of g.S.Side.CASES) v (has_pair c.args.p.table.rows c.args.g.0 c.args.c.0)) (ap verdict c.in_ok-check.was) c.check.ensures) picks-length

pub returns-in-None-clause-explained : goal.returns-in-None-clause-explained
returns-in-None-clause-explained g c =
    let rows-length : length c.args.p.table.rows ≡ 64 = search rules in
    let order-length : length c.args.p.order.numbers ≡ 64 = search rules in
    let v : Value = value_of g.S.Side.number c.args.p in
    named g.S.Side.CASES v rows-length order-length c.args.g.0 c.args.c.0
    (subst (AsksAt (side_of g.S.Side.CASES) v (has_pair c.args.p.table.rows c.args.g.0 c.args.c.0)) (ap verdict c.in_ok-check.was) c.check.ensures) _ c.side_rows-rows.ensures _ _ 0
    c.own_number-other.ensures c.own_number-own.ensures c.in-None.ensures 22 refl

pub returns-in-None-clause-reasons : goal.returns-in-None-clause-reasons
returns-in-None-clause-reasons g c =
    let rows-length : length c.args.p.table.rows ≡ 64 = search rules in
    let order-length : length c.args.p.order.numbers ≡ 64 = search rules in
    reasons g.S.Side.CASES (value_of g.S.Side.number c.args.p) rows-length order-length

pub returns-in-Some-clause-explained : goal.returns-in-Some-clause-explained
returns-in-Some-clause-explained g c =
    let rows-length : length c.args.p.table.rows ≡ 64 = search rules in
    let order-length : length c.args.p.order.numbers ≡ 64 = search rules in
    let v : Value = value_of g.S.Side.number c.args.p in
    subst (λ (x : ℕ). Explained (side_of g.S.Side.CASES) (question_of g.S.Side.CASES) v c.args.g.0 c.args.c.0 (record { refusal = 0; value = x }))
    (sym c.from_number.ensures)
    (named g.S.Side.CASES v rows-length order-length c.args.g.0 c.args.c.0
    (subst (AsksAt (side_of g.S.Side.CASES) v (has_pair c.args.p.table.rows c.args.g.0 c.args.c.0)) (ap verdict c.in_ok-check.was) c.check.ensures) _ c.side_rows-rows.ensures _ _ _
    c.own_number-other.ensures c.own_number-own.ensures c.in-Some.ensures.1 0 (rw (ne_eqb c.in-Some.found 0 (λ z. omega (arith, c.in-Some.ensures.0, z)))))

pub returns-in-Some-clause-reasons : goal.returns-in-Some-clause-reasons
returns-in-Some-clause-reasons g c =
    let rows-length : length c.args.p.table.rows ≡ 64 = search rules in
    let order-length : length c.args.p.order.numbers ≡ 64 = search rules in
    reasons g.S.Side.CASES (value_of g.S.Side.number c.args.p) rows-length order-length
