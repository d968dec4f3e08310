-- When two recorded tests are equal (02, R-11): "the same shape, the same entries present and the same readings, a
-- listed zero differing from an absent entry, and no cutoff enters. Tests read from pattern files are equal when
-- shape and entries agree, and never equal an integer one." `EqualTests` is the one place that has this meaning; of
-- legal tests it is equality of the two values (`equal_value` in proofs/Equal.antt).
use Rattle.std.specs.Prelude.{◌≡◌, Bool, true, false, cond, ◌↔◌, ℕ, eqb, Result}
use Rattle.table.specs.Pairs.{Has}
use Rattle.refusals.specs.Answers.{verdict, given}
use Rattle.refusals.specs.declared.Refusal.{Refusal}
use Rattle.recorded.specs.Tests.{reading_of, test_refusal}
use Rattle.recorded.specs.declared.Test.{Test}

-- two tests are equal: of one kind, of one shape, with the same entries, whatever their readings, and at each entry
-- the same reading; a pattern test has no reading but 0, so there shape and entries decide
pub record EqualTests (a b : Test) : Type 0 where
  pub kind : a.kind ≡ b.kind
  pub gauges : a.gauges ≡ b.gauges
  pub cases : a.cases ≡ b.cases
  pub entries : (g c : ℕ) → Has a.entries g c ↔ Has b.entries g c
  pub readings : (g c : ℕ) → Has a.entries g c → reading_of a g c ≡ reading_of b g c

-- 02, R-5: "of two tests the first is checked first"
unfoldable pub two_refusal : Test → Test → ℕ
two_refusal a b = cond (eqb (test_refusal a) 0) (test_refusal b) (test_refusal a)

-- the answer: the refusal, and where there is none, whether the tests are equal; "no" beside a refusal. It leaves one
-- answer (`compared_unique` in proofs/Equal.antt).
pub record ComparedAs (a b : Test) (r : Result Bool Refusal) : Type 0 where
  pub refusal : verdict r ≡ two_refusal a b
  pub refused : ¬ (two_refusal a b ≡ 0) → given false r ≡ false
  pub same : two_refusal a b ≡ 0 → (given false r ≡ true) ↔ EqualTests a b
