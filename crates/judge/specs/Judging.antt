-- What a judge answers (01, "judging a chain and a ladder"): the refusals of a chain after its table, else yes exactly when the
-- statement holds and no exactly when it does not. What is judged, `IsChain` and `IsMaximal`, is defined in crate `table`.
use Rattle.std.specs.Prelude.{◌≡◌, Bool, true, false, ℕ, Result}
use Rattle.refusals.specs.Answers.{Answer, answered}
use Rattle.refusals.specs.declared.Refusal.{Refusal}

-- how a judgement reads: 01's number, 0 where nothing is refused, and the yes or no
abbrev pub judgement : Result Bool Refusal → Answer Bool
judgement = answered false

-- r judges the statement P after checks that give 01's number n
pub record Judged (n : ℕ) (P : Type 0) (r : Result Bool Refusal) : Type 0 where
  pub refusal : (judgement r).refusal ≡ n
  pub yes : (judgement r).value ≡ true → P
  pub no : n ≡ 0 → (judgement r).value ≡ false → ¬ P
