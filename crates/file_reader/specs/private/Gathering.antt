-- How the answer of the steps that both readers share reads, and what it says.
use Rattle.std.specs.Prelude.{ℕ, ◌≡◌, Result, Ok, Err}
use Rattle.refusals.specs.Answers.{Answer, refused}
use Rattle.recorded.specs.Tests.{blank_test}
use Rattle.recorded.specs.declared.Test.{Test}
use Rattle.file_reader.specs.declared.Failed.{Failed}

abbrev pub gathered : Result Test Failed → Answer Test
gathered (Ok test) = record { refusal = 0; value = test }
gathered (Err failed) = refused failed.why blank_test

-- the line at which reading stopped
abbrev pub stopped : Result Test Failed → ℕ
stopped (Ok test) = 0
stopped (Err failed) = failed.line

-- the answer is a, and reading stopped at line k
pub record Gathers (a : Answer Test) (k : ℕ) (r : Result Test Failed) : Type 0 where
  pub answer : gathered r ≡ a
  pub line : stopped r ≡ k
