-- `samples::step` meets its contract: a shift to the left keeps 64 bits.
use borrow.Author.Rules.{rules}
use Rattle.samples.specs.Xorshift.{step, shifted_left, right}
use Rattle.samples.proofs.Reversal.{step_claims}
use Rattle.samples.proofs.step.Goals as goal

pub returns : goal.returns
unfolding step shifted_left right
returns c =
    record {
      value = search rules;
      claims = step_claims;
    }
