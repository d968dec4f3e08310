-- `c_chains::decides` meets its contract: the promise of the table that the words read as.
use mathlib.Core.Logic.{inl, inr}
use Rattle.words.proofs.Serving.{gives_short}
use Rattle.conflicts.proofs.Covering.{conflict_claims}
use Rattle.c_chains.proofs.decides.Goals as goal

pub returns-then-table-lt-TABLE : goal.returns-then-table-lt-TABLE
returns-then-table-lt-TABLE c =
    record {
      decides = gives_short _ (inl c.if-table-lt-TABLE.true);
      claims = λ e. conflict_claims _;
    }

pub returns-then-answer-lt-ANSWER : goal.returns-then-answer-lt-ANSWER
returns-then-answer-lt-ANSWER c =
    record {
      decides = gives_short _ (inr c.if-answer-lt-ANSWER.true);
      claims = λ e. conflict_claims _;
    }
