-- `c_chains::rivals` meets its contract: the promise of the table that the words read as.
use mathlib.Core.Logic.{inl, inr}
use Rattle.words.proofs.Serving.{gives_short}
use Rattle.conflicts.proofs.Covering.{conflict_claims}
use Rattle.c_chains.proofs.rivals.Goals as goal

pub returns-then-table-lt-TABLE : goal.returns-then-table-lt-TABLE
returns-then-table-lt-TABLE c =
    record {
      conflicts = gives_short _ (inl c.if-table-lt-TABLE.true);
      claims = λ e. conflict_claims _;
    }

pub returns-then-pairs-lt-PAIRS : goal.returns-then-pairs-lt-PAIRS
returns-then-pairs-lt-PAIRS c =
    record {
      conflicts = gives_short _ (inr c.if-pairs-lt-PAIRS.true);
      claims = λ e. conflict_claims _;
    }
