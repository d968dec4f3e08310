-- `c_counts::sample` meets its contract.
use Rattle.words.proofs.Serving.{gives_short}
use Rattle.samples.proofs.Places.{sample_claims}
use Rattle.c_counts.proofs.sample.Goals as goal

pub returns-then-table-lt-TABLE : goal.returns-then-table-lt-TABLE
returns-then-table-lt-TABLE c =
    record {
      samples = gives_short _ c.if-table-lt-TABLE.true;
      claims = sample_claims _ _ _ _;
    }
