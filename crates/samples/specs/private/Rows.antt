-- What the private step that makes a row promises the one that makes all rows.
use Rattle.std.specs.Prelude.{◌≡◌, ℕ}
use Rattle.samples.specs.Xorshift.{after}
use Rattle.samples.specs.Samples.{sample_row}
use Rattle.samples.specs.declared.Sampled.{Sampled}

-- the row of l cases made from the state x on, and the state after it
pub record IsSampled (density l x : ℕ) (r : Sampled) : Type 0 where
  pub row : r.row ≡ sample_row density l x
  pub state : r.state ≡ after l x
