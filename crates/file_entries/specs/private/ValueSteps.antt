-- What the private steps promise of a word's value: how their answers read, and that a number is small enough for a reading.
use Rattle.std.specs.Prelude.{ℕ, ◌^◌, ◌<◌, ◌≡◌, List, ℤ, Option as Optional, Some, None}
use Rattle.std.proofs.Math.Option.{Option, some, none}
use Rattle.file_entries.specs.Values.{number_of}

abbrev pub digits_say : Optional ℕ → Option ℕ
digits_say (Some n) = some n
digits_say None = none

abbrev pub signed_says : Optional ℤ → Option ℤ
signed_says (Some v) = some v
signed_says None = none

abbrev pub Small : Optional ℕ → Type 0
Small (Some n) = n < 10 ^ 9
Small None = Unit {0}

pub record NumberIs (w : List ℕ) (x : Optional ℕ) : Type 0 where
  pub says : digits_say x ≡ number_of w
  pub small : Small x
