-- The returns of the entry that gives the plain order.
use mathlib.Core.Path.{◌≡◌, sym, ap}
use mathlib.Core.Bool.{Bool, cond}
use Prim.Native.Nat.{ℕ}
use Rattle.table.specs.Tables.{in_range}
use Rattle.c_support.specs.Serving.{plain_answer}

-- the answer's number by the test of the range
plain_number : (n : ℕ) (b : Bool) → in_range 64 n ≡ b → cond b 0 10 ≡ (plain_answer n).refusal
plain_number n b e = ap (λ (x : Bool). cond x 0 10) (sym e)
