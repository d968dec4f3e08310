-- `file_reader::with_case` meets its contract: the shifted bit is the power of two that `with_case` joins to the row.
use mathlib.Core.Path.{◌∙◌, ap}
use native.Mathlib.Omega.{arith}
use native.Mathlib.Nat.{one-mul}
use Prim.Native.Nat.{◌-◌, ◌^◌}
use lib.Pow.{shl_exact}
use Rattle.sets.specs.Sets.{join}
use Rattle.file_reader.proofs.with_case.Goals as goal

pub returns : goal.returns
unfolding join
returns c =
    let k = c.args.c.0 - 1 in
    ap (join c.args.row) (shl_exact 1 k 64 (omega arith) (omega arith) ∙ one-mul (2 ^ k))
