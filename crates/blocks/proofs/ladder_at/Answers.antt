-- `blocks::ladder_at` meets its contract: the words passed are copied to the front of 64 zeros.
use mathlib.Core.Path.{◌≡◌}
use Prim.Native.Nat.{◌+◌, ◌-◌}
use native.Mathlib.Omega.{arith}
use lib.ListN.{drop, length-drop}
use Rattle.blocks.proofs.Batching.{front_padded}
use Rattle.blocks.proofs.ladder_at.Goals as goal

pub returns : goal.returns
returns c =
    let e : c.args.from + c.args.g - c.args.from ≡ c.args.g = omega arith in
    rw c.copy_from_slice.ensures.after (rw e (front_padded (drop c.args.from c.args.words.now) c.args.g
    (omega (arith, length-drop c.args.from c.args.words.now, c.requires.0)) c.requires.1))
