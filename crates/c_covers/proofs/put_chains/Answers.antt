-- `c_covers::put_chains` meets its contract: the chains passed are put.
use borrow.Author.Rules.{rules}
use native.Mathlib.Omega.{arith}
use mathlib.Core.Path.{◌≡◌}
use lib.ListN.{length}
use Rattle.c_covers.proofs.Storing.{chains_none, chains_more, chains_all}
use Rattle.c_covers.proofs.put_chains.Goals as goal

pub loop-s-init : goal.loop-s-init
loop-s-init c = (omega arith, chains_none)

pub loop-s-preserved : goal.loop-s-preserved
loop-s-preserved c =
    let size : length c.args.chains ≡ 8 = search rules in (
      omega arith,
      chains_more c.args.chains c.loop-s.s-index _ c.loop-s.invariant.1 (omega (arith, size)) c.loop-s.invariant.0 c.put_chain.ensures,
    )

pub returns : goal.returns
returns c =
    let size : length c.args.chains ≡ 8 = search rules in
    let s = size in chains_all _ c.loop-s.s-index c.loop-s.invariant.1 (omega (arith, s))
