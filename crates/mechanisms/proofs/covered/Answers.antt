-- `mechanisms::covered` meets its contract: each turn makes one chain more (`Making`).
use mathlib.Core.Path.{◌≡◌}
use borrow.Author.Rules.{rules}
use lib.ListN.{length}
use Rattle.mechanisms.proofs.Chains.{chains_start, chains_turn, chains_end}
use Rattle.mechanisms.proofs.covered.Goals as goal

pub loop-i-init : goal.loop-i-init
loop-i-init c = chains_start _ _ _ _ c.no_chains-chains.ensures

pub loop-i-preserved : goal.loop-i-preserved
loop-i-preserved c =
    let boards-length : length c.args.found ≡ 8 = search rules in
    chains_turn _ _ _ boards-length _ _ c.loop-i.invariant c.loop-i-test.true
    c.requires _ c.chain_of.ensures

pub returns : goal.returns
returns c = chains_end _ _ _ _ _ c.loop-i.invariant c.loop-i-test.false _
