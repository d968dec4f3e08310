-- `mechanisms::covered` meets its contract: each turn makes one chain more (`Making`).
use Rattle.mechanisms.proofs.Chains.{Making}
use Rattle.mechanisms.proofs.covered.Given as goal

abbrev pub invariant-loop-i : goal.invariant-loop-i
invariant-loop-i l = Making l.gauges l.found l.count l.i l.chains
