-- `mechanisms::list_ladders` meets its contract: each turn has one ladder more (`ListingFrom`).
use Rattle.runs.specs.Paused.{gauge_value}
use Rattle.mechanisms.proofs.Listing.{ListingFrom}
use Rattle.mechanisms.proofs.list_ladders.Given as goal

abbrev pub invariant-loop-n : goal.invariant-loop-n
invariant-loop-n l = ListingFrom (gauge_value l.initial.run) l.n (gauge_value l.run) l.ladders
