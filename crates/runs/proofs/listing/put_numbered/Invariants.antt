-- `runs::listing::put_numbered` meets its contract: the rows passed are stored.
use lib.ListN.{take}
use Rattle.table.specs.Tables.{padded}
use Rattle.preference.specs.Placing.{gathered}
use Rattle.runs.specs.private.Listing.{Puts}
use Rattle.runs.proofs.listing.put_numbered.Given as goal

abbrev pub invariant-loop-i : goal.invariant-loop-i
invariant-loop-i l = Puts l.initial.out l.at (take l.i (padded (gathered l.n l.rows l.places))) l.out
