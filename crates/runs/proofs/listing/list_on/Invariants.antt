-- `runs::listing::list_on` meets its contract: the calls made are the first of those asked for (`Sofar`).
use Rattle.runs.specs.private.Working.{state_of}
use Rattle.runs.specs.private.Core.{rule_of, ladder_by, HoldsOn}
use Rattle.runs.specs.private.Listing.{Sofar}
use Rattle.runs.proofs.listing.list_on.Given as goal

abbrev pub invariant-loop-room : goal.invariant-loop-room
invariant-loop-room l =
    HoldsOn l.work l.walk l.spot
    × Sofar l.form.writing (rule_of l.work) (ladder_by l.work l.form.places) l.work.gauges l.form.ladders l.budget
    (state_of l.initial.walk.picks l.initial.spot) (state_of l.walk.picks l.spot) l.initial.out l.out l.left l.room l.place

abbrev pub decreases-loop-room : goal.decreases-loop-room
decreases-loop-room l = l.room
