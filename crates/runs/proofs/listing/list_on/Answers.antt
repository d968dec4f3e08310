-- `runs::listing::list_on` meets its contract: the calls made are the first of those asked for (`Sofar`).
use Rattle.runs.proofs.Turns.{place-room, advanced_most}
use Rattle.runs.proofs.Turns.{loop-next, loop-unwritten, loop-stop}
use Rattle.runs.proofs.listing.list_on.Goals.{then-form, else-form}
use Rattle.runs.proofs.listing.list_on.Goals as goal

pub overflow_sub-rest : goal.overflow_sub-rest
overflow_sub-rest c = advanced_most _ _ _ _ _ _ _ _ c.advance-report.ensures

pub returns-in_default : goal.returns-in_default
returns-in_default c =
    loop-stop _ _ _ _ _ _ _ _ _ _ _ _ _ _ _ _ _ c.loop-room.invariant.1 c.requires.1 c.loop-room-test.true _ _ _
    c.advance-report.ensures c.in_default.not-HandedOut

pub hand-requires : goal.hand-requires
hand-requires c = place-room _ _ _ _ _ _ _ _ _ _ _ _ _ c.loop-room.invariant.1 c.if-form.true c.loop-room-test.true

pub loop-room-preserved : goal.loop-room-preserved
loop-room-preserved c =
    elim c.if-form.branch [
      | then-form w ↦
          rw (w.out-is, w.place-is)
          (loop-next _ _ _ _ _ _ _ _ _ _ _ _ _ _ _ _ _ c.loop-room.invariant.1 c.requires.1 c.loop-room-test.true _ _ _ c.advance-report.ensures
          c.in-HandedOut.is w.if-form.true _ w.hand.ensures)
      | else-form w ↦
          rw (w.out-is, w.place-is)
          (loop-unwritten _ _ _ _ _ _ _ _ _ _ _ _ _ _ _ _ _ c.loop-room.invariant.1 c.requires.1 c.loop-room-test.true _ _ _ c.advance-report.ensures
          c.in-HandedOut.is w.if-form.false)
    ]
