-- `mechanisms::next_ladder` meets its contract: one law for each outcome of the call.
use mathlib.Core.Path.{refl, sym, ap, ◌∙◌}
use Rattle.std.proofs.Common.{Ok, Err}
use Rattle.table.specs.declared.Gauge.{Gauge}
use Rattle.runs.specs.Paused.{gauge_value}
use Rattle.runs.specs.Calling.{step_of, outcome, chain_out}
use Rattle.runs.proofs.Answered.{called_of_both}
use Rattle.boards.specs.Boards.{board, corner}
use Rattle.mechanisms.proofs.Listing.{hands_given, hands_spent, hands_end, hands_refused}
use Rattle.mechanisms.proofs.next_ladder.Goals as goal

pub returns-in-HandedOut : goal.returns-in-HandedOut
returns-in-HandedOut c =
    hands_given (gauge_value c.args.run.now) (step_of (λ g. g.0) (Ok c.in-Ok.step)) (called_of_both _ _ _ _ (rw c.in-Ok.is at c.call.ensures.either)) _
    (ap outcome c.in-HandedOut.is) _
    (c.board_of.ensures ∙ ap (λ o. board (corner (chain_out o).rows)) (sym c.in-HandedOut.is)) _ refl

pub returns-in-Spent : goal.returns-in-Spent
returns-in-Spent c =
    hands_spent (gauge_value c.args.run.now) (step_of (λ g. g.0) (Ok c.in-Ok.step)) (called_of_both _ _ _ _ (rw c.in-Ok.is at c.call.ensures.either))
    (ap outcome c.in-Spent.is)

pub returns-in-End : goal.returns-in-End
returns-in-End c =
    hands_end (gauge_value c.args.run.now) (step_of (λ g. g.0) (Ok c.in-Ok.step)) (called_of_both _ _ _ _ (rw c.in-Ok.is at c.call.ensures.either))
    (ap outcome c.in-End.is)

pub returns-in-Err : goal.returns-in-Err
returns-in-Err c =
    hands_refused (gauge_value c.args.run.now) (step_of {S = Gauge} (λ g. g.0) (Err c.in-Err.field-0)) (called_of_both _ _ _ _ (rw c.in-Err.is at c.call.ensures.either)) _ refl
