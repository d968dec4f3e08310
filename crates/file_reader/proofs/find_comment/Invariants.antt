-- `file_reader::find_comment` meets its contract: the comment still to be found, from here on, is the one that the search started with.
use Prim.Native.Nat.{◌-◌}
use mathlib.Core.Path.{◌≡◌}
use lib.ListN.{length, drop}
use Rattle.file_text.specs.Lines.{lines}
use Rattle.file_reader.specs.Comments.{comment_from}
use Rattle.file_reader.proofs.find_comment.Given as goal

abbrev pub invariant-loop-at : goal.invariant-loop-at
invariant-loop-at l = comment_from l.left l.at (lines (drop l.at l.file)) ≡ comment_from l.k l.from (lines (drop l.from l.file))

abbrev pub decreases-loop-at : goal.decreases-loop-at
decreases-loop-at l = length l.file - l.at
