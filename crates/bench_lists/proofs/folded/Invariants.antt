-- `bench_lists::folded` meets its contract: what is taken in so far is the first rows as one number.
use Rattle.std.proofs.Common.{◌≡◌}
use Rattle.bench_lists.specs.Listing.{folded}
use Rattle.bench_lists.proofs.folded.Given as goal

abbrev pub invariant-loop-i : goal.invariant-loop-i
invariant-loop-i l = l.x ≡ folded l.i l.rows
