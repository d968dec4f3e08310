-- `file_text::field_at` meets its contract: the fields from here on, after the digits read so far, are those from the start on. `round` is the
-- start of a turn, seen from the test whether its byte is blank; each return and each way round the loop has its law of `Scanning`.
use Prim.Native.Nat.{◌≤◌, ◌<◌, ◌^◌}
use mathlib.Core.Path.{◌≡◌}
use lib.ListN.{length, drop}
use Rattle.file_text.specs.Fields.{scan}
use Rattle.file_text.specs.private.ScanSteps.{rest}
use Rattle.file_text.proofs.field_at.Given as goal

abbrev pub invariant-loop-i : goal.invariant-loop-i
invariant-loop-i l = (l.i ≤ length l.line) × (l.k ≤ 9) × (l.v < 10 ^ l.k) × (scan l.k l.v (drop l.i l.line) ≡ rest l.line l.at)
