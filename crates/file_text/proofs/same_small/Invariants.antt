-- `file_text::same_small` meets its contract: from here on the texts are the same exactly when they are from the start on.
use mathlib.Core.Path.{◌≡◌}
use mathlib.Core.List.{map}
use lib.ListN.{length, drop}
use Rattle.file_text.specs.Bytes.{same_bytes, small}
use Rattle.file_text.proofs.same_small.Given as goal

abbrev pub invariant-loop-i : goal.invariant-loop-i
invariant-loop-i l = (length l.a ≡ length l.b) × (same_bytes (drop l.i (map small l.a)) (drop l.i l.b) ≡ same_bytes (map small l.a) l.b)
