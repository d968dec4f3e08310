-- R-6's claim of the value that any words read as, of either side.
use mathlib.Core.Bool.{Bool}
use mathlib.Core.List.{List}
use Prim.Native.Nat.{ℕ}
use Rattle.runs.specs.Sides.{side_of}
use Rattle.runs.proofs.Marked.{side_started}
use Rattle.explain.specs.Reasons.{question_of}
use Rattle.explain.proofs.Answers.{side_sees, has_reasons}
use Rattle.words.specs.Layouts.{table_at}
use Rattle.words.proofs.Back.{rows_size, numbers_size}
use Rattle.run_words.specs.Values.{side_word, value_at}
use Rattle.c_reasons.specs.Serving.{ClaimsReasons}

pub side_reasons : (b : Bool) (w : List ℕ) → ClaimsReasons (side_of b) (question_of b) (side_word b) w
side_reasons b w =
    let v = value_at (side_word b) w in
    has_reasons (side_of b) v (side_started b v (rows_size 3 w) (numbers_size 67 w)) (question_of b) _ (side_sees b (table_at 1 w))
