-- What the library promises, of the words that were read: the value by the equations of reading.
use mathlib.Core.Path.{◌≡◌, subst}
use mathlib.Core.Bool.{Bool}
use mathlib.Core.List.{List}
use Prim.Native.Nat.{ℕ}
use Rattle.refusals.specs.Answers.{Answer}
use Rattle.runs.specs.Paused.{Value}
use Rattle.runs.specs.Sides.{side_of}
use Rattle.split.specs.Entries.{CandidatesAt, PartAt, SplitsAt}
use Rattle.split.specs.Listing.{ListsPart}
use Rattle.split.specs.Whole.{ListsWhole}
use Rattle.run_words.specs.Values.{side_word, value_at}
use Rattle.c_parts.specs.Serving.{Candidates, Part}

pub candidates_at : (b : Bool) {v : Value} {a : Answer (List ℕ)} (w : List ℕ) → v ≡ value_at (side_word b) w
    → CandidatesAt (side_of b) v a → SplitsAt (side_of b) v → ListsPart (side_of b) v → ListsWhole (side_of b) v
    → Candidates (side_of b) (value_at (side_word b) w) a
candidates_at b {v} {a} w e c s l f =
    let h : Candidates (side_of b) v a = record { candidates = c; splits = s; lists = l; whole = f } in
    subst (λ (u : Value). Candidates (side_of b) u a) e h

pub part_at : (b : Bool) {v : Value} {g k : ℕ} {a : Answer Value} (w : List ℕ) → v ≡ value_at (side_word b) w → k ≡ g
    → PartAt (side_of b) v k a → ListsPart (side_of b) a.value → Part (side_of b) (value_at (side_word b) w) g a
part_at b {v} {g} {k} {a} w e d p l =
    let h : Part (side_of b) v k a = record { part = p; lists = l } in
    subst (λ (i : ℕ). Part (side_of b) (value_at (side_word b) w) i a) d (subst (λ (u : Value). Part (side_of b) u k a) e h)
