-- Run calls that list a part: from the state with the part's picks in the phase Down, every hand-out whose pick sequence starts with the part's is of the
-- part. The part is closed by the first hand-out whose sequence does not, and that ladder is not of it; by an end; and by a call whose budget is spent where
-- the run's own picks no longer start with the part's: nothing of the part comes later, also where the run omits and its next hand-out is far. A call stops
-- only after a hand-out, an end or its budget, so one made after the part's last ladder runs on into the next part: this rule is what a caller needs.
--
-- In order: the test of a hand-out; what of a list of calls is of the part, and whether the part is over; what holds of every list of calls
-- (`PartDemand`), which is proved in proofs/PartCalls.antt.
use Rattle.std.specs.Prelude.{◌≡◌, Bool, true, false, not, ◌&&◌, ◌||◌, cond, List, [], ◌∷◌, ◌++◌, ℕ, eqb}
use Rattle.table.specs.declared.Table.{Table}
use Rattle.rules.specs.Machine.{Down, at}
use Rattle.rules.specs.Calls.{Reply, refused, spent, handed, end, Call, calls_by, handouts}
use Rattle.lists.specs.Lists.{Side}
use Rattle.lists.specs.OnTable.{hand_out, move_on}
use Rattle.lists.specs.Keeping.{keeping_on}
use Rattle.parts.specs.Parts.{picks_of, PartList}

-- whether q starts with p
unfoldable pub starts_with : List ℕ → List ℕ → Bool
starts_with [] q = true
starts_with (x ∷ p) [] = false
starts_with (x ∷ p) (y ∷ q) = eqb x y && starts_with p q

-- the set x is of the part p
abbrev pub is_of : Side → List ℕ → List ℕ → List ℕ → Bool
is_of s o p x = starts_with p (picks_of s o x)

-- what an answer adds of the part before what later ones do; `mine` tells of a hand-out whether it is of the part
abbrev pub adds : Reply → Bool → List (List ℕ) → List (List ℕ)
adds (refused n) mine l = l
adds spent mine l = l
adds (handed x) mine l = cond mine (x ∷ l) []
adds end mine l = []

-- whether an answer closes the part; `inside` tells whether the picks after the call start with the part's
abbrev pub closes : Reply → Bool → Bool → Bool
closes (refused n) mine inside = false
closes spent mine inside = not inside
closes (handed x) mine inside = not mine
closes end mine inside = true

-- whether an answer hands out a set of the part, by a test of sets
abbrev pub holds : (List ℕ → Bool) → Reply → Bool
holds test (refused n) = false
holds test spent = false
holds test (handed x) = test x
holds test end = false

-- what these calls hand out of the part, up to where it closes
abbrev pub of_part : (List ℕ → Bool) → List Call → List (List ℕ)
of_part test [] = []
of_part test (c ∷ cs) = adds c.answer (holds test c.answer) (of_part test cs)

-- whether one of them closed it, by a test of the picks too
abbrev pub is_over : (List ℕ → Bool) → (List ℕ → Bool) → List Call → Bool
is_over test inside [] = false
is_over test inside (c ∷ cs) = closes c.answer (holds test c.answer) (inside c.next.picks) || is_over test inside cs

-- the picks after these calls, where they were p before
abbrev pub left_picks : List ℕ → List Call → List ℕ
left_picks p [] = p
left_picks p (c ∷ cs) = left_picks c.next.picks cs

-- calls from the part's state on, of a run that omits nothing, and of one that hands over the sets that `keep` keeps (02, R-2)
abbrev pub calls_in : Side → List ℕ → List ℕ → List ℕ → List Call
calls_in s o p bs = calls_by (move_on s o) (hand_out s) bs (at p Down)

abbrev pub calls_keeping_in : Side → List ℕ → (List ℕ → Bool) → List ℕ → List ℕ → List Call
calls_keeping_in s o keep p bs = calls_by (keeping_on s o keep) (hand_out s) bs (at p Down)

-- what holds of a list cs of calls from the part's state on: what they hand out of the part is a front of its list, and all of it once it is over; and as
-- long as the run's picks start with the part's, all that they hand out is of the part; `give` is what the run hands over of a list, all of it or what it
-- keeps
pub record PartDemand (t : Table) (s : Side) (o p : List ℕ) (give : List (List ℕ) → List (List ℕ)) (cs : List Call) : Type 0 where
  pub list : List (List ℕ)
  pub listed : PartList t s o p list
  pub front : (rest : List (List ℕ)) × (of_part (is_of s o p) cs ++ rest ≡ give list)
  pub complete : is_over (is_of s o p) (starts_with p) cs ≡ true → of_part (is_of s o p) cs ≡ give list
  pub inside : starts_with p (left_picks p cs) ≡ true → of_part (is_of s o p) cs ≡ handouts cs
