-- The gauge list and the case list (01: "The **gauge list** of a table is all its ladders as sets of pairs, each once, in the order of the
-- gauge run; the **case list** likewise, in the order of the case run. Neither looks at a run."), and either under a preference (02, R-12: "the
-- listing order .. go by place in it"). A ladder of 01 is a maximal chain.
--
-- In order: a list of the table by a key (`SideList`); a side of the table; the two sides; a side's list under a preference, whose key goes by
-- place; 01's two lists.
--
-- Elsewhere: that each list exists, `lists_exist` in proofs/Plain.antt and `preferred_list` in proofs/PreferredSides.antt, and is unique,
-- `list_unique` in proofs/Listed.antt; that "the set of ladders is the same under every preference", `lists_same` there.
use Rattle.std.specs.Prelude.{◌↔◌, ◌≢◌, ℕ, length}
use mathlib.Core.List.{List, Memᴰ}
use Rattle.table.specs.declared.Table.{Table}
use Rattle.table.specs.Chains.{IsMaximal}
use Rattle.table.specs.Tables.{table_rows}
use Rattle.transpose.specs.Transposing.{transpose}
use Rattle.rules.specs.Sequences.{Sorted, Before}
use Rattle.lists.specs.Arrangements.{plain}
use Rattle.lists.specs.Preferred.{places_of}

-- x comes before y by their keys, "compared number by number from the first"
abbrev pub Earlier : (List ℕ → List ℕ) → List ℕ → List ℕ → Type 0
Earlier key x y = Before (key x) (key y)

-- xs is all the maximal chains of the table whose rows are r, each once, ascending by their keys
pub record SideList (r : List ℕ) (key : List ℕ → List ℕ) (xs : List (List ℕ)) : Type 0 where
  pub members : (x : List ℕ) → Memᴰ x xs ↔ IsMaximal r x
  pub once : Sorted (λ (x y : List ℕ). x ≢ y) xs
  pub ascends : Sorted (Earlier key) xs

-- One side of a table: how many numbers can be picked, and the rows that its run works on; `view` has a set of the table's pairs as the side
-- sees it, and `by_gauges` gives a set of the side's pairs back by gauge rows.
pub record Side : Type 0 where
  pub count : ℕ
  pub rows : List ℕ
  pub view : List ℕ → List ℕ
  pub by_gauges : List ℕ → List ℕ

abbrev pub gauge_side : Table → Side
gauge_side t = record { count = t.gauges; rows = table_rows t; view = λ x. x; by_gauges = λ x. x }

-- "The **case run** does the same on the table with gauges and cases exchanged; its ladders are given back by gauge rows"
abbrev pub case_side : Table → Side
case_side t = record { count = t.cases; rows = transpose t.cases (table_rows t); view = transpose t.cases; by_gauges = transpose t.gauges }

-- "ascending by pick sequence, compared number by number from the first .. The case run likewise by cases", by place: what the order compares of a
-- set, as the side sees it, under the preference o
abbrev pub list_key : Side → List ℕ → List ℕ → List ℕ
list_key s o x = places_of o (s.view x)

-- the list of a side under the preference o
abbrev pub PreferredList : Table → Side → List ℕ → List (List ℕ) → Type 0
PreferredList t s o xs = SideList (table_rows t) (list_key s o) xs

-- 01's own order, where no preference is: that of "the arrangement 1, 2, 3 and on", where the place of a gauge is its index, "from the ladder alone"
abbrev pub base_key : List ℕ → List ℕ
base_key x = places_of (plain (length x)) x

-- x comes before y in the order of 01's gauge run
abbrev pub Precedes : List ℕ → List ℕ → Type 0
Precedes x y = Earlier base_key x y

-- 01's list of a side, and its two lists
abbrev pub BaseList : Table → Side → List (List ℕ) → Type 0
BaseList t s xs = SideList (table_rows t) (λ x. base_key (s.view x)) xs

abbrev pub GaugeList : Table → List (List ℕ) → Type 0
GaugeList t xs = BaseList t (gauge_side t) xs

abbrev pub CaseList : Table → List (List ℕ) → Type 0
CaseList t xs = BaseList t (case_side t) xs
