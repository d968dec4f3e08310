-- What a reader finds in the promise about blocks one after another, sentence by sentence: they put out the files of a front of the list and cut none
-- (`blocks_front`), and of all of it once one is over, or where there are more than (min G L)! of them (`blocks_whole`).
use mathlib.Core.Path.{◌≡◌, sym}
use mathlib.Core.Logic.{◌⊎◌, inl, inr}
use mathlib.Core.Bool.{true}
use mathlib.Core.List.{List, ◌++◌}
use Prim.Native.Nat.{ℕ, ◌<◌, min}
use lib.ListN.{length}
use Rattle.table.specs.declared.Table.{Table}
use Rattle.rules.specs.Sequences.{factorial}
use Rattle.lists.specs.Lists.{gauge_side, PreferredList}
use Rattle.preference.specs.Preferences.{order_of}
use Rattle.blocks.specs.Filling.{files, Item, output, is_over, Listed}

pub blocks_front : (t : Table) (order : List ℕ) (is : List Item) → Listed t order is
    → (xs : List (List ℕ)) → PreferredList t (gauge_side t) (order_of t.gauges order) xs
    → (rest : List (List ℕ)) × (files t xs ≡ output is ++ files t rest)
blocks_front t order is l xs h = ((l.front xs h).0, sym (l.front xs h).1)

pub blocks_whole : (t : Table) (order : List ℕ) (is : List Item) → Listed t order is
    → (xs : List (List ℕ)) → PreferredList t (gauge_side t) (order_of t.gauges order) xs
    → (is_over is ≡ true) ⊎ (factorial (min t.gauges t.cases) < length is) → output is ≡ files t xs
blocks_whole t order is l xs h (inl e) = l.complete xs h e
blocks_whole t order is l xs h (inr n) = l.complete xs h (l.ends n)
