-- Blocks in plain order: under "the arrangement 1, 2, 3 and on" (02, R-12) a start on a legal table is not refused (`plain_started`), the run's list is
-- the gauge list (`plain_list`), and (min G L)! + 1 blocks put out the files of the whole gauge list (`whole_gauge_list`).
--
-- Elsewhere: the same for any preference, Listing.antt and Existence.antt.
--
-- Pins, which nothing else cites: `whole_gauge_list`.
use mathlib.Core.Path.{◌≡◌, sym, ap, ◌∙◌, subst}
use mathlib.Core.Logic.{◌↔◌}
use mathlib.Core.Bool.{false}
use mathlib.Core.List.{List, map}
use Prim.Native.Nat.{ℕ, suc}
use native.Mathlib.Nat.{min-eq_left}
use native.Mathlib.Omega.{arith}
use lib.ListN.{length, length-map}
use Rattle.table.specs.declared.Table.{Table}
use Rattle.table.specs.Tables.{Legal}
use Rattle.table.proofs.Legality.{legal_passes}
use Rattle.table.proofs.Padding.{pad_length}
use Rattle.rules.specs.Machine.{fresh}
use Rattle.lists.specs.Arrangements.{plain}
use Rattle.lists.specs.Lists.{gauge_side, GaugeList, PreferredList}
use Rattle.lists.proofs.Standing.{length-plain}
use Rattle.lists.proofs.Plain.{base_plain}
use Rattle.lists.proofs.BothSides.{gauge_fair}
use Rattle.preference.specs.Preferences.{numbers_of, plain_numbers}
use Rattle.preference.proofs.Placing.{both_pass}
use Rattle.preference.proofs.PlainOrder.{plain_order, plain_preference, plain_passes}
use Rattle.runs.specs.Paused.{paused}
use Rattle.runs.specs.Calling.{arrangement}
use Rattle.runs.proofs.Demands.{Started}
use Rattle.blocks.specs.Filling.{files, Item, Blocks, output, ListOf}
use Rattle.blocks.proofs.Existence.{whole_list}

module _ (t : Table) (l : Legal t) where
  -- the 64 numbers of the plain order, and the arrangement that they hold
  abbrev numbers : List ℕ
  numbers = plain_numbers t.gauges

  numbers_are : numbers ≡ numbers_of (plain t.gauges)
  numbers_are = ap (λ (n : ℕ). numbers_of (plain n)) (min-eq_left l.gauges_high)

  plain_held : arrangement (gauge_side t) numbers ≡ plain t.gauges
  plain_held = ap (arrangement (gauge_side t)) numbers_are ∙ plain_order t.gauges

  pub plain_started : Started gauge_side t numbers
  plain_started =
      subst (Started gauge_side t) (sym numbers_are)
      (record {
        legal = l;
        fair = gauge_fair t l;
        arranged = (plain_preference t.gauges l.gauges_high).arranged;
        passed = both_pass t t.gauges (numbers_of (plain t.gauges)) (legal_passes t l) (plain_passes t.gauges l.gauges_high);
      })

  pub plain_list : (xs : List (List ℕ)) → ListOf t numbers xs ↔ GaugeList t xs
  plain_list xs =
      subst (λ (o : List ℕ). PreferredList t (gauge_side t) o xs ↔ GaugeList t xs) (sym plain_held) (base_plain t (gauge_side t) (gauge_fair t l) xs)

  pub whole_gauge_list : (xs : List (List ℕ)) → GaugeList t xs → (is : List Item) × Blocks (paused t numbers false fresh) is × (output is ≡ files t xs)
  whole_gauge_list xs g = whole_list t numbers plain_started (ap length numbers_are ∙ size) xs ((plain_list xs).1 g)
    where
      size : length (numbers_of (plain t.gauges)) ≡ 64
      size = pad_length (map suc (plain t.gauges)) (omega (arith, length-map (plain t.gauges) suc, length-plain t.gauges, l.gauges_high))
