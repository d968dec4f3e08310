-- "The arrangement 1, 2, 3 and on gives the former results" (02, R-12), of counting: the ladders are those of 01's gauge list, and a call is made for each
-- pick sequence that rules 1 to 5, by number, can reach (R-4).
use mathlib.Core.Path.{◌≡◌, subst}
use mathlib.Core.Logic.{◌↔◌, ◌≢◌}
use mathlib.Core.List.{List, Memᴰ}
use Prim.Native.Nat.{ℕ}
use lib.ListN.{length}
use Rattle.table.specs.declared.Table.{Table}
use Rattle.table.specs.Tables.{Legal, table_rows}
use Rattle.table.proofs.Legality.{legal_passes, length_rows}
use Rattle.rules.specs.Sequences.{Sorted}
use Rattle.rules.specs.Machine.{Phase, at}
use Rattle.rules.specs.ByNumber.{Reached}
use Rattle.lists.specs.Arrangements.{plain}
use Rattle.lists.specs.Lists.{gauge_side, GaugeList}
use Rattle.lists.specs.OnTable.{ReachedOn}
use Rattle.lists.specs.ByNumber.{candidates}
use Rattle.lists.proofs.BothSides.{gauge_fair}
use Rattle.lists.proofs.Plain.{base_plain, reached_plain}
use Rattle.preference.specs.Preferences.{plain_numbers}
use Rattle.preference.proofs.Placing.{both_pass}
use Rattle.preference.proofs.PlainOrder.{order_plain, plain_unrefused}
use Rattle.count.specs.Counting.{CountAnswer, due_answer, CountsBy, Counts}

-- the former results: so many ladders as 01's gauge list has, so many calls as pick sequences can be reached by number
pub record Former (t : Table) (b : ℕ) (a : CountAnswer) : Type 0 where
  pub ladders : List (List ℕ)
  pub listed : GaugeList t ladders
  pub sequences : List (List ℕ)
  pub once : Sorted (λ (p q : List ℕ). p ≢ q) sequences
  pub reached : (p : List ℕ) → Memᴰ p sequences ↔ ((f : Phase) × Reached (candidates (table_rows t)) (at p f))
  pub says : a ≡ due_answer b (length ladders) (length sequences)

pub count_plain : (t : Table) (b : ℕ) (a : CountAnswer) → Legal t → Counts t (plain_numbers t.gauges) b a → Former t b a
count_plain t b a l c = record {
  ladders = d.ladders;
  listed = (base_plain t (gauge_side t) (gauge_fair t l) d.ladders).0 d.listed;
  sequences = d.sequences;
  once = d.reached.once;
  reached = λ p. (
    λ m. let q = (d.reached.members p).0 m in (q.phase, (by_number p q.phase).0 q.reached),
    λ q. (d.reached.members p).1 (record { phase = q.0; reached = (by_number p q.0).1 q.1 }),
  );
  says = d.says;
}
  where
    d : CountsBy t (plain t.gauges) b a
    d =
        subst (λ (o : List ℕ). CountsBy t o b a) (order_plain t.gauges l.gauges_high)
        (c.count (both_pass t t.gauges (plain_numbers t.gauges) (legal_passes t l) (plain_unrefused t.gauges l.gauges_high)))

    by_number : (p : List ℕ) (f : Phase) → ReachedOn (gauge_side t) (plain t.gauges) (at p f) ↔ Reached (candidates (table_rows t)) (at p f)
    by_number p f = reached_plain (gauge_side t) (length_rows t l) (at p f)
