-- The counts of the known tables K1 to K5 of 01, computed from the definitions: with a budget equal to the number of sequences the count,
-- with one less spent; and of K3 under the preference 3, 2, 1 the same.
use mathlib.Core.Path.{refl}
use mathlib.Core.List.{List, [], ◌∷◌}
use Prim.Native.Nat.{ℕ}
use Rattle.sets.specs.Sets.{meet, is_subset, is_proper_subset}
use Rattle.sets.specs.Lists.{tabulate, all_below}
use Rattle.table.specs.Tables.{rows_fit, table_refusal}
use Rattle.lists.specs.Arrangements.{times}
use Rattle.lists.specs.PickSequence.{is_in}
use Rattle.lists.specs.Picks.{common, select}
use Rattle.lists.specs.ByNumber.{rules_out, candidate, candidates}
use Rattle.lists.specs.private.Arranging.{arrange}
use Rattle.preference.specs.Preferences.{is_preference, preferred_refusal, numbers_of, plain_numbers}
use Rattle.known.specs.KnownTables.{k1, k2, k3, k4, k5}
use Rattle.count.specs.Counting.{spent, counted, due_answer, Counts}
use Rattle.count.proofs.Answers.{counts_some}

-- 3, 2, 1
abbrev backward : List ℕ
backward = numbers_of (2 ∷ 1 ∷ 0 ∷ [])

pub record KnownCounts : Type 0 where
  pub k1_counted : Counts k1 (plain_numbers 2) 3 (counted 2 3)
  pub k1_spent : Counts k1 (plain_numbers 2) 2 (spent 2)
  pub k2_counted : Counts k2 (plain_numbers 3) 10 (counted 6 10)
  pub k2_spent : Counts k2 (plain_numbers 3) 9 (spent 9)
  pub k3_counted : Counts k3 (plain_numbers 3) 7 (counted 2 7)
  pub k3_spent : Counts k3 (plain_numbers 3) 6 (spent 6)
  pub k4_counted : Counts k4 (plain_numbers 2) 3 (counted 1 3)
  pub k4_spent : Counts k4 (plain_numbers 2) 2 (spent 2)
  pub k5_counted : Counts k5 (plain_numbers 2) 1 (counted 1 1)
  pub k5_spent : Counts k5 (plain_numbers 2) 0 (spent 0)
  pub k3_backward : Counts k3 backward 7 (counted 2 7)

pub known_counts : KnownCounts
unfolding due_answer preferred_refusal is_preference times arrange table_refusal rows_fit candidates select candidate rules_out common is_in is_proper_subset is_subset
    meet all_below tabulate
known_counts = record {
  k1_counted = counts_some k1 (plain_numbers 2) 3 refl refl;
  k1_spent = counts_some k1 (plain_numbers 2) 2 refl refl;
  k2_counted = counts_some k2 (plain_numbers 3) 10 refl refl;
  k2_spent = counts_some k2 (plain_numbers 3) 9 refl refl;
  k3_counted = counts_some k3 (plain_numbers 3) 7 refl refl;
  k3_spent = counts_some k3 (plain_numbers 3) 6 refl refl;
  k4_counted = counts_some k4 (plain_numbers 2) 3 refl refl;
  k4_spent = counts_some k4 (plain_numbers 2) 2 refl refl;
  k5_counted = counts_some k5 (plain_numbers 2) 1 refl refl;
  k5_spent = counts_some k5 (plain_numbers 2) 0 refl refl;
  k3_backward = counts_some k3 backward 7 refl refl;
}
