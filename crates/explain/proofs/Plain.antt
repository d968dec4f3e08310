-- "The arrangement 1, 2, 3 and on gives the former results" (02, R-12), of the question why a pair is left out: of the picks p of a run by number that has
-- just handed out, the answer is the first of p that lacks the pair's other number (R-6).
use mathlib.Core.Path.{◌≡◌, refl, sym, subst}
use mathlib.Core.Bool.{Bool}
use mathlib.Core.List.{List, map}
use Prim.Native.Nat.{ℕ, suc, ◌≤◌}
use lib.ListN.{length}
use Rattle.table.specs.declared.Table.{Table}
use Rattle.table.specs.Tables.{table_refusal}
use Rattle.refusals.specs.Answers.{Answer, answer}
use Rattle.rules.specs.Machine.{Handed, at}
use Rattle.rules.specs.ByNumber.{Reached}
use Rattle.lists.specs.Lists.{Side}
use Rattle.lists.specs.OnTable.{ReachedOn}
use Rattle.lists.specs.ByNumber.{candidates}
use Rattle.lists.proofs.Plain.{reached_plain}
use Rattle.preference.specs.Preferences.{plain_numbers}
use Rattle.preference.proofs.Placing.{both_pass}
use Rattle.preference.proofs.PlainOrder.{order_plain, plain_unrefused}
use Rattle.runs.specs.Paused.{paused}
use Rattle.explain.specs.Reasons.{Question, first_lacking, reason_refusal, Explained}

module _ (side : Table → Side) (question : Table → ℕ → ℕ → Question) (t : Table)
    (few : (side t).count ≤ 64) (counted : length (side t).rows ≡ (side t).count) where
  pub explained_plain : table_refusal t ≡ 0 → (omit : Bool) (p : List ℕ) → Reached (candidates (side t).rows) (at p Handed) → (g c : ℕ) (a : Answer ℕ)
      → Explained side question (paused t (plain_numbers (side t).count) omit (at p Handed)) g c a
      → a ≡ answer (reason_refusal t (side t) p g c) (first_lacking (question t g c).meets (map suc p)) 0
  explained_plain z omit p r g c a e =
      e.pick (both_pass t (side t).count (plain_numbers (side t).count) z (plain_unrefused (side t).count few)) p
      (record {
        reached = subst (λ (o : List ℕ). ReachedOn (side t) o (at p Handed)) (sym (order_plain (side t).count few))
            ((reached_plain (side t) counted (at p Handed)).1 r);
        stands = refl;
      })
