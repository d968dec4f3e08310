-- What a reader finds in the claim of R-6, sentence by sentence: a pick that lacks the pair's other number exists for every pair left out and for no pair
-- kept (`reason_exactly`); the pick named is the first such (`named_first`); what "lacks" says in a gauge run and in a case run (`gauge_lacks`, `case_lacks`).
-- That one answer is left: `explained_unique`, Answers.antt.
use mathlib.Core.Path.{◌≡◌, refl}
use mathlib.Core.Logic.{◌↔◌}
use mathlib.Core.Bool.{Bool, true, false}
use mathlib.Core.List.{List, ◌∷◌, ◌++◌, map, Memᴰ}
use Prim.Native.Nat.{ℕ, suc}
use Rattle.basics.proofs.Clash.{clash}
use Rattle.table.specs.declared.Table.{Table}
use Rattle.table.specs.Pairs.{Has}
use Rattle.table.specs.Tables.{table_rows}
use Rattle.lists.specs.Lists.{Side}
use Rattle.lists.specs.OnTable.{hand_out}
use Rattle.conflicts.specs.Tests.{has_pair}
use Rattle.explain.specs.Reasons.{Question, gauge_question, case_question, first_lacking, made_before, Reasoned}
use Rattle.explain.proofs.Answers.{has_is}

never : (b : Bool) → b ≡ true → b ≡ false → ⊥
never b p q = clash cc

-- "Among the picks made before the pair's own gauge .. such a pick exists for every pair left out and for no pair kept"
pub reason_exactly : (t : Table) (s : Side) (q : Question) (g c : ℕ) (p : List ℕ) → Reasoned t s q g c p → Has (table_rows t) g c
    → (¬ Has (hand_out s p) g c) ↔ ((x : ℕ) × Memᴰ x (made_before q.own (map suc p)) × (q.meets x ≡ false))
reason_exactly t s q g c p r h = (r.left_out h, λ w k. never (q.meets w.0) (r.kept k w.0 w.1) w.2)

-- "name the first picked gauge whose table row lacks that case"
pub named_first : (t : Table) (s : Side) (q : Question) (g c : ℕ) (p : List ℕ) → Reasoned t s q g c p → Has (table_rows t) g c → ¬ Has (hand_out s p) g c
    → (a : List ℕ) × (b : List ℕ) × (map suc p ≡ a ++ (first_lacking q.meets (map suc p) ∷ b))
    × (q.meets (first_lacking q.meets (map suc p)) ≡ false) × ((y : ℕ) → Memᴰ y a → q.meets y ≡ true)
named_first t s q g c p r h n = let f = r.named h n in (f.sooner, f.later, f.picked, f.lacks, f.none)

fails_not : (b : Bool) (P : Type 0) → (b ≡ true) ↔ P → (b ≡ false) ↔ (¬ P)
fails_not true P e = (λ f. absurd (never true refl f), λ n. absurd (n (e.0 refl)))
fails_not false P e = (λ f p. never false (e.1 p) f, λ n. refl)

-- a gauge x "whose table row lacks that case"; a case x "that the pair's gauge does not respond under"
pub gauge_lacks : (t : Table) (g c x : ℕ) → ((gauge_question t g c).meets x ≡ false) ↔ (¬ Has (table_rows t) x c)
gauge_lacks t g c x = fails_not (has_pair (table_rows t) x c) (Has (table_rows t) x c) (has_is (table_rows t) x c)

pub case_lacks : (t : Table) (g c x : ℕ) → ((case_question t g c).meets x ≡ false) ↔ (¬ Has (table_rows t) g x)
case_lacks t g c x = fails_not (has_pair (table_rows t) g x) (Has (table_rows t) g x) (has_is (table_rows t) g x)
