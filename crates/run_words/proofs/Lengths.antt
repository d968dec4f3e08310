-- Where the parts of a value and of an answer begin: the lengths of what is before them.
use mathlib.Core.Path.{◌≡◌}
use mathlib.Core.List.{List, ◌∷◌, ◌++◌}
use Prim.Native.Nat.{ℕ, ◌+◌}
use native.Mathlib.Omega.{arith}
use lib.ListN.{length, length-append}
use Rattle.table.specs.declared.Table.{Table}
use Rattle.table.specs.declared.Chain.{Chain}
use Rattle.words.specs.Layouts.{table_words, chain_words}

module _ (k : ℕ) (t : Table) (e : length t.rows ≡ 64) where
  pub order_place : 67 ≡ 0 + length (k ∷ table_words t)
  order_place = omega (arith, e)

  module _ (order : List ℕ) (d : length order ≡ 64) where
    pub picks-place : 131 ≡ 0 + length (k ∷ table_words t ++ order)
    picks-place = simp length-append (omega (arith, e, d))

    pub count-place : (picks : List ℕ) → length picks ≡ 64 → 195 ≡ 0 + length (k ∷ table_words t ++ order ++ picks)
    count-place picks h = simp length-append (omega (arith, e, d, h))

pub answer_picks_place : (o m : ℕ) (s : Chain) → length s.rows ≡ 64 → 67 ≡ 0 + length (o ∷ (m ∷ chain_words s))
answer_picks_place o m s e = omega (arith, e)
