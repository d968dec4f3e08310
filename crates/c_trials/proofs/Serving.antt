-- Reading and putting proposals, a law for each return of the code. Then what the library promises, of the words that were read.
use mathlib.Core.Path.{◌≡◌}
use mathlib.Core.List.{◌++◌}
use Prim.Native.Nat.{ℕ, ◌+◌, ◌≤◌, ◌<◌}
use native.Mathlib.Omega.{arith}
use lib.ListN.{length, length-append}
use borrow.Author.Tests.{eq-eqb, ne_eqb, le-leb, lt-leb}
use Rattle.table.specs.declared.Table.{Table}
use Rattle.table.specs.declared.Chain.{Chain}
use Rattle.trials.specs.declared.Effect.TheVariants.{StillMaximal, OnlyChain, NotWithin}
use Rattle.words.specs.Layouts.{table_words, chain_words}
use Rattle.c_trials.specs.Serving.{effect_of, place_word}

pub effect_still : (x : ℕ) → x ≡ 1 → StillMaximal ≡ effect_of x
unfolding effect_of
effect_still x e = rw (eq-eqb x 1 e)

pub effect_chain : (x : ℕ) → ¬ (x ≡ 1) → x ≡ 2 → OnlyChain ≡ effect_of x
unfolding effect_of
effect_chain x a e = rw (ne_eqb x 1 a, eq-eqb x 2 e)

pub effect_not : (x : ℕ) → ¬ (x ≡ 1) → ¬ (x ≡ 2) → NotWithin ≡ effect_of x
unfolding effect_of
effect_not x a b = rw (ne_eqb x 1 a, ne_eqb x 2 b)

pub place_low : (g x : ℕ) → x < 1 → 0 ≡ place_word g x
unfolding place_word
place_low g x h = rw (lt-leb 1 x h)

pub place_high : (g x : ℕ) → 1 ≤ x → 3 < x → 0 ≡ place_word g x
unfolding place_word
place_high g x l h = rw (le-leb 1 x l, lt-leb x 3 h)

pub place_is : (g x : ℕ) → 1 ≤ x → x ≤ 3 → g ≡ place_word g x
unfolding place_word
place_is g x l h = rw (le-leb 1 x l, le-leb x 3 h)

-- ---- where the parts of a proposal begin
module _ (t : Table) (e : length t.rows ≡ 64) where
  pub chain_place : 66 ≡ 0 + length (table_words t)
  chain_place = omega (arith, e)

  pub gauge_place : (s : Chain) → length s.rows ≡ 64 → 131 ≡ 0 + length (table_words t ++ chain_words s)
  gauge_place s d = simp length-append (omega (arith, e, d))
