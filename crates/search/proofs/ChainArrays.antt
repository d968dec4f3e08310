-- The chain of the picks in its array of 64 rows: empty before any pick, and one row more with each.
use mathlib.Core.Path.{◌≡◌, refl, sym, ap, ap₂, ◌∙◌}
use mathlib.Core.List.{List, [], ◌∷◌, ◌++◌}
use Prim.Native.Nat.{ℕ, ◌≤◌, ◌<◌}
use native.Mathlib.Decide.{dec_lt}
use native.Mathlib.Omega.{arith}
use lib.ListN.{length, get_or, set, get_or-replicate}
use Rattle.table.specs.Tables.{no_rows, padded}
use Rattle.table.proofs.Places.{row_past}
use Rattle.table.proofs.Padding.{pad_ext, pad_set}
use Rattle.lists.specs.Picks.{remainder}
use Rattle.lists.specs.OnTable.{chain_of}
use Rattle.lists.proofs.Unpicked.{Un, un_nil}
use Rattle.lists.proofs.Candidates.{Cand}
use Rattle.lists.proofs.ChainRows.{chain_of_snoc, length-chain_of, row_unpicked}

pub chain_none : (r : List ℕ) → length r ≤ 64 → no_rows ≡ padded (chain_of r [])
chain_none r h = pad_ext no_rows (chain_of r []) refl (omega (arith, length-chain_of r [])) (λ i. zeros i (dec_lt i 64) ∙ sym (row_unpicked r [] i (un_nil i)))
  where
    zeros : (i : ℕ) → Dec (i < 64) → get_or no_rows i 0 ≡ 0
    zeros i (yes l) = get_or-replicate 64 i 0 0 l
    zeros i (no l) = row_past no_rows i (omega arith)

chain_place : (r p c : List ℕ) (g x : ℕ) → Un p g → g < length r → c ≡ padded (chain_of r p) → x ≡ remainder r p g
    → set c g x ≡ padded (chain_of r (p ++ (g ∷ [])))
chain_place r p c g x fresh below e d =
    ap₂ (λ (l : List ℕ) (y : ℕ). set l g y) e d ∙ pad_set (chain_of r p) g (remainder r p g) (omega (arith, length-chain_of r p))
    ∙ ap padded (sym (chain_of_snoc r p g fresh below))

pub chain_pick : (r p c : List ℕ) (g x : ℕ) → Cand r p g → c ≡ padded (chain_of r p) → x ≡ remainder r p g → set c g x ≡ padded (chain_of r (p ++ (g ∷ [])))
chain_pick r p c g x cand = chain_place r p c g x cand.fresh cand.below
