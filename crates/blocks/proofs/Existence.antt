-- The promises put to use: from every value that a run reaches there is a block, so for every number there is a list of so many blocks
-- (`blocks_exist`), and (min G L)! + 1 of them put out the files of the whole list (`whole_list`). None of the definitions is empty talk.
--
-- Elsewhere: one block for every value and every buffer, `filled_exists` in Deciding.antt.
use mathlib.Core.Path.{◌≡◌, refl, sym, ap, subst}
use mathlib.Core.Bool.{false}
use mathlib.Core.List.{List, [], ◌∷◌}
use Prim.Native.Nat.{ℕ, zero, suc, min}
use native.Mathlib.Omega.{arith}
use lib.ListN.{length, replicate, length-replicate}
use Rattle.table.specs.declared.Table.{Table}
use Rattle.rules.specs.Sequences.{factorial}
use Rattle.rules.specs.Machine.{State, fresh}
use Rattle.lists.specs.Lists.{gauge_side}
use Rattle.lists.specs.OnTable.{ReachedOn}
use Rattle.runs.specs.Paused.{Value, paused}
use Rattle.runs.specs.Calling.{arrangement}
use Rattle.runs.proofs.Demands.{Started}
use Rattle.blocks.specs.Filling.{files, longest, Fills, Item, Blocks, output, ListOf, Listed}
use Rattle.blocks.proofs.Calls.{reached_after}
use Rattle.blocks.proofs.Deciding.{filled_exists}
use Rattle.blocks.proofs.Listing.{blocks_listed}

module _ (t : Table) (order : List ℕ) (l : Started gauge_side t order) (long : length order ≡ 64) where
  blocks_exist : (n : ℕ) (s : State) → ReachedOn (gauge_side t) (arrangement (gauge_side t) order) s
      → (is : List Item) × Blocks (paused t order false s) is × (length is ≡ n)
  blocks_exist zero s h = ([], tt, refl)
  blocks_exist (suc n) s h =
      let before : List ℕ = replicate longest 0 in
      let (f, now, filled) = filled_exists (paused t order false s) l.legal.rows_length long before in
      let fills : Fills t order false s before f now =
      filled.fills l.passed s (record { reached = h; stands = refl }) (omega (arith, length-replicate {A = ℕ} longest 0)) in
      let (is, blocks, many) = blocks_exist n _ (reached_after t order false fills.count s h) in (
        record { before = before; answer = f; now = now } ∷ is,
        (filled, fills.accepted, subst (λ (v : Value). Blocks v is) (sym fills.value) blocks),
        ap suc many,
      )

  -- so many blocks are the whole list
  pub whole_list : (xs : List (List ℕ)) → ListOf t order xs → (is : List Item) × Blocks (paused t order false fresh) is × (output is ≡ files t xs)
  whole_list xs g =
      let (is, blocks, many) = blocks_exist (suc (factorial (min t.gauges t.cases))) fresh (record { count = 0; leads = refl }) in
      let listed : Listed t order is = blocks_listed t order l is blocks in
      (is, blocks, listed.complete xs g (listed.ends (omega (arith, many))))
