-- Growing under a preference: the first maximal chain by place that contains a chain is the first of the arranged rows that contains the arranged
-- chain, by gauge rows again (`first_placed`), and the greedy choice finds it there (`grown_placed`).
use mathlib.Core.Path.{◌≡◌, sym, ap, ◌∙◌, subst}
use mathlib.Core.Logic.{◌⊎◌, inl, inr}
use mathlib.Core.List.{List}
use Prim.Native.Nat.{ℕ}
use lib.ListN.{length}
use Rattle.table.specs.Pairs.{Within}
use Rattle.table.specs.Chains.{IsChain, IsMaximal}
use Rattle.lists.specs.Arrangements.{IsArrangement}
use Rattle.lists.specs.ByNumber.{pick_seq}
use Rattle.lists.specs.Preferred.{places_of}
use Rattle.lists.specs.Lists.{Earlier}
use Rattle.lists.specs.Growing.{FirstContaining}
use Rattle.lists.specs.OnTable.{chain_of}
use Rattle.lists.specs.private.Arranging.{arrange, unarrange}
use Rattle.lists.proofs.Arranging.{length-arrange, unarrange-arrange, arrange-unarrange, arrange_within, unarrange_within, arrange_chain}
use Rattle.lists.proofs.Arranging.{arrange_maximal, unarrange_maximal}
use Rattle.lists.proofs.PlacedSequences.{places_placed}
use Rattle.lists.proofs.Growing.{grow, grow_first}

module _ (n : ℕ) (o : List ℕ) (a : IsArrangement n o) (r s : List ℕ) (e : length r ≡ n) (w : Within r s) where
  -- a set of the rows has n rows
  sized : (x : List ℕ) → Within r x → length x ≡ n
  sized x v = v.size ∙ e

  pub first_placed : (z : List ℕ) → FirstContaining (arrange o r) pick_seq (arrange o s) z → FirstContaining r (places_of o) s (unarrange o z)
  first_placed z f = record {
    maximal = home;
    contains = subst (Within (unarrange o z)) (unarrange-arrange n o a s (sized s w)) (unarrange_within n o a z (arrange o s) f.contains);
    first = λ y m q. order y m (f.first (arrange o y) (arrange_maximal n o a r y e m) (arrange_within n o a y s q));
  }
    where
      home : IsMaximal r (unarrange o z)
      home = unarrange_maximal n o a r z e f.maximal

      again : arrange o (unarrange o z) ≡ z
      again = arrange-unarrange n o a z (f.maximal.within.size ∙ length-arrange n o a r)

      order : (y : List ℕ) → IsMaximal r y → (arrange o y ≡ z) ⊎ Earlier pick_seq z (arrange o y) → (y ≡ unarrange o z) ⊎ Earlier (places_of o) (unarrange o z) y
      order y m (inl d) = inl (sym (unarrange-arrange n o a y (sized y m.within)) ∙ ap (unarrange o) d)
      order y m (inr b) =
          inr (rw (places_placed n o a (unarrange o z) (sized (unarrange o z) home.within), places_placed n o a y (sized y m.within), again) b)

  pub grown_placed : IsChain s → FirstContaining r (places_of o) s (unarrange o (chain_of (arrange o r) (grow (arrange o r) (arrange o s))))
  grown_placed c =
      first_placed (chain_of (arrange o r) (grow (arrange o r) (arrange o s)))
      (grow_first (arrange o r) (arrange o s) (arrange_within n o a r s w) (arrange_chain n o a s c))
