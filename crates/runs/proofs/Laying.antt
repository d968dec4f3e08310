-- The chain of picks that were made again, laid pick by pick: each has what is left of its row, and leaves that.
use mathlib.Core.Path.{◌≡◌, sym, ap, ap₂, ◌∙◌}
use mathlib.Core.List.{List, [], ◌∷◌, ◌++◌, map}
use Prim.Native.Nat.{ℕ, suc, ◌+◌, ◌-◌, ◌^◌, ◌≤◌, ◌<◌}
use native.Mathlib.Numerals.{add-one}
use native.Mathlib.Omega.{arith}
use lib.Bits.{bit_and}
use lib.ListN.{length, get_or, set, take}
use lib.Seq.{take-suc, get_or-take, take-length}
use Rattle.sets.specs.Sets.{meet}
use Rattle.sets.proofs.Order.{meet_comm}
use Rattle.table.specs.Pairs.{row}
use Rattle.table.specs.Tables.{no_rows, padded}
use Rattle.rules.proofs.Trees.{valid_kid}
use Rattle.lists.specs.Picks.{common}
use Rattle.lists.specs.ByNumber.{candidates}
use Rattle.lists.specs.OnTable.{chain_of}
use Rattle.lists.proofs.Candidates.{Cand, mem_candidates}
use Rattle.lists.proofs.Remainders.{common_snoc, remainder_left}
use Rattle.search.proofs.AfterPicks.{full}
use Rattle.search.proofs.ChainArrays.{chain_none, chain_pick}
use Rattle.replay.proofs.Numbers.{get_or_numbers, places_numbers, valid_next}
use Rattle.runs.specs.private.Working.{Sized, places_of, Laying}
use Rattle.runs.proofs.Holding.{full_is, common_none}
use Rattle.runs.proofs.Stepping.{side_length, side_rows}

module _ (n : ℕ) (rows k : List ℕ) (count : ℕ) (z : Sized n rows) (h : Laying n rows k count) where
  abbrev r : List ℕ
  r = take n rows

  -- the chain c of the first i picks, and what they leave
  pub record Laid (c : List ℕ) (left i : ℕ) : Type 0 where
    pub most : i ≤ count
    pub chained : c ≡ padded (chain_of r (take i h.picks))
    pub remains : left ≡ common r (take i h.picks) full

  pub laid_none : Laid no_rows (2 ^ 64 - 1) 0
  laid_none = record {
    most = omega arith;
    chained = chain_none r (side_rows n rows z).few;
    remains = sym full_is ∙ sym (common_none r full);
  }

  module _ (c : List ℕ) (left i : ℕ) (l : i < count) (d : Laid c left i) where
    abbrev g : ℕ
    g = get_or h.picks i 0

    long : i < length h.picks
    long = omega (arith, h.counted)

    cand : Cand r (take i h.picks) g
    cand = (mem_candidates r (take i h.picks) g).0 (valid_kid (candidates r) (take i h.picks) g (valid_next (candidates r) h.picks i h.valid long))

    below : g < n
    below = omega (arith, cand.below, side_length n rows z)

    number_is : get_or k i 0 ≡ suc g
    number_is = sym (get_or-take count k i 0 l) ∙ ap (λ (x : List ℕ). get_or x i 0) h.numbers ∙ get_or_numbers h.picks i long

    -- a pick's number, and its place
    pub laid-number : (number : ℕ) → number ≡ get_or k i 0 → (1 ≤ number) × (number - 1 < 64)
    laid-number number e = (omega (arith, number_is), omega (arith, number_is, below, z.few))

    pub laid_more : (number : ℕ) → number ≡ get_or k i 0
        → Laid (set c (number - 1) (bit_and (get_or rows (number - 1) 0) left)) (bit_and (get_or rows (number - 1) 0) left) (i + 1)
    unfolding meet
    laid_more number e = rw place (record {
      most = omega arith;
      chained =
          chain_pick r (take i h.picks) c g (meet (row rows g) left) cand d.chained
          (own_is ∙ sym (remainder_left r full (take i h.picks) g ((side_rows n rows z).inside g)))
          ∙ ap (λ (p : List ℕ). padded (chain_of r p)) (sym next);
      remains =
          own_is ∙ meet_comm (row r g) (common r (take i h.picks) full) ∙ sym (common_snoc r (take i h.picks) g full)
          ∙ ap (λ (p : List ℕ). common r p full) (sym next);
    })
      where
        place : number - 1 ≡ g
        place = omega (arith, number_is)

        next : take (i + 1) h.picks ≡ take i h.picks ++ (g ∷ [])
        next = ap (λ (m : ℕ). take m h.picks) (add-one i) ∙ take-suc h.picks i 0 long

        own_is : meet (row rows g) left ≡ meet (row r g) (common r (take i h.picks) full)
        own_is = ap₂ meet (sym (get_or-take n rows g 0 below)) d.remains

  pub laid_all : (c : List ℕ) (left i : ℕ) → count ≤ i → Laid c left i → c ≡ padded (chain_of r (places_of k count))
  laid_all c left i l d = d.chained ∙ ap (λ (p : List ℕ). padded (chain_of r p)) (whole ∙ sym (ap (map (λ x. x - 1)) h.numbers ∙ places_numbers h.picks))
    where
      whole : take i h.picks ≡ h.picks
      whole = let e : i ≡ length h.picks = omega (arith, d.most, h.counted) in ap (λ (m : ℕ). take m h.picks) e ∙ take-length h.picks
