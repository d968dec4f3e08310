-- The first theorem of R-2: every maximal chain with the pair g:c holds the pair h:d exactly when the conflicts of g:c include those of h:d
-- (`holds_iff_conflicts`; Theorem 3 of source document 003). Two pairs of the table that are no conflicts lie in a common maximal chain; two
-- conflicts lie in none; and a pair without a conflict in a maximal chain is in it.
use mathlib.Core.Path.{◌≡◌, refl}
use mathlib.Core.Logic.{◌⊎◌, inl, inr, ◌↔◌}
use mathlib.Core.List.{List, [], ◌∷◌}
use Prim.Native.Nat.{ℕ, suc}
use native.Mathlib.Decide.{ℕ_discrete}
use lib.Dec.{T}
use Rattle.sets.specs.Sets.{bit}
use Rattle.sets.proofs.Tests.{and_i}
use Rattle.sets.proofs.Order.{bit-meet}
use Rattle.table.specs.Pairs.{row, Has}
use Rattle.table.specs.Chains.{IsMaximal}
use Rattle.table.proofs.Places.{has_place, place_has, by_place_lem}
use Rattle.lists.specs.Picks.{common}
use Rattle.lists.specs.OnTable.{chain_of}
use Rattle.lists.specs.ByNumber.{pick_seq}
use Rattle.lists.specs.Growing.{FirstContaining}
use Rattle.lists.proofs.ChainRows.{row_hit, row_miss, row-chain_of, chain_of_within, chain_of_chain}
use Rattle.lists.proofs.Growing.{grow, grow_first}
use Rattle.conflicts.specs.Conflicts.{Conflict, Includes, HoldsWith}
use Rattle.conflicts.proofs.Searching.{cross}
use Rattle.conflicts.proofs.Unopposed.{unopposed_held}

-- a maximal chain that holds both pairs
pub record Common (r : List ℕ) (g c h d : ℕ) : Type 0 where
  pub chain : List ℕ
  pub maximal : IsMaximal r chain
  pub one : Has chain g c
  pub other : Has chain h d

module _ (r : List ℕ) where
  -- the chain of the picks i, j holds case k of row i and case l of row j, where row i has both
  two_picks : (i j k l : ℕ) → T (bit (row r i) k) → T (bit (row r j) l) → T (bit (row r i) l)
      → T (bit (row (chain_of r (i ∷ j ∷ [])) i) k) × T (bit (row (chain_of r (i ∷ j ∷ [])) j) l)
  unfolding common
  two_picks i j k l t u v = (
    rw (row-chain_of r (i ∷ j ∷ []) i, row_hit r [] i (j ∷ []) i refl) t,
    second (ℕ_discrete j i),
  )
    where
      second : Dec (j ≡ i) → T (bit (row (chain_of r (i ∷ j ∷ [])) j) l)
      second (yes e) = rw (row-chain_of r (i ∷ j ∷ []) j, row_hit r [] i (j ∷ []) j e) v
      second (no e) =
          rw (row-chain_of r (i ∷ j ∷ []) j, row_miss r [] i (j ∷ []) j e, row_hit r (i ∷ []) j [] j refl, bit-meet (row r j) (row r i) l)
          (and_i (bit (row r j) l) (bit (row r i) l) u v)

  -- grown to a maximal one
  grown : (i j k l : ℕ) → T (bit (row r i) k) → T (bit (row r j) l) → T (bit (row r i) l) → Common r (suc i) (suc k) (suc j) (suc l)
  grown i j k l t u v = record {
    chain = chain_of r (grow r s);
    maximal = f.maximal;
    one = f.contains.inside (suc i) (suc k) (place_has s i k (two_picks i j k l t u v).0);
    other = f.contains.inside (suc j) (suc l) (place_has s j l (two_picks i j k l t u v).1);
  }
    where
      s : List ℕ
      s = chain_of r (i ∷ j ∷ [])

      f : FirstContaining r pick_seq s (chain_of r (grow r s))
      f = grow_first r s (chain_of_within r (i ∷ j ∷ [])) (chain_of_chain r (i ∷ j ∷ []))

  joined : (g c h d : ℕ) → Has r g c → Has r h d → Has r g d → Common r g c h d
  joined g c h d p q v =
      by_place_lem r (λ g c. Has r g d → Common r g c h d) (λ i k t v. by_place_lem r (λ h d. Has r (suc i) d → Common r (suc i) (suc k) h d)
      (λ j l u v. grown i j k l t u (has_place r i l v)) h d q v) g c p v

  -- two pairs that are no conflicts lie in a common maximal chain
  pub no_conflict_common : (g c h d : ℕ) → Has r g c → Has r h d → Has r g d ⊎ Has r h c → Common r g c h d
  no_conflict_common g c h d p q (inl v) = joined g c h d p q v
  no_conflict_common g c h d p q (inr v) = let m = joined h d g c q p v in record { chain = m.chain; maximal = m.maximal; one = m.other; other = m.one }

  -- conflicts lie in none
  pub conflict_apart : (g c h d : ℕ) → Conflict r g c h d → (m : List ℕ) → IsMaximal r m → Has m g c → Has m h d → ⊥
  conflict_apart g c h d v m mx p q = go (mx.chain g h c d p q)
    where
      go : Has m g d ⊎ Has m h c → ⊥
      go (inl x) = v.missing (mx.within.inside g d x)
      go (inr x) = v.missing_back (mx.within.inside h c x)

  -- a pair that has no conflict in a maximal chain is in it
  no_conflict_held : (m : List ℕ) → IsMaximal r m → (g c : ℕ) → Has r g c → ((h d : ℕ) → Has m h d → Conflict r g c h d → ⊥) → Has m g c
  no_conflict_held m mx g c p f =
      by_place_lem r (λ g c. ((h d : ℕ) → Has m h d → Conflict r g c h d → ⊥) → Has m g c)
      (λ i k t f. place_has m i k (unopposed_held r m mx i k t (λ j l u. at i k t f j l u))) g c p f
    where
      at : (i k : ℕ) → T (bit (row r i) k) → ((h d : ℕ) → Has m h d → Conflict r (suc i) (suc k) h d → ⊥) → (j l : ℕ) → T (bit (row m j) l)
          → T (bit (row r i) l) ⊎ T (bit (row r j) k)
      at i k t f j l u = go (cross r (suc i) (suc k) (suc j) (suc l) (place_has r i k t) (mx.within.inside (suc j) (suc l) (place_has m j l u)))
        where
          go : Conflict r (suc i) (suc k) (suc j) (suc l) ⊎ (Has r (suc i) (suc l) ⊎ Has r (suc j) (suc k)) → T (bit (row r i) l) ⊎ T (bit (row r j) k)
          go (inl v) = absurd (f (suc j) (suc l) (place_has m j l u) v)
          go (inr (inl x)) = inl (has_place r i l x)
          go (inr (inr x)) = inr (has_place r j k x)

  -- ---- the theorem
  pub include_holds : (g c h d : ℕ) → Has r h d → Includes r g c h d → HoldsWith r g c h d
  include_holds g c h d q f m mx p = no_conflict_held m mx h d q (λ k e x v. conflict_apart g c k e (f k e v) m mx p x)

  holds_include : (g c h d : ℕ) → Has r g c → HoldsWith r g c h d → Includes r g c h d
  holds_include g c h d p f k e v = go (cross r g c k e p v.pair)
    where
      go : Conflict r g c k e ⊎ (Has r g e ⊎ Has r k c) → Conflict r g c k e
      go (inl x) = x
      go (inr x) =
          let m = no_conflict_common g c k e p v.pair x in
          absurd (conflict_apart h d k e v m.chain m.maximal (f m.chain m.maximal m.one) m.other)

  pub holds_iff_conflicts : (g c h d : ℕ) → Has r g c → Has r h d → HoldsWith r g c h d ↔ Includes r g c h d
  holds_iff_conflicts g c h d p q = (holds_include g c h d p, include_holds g c h d q)
