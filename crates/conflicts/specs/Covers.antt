-- Covers (02, R-2: "A cover is a set of ladders that together hold all pairs; it is irreducible when no ladder can be
-- dropped"), of the table whose rows are r. A ladder of 02 is a maximal chain. A set of ladders is given by a list,
-- and only its members count: their order, and how often one of them is there, do not matter.
use Rattle.std.specs.Prelude.{◌≢◌, ◌↔◌, ℕ}
use mathlib.Core.List.{List, Memᴰ}
use Rattle.table.specs.Pairs.{Has}
use Rattle.table.specs.Chains.{IsMaximal}
use Rattle.conflicts.specs.Conflicts.{Includes, HoldsWith, HoldsEssential}

-- "together hold all pairs": every pair is in one of the sets of which K holds
abbrev pub Together : List ℕ → (List ℕ → Type 0) → Type 0
Together r K = (g c : ℕ) → Has r g c → (x : List ℕ) × K x × Has x g c

pub record Cover (r : List ℕ) (xs : List (List ℕ)) : Type 0 where
  pub maximal : (x : List ℕ) → Memᴰ x xs → IsMaximal r x
  pub together : Together r (λ x. Memᴰ x xs)

-- "no ladder can be dropped": without x, the others no longer hold all pairs
pub record Irreducible (r : List ℕ) (xs : List (List ℕ)) : Type 0 where
  pub cover : Cover r xs
  pub needed : (x : List ℕ) → Memᴰ x xs → Together r (λ y. Memᴰ y xs × (y ≢ x)) → ⊥

-- "a ladder belongs to some irreducible cover"
pub record InIrreducible (r m : List ℕ) : Type 0 where
  pub members : List (List ℕ)
  pub irreducible : Irreducible r members
  pub belongs : Memᴰ m members

-- "Show that every ladder with pair p holds pair q exactly when p's rivals include q's, and that a ladder belongs to
-- some irreducible cover exactly when it holds a deciding pair": proved of every table in proofs/Covering.antt
pub record ConflictClaims (r : List ℕ) : Type 0 where
  pub holds : (g c h d : ℕ) → Has r g c → Has r h d → HoldsWith r g c h d ↔ Includes r g c h d
  pub covers : (m : List ℕ) → IsMaximal r m → InIrreducible r m ↔ HoldsEssential r m
  -- so in a table without pairs, which has no essential one, the one ladder, the empty one, belongs to no irreducible
  -- cover
  pub none : ((g c : ℕ) → Has r g c → ⊥) → (m : List ℕ) → InIrreducible r m → ⊥
