-- Parts of a listing, on a side s of a table t under a preference o. A part is named by a pick sequence p, by row index as picks are in crate `rules`: its
-- list is all the maximal chains whose own pick sequence starts with p, in the order of the side's list (`PartList`). It looks at no run. The empty
-- sequence names the whole list. Parts ps split the part q (`Splits`) when the rules can reach each of them, each starts with q, they ascend by place, none
-- starts with another, and each maximal chain of q is of one of them. Then their lists, one after the other, are the list of q: `joined_part` in
-- proofs/Joining.antt, and of the whole list `joined_list` there.
--
-- In order: what starts with what; the list of a part; parts that split a part; lists one after the other; splitting a part at its candidates.
--
-- Elsewhere: that the list of a part exists and is unique, `part_list` and `part_unique` in proofs/Joining.antt; that splitting one of the parts that split a
-- part gives parts that split it, `splits_more` in proofs/Splitting.antt; the calls that list a part, Calls.antt.
use Rattle.std.specs.Prelude.{◌≡◌, ◌⊎◌, ◌↔◌, ◌≢◌, ℕ, zero, suc, ◌<◌}
use mathlib.Core.List.{List, [], ◌∷◌, ◌++◌, map, Memᴰ}
use Rattle.table.specs.declared.Table.{Table}
use Rattle.table.specs.Chains.{IsMaximal}
use Rattle.table.specs.Tables.{table_rows}
use Rattle.rules.specs.Sequences.{All, Sorted}
use Rattle.rules.specs.Machine.{Down, at}
use Rattle.lists.specs.Arrangements.{place_of}
use Rattle.lists.specs.Preferred.{candidates_by, pick_seq_by}
use Rattle.lists.specs.Lists.{Earlier, Side, list_key}
use Rattle.lists.specs.OnTable.{ReachedOn}

-- ---- what starts with what
-- q starts with p
pub record StartsWith (p q : List ℕ) : Type 0 where
  pub rest : List ℕ
  pub is : q ≡ p ++ rest

-- p comes before q at the first difference, so neither starts with the other
abbrev pub Parted : List ℕ → List ℕ → Type 0
Parted [] q = ⊥
Parted (x ∷ p) [] = ⊥
Parted (x ∷ p) (y ∷ q) = (x < y) ⊎ ((x ≡ y) × Parted p q)

-- the same by the places of the numbers in the preference o
abbrev pub PartedIn : List ℕ → List ℕ → List ℕ → Type 0
PartedIn o p q = Parted (map (place_of o) p) (map (place_of o) q)

-- ---- the list of a part
-- the pick sequence of the set x on the side s, from the set alone
abbrev pub picks_of : Side → List ℕ → List ℕ → List ℕ
picks_of s o x = pick_seq_by o (s.view x)

-- xs is all the maximal chains of the table whose pick sequence starts with p, each once, in the order of the side's list
pub record PartList (t : Table) (s : Side) (o p : List ℕ) (xs : List (List ℕ)) : Type 0 where
  pub members : (x : List ℕ) → Memᴰ x xs ↔ (IsMaximal (table_rows t) x × StartsWith p (picks_of s o x))
  pub once : Sorted (λ (x y : List ℕ). x ≢ y) xs
  pub ascends : Sorted (Earlier (list_key s o)) xs

-- ---- parts that split a part
pub record Splits (t : Table) (s : Side) (o q : List ℕ) (ps : List (List ℕ)) : Type 0 where
  -- the rules can reach each of them, in the phase Down: run calls take its paused value
  pub reached : All (λ (p : List ℕ). ReachedOn s o (at p Down)) ps
  -- each is a part of q
  pub within : All (StartsWith q) ps
  -- they ascend by place, and none starts with another
  pub ascends : Sorted (PartedIn o) ps
  -- none of q's maximal chains is forgotten
  pub covers : (x : List ℕ) → IsMaximal (table_rows t) x → StartsWith q (picks_of s o x) → (p : List ℕ) × Memᴰ p ps × StartsWith p (picks_of s o x)

-- ---- lists one after the other
-- xss are the lists of the parts ps, in turn
abbrev pub PartLists : Table → Side → List ℕ → List (List ℕ) → List (List (List ℕ)) → Type 0
PartLists t s o [] [] = Unit {0}
PartLists t s o [] (xs ∷ xss) = ⊥
PartLists t s o (p ∷ ps) [] = ⊥
PartLists t s o (p ∷ ps) (xs ∷ xss) = PartList t s o p xs × PartLists t s o ps xss

abbrev pub joined : List (List (List ℕ)) → List (List ℕ)
joined [] = []
joined (xs ∷ xss) = xs ++ joined xss

-- ---- splitting a part at its candidates
-- p with each of these numbers at its end
abbrev pub extended : List ℕ → List ℕ → List (List ℕ)
extended p [] = []
extended p (g ∷ gs) = (p ++ (g ∷ [])) ∷ extended p gs

-- p with each of these candidates at its end, or p itself where there is none
abbrev pub split_by : List ℕ → List ℕ → List (List ℕ)
split_by p [] = p ∷ []
split_by p (g ∷ gs) = extended p (g ∷ gs)

-- the parts that the part p is split into: one for each candidate after p, in the order of the preference
abbrev pub split_at : Side → List ℕ → List ℕ → List (List ℕ)
split_at s o p = split_by p (candidates_by o s.rows p)

-- each of the parts split, and so on d times from the empty sequence: all sequences of d picks that the rules can reach, and the leaves before
abbrev pub split_all : Side → List ℕ → List (List ℕ) → List (List ℕ)
split_all s o [] = []
split_all s o (p ∷ ps) = split_at s o p ++ split_all s o ps

abbrev pub split_times : Side → List ℕ → ℕ → List (List ℕ)
split_times s o zero = [] ∷ []
split_times s o (suc d) = split_all s o (split_times s o d)
