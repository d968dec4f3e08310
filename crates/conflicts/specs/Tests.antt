-- The same as tests: whether a pair is in a set, is a conflict, includes another's conflicts, is essential, and whether a set holds an
-- essential pair, of the table whose rows are r, over w cases. That each says what its definition says is proved in proofs/Testing.antt.
use Rattle.std.specs.Prelude.{Bool, not, ◌&&◌, ◌||◌, List, ℕ, suc, ◌-◌, eqb, leb, length}
use Rattle.sets.specs.Sets.{bit}
use Rattle.sets.specs.Lists.{all_below}
use Rattle.table.specs.Pairs.{row}

-- `Has s g c`
unfoldable pub has_pair : List ℕ → ℕ → ℕ → Bool
has_pair s g c = leb 1 g && (leb 1 c && bit (row s (g - 1)) (c - 1))

-- `Conflict r g c h d`
unfoldable pub is_conflict : List ℕ → ℕ → ℕ → ℕ → ℕ → Bool
is_conflict r g c h d = has_pair r h d && (not (eqb g h) && (not (eqb c d) && (not (has_pair r g d) && not (has_pair r h c))))

-- f holds of every pair of the set s
unfoldable pub all_pairs : ℕ → List ℕ → (ℕ → ℕ → Bool) → Bool
all_pairs w s f = all_below (λ i. all_below (λ k. not (has_pair s (suc i) (suc k)) || f (suc i) (suc k)) w) (length s)

-- `Includes r g c h d`
unfoldable pub is_including : ℕ → List ℕ → ℕ → ℕ → ℕ → ℕ → Bool
is_including w r g c h d = all_pairs w r (λ k e. not (is_conflict r h d k e) || is_conflict r g c k e)

-- `Essential r g c`
unfoldable pub is_essential : ℕ → List ℕ → ℕ → ℕ → Bool
is_essential w r g c = has_pair r g c && all_pairs w r (λ h d. not (is_including w r h d g c && not (is_including w r g c h d)))

-- `HoldsEssential r m`
unfoldable pub holds_essential : ℕ → List ℕ → List ℕ → Bool
holds_essential w r m = not (all_pairs w m (λ g c. not (is_essential w r g c)))
