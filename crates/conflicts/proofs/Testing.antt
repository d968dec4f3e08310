-- The tests say what the definitions say: `has_test`, `conflict_test`, `includes_test`, `essential_test`, `holds_test`.
use mathlib.Core.Logic.{◌⊎◌, inl, inr, ◌↔◌, ◌≢◌}
use mathlib.Core.Bool.{Bool, true, false, not, ◌&&◌, ◌||◌}
use mathlib.Core.List.{List}
use Prim.Native.Nat.{ℕ, suc, ◌-◌}
use lib.Dec.{T, T_not, not_T, eqb, eqb→eq, leb}
use lib.ListN.{length}
use borrow.Author.Tests.{eq-eqb, leb-true, le-leb}
use Rattle.sets.specs.Sets.{bit}
use Rattle.sets.specs.Lists.{all_below}
use Rattle.sets.proofs.Tests.{and_l, and_r, and_i, is_true}
use Rattle.sets.proofs.Tabulated.{all_at, all_of}
use Rattle.table.specs.Pairs.{row, Has, Within, Cases}
use Rattle.table.proofs.Places.{place_has, by_place_lem}
use Rattle.transpose.proofs.Transposition.{cases_within}
use Rattle.conflicts.specs.Conflicts.{Conflict, Includes, StrictlyContains, Essential, HoldsEssential}
use Rattle.conflicts.specs.Tests.{has_pair, is_conflict, all_pairs, is_including, is_essential, holds_essential}
use Rattle.conflicts.proofs.Searching.{row_below, pairs_or}

-- ---- one pair
pub has_test : (s : List ℕ) (g c : ℕ) → T (has_pair s g c) ↔ Has s g c
unfolding has_pair
has_test s g c = (
  λ t. let u = and_r (leb 1 g) (leb 1 c && here) t in
      record {
        gauge = leb-true 1 g (is_true (leb 1 g) (and_l (leb 1 g) (leb 1 c && here) t));
        case = leb-true 1 c (is_true (leb 1 c) (and_l (leb 1 c) here u));
        set = and_r (leb 1 c) here u;
      },
  λ h. rw (le-leb 1 g h.gauge, le-leb 1 c h.case) h.set,
)
  where
    here : Bool
    here = bit (row s (g - 1)) (c - 1)

-- a test that fails, by what it tests
fails : (b : Bool) (P : Type 0) → T b ↔ P → (P → ⊥) → T (not b)
fails b P f n = not_T b (λ t. n (f.0 t))

failed : (b : Bool) (P : Type 0) → T b ↔ P → T (not b) → P → ⊥
failed b P f t p = T_not b t (f.1 p)

apart : (g h : ℕ) → T (not (eqb g h)) ↔ (g ≢ h)
apart g h = (λ t e. T_not (eqb g h) t (rw (eq-eqb g h e) tt), λ n. not_T (eqb g h) (λ t. n (eqb→eq g h t)))

pub conflict_test : (r : List ℕ) (g c h d : ℕ) → T (is_conflict r g c h d) ↔ Conflict r g c h d
unfolding is_conflict
conflict_test r g c h d = (
  λ t. let t1 = and_r (has_pair r h d) rest1 t in
      let t2 = and_r (not (eqb g h)) rest2 t1 in
      let t3 = and_r (not (eqb c d)) rest3 t2 in
      record {
        pair = (has_test r h d).0 (and_l (has_pair r h d) rest1 t);
        gauges = (apart g h).0 (and_l (not (eqb g h)) rest2 t1);
        cases = (apart c d).0 (and_l (not (eqb c d)) rest3 t2);
        missing = failed (has_pair r g d) (Has r g d) (has_test r g d) (and_l (not (has_pair r g d)) (not (has_pair r h c)) t3);
        missing_back = failed (has_pair r h c) (Has r h c) (has_test r h c) (and_r (not (has_pair r g d)) (not (has_pair r h c)) t3);
      },
  λ v. and_i (has_pair r h d) rest1 ((has_test r h d).1 v.pair)
      (and_i (not (eqb g h)) rest2 ((apart g h).1 v.gauges)
      (and_i (not (eqb c d)) rest3 ((apart c d).1 v.cases)
      (and_i (not (has_pair r g d)) (not (has_pair r h c)) (fails (has_pair r g d) (Has r g d) (has_test r g d) v.missing)
      (fails (has_pair r h c) (Has r h c) (has_test r h c) v.missing_back)))),
)
  where
    rest3 : Bool
    rest3 = not (has_pair r g d) && not (has_pair r h c)

    rest2 : Bool
    rest2 = not (eqb c d) && rest3

    rest1 : Bool
    rest1 = not (eqb g h) && rest2

-- ---- every pair of a set
implied : (a b : Bool) → (T a → T b) → T (not a || b)
implied true b f = f tt
implied false b f = tt

implies : (a b : Bool) → T (not a || b) → T a → T b
implies true b t u = t
implies false b t u = absurd u

all_pairs_lem : (w : ℕ) (s : List ℕ) (f : ℕ → ℕ → Bool) → Cases w s → T (all_pairs w s f) ↔ ((g c : ℕ) → Has s g c → T (f g c))
unfolding all_pairs
all_pairs_lem w s f cs = (
  λ t g c h. by_place_lem s (λ g c. T (f g c)) (λ i k u.
      implies (has_pair s (suc i) (suc k)) (f (suc i) (suc k)) (all_at (at i) w k (all_at rows (length s) i t (row_below s i k u)) (cs i k u))
      ((has_test s (suc i) (suc k)).1 (place_has s i k u))) g c h,
  λ a. all_of rows (length s) (λ i l. all_of (at i) w
      (λ k m. implied (has_pair s (suc i) (suc k)) (f (suc i) (suc k)) (λ u. a (suc i) (suc k) ((has_test s (suc i) (suc k)).0 u)))),
)
  where
    at : ℕ → ℕ → Bool
    at i = λ k. not (has_pair s (suc i) (suc k)) || f (suc i) (suc k)

    rows : ℕ → Bool
    rows = λ i. all_below (at i) w

-- ---- conflicts included, essential pairs, and sets that hold one
module _ (w : ℕ) (r : List ℕ) (cs : Cases w r) where
  includes_test : (g c h d : ℕ) → T (is_including w r g c h d) ↔ Includes r g c h d
  unfolding is_including
  includes_test g c h d = (
    λ t k e v. (conflict_test r g c k e).0 (implies (is_conflict r h d k e) (is_conflict r g c k e) ((all_pairs_lem w r both cs).0 t k e v.pair)
        ((conflict_test r h d k e).1 v)),
    λ f. (all_pairs_lem w r both cs).1 (λ k e p. implied (is_conflict r h d k e) (is_conflict r g c k e)
        (λ u. (conflict_test r g c k e).1 (f k e ((conflict_test r h d k e).0 u)))),
  )
    where
      both : ℕ → ℕ → Bool
      both = λ k e. not (is_conflict r h d k e) || is_conflict r g c k e

  strictly_test : (g c h d : ℕ) → T (is_including w r g c h d && not (is_including w r h d g c)) ↔ StrictlyContains r g c h d
  strictly_test g c h d = (
    λ t. record {
      include = (includes_test g c h d).0 (and_l over (not back) t);
      strict = failed back (Includes r h d g c) (includes_test h d g c) (and_r over (not back) t);
    },
    λ v. and_i over (not back) ((includes_test g c h d).1 v.include) (fails back (Includes r h d g c) (includes_test h d g c) v.strict),
  )
    where
      over : Bool
      over = is_including w r g c h d

      back : Bool
      back = is_including w r h d g c

  pub essential_test : (g c : ℕ) → T (is_essential w r g c) ↔ Essential r g c
  unfolding is_essential
  essential_test g c = (
    λ t. record {
      pair = (has_test r g c).0 (and_l (has_pair r g c) (all_pairs w r none) t);
      none =
          λ h d p. failed (more h d) (StrictlyContains r h d g c) (strictly_test h d g c)
          ((all_pairs_lem w r none cs).0 (and_r (has_pair r g c) (all_pairs w r none) t) h d p);
    },
    λ v. and_i (has_pair r g c) (all_pairs w r none) ((has_test r g c).1 v.pair)
        ((all_pairs_lem w r none cs).1 (λ h d p. fails (more h d) (StrictlyContains r h d g c) (strictly_test h d g c) (v.none h d p))),
  )
    where
      more : ℕ → ℕ → Bool
      more = λ h d. is_including w r h d g c && not (is_including w r g c h d)

      none : ℕ → ℕ → Bool
      none = λ h d. not (is_including w r h d g c && not (is_including w r g c h d))

  pub holds_test : (m : List ℕ) → Within r m → T (holds_essential w r m) ↔ HoldsEssential r m
  unfolding holds_essential
  holds_test m v = (
    λ t. found t (pairs_or m (λ g c. T (none g c)) (λ g c. T (is_essential w r g c)) (λ g c p. either (is_essential w r g c))),
    λ x. not_T (all_pairs w m none) (λ t. failed (is_essential w r x.gauge x.case) (Essential r x.gauge x.case) (essential_test x.gauge x.case)
        ((all_pairs_lem w m none cm).0 t x.gauge x.case x.held) x.essential),
  )
    where
      cm : Cases w m
      cm = cases_within w r m cs v

      none : ℕ → ℕ → Bool
      none = λ g c. not (is_essential w r g c)

      either : (b : Bool) → T (not b) ⊎ T b
      either true = inr tt
      either false = inl tt

      found : T (not (all_pairs w m none)) → ((g c : ℕ) → Has m g c → T (none g c)) ⊎ ((g : ℕ) × (c : ℕ) × Has m g c × T (is_essential w r g c))
          → HoldsEssential r m
      found t (inl f) = absurd (T_not (all_pairs w m none) t ((all_pairs_lem w m none cm).1 f))
      found t (inr x) = record { gauge = x.0; case = x.1; held = x.2; essential = (essential_test x.0 x.1).0 x.3 }
