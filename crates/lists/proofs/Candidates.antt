-- What it is to be a candidate, as facts (`Cand`), and the list of all candidates.
--
-- In order: the test says what the facts say (`cand-of`, `of-cand`); the list (`mem_candidates`, `no_candidate`, `none_candidate`); sequences of
-- candidates to the last, from the first pick on (`LeafFrom`), are the valid sequences of crate `rules` without candidates after them (`leaf_from`,
-- `leaf_to`).
use mathlib.Core.Path.{◌≡◌, sym, subst}
use mathlib.Core.Logic.{◌↔◌}
use mathlib.Core.Bool.{Bool, true, false, not, ◌&&◌, ◌||◌}
use mathlib.Core.List.{List, [], ◌∷◌, ◌++◌, append-nil, Memᴰ}
use Prim.Native.Nat.{ℕ, ◌<◌}
use native.Mathlib.Decide.{ℕ_discrete, dec_lt}
use native.Mathlib.Omega.{arith}
use lib.Dec.{T, T_not, not_T, eqb, eqb→eq, ltb, ltb→lt, lt→ltb}
use lib.ListN.{length}
use lib.Seq.{append_snoc}
use Rattle.sets.specs.Sets.{◌⊆◌, is_proper_subset}
use Rattle.sets.specs.Lists.{all_below}
use Rattle.sets.proofs.Order.{sub_zero, proper_spec}
use Rattle.sets.proofs.Tabulated.{all_at, all_of}
use Rattle.rules.specs.private.Fitting.{ValidFrom, Valid}
use Rattle.lists.specs.PickSequence.{is_in}
use Rattle.lists.specs.Picks.{remainder}
use Rattle.lists.specs.ByNumber.{rules_out, candidate, candidates}
use Rattle.sets.proofs.Tests.{eq→eqb}
use Rattle.lists.proofs.Unpicked.{Un}
use Rattle.lists.proofs.Remainders.{remainder_past}
use Rattle.lists.proofs.Selecting.{select_nil, nil_select, mem_select}

and4 : (a b c d : Bool) → T (a && (b && (c && d))) ↔ (T a × T b × T c × T d)
and4 true true true d = (λ t. (tt, tt, tt, t), λ h. h.3)
and4 true true false d = (absurd, λ h. h.2)
and4 true false c d = (absurd, λ h. h.1)
and4 false b c d = (absurd, λ h. h.0)

-- x && (y || (z && w)) fails where x holds: y fails, and not both z and w
ruled : (x y z w : Bool) → T (not (x && (y || (z && w)))) ↔ (T x → (T y → ⊥) × (T z → T w → ⊥))
ruled true true z w = (absurd, λ h. (h tt).0 tt)
ruled true false true true = (absurd, λ h. (h tt).1 tt tt)
ruled true false true false = (λ t u. (λ a. a, λ a b. b), λ h. tt)
ruled true false false w = (λ t u. (λ a. a, λ a b. a), λ h. tt)
ruled false y z w = (λ t u. absurd u, λ h. tt)

module _ (rows : List ℕ) where
  -- the facts of a candidate
  pub record Cand (q : List ℕ) (g : ℕ) : Type 0 where
    pub below : g < length rows
    pub fresh : Un q g
    pub filled : ¬ (remainder rows q g ≡ 0)
    pub top : (h : ℕ) → Un q h → remainder rows q g ⊆ remainder rows q h → remainder rows q h ≡ remainder rows q g
    pub first : (h : ℕ) → Un q h → h < g → ¬ (remainder rows q h ≡ remainder rows q g)

  module _ (q : List ℕ) (g : ℕ) where
    abbrev R : ℕ → ℕ
    R h = remainder rows q h

    passes : (h : ℕ) → T (not (rules_out rows q g h)) ↔ (Un q h → (R g ⊆ R h → R h ≡ R g) × (h < g → ¬ (R h ≡ R g)))
    unfolding rules_out
    passes h = (
      λ t u. (λ c. dec c ((ruled x y z w).0 t u).0 (ℕ_discrete (R h) (R g)), λ l e. ((ruled x y z w).0 t u).1 (lt→ltb h g l) (eq→eqb (R h) (R g) e)),
      λ f. (ruled x y z w).1 (λ u. (
        λ t. let p : (R g ⊆ R h) × (¬ (R g ≡ R h)) = (proper_spec (R g) (R h)).0 t in p.1 (sym ((f u).0 p.0)),
        λ t e. (f u).1 (ltb→lt h g t) (eqb→eq (R h) (R g) e),
      )),
    )
      where
        x : Bool
        x = not (is_in h q)

        y : Bool
        y = is_proper_subset (R g) (R h)

        z : Bool
        z = ltb h g

        w : Bool
        w = eqb (R h) (R g)

        dec : R g ⊆ R h → (T (is_proper_subset (R g) (R h)) → ⊥) → Dec (R h ≡ R g) → R h ≡ R g
        dec c f (yes e) = e
        dec c f (no e) = absurd (f ((proper_spec (R g) (R h)).1 (c, λ e'. e (sym e'))))

    tests : T (candidate rows q g)
        ↔ (T (ltb g (length rows)) × T (not (is_in g q)) × T (not (eqb (R g) 0)) × T (all_below (λ h. not (rules_out rows q g h)) (length rows)))
    unfolding candidate
    tests = and4 (ltb g (length rows)) (not (is_in g q)) (not (eqb (R g) 0)) (all_below (λ h. not (rules_out rows q g h)) (length rows))

    pub cand-of : T (candidate rows q g) → Cand q g
    cand-of t =
        record {
          below = b;
          fresh = (tests.0 t).1;
          filled = s;
          top = λ h u c. top h u c (dec_lt h (length rows));
          first = λ h u l e. (a h (omega (arith, b)) u).1 l e;
        }
      where
        b : g < length rows
        b = ltb→lt g (length rows) (tests.0 t).0

        s : ¬ (R g ≡ 0)
        s e = T_not (eqb (R g) 0) (tests.0 t).2 (eq→eqb (R g) 0 e)

        a : (h : ℕ) → h < length rows → Un q h → (R g ⊆ R h → R h ≡ R g) × (h < g → ¬ (R h ≡ R g))
        a h l = (passes h).0 (all_at (λ h. not (rules_out rows q g h)) (length rows) h (tests.0 t).3 l)

        top : (h : ℕ) → Un q h → R g ⊆ R h → Dec (h < length rows) → R h ≡ R g
        top h u c (yes l) = (a h l u).0 c
        top h u c (no l) = absurd (s (sub_zero (R g) (subst (λ (x : ℕ). R g ⊆ x) (remainder_past rows q h (omega arith)) c)))

    pub of-cand : Cand q g → T (candidate rows q g)
    of-cand c =
        tests.1 (
          lt→ltb g (length rows) c.below,
          c.fresh,
          not_T (eqb (R g) 0) (λ t. c.filled (eqb→eq (R g) 0 t)),
          all_of (λ h. not (rules_out rows q g h)) (length rows) (λ h l. (passes h).1 (λ u. (c.top h u, c.first h u))),
        )

  -- ---- all candidates
  pub mem_candidates : (q : List ℕ) (g : ℕ) → Memᴰ g (candidates rows q) ↔ Cand q g
  unfolding candidates
  mem_candidates q g = (
    λ m. cand-of q g ((mem_select (candidate rows q) (length rows) g).0 m).1,
    λ c. (mem_select (candidate rows q) (length rows) g).1 (c.below, of-cand q g c),
  )

  pub no_candidate : (q : List ℕ) (g : ℕ) → candidates rows q ≡ [] → Cand q g → ⊥
  unfolding candidates
  no_candidate q g e c = select_nil (candidate rows q) (length rows) g e c.below (of-cand q g c)

  pub none_candidate : (q : List ℕ) → ((g : ℕ) → Cand q g → ⊥) → candidates rows q ≡ []
  unfolding candidates
  none_candidate q f = nil_select (candidate rows q) (length rows) (λ g l t. f g (cand-of q g t))

  -- ---- a leaf, by its first pick
  abbrev pub LeafFrom : List ℕ → List ℕ → Type 0
  LeafFrom q [] = candidates rows q ≡ []
  LeafFrom q (g ∷ p) = Cand q g × LeafFrom (q ++ (g ∷ [])) p

  leaf_down : (q p : List ℕ) → ValidFrom (candidates rows) q p → candidates rows (q ++ p) ≡ [] → LeafFrom q p
  leaf_down q [] v e = rw (append-nil q) at e
  leaf_down q (g ∷ p) v e = ((mem_candidates q g).0 v.0, leaf_down (q ++ (g ∷ [])) p v.1 (rw (append_snoc q g p) e))

  leaf_up : (q p : List ℕ) → LeafFrom q p → ValidFrom (candidates rows) q p × (candidates rows (q ++ p) ≡ [])
  leaf_up q [] l = (tt, rw (append-nil q) l)
  leaf_up q (g ∷ p) l =
      let (v, e) = leaf_up (q ++ (g ∷ [])) p l.1 in
      (((mem_candidates q g).1 l.0, v), rw (append_snoc q g p) at e)

  -- picks after which there is no candidate
  abbrev pub IsLeaf : List ℕ → Type 0
  IsLeaf p = Valid (candidates rows) p × (candidates rows p ≡ [])

  pub leaf_from : (p : List ℕ) → IsLeaf p → LeafFrom [] p
  leaf_from p l = leaf_down [] p l.0 l.1

  pub leaf_to : (p : List ℕ) → LeafFrom [] p → IsLeaf p
  leaf_to p l = leaf_up [] p l
