-- What the claim of R-6 needs of the picks of a ladder, whatever the preference that they were made by: each is the index of a row, and after them
-- nothing is left of a row that was not picked (`LeavesFrom`). The picks of a state that is reached, in phase Handed, are such (`leaves_reached`).
use mathlib.Core.Path.{◌≡◌, refl, sym, ap, ◌∙◌, subst}
use mathlib.Core.Bool.{Bool, not}
use mathlib.Core.List.{List, [], ◌∷◌, ◌++◌, map, append-nil}
use Prim.Native.Nat.{ℕ, ◌≤◌, ◌<◌}
use native.Mathlib.Decide.{ℕ_discrete, dec_lt}
use native.Mathlib.Omega.{arith}
use lib.Dec.{T}
use lib.ListN.{length, length-map}
use lib.Seq.{append_snoc}
use Rattle.rules.specs.Machine.{State, Handed, at}
use Rattle.lists.specs.Arrangements.{IsArrangement, place_of}
use Rattle.lists.specs.Picks.{remainder}
use Rattle.lists.specs.PickSequence.{is_in}
use Rattle.lists.specs.Lists.{Side}
use Rattle.lists.specs.OnTable.{ReachedOn}
use Rattle.lists.specs.private.Arranging.{index_at, arrange}
use Rattle.lists.proofs.Unpicked.{Un}
use Rattle.lists.proofs.Standing.{index_place, index_below, place_below}
use Rattle.lists.proofs.Candidates.{IsLeaf}
use Rattle.lists.proofs.Existence.{filled_below, nothing_left}
use Rattle.lists.proofs.PlacedCandidates.{AllBelow, is_in_index, remainder-placed}
use Rattle.lists.proofs.PlacedRuns.{good_below, good_short, reached_placed}
use Rattle.runs.proofs.HandOuts.{handed_leaf}

module _ (rows : List ℕ) where
  -- from the picks q on
  abbrev pub LeavesFrom : List ℕ → List ℕ → Type 0
  LeavesFrom q [] = (i : ℕ) → Un q i → remainder rows q i ≡ 0
  LeavesFrom q (g ∷ p) = (g < length rows) × LeavesFrom (q ++ (g ∷ [])) p

  leaves_from : (q p : List ℕ) → AllBelow (length rows) p → ((i : ℕ) → Un (q ++ p) i → remainder rows (q ++ p) i ≡ 0) → LeavesFrom q p
  leaves_from q [] b h = λ i. subst (λ (l : List ℕ). Un l i → remainder rows l i ≡ 0) (append-nil q) (h i)
  leaves_from q (g ∷ p) b h = (
    b.0,
    leaves_from (q ++ (g ∷ [])) p b.1 (subst (λ (l : List ℕ). (i : ℕ) → Un l i → remainder rows l i ≡ 0) (sym (append_snoc q g p)) h),
  )

-- the picks p of the rows, from the first on, and no more of them than rows
pub record Leaves (rows p : List ℕ) : Type 0 where
  pub short : length p ≤ length rows
  pub whole : LeavesFrom rows [] p

module _ (s : Side) (o : List ℕ) (counted : length s.rows ≡ s.count) (a : IsArrangement s.count o) where
  abbrev n : ℕ
  n = s.count

  abbrev num : ℕ → ℕ
  num = index_at o

  -- picks by place are indices of rows by number
  all_below_lem : (q : List ℕ) → AllBelow n q → AllBelow (length s.rows) (map num q)
  all_below_lem [] h = tt
  all_below_lem (i ∷ q) h = (subst (λ (m : ℕ). num i < m) (sym counted) (index_below n o a i h.0), all_below_lem q h.1)

  nothing : (q : List ℕ) → IsLeaf (arrange o s.rows) q → AllBelow n q → (i : ℕ) → Un (map num q) i → remainder s.rows (map num q) i ≡ 0
  nothing q l b i u = go (dec_lt i n) (ℕ_discrete (remainder s.rows (map num q) i) 0)
    where
      go : Dec (i < n) → Dec (remainder s.rows (map num q) i ≡ 0) → remainder s.rows (map num q) i ≡ 0
      go h (yes e) = e
      go (no h) (no e) = absurd (h (omega (arith, filled_below s.rows (map num q) i e, counted)))
      go (yes h) (no e) =
          let k : place_of o i < n = place_below n o a i h in
          let same : is_in i (map num q) ≡ is_in (place_of o i) q
          = ap (λ (j : ℕ). is_in j (map num q)) (sym (index_place n o a i h)) ∙ is_in_index n o a q (place_of o i) b k in
          ap (remainder s.rows (map num q)) (sym (index_place n o a i h))
          ∙ remainder-placed n o a s.rows counted q (place_of o i) b k
          ∙ nothing_left (arrange o s.rows) q l.1 (place_of o i) (subst (λ (x : Bool). T (not x)) same u)

  pub leaves_reached : (p : List ℕ) → ReachedOn s o (at p Handed) → Leaves s.rows p
  leaves_reached p r =
      let y = (reached_placed s o counted a (at p Handed)).0 r in
      let q = y.state.picks in
      let b = (good_below s o counted a y.state y.good).picks in
      subst (Leaves s.rows) (ap (λ (x : State). x.picks) y.is) (record {
        short = omega (arith, length-map q num, good_short s o counted a y.state y.good, counted);
        whole = leaves_from s.rows [] (map num q) (all_below_lem q b) (nothing q (handed_leaf s o counted a (at p Handed) y refl) b);
      })
